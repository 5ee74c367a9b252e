-- How a quiz writes its answers, so that nobody reads them: the word SEAL of the course.
use Rattle.std.specs.Prelude.{List, ℕ, ◌≡◌, ◌<◌, ◌+◌, ◌*◌, ◌/◌, ◌%◌, bit_xor, get_or, length}

-- what a cell keeps of a number
abbrev pub kept : ℕ → ℕ
kept n = n % 65536

-- a round: times 40,503, plus 1, and the two bytes change places
abbrev pub turned : ℕ → ℕ
turned x = let y = kept (x * 40503 + 1) in y % 256 * 256 + y / 256

-- the seal of a number that is the answer `place` of a quiz, from 1 on: five rounds
abbrev pub seal : (number place : ℕ) → ℕ
seal number place = turned (turned (turned (turned (turned (bit_xor number (kept (place * 31 + 7919)))))))

-- what a quiz has for these numbers: as many, each with its seal, and the first one at place 1
abbrev pub AreSeals : (wanted left : List ℕ) → Type 0
AreSeals wanted left
    = (length wanted ≡ length left)
    × ((k : ℕ) → k < length left → get_or wanted k 0 ≡ seal (get_or left k 0) (kept (k + 1)))
