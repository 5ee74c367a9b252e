use Rattle.std.specs.Prelude.{ℕ, ◌*◌, ◌≤◌, ◌≡◌, List}
use Rattle.dictionary.specs.Header.{is_named}
use Rattle.dictionary.specs.Search.{walked}

-- a search from start on passes to first: it comes to what one from there on does that looks at enough headers
abbrev pub PassesTo : List ℕ → List ℕ → ℕ → ℕ → Type 0
PassesTo m name start first =
    (n : ℕ) × (first ≤ 2 * n) × (walked (is_named m name) m 32768 start ≡ walked (is_named m name) m n first)
