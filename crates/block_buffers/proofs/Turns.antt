use Rattle.std.proofs.Common.{◌≡◌, ℕ, ◌-◌, ◌≤◌, List, ◌++◌, length, length-drop, take, drop, arith}
use Rattle.std.proofs.lemmas.List.{drop_at, take_at}

pub drop_turned : (xs : List ℕ) (n : ℕ) (k : ℕ) → n ≤ length xs → k ≡ length xs - n → drop n (drop k xs ++ take k xs) ≡ take k xs
drop_turned xs n k h e = drop_at (drop k xs) (take k xs) n (omega (arith, length-drop k xs))

pub take_turned : (xs : List ℕ) (n : ℕ) (k : ℕ) → n ≤ length xs → k ≡ length xs - n → take k (drop n xs ++ take n xs) ≡ drop n xs
take_turned xs n k h e = take_at (drop n xs) (take n xs) k (omega (arith, length-drop n xs))

pub ruleset turns = (drop_turned, take_turned)
