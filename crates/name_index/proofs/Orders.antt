-- CONTEXT's vocabulary, and then FORTH.
use Rattle.std.proofs.Common.{◌≡◌, ℕ, ◌<◌, List, length, refl, arith, true, false, ◌==◌}
use Rattle.std.proofs.lemmas.Grind.{common_steps}
use Rattle.memory.specs.Bytes.{cell}
use Rattle.dictionary.specs.Search.{Sought, Found, Nowhere, TooLong, or_else, sought, sought_in, sought_from, first_from, first_in}
use Rattle.dictionary.specs.Header.{is_named}

some_name : (name : List ℕ) → 0 < length name → (length name == 0) ≡ false
some_name name h = grind (arith, common_steps)

pub sought_empty : (m name : List ℕ) → (length name == 0) ≡ true → sought m name ≡ Nowhere
unfolding sought sought_from first_from
sought_empty m name e = rw e refl

pub sought_forth : (m name : List ℕ) → 0 < length name → sought_in m (cell m 32) name ≡ Nowhere → sought m name ≡ sought_in m 42 name
unfolding sought sought_from first_from sought_in
sought_forth m name some e = rw (some_name name some, e) refl

pub sought_context : (m name : List ℕ) (l : ℕ) → 0 < length name → sought_in m (cell m 32) name ≡ Found l → sought m name ≡ Found l
unfolding sought sought_from first_from sought_in
sought_context m name l some e = rw (some_name name some, e) refl

pub sought_long : (m name : List ℕ) → 0 < length name → sought_in m (cell m 32) name ≡ TooLong → sought m name ≡ TooLong
unfolding sought sought_from first_from sought_in
sought_long m name some e = rw (some_name name some, e) refl

-- FORTH in CONTEXT is searched once
twice : (s : Sought) → or_else s s ≡ s
twice s = grind arith

pub sought_once : (m name : List ℕ) → 0 < length name → cell m 32 ≡ 42 → sought m name ≡ sought_in m 42 name
unfolding sought sought_from first_from sought_in
sought_once m name some e = rw (some_name name some, e) (twice (first_in (is_named m name) m 42 name))

pub ruleset orders = (sought_empty, sought_once, sought_forth, sought_context, sought_long)
