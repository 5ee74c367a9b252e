-- Bytes that are sent in several calls.
use Rattle.std.proofs.Common.{◌≡◌, ℕ, List, [], ◌∷◌, ◌++◌, ◌+◌, ◌-◌, ◌<◌, ◌≤◌, length, arith, take, drop, Option, Some, ◌∙◌, append_assoc}
use Rattle.std.proofs.Math.Seq.{take-add}
use Rattle.std.proofs.lemmas.List.{append-nil, take_all, length-drop, length-append}
use Rattle.std.specs.Io.KnownBytes.{Appends, Keeps}
use Rattle.inner_interpreter.specs.Sent.{AppendsPart}

pub appends_both : (a b c : Option (List ℕ)) (xs ys : List ℕ) → Appends a b xs → Appends b c ys → Appends a c (xs ++ ys)
appends_both a b c xs ys h k = grind (arith, append_assoc)

pub appends_more : (a b c : Option (List ℕ)) (n m : ℕ) (bs : List ℕ) → Appends a b (take n bs) → Appends b c (take m (take (length bs - n) (drop n bs))) → Appends a c (take (n + m) bs)
appends_more a b c n m bs h k = grind (arith, take_all, length-drop, take-add, appends_both)

pub part_first : (a b : Option (List ℕ)) (xs ys : List ℕ) → AppendsPart a b xs → AppendsPart a b (xs ++ ys)
part_first a b xs ys h = grind (arith, append_assoc, length-append)

pub part_second : (a b c : Option (List ℕ)) (xs ys : List ℕ) → Appends a b xs → AppendsPart b c ys → AppendsPart a c (xs ++ ys)
part_second a b c xs ys h k = grind (arith, append_assoc)

-- a byte that was sent at once, or wasn't
pub one_sent : (a b : Option (List ℕ)) (n x : ℕ) → 0 < n → n ≤ 1 → Appends a b (take n (x ∷ [])) → Appends a b (x ∷ [])
one_sent a b n x some most h = let e : n ≡ 1 = omega (arith, some, most) in rw e at h

pub none_sent : (a b : Option (List ℕ)) (x : ℕ) → Keeps a b → AppendsPart a b (x ∷ [])
none_sent a b x h = grind (arith, append-nil)

-- after xs a part of these bytes was sent
pub record SentPart (new : Option (List ℕ)) (xs bytes : List ℕ) : Type 0 where
  pub part : List ℕ
  pub rest : List ℕ
  pub is : bytes ≡ part ++ rest
  pub sent_is : new ≡ Some (xs ++ part)
  pub some : 0 < length rest

pub part_of : (old new : Option (List ℕ)) (xs bytes : List ℕ) → old ≡ Some xs → AppendsPart old new bytes → SentPart new xs bytes
part_of old new xs bytes e h = grind arith
