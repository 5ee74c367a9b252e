-- What the slots of a table hold.
use Rattle.std.proofs.Common.{◌≡◌, ℕ, ◌<◌, List, refl, replicate, slice_index, Option, Some, None, Box}
use Rattle.std.specs.declared.alloc.Global.{Global}
use Rattle.std.proofs.lemmas.List.{get_or-replicate}
use Rattle.name_index.specs.Index.{slots_of}

pub slots_none : (table : Option (Box (List ℕ) Global)) → table ≡ None → slots_of table ≡ replicate 8192 0
unfolding slots_of
slots_none table e = rw e refl

pub slots_some : (table : Option (Box (List ℕ) Global)) (made : Box (List ℕ) Global) → table ≡ Some made → slots_of table ≡ made.value
unfolding slots_of
slots_some table made e = rw e refl

pub slot_none : (table : Option (Box (List ℕ) Global)) (k : ℕ) → k < 8192 → table ≡ None → slice_index (slots_of table) k ≡ 0
slot_none table k b e = rw (slots_none table e) (get_or-replicate 8192 k 0 0 b)
