use Rattle.std.specs.Prelude.{ℕ, ◌+◌, List, [], ◌∷◌, ◌++◌, ◌≡◌, ◌==◌, nat_lt, nat_le, if◌then◌else◌, length, flat_map, find, unwrap_or, Result, Ok, Err, IsOk}
use Rattle.cells.specs.Cell.{wrap, difference}
use Rattle.memory.specs.Bytes.{cell, Write, PutCell, written}
use Rattle.memory.specs.declared.system.TheConstants.{DP, LAST, CONTEXT, CURRENT, FORTH_VOC, VOC_LINK, FENCE}
use Rattle.dictionary.specs.declared.fault.ForgetFault.{ForgetFault}
use Rattle.dictionary.specs.declared.fault.ForgetFault.TheVariants.{NameLength, NotFound, ChainTooLong}
use Rattle.dictionary.specs.Search.{Sought, Found, Nowhere, TooLong, sought_in}
use Rattle.dictionary.specs.Order.{records, members, is_beyond_limit}

-- where the header begins that a search found, at its view cell, if it can be forgotten, or why not: it must begin at
-- FENCE or above, and all headers and records must be within reach
abbrev pub target_at : List ℕ → Sought → Result ℕ ForgetFault
target_at m Nowhere = Err NotFound
target_at m TooLong = Err ChainTooLong
target_at m (Found l) =
    let begins = difference l 2 in
    if nat_lt begins (cell m FENCE) then Err NotFound
    else if is_beyond_limit m then Err ChainTooLong
    else Ok begins

-- the same of a name, which CURRENT's vocabulary is searched for
unfoldable pub target : List ℕ → List ℕ → Result ℕ ForgetFault
target m name = if length name == 0 then Err NameLength else target_at m (sought_in m (cell m CURRENT) name)

-- the first of a list that is below t, 0 if there is none
unfoldable pub first_below : ℕ → List ℕ → ℕ
first_below t ls = unwrap_or (find (λ l. nat_lt l t) ls) 0

-- the newest record below t
unfoldable pub kept_record : List ℕ → ℕ → ℕ
kept_record m t = first_below t (records m 32769 (cell m VOC_LINK))

-- a head goes to the first link field of its chain below t
abbrev pub cut_head : List ℕ → ℕ → ℕ → Write
cut_head m t head = PutCell head (first_below t (members m head))

-- so do the four heads of a record
abbrev pub cut_heads : List ℕ → ℕ → ℕ → List Write
cut_heads m t r =
    cut_head m t r ∷ cut_head m t (wrap (r + 2)) ∷ cut_head m t (wrap (r + 4)) ∷ cut_head m t (wrap (r + 6)) ∷ []

-- a cell that names a vocabulary at t or above goes to FORTH's
unfoldable pub cut_vocabulary : List ℕ → ℕ → ℕ → List Write
cut_vocabulary m t place = if nat_le t (cell m place) then PutCell place FORTH_VOC ∷ [] else []

-- all that is written when what is at t and above is forgotten, in order, out of the memory before
unfoldable pub cuts : List ℕ → ℕ → List Write
cuts m t =
    PutCell VOC_LINK (kept_record m t) ∷ (flat_map (cut_heads m t) (records m 32769 (kept_record m t))
    ++ (PutCell DP t ∷ (cut_vocabulary m t CONTEXT ++ (cut_vocabulary m t CURRENT ++ (PutCell LAST 0 ∷ [])))))

unfoldable pub forgotten : List ℕ → ℕ → List ℕ
forgotten m t = written m (cuts m t)

-- FORGET by such a target: it is forgotten, or nothing is written
abbrev pub IsForgotten : Result ℕ ForgetFault → List ℕ → List ℕ → Result Unit ForgetFault → Type 0
IsForgotten (Ok t) old new result = IsOk result × (new ≡ forgotten old t)
IsForgotten (Err fault) old new result = (result ≡ Err fault) × (new ≡ old)

-- the writes to the heads of the first n records from r on, made in m out of the memory before
unfoldable pub cut_all : List ℕ → ℕ → ℕ → ℕ → List ℕ → List ℕ
cut_all before t n r m = written m (flat_map (cut_heads before t) (records before n r))
