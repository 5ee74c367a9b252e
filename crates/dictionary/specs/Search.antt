use Rattle.std.specs.Prelude.{ℕ, ◌+◌, ◌*◌, ◌%◌, ◌<◌, ◌≤◌, List, ◌==◌, ◌≡◌, if◌then◌else◌, Bool, All, length, slice_index, find, Option, Some, None, Result, Ok, Err}
use Rattle.cells.specs.Cell.{wrap}
use Rattle.memory.specs.Bytes.{cell}
use Rattle.memory.specs.declared.system.TheConstants.{CONTEXT, FORTH_VOC}
use Rattle.dictionary.specs.declared.fault.ChainTooLong.{ChainTooLong}
use Rattle.dictionary.specs.Header.{compilation_address, is_named, is_named_but}
use Rattle.dictionary.specs.Chain.{IsNewest, chain, is_longer}

-- A vocabulary is known by the address of its record: four chain heads, and the cell that links to the next older
-- record. The first byte of a name, modulo 4, is its class, and says in which of the four chains it is.

-- where the head of the chain of a name's class is in a vocabulary
unfoldable pub head_of : ℕ → List ℕ → ℕ
head_of voc name = wrap (voc + 2 * (slice_index name 0 % 4))

-- what a search comes to: a header's link field, none, or a chain that has more headers than the search looks at
pub data Sought : Type 0 where
  Found : ℕ → Sought
  Nowhere : Sought
  TooLong : Sought

-- by what was found in the first members of a chain, and whether it has more of them
abbrev pub comes_to : Option ℕ → Bool → Sought
comes_to (Some l) longer = Found l
comes_to None longer = if longer then TooLong else Nowhere

-- the search for the first of a chain's first n members that passes the test
unfoldable pub walked : (ℕ → Bool) → List ℕ → ℕ → ℕ → Sought
walked test m n l = comes_to (find test (chain m n l)) (is_longer m n l)

-- the same in the chain of a name's class, of which 32,768 members are looked at
unfoldable pub first_in : (ℕ → Bool) → List ℕ → ℕ → List ℕ → Sought
first_in test m voc name = walked test m 32768 (cell m (head_of voc name))

-- if one search came to none, the other decides
abbrev pub or_else : Sought → Sought → Sought
or_else Nowhere other = other
or_else (Found l) other = Found l
or_else TooLong other = TooLong

-- the search in a vocabulary, and then in FORTH. The empty name has no class: no chain is walked for it
unfoldable pub first_from : (ℕ → Bool) → List ℕ → ℕ → List ℕ → Sought
first_from test m voc name =
    if length name == 0 then Nowhere else or_else (first_in test m voc name) (first_in test m FORTH_VOC name)

-- the search for the unhidden header that a name means in one vocabulary alone
unfoldable pub sought_in : List ℕ → ℕ → List ℕ → Sought
sought_in m voc name = first_in (is_named m name) m voc name

-- the same in a vocabulary, and then in FORTH
unfoldable pub sought_from : List ℕ → ℕ → List ℕ → Sought
sought_from m voc name = first_from (is_named m name) m voc name

-- the machine's own search, in CONTEXT and then in FORTH
unfoldable pub sought : List ℕ → List ℕ → Sought
sought m name = sought_from m (cell m CONTEXT) name

-- the same, if the header at one place counts as hidden
unfoldable pub sought_hiding : List ℕ → List ℕ → ℕ → Sought
sought_hiding m name hidden = first_from (is_named_but m name hidden) m (cell m CONTEXT) name

-- what was found, by its compilation address
abbrev pub by_address : List ℕ → Sought → Sought
by_address m (Found l) = Found (compilation_address m l)
by_address m Nowhere = Nowhere
by_address m TooLong = TooLong

-- a name's chain in a vocabulary, cut after 32,769 members
unfoldable pub chain_in : List ℕ → ℕ → List ℕ → List ℕ
chain_in m voc name = chain m 32769 (cell m (head_of voc name))

-- its first 32,768 members, at which a search looks, and whether it has more
unfoldable pub searched_in : List ℕ → ℕ → List ℕ → List ℕ
searched_in m voc name = chain m 32768 (cell m (head_of voc name))

unfoldable pub goes_on_in : List ℕ → ℕ → List ℕ → Bool
goes_on_in m voc name = is_longer m 32768 (cell m (head_of voc name))

-- said of the members of a name's chain in a vocabulary: the name is not empty, and a search looks at all of them
abbrev pub OfWholeChain : List ℕ → ℕ → List ℕ → (List ℕ → Type 0) → Type 0
OfWholeChain m voc name P = 0 < length name → length (chain_in m voc name) ≤ 32768 → P (chain_in m voc name)

-- a search for a name finds the newest of these headers that has it
abbrev pub FindsNewest : List ℕ → ℕ → List ℕ → (members : List ℕ) → Type 0
FindsNewest m voc name members = (k : ℕ) × (sought_from m voc name ≡ Found k) × IsNewest (is_named m name) members k

-- said of two memories in which a search for a name looks at the same members, and the same of them have that name
abbrev pub OfChainsAlike : (m n : List ℕ) → ℕ → List ℕ → Type 0 → Type 0
OfChainsAlike m n voc name P =
    searched_in m voc name ≡ searched_in n voc name → All (λ k. is_named m name k ≡ is_named n name k) (searched_in m voc name) → P

-- what is answered of a search: the header's link field, none, or that a chain is too long
abbrev pub IsSought : Sought → Result (Option ℕ) ChainTooLong → Type 0
IsSought s (Ok (Some l)) = s ≡ Found l
IsSought s (Ok None) = s ≡ Nowhere
IsSought s (Err _) = s ≡ TooLong
