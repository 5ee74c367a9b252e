-- A memory that has the resident compiler.
use Rattle.std.specs.Prelude.{◌≡◌, ◌≤◌, ◌+◌, ◌∷◌, [], ℕ, List, length, ◌⊎◌, Contains, codes}
use Rattle.memory.specs.Bytes.{cell}
use Rattle.memory.specs.declared.system.TheConstants.{STATE, BASE, DP, CONTEXT, CURRENT}
use Rattle.dictionary.specs.Header.{name_length, compilation_address}
use Rattle.dictionary.specs.Chain.{chain}
use Rattle.dictionary.specs.Search.{Found, sought}
use Rattle.metacompiler.specs.Loop.{Words, Thread}
use Rattle.metacompiler.specs.Meaning.{Keys}
use Rattle.metacompiler.specs.Orderly.{IsHead}

-- INTERPRET's code field, and those of the words of its thread
abbrev pub fields : Words → List ℕ
fields ws =
    ws.interpret ∷ ws.scan ∷ ws.query_dup ∷ ws.zero_branch ∷ ws.zero_greater ∷ ws.execute ∷ ws.branch ∷ ws.exit ∷ []

-- the headers that are read: the members of the chains of CURRENT's vocabulary, of CONTEXT's and of FORTH, and these,
-- which are those of the words of INTERPRET's thread
abbrev pub IsRead : (headers : List ℕ) → List ℕ → ℕ → Type 0
IsRead headers m l =
    ((h : ℕ) × IsHead (cell m CURRENT) (cell m CONTEXT) h × Contains (chain m 32769 (cell m h)) l) ⊎ Contains headers l

-- A header is from its view cell, two bytes before its link field, to after its code field.
abbrev pub end_of_header : List ℕ → ℕ → ℕ
end_of_header m l = l + (5 + name_length m l)

-- the ten bytes of a record, at 42 or from 256 on below HERE
abbrev pub IsRecord : List ℕ → ℕ → Type 0
IsRecord m voc = (voc ≡ 42) ⊎ ((256 ≤ voc) × (voc + 10 ≤ cell m DP))

-- what is beside what: two headers, two records, a record and a header, a record and the thread
abbrev pub AreHeadersApart : List ℕ → (l k : ℕ) → Type 0
AreHeadersApart m l k = (l ≡ k) ⊎ ((end_of_header m l + 2 ≤ k) ⊎ (end_of_header m k + 2 ≤ l))

abbrev pub AreRecordsApart : (voc other : ℕ) → Type 0
AreRecordsApart voc other = (voc ≡ other) ⊎ ((voc + 10 ≤ other) ⊎ (other + 10 ≤ voc))

abbrev pub IsHeaderBeside : List ℕ → (voc l : ℕ) → Type 0
IsHeaderBeside m voc l = (voc + 12 ≤ l) ⊎ (end_of_header m l ≤ voc)

abbrev pub IsThreadBeside : (voc a : ℕ) → Type 0
IsThreadBeside voc a = (voc + 10 ≤ a) ⊎ (a + 22 ≤ voc)

-- The memory m is resident, with the block buffers from the limit on: INTERPRET is found and its thread is at a,
-- the keywords are found in CONTEXT's vocabulary and in CURRENT's, and words are executed, in base ten. All headers
-- that are read, their records and the thread are in 256..DP - 1, and no two of them overlap.
pub record Resident (limit : ℕ) (ws : Words) (a : ℕ) (m : List ℕ) : Type 0 where
  pub link : ℕ
  pub interpret : sought m (codes "INTERPRET") ≡ Found link
  pub address : compilation_address m link ≡ ws.interpret
  pub thread : Thread ws m a
  pub headers : List ℕ
  pub named : (w : ℕ) → Contains (fields ws) w → (l : ℕ) × Contains headers l × (compilation_address m l ≡ w)
  pub first_keys : Keys m (cell m CONTEXT)
  pub keys : Keys m (cell m CURRENT)
  pub chains : (h : ℕ) → IsHead (cell m CURRENT) (cell m CONTEXT) h → length (chain m 32769 (cell m h)) ≤ 32768
  pub executing : cell m STATE ≡ 0
  pub ten : cell m BASE ≡ 10
  pub high : cell m DP ≤ limit
  pub low : 256 ≤ cell m DP
  pub headers_in : (l : ℕ) → IsRead headers m l → (258 ≤ l) × (end_of_header m l ≤ cell m DP)
  pub headers_apart : (l k : ℕ) → IsRead headers m l → IsRead headers m k → AreHeadersApart m l k
  pub current_in : IsRecord m (cell m CURRENT)
  pub context_in : IsRecord m (cell m CONTEXT)
  pub records_apart : AreRecordsApart (cell m CURRENT) (cell m CONTEXT)
  pub current_apart : (l : ℕ) → IsRead headers m l → IsHeaderBeside m (cell m CURRENT) l
  pub context_apart : (l : ℕ) → IsRead headers m l → IsHeaderBeside m (cell m CONTEXT) l
  pub thread_in : (256 ≤ a) × (a + 22 ≤ cell m DP)
  pub thread_current : IsThreadBeside (cell m CURRENT) a
  pub thread_context : IsThreadBeside (cell m CONTEXT) a
