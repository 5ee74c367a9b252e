use Rattle.std.specs.Prelude.{ℕ, ◌+◌, List, [], ◌∷◌, ◌++◌, ◌≡◌, Bool, ◌&&◌, if◌then◌else◌, nat_le, length, Result, Ok, Err, IsTrue, IsFalse}
use Rattle.cells.specs.Cell.{wrap}
use Rattle.memory.specs.Bytes.{cell, cell_bytes, Write, PutCell, PutBytes, written}
use Rattle.memory.specs.declared.system.TheConstants.{BLK, DP, LAST, CURRENT, VOC_LINK}
use Rattle.dictionary.specs.declared.fault.AddFault.{AddFault}
use Rattle.dictionary.specs.declared.fault.AddFault.TheVariants.{NameLength, Full}
use Rattle.dictionary.specs.declared.site.Site.{Site}
use Rattle.dictionary.specs.Search.{head_of}
use Rattle.dictionary.specs.Laying.{fits}

-- a name has 1 to 31 bytes
unfoldable pub is_name : List ℕ → Bool
is_name name = nat_le 1 (length name) && nat_le (length name) 31

-- the count byte of a new header: bit 7 is set, and bit 5 if it is hidden
abbrev pub new_count : Bool → List ℕ → ℕ
new_count hidden name = (if hidden then 160 else 128) + length name

-- a header: view, link, count byte, name, code field, and what is written with it
unfoldable pub header_bytes : ℕ → ℕ → ℕ → List ℕ → ℕ → List ℕ → List ℕ
header_bytes view link count name code extra =
    cell_bytes view ++ (cell_bytes link ++ (count ∷ (name ++ (cell_bytes code ++ extra))))

-- what a new header takes from memory: HERE, the block of its view, the head of the chain of its name's class in
-- CURRENT, and the newest header of that chain
unfoldable pub site_of : List ℕ → List ℕ → Site
site_of m name = record {
  here = cell m DP;
  view = cell m BLK;
  link = cell m (head_of (cell m CURRENT) name);
  head = head_of (cell m CURRENT) name;
}

-- the writes of a new header at its site: its bytes and DP after them; then its link field, in the head of its chain
-- and in LAST
abbrev pub header_writes : Site → List ℕ → ℕ → ℕ → List ℕ → List Write
header_writes site name count code extra =
    let header = header_bytes site.view site.link count name code extra in
    PutBytes site.here header
    ∷ PutCell DP (wrap (site.here + length header))
    ∷ PutCell site.head (wrap (site.here + 2))
    ∷ PutCell LAST (wrap (site.here + 2))
    ∷ []

-- memory with a header at its site
unfoldable pub with_header_at : Site → List ℕ → List ℕ → ℕ → List ℕ → Bool → List ℕ
with_header_at site m name code extra hidden =
    written m (header_writes site name (new_count hidden name) code extra)

-- memory with a header at HERE
unfoldable pub with_header : List ℕ → List ℕ → ℕ → List ℕ → Bool → List ℕ
with_header m name code extra hidden = with_header_at (site_of m name) m name code extra hidden

-- how many bytes a header has with what is written with it
abbrev pub header_size : List ℕ → List ℕ → ℕ
header_size name extra = 7 + length name + length extra

-- a header can be added, or why not
abbrev pub IsAddable : ℕ → List ℕ → List ℕ → List ℕ → Result Unit AddFault → Type 0
IsAddable limit m name extra (Ok _) = IsTrue (is_name name) × IsTrue (fits limit m (header_size name extra))
IsAddable limit m name extra (Err NameLength) = IsFalse (is_name name)
IsAddable limit m name extra (Err Full) = IsTrue (is_name name) × IsFalse (fits limit m (header_size name extra))

abbrev pub IsAdded : ℕ → List ℕ → List ℕ → List ℕ → ℕ → List ℕ → Bool → Result Unit AddFault → Type 0
IsAdded limit old new name code extra hidden (Ok added) =
    IsAddable limit old name extra (Ok added) × (new ≡ with_header old name code extra hidden)
IsAdded limit old new name code extra hidden (Err fault) = IsAddable limit old name extra (Err fault) × (new ≡ old)

-- the record of a new vocabulary: four empty chains, and the newest record before it
unfoldable pub record_bytes : ℕ → List ℕ
record_bytes newest = cell_bytes 0 ++ cell_bytes 0 ++ cell_bytes 0 ++ cell_bytes 0 ++ cell_bytes newest

-- the writes of a new vocabulary at its site: its header with its record written with it, and last the record, in VOC-LINK
abbrev pub vocabulary_writes : Site → ℕ → List ℕ → List Write
vocabulary_writes site newest name =
    header_writes site name (128 + length name) 4 (record_bytes newest)
    ++ (PutCell VOC_LINK (wrap (site.here + (7 + length name))) ∷ [])

-- memory with a vocabulary at its site
unfoldable pub with_vocabulary_at : Site → ℕ → List ℕ → List ℕ → List ℕ
with_vocabulary_at site newest m name = written m (vocabulary_writes site newest name)

-- memory with a vocabulary at HERE
unfoldable pub with_vocabulary : List ℕ → List ℕ → List ℕ
with_vocabulary m name = with_vocabulary_at (site_of m name) (cell m VOC_LINK) m name

abbrev pub IsVocabularyAdded : ℕ → List ℕ → List ℕ → List ℕ → Result Unit AddFault → Type 0
IsVocabularyAdded limit old new name (Ok added) =
    IsAddable limit old name (record_bytes (cell old VOC_LINK)) (Ok added) × (new ≡ with_vocabulary old name)
IsVocabularyAdded limit old new name (Err fault) =
    IsAddable limit old name (record_bytes (cell old VOC_LINK)) (Err fault) × (new ≡ old)
