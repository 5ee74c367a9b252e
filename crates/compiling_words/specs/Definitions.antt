-- How a colon definition begins and ends.
use Rattle.std.specs.Prelude.{◌≡◌, ℕ, ◌+◌, List, [], ◌∷◌, ◌++◌, length, Result, Ok, Err, IsTrue, IsFalse}
use Rattle.memory.specs.declared.controls.Control.TheVariants as ctl
use Rattle.memory.specs.Controls.{number_of}
use Rattle.memory.specs.Bytes.{byte, cell, put_byte, put_cell, cell_bytes, Write, PutCell, written}
use Rattle.memory.specs.declared.system.TheConstants.{STATE, CONTEXT, CURRENT}
use Rattle.dictionary.specs.declared.fault.AddFault.{AddFault}
use Rattle.dictionary.specs.declared.fault.AddFault.TheVariants.{NameLength, Full}
use Rattle.dictionary.specs.declared.site.Site.{Site}
use Rattle.dictionary.specs.Adding.{is_name, site_of, header_writes}
use Rattle.dictionary.specs.Laying.{fits}
use Rattle.dictionary.specs.Newest.{newest_count, revealed}
use Rattle.compiling_words.specs.declared.laying.Full.{Full as Refused}
use Rattle.compiling_words.specs.Code.{runtime}
use Rattle.compiling_words.specs.Laying.{laid}

-- the writes that begin a definition at a site: a hidden header with the code field of a colon word; then words are
-- compiled, and the vocabulary CURRENT is searched first
abbrev pub begun_writes : Site → ℕ → List ℕ → List Write
begun_writes site current name =
    header_writes site name (160 + length name) 1 [] ++ (PutCell STATE 65535 ∷ PutCell CONTEXT current ∷ [])

-- memory with a definition started
unfoldable pub begun : List ℕ → List ℕ → List ℕ
begun m name = written m (begun_writes (site_of m name) (cell m CURRENT) name)

abbrev pub IsBegun : ℕ → List ℕ → List ℕ → List ℕ → Result Unit AddFault → Type 0
IsBegun limit old new name (Ok _) =
    IsTrue (is_name name) × IsTrue (fits limit old (7 + length name)) × (new ≡ begun old name)
IsBegun limit old new name (Err NameLength) = IsFalse (is_name name) × (new ≡ old)
IsBegun limit old new name (Err Full) =
    IsTrue (is_name name) × IsFalse (fits limit old (7 + length name)) × (new ≡ old)

-- memory with the definition ended: EXIT is written, the newest header is found from now on, and words are executed. The
-- header is the one that LAST named before, and its count byte the one of before
abbrev pub ended : List ℕ → List ℕ
ended m =
    let revealed_count = revealed (byte m (newest_count m)) in
    put_cell (put_byte (laid m (cell_bytes (runtime m (number_of ctl.Exit)))) (newest_count m) revealed_count) STATE 0

abbrev pub IsEnded : ℕ → List ℕ → List ℕ → Result Unit Refused → Type 0
IsEnded limit old new (Ok _) = IsTrue (fits limit old 2) × (new ≡ ended old)
IsEnded limit old new (Err _) = IsFalse (fits limit old 2) × (new ≡ old)
