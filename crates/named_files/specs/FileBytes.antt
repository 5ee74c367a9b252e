-- Files that were read or written: whole ones by their names, with their bytes.
use Rattle.std.specs.Prelude.{ℕ, List, [], ◌∷◌, ◌++◌, Option, Some, Result, Ok, Err, Vec}
use Rattle.std.specs.declared.alloc.Global.{Global}
use Rattle.named_files.specs.Uses.{Uses, with_opened}
use Rattle.named_files.specs.declared.file_log.NamedBytes.{NamedBytes}

abbrev pub FileBytes : Type 0
FileBytes = List ℕ × List ℕ

abbrev pub file_of : NamedBytes → FileBytes
file_of file = (file.name.now, file.bytes.now)

-- the files that were read whole so far, those that were written whole, in order, and what was handed back of that which was opened
pub record FileLogs : Type 0 where
  pub read : List FileBytes
  pub written : List FileBytes
  pub used : Uses

abbrev pub file_logs : (read written : List FileBytes) → Uses → FileLogs
file_logs read written used = record { read = read; written = written; used = used }

-- after blocks were opened, of which each has such a count, or could not be
abbrev pub opening : {T : Type 0} → (count : T → ℕ) → Result T ℕ → FileLogs → FileLogs
opening count (Ok opened) files = record files { used = with_opened files.used (count opened) }
opening count (Err status) files = files

-- after the file of this name was read, or could not be
abbrev pub reading : (name : List ℕ) → Result (Vec ℕ Global) ℕ → FileLogs → FileLogs
reading name (Ok bytes) files = record files { read = files.read ++ (name, bytes.items) ∷ [] }
reading name (Err status) files = files

-- the same, if it may not exist
abbrev pub reading_old : (name : List ℕ) → Result (Option (Vec ℕ Global)) ℕ → FileLogs → FileLogs
reading_old name (Ok (Some bytes)) files = record files { read = files.read ++ (name, bytes.items) ∷ [] }
reading_old name _ files = files

-- after the file of this name was written, or could not be
abbrev pub writing : (name bytes : List ℕ) → Result Unit ℕ → FileLogs → FileLogs
writing name bytes (Ok done) files = record files { written = files.written ++ (name, bytes) ∷ [] }
writing name bytes (Err status) files = files
