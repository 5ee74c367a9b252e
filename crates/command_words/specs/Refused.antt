-- Why a command line makes no words, and what becomes of it.
use Rattle.std.specs.Prelude.{◌≡◌, ◌≢◌, ◌⊎◌, ⊤, false, ℕ, List}
use Rattle.clap.specs.Simple.{subcommand_of}
use Rattle.clap.specs.Takes.{takes}
use Rattle.clap.specs.Values.{kind_of}
use Rattle.clap.specs.Walk.{Text}
use Rattle.clap.specs.Words.{IsAmong, fault_of}
use Rattle.clap.specs.declared.error.kind.ErrorKind.{ErrorKind}
use Rattle.clap.specs.declared.error.kind.ErrorKind.TheVariants.{DisplayHelp, DisplayVersion, OutOfMemory}
use Rattle.command_words.specs.declared.Parsed.{Parsed}
use Rattle.command_words.specs.declared.Parsed.TheVariants as parsed
use Rattle.command_words.specs.declared.Refusal.{Refusal}
use Rattle.command_words.specs.declared.Refusal.TheVariants.{Clap, Unread}
use Rattle.command_words.specs.declared.reading.Unread.TheVariants as unread
use Rattle.command_words.specs.CommandLine.{forth83}
use Rattle.command_words.specs.Typed.{IsTyped, LacksWords}

-- why no words come of a command line: memory ran out; clap refuses it, for an error that it has; or it lacks what the words need
abbrev pub IsRefused : (typed : List Text) → Refusal → Type 0
IsRefused typed (Clap error) =
    (kind_of error ≡ OutOfMemory) ⊎ ((takes forth83 typed ≡ false) × IsAmong (kind_of error) (fault_of forth83 typed))
IsRefused typed (Unread unread.OutOfMemory) = ⊤
IsRefused typed (Unread unread.Missing) = LacksWords (subcommand_of forth83 typed)

-- the status after a text of clap's was printed: 0 after help and the version, else 2
abbrev pub status_of : ErrorKind → ℕ
status_of DisplayHelp = 0
status_of DisplayVersion = 0
status_of _ = 2

-- the program ends with this status, or with 5 since its text could not be printed
abbrev pub Ends : (status : ℕ) → Parsed → Type 0
Ends status p = (p ≡ parsed.Exit status) ⊎ (p ≡ parsed.Exit 5)

abbrev pub IsReport : Refusal → Parsed → Type 0
IsReport (Unread unread.OutOfMemory) p = p ≡ parsed.OutOfMemory
IsReport (Unread unread.Missing) p = Ends 2 p
IsReport (Clap error) p =
    ((kind_of error ≡ OutOfMemory) × (p ≡ parsed.OutOfMemory)) ⊎ ((kind_of error ≢ OutOfMemory) × Ends (status_of (kind_of error)) p)

-- no words come of a command line, and the program ends: memory ran out; clap refuses it, for which the status is that of a kind of error that
-- this command line has; or clap let it through, and found no value for a part that the words need
abbrev pub IsUnread : (typed : List Text) → Parsed → Type 0
IsUnread typed p =
    (p ≡ parsed.OutOfMemory)
    ⊎ ((takes forth83 typed ≡ false) × (kind : ErrorKind) × IsAmong kind (fault_of forth83 typed) × Ends (status_of kind) p)
    ⊎ (LacksWords (subcommand_of forth83 typed) × Ends 2 p)

-- words are what the command line says, of which the first word is the program's name
abbrev pub IsParsed : (typed : List Text) → Parsed → Type 0
IsParsed typed (parsed.Words w) = IsTyped typed w
IsParsed typed p = IsUnread typed p
