-- What the program does: for each command line, and for each subcommand with its words, what is promised of it.
use Rattle.std.specs.Prelude.{◌≡◌, ◌⊎◌, ℕ, List, [], ◌∷◌, Bool, true, Option, Some, None, option_map, String}
use Rattle.std.specs.declared.alloc.Global.{Global}
use Rattle.std.specs.String.{string_bytes}
use Rattle.advice_subcommand.specs.Advised.{Advises, advise_steps}
use Rattle.command_words.specs.Refused.{IsUnread}
use Rattle.command_words.specs.Typed.{IsTyped}
use Rattle.command_words.specs.declared.Parsed.TheVariants as parsed
use Rattle.command_words.specs.declared.Words.{Words}
use Rattle.command_words.specs.declared.Words.TheVariants as words
use Rattle.command_words.specs.declared.containers.ContainerWords.{ContainerWords}
use Rattle.debug_subcommand.specs.Files.{Debugs, RefusesDebug}
use Rattle.file_subcommands.specs.Filed.{Builds, Exports, Imports, ListsHeadings, MakesKernel, MakesNew, MakesScreens, Prints, RefusesBuild, RefusesExport, RefusesImport, RefusesNew, RefusesUpgrade, Sees, Upgrades, Views, Wanted, headings_steps, image_steps, kernel_steps, screens_steps, text_steps}
use Rattle.judge_subcommand.specs.Judged.{Judges, judge_steps}
use Rattle.load_subcommand.specs.Files.{Loads, load_steps}
use Rattle.named_files.specs.Asking.{step}
use Rattle.named_files.specs.Done.{Done, Refuses}
use Rattle.named_files.specs.declared.step_log.Deed.TheVariants as deed
use Rattle.old_disk_subcommands.specs.Guessed.{Guesses, guess_steps}
use Rattle.old_disk_subcommands.specs.Unpacked.{Packs, RefusesPack, RefusesUnpack, Unpacks}
use Rattle.run_subcommand.specs.Files.{Runs, run_steps}
use Rattle.serve_subcommand.specs.Files.{ServesFiles, serve_steps}
use Rattle.survey_subcommand.specs.Surveyed.{Surveys, survey_steps}

-- the name that was typed, if one was
abbrev pub typed : Option (String Global) → List (List ℕ)
typed None = []
typed (Some name) = string_bytes name ∷ []

-- a container's file, a file of blocks, and how screens lie in the container, as typed
abbrev pub wanted : ContainerWords → Wanted
wanted w = record {
  container = string_bytes w.container;
  blocks = string_bytes w.blocks;
  format = string_bytes w.format;
  offset = w.offset;
  sector = w.sector;
  skew = option_map string_bytes w.skew;
}

abbrev pub Obeys : Words → (status : ℕ) → (failed : Bool) → (old new : Done) → Type 0
Obeys (words.Kernel blocks) status failed old new = MakesKernel (string_bytes blocks) status failed old new
Obeys (words.Build w) status failed old new =
    Builds (string_bytes w.screens.blocks) w.screens.from w.screens.to (string_bytes w.image) w.buffers status failed old new
Obeys (words.Upgrade w) status failed old new = Upgrades (string_bytes w.image) (string_bytes w.out) w.buffers status failed old new
Obeys (words.Load w) status failed old new =
    Loads (string_bytes w.image) (string_bytes w.screens.blocks) w.screens.from w.screens.to (string_bytes w.out) w.limit status failed old new
Obeys (words.Text w) status failed old new = Prints (string_bytes w.blocks) w.from w.to status failed old new
Obeys (words.Screens text blocks) status failed old new = MakesScreens (string_bytes text) (string_bytes blocks) status failed old new
Obeys (words.New blocks count) status failed old new = MakesNew (string_bytes blocks) count status failed old new
Obeys (words.Import w) status failed old new = Imports (wanted w) w.cleans status failed old new
Obeys (words.Export w) status failed old new = Exports (wanted w) status failed old new
Obeys (words.Run w) status failed old new = Runs (string_bytes w.image) (typed w.blocks) w.limit status failed old new
Obeys (words.Debug w) status failed old new =
    Debugs (string_bytes w.image) (string_bytes w.name) (string_bytes w.trace) (typed w.blocks) w.limit status failed old new
Obeys (words.See image name) status failed old new = Sees (string_bytes image) (string_bytes name) status failed old new
Obeys (words.View image name) status failed old new = Views (string_bytes image) (string_bytes name) status failed old new
Obeys (words.Serve image blocks) status failed old new = ServesFiles (string_bytes image) (typed blocks) status failed old new
Obeys (words.Survey w) status failed old new = Surveys (string_bytes w.image) (string_bytes w.screens.blocks) status failed old new
Obeys (words.Judge w) status failed old new =
    Judges (string_bytes w.image) (string_bytes w.texts) (string_bytes w.course) (string_bytes w.pupil) status failed old new
Obeys (words.Unpack w) status failed old new =
    Unpacks (string_bytes w.disk.container.container) (string_bytes w.disk.container.blocks) w.appends status failed old new
Obeys (words.Pack w) status failed old new = Packs (string_bytes w.container.blocks) (string_bytes w.container.container) status failed old new
Obeys (words.Guess w) status failed old new = Guesses (string_bytes w.disk) status failed old new
Obeys (words.Advise case) status failed old new = Advises (string_bytes case) status failed old new
Obeys (words.Headings text) status failed old new = ListsHeadings (string_bytes text) status failed old new

-- the subcommand could not begin: a step that it must take was refused, or what was typed can't be used
abbrev pub RefusesWords : Words → (status : ℕ) → (failed : Bool) → (old new : Done) → Type 0
RefusesWords (words.Kernel blocks) status failed old new = Refuses (kernel_steps (string_bytes blocks)) status old new
RefusesWords (words.Build w) status failed old new = RefusesBuild (string_bytes w.screens.blocks) (string_bytes w.image) w.buffers status old new
RefusesWords (words.Upgrade w) status failed old new = RefusesUpgrade (string_bytes w.image) (string_bytes w.out) w.buffers status old new
RefusesWords (words.Load w) status failed old new =
    Refuses (load_steps (string_bytes w.image) (string_bytes w.screens.blocks) (string_bytes w.out)) status old new
RefusesWords (words.Text w) status failed old new = Refuses (text_steps (string_bytes w.blocks)) status old new
RefusesWords (words.Screens text blocks) status failed old new = Refuses (screens_steps (string_bytes text) (string_bytes blocks)) status old new
RefusesWords (words.New blocks count) status failed old new = RefusesNew (string_bytes blocks) count status old new
RefusesWords (words.Import w) status failed old new = RefusesImport (wanted w) status failed old new
RefusesWords (words.Export w) status failed old new = RefusesExport (wanted w) status failed old new
RefusesWords (words.Run w) status failed old new = Refuses (run_steps (string_bytes w.image) (typed w.blocks)) status old new
RefusesWords (words.Debug w) status failed old new =
    RefusesDebug (string_bytes w.image) (string_bytes w.trace) (typed w.blocks) status old new
RefusesWords (words.See image name) status failed old new = Refuses (image_steps (string_bytes image)) status old new
RefusesWords (words.View image name) status failed old new = Refuses (image_steps (string_bytes image)) status old new
RefusesWords (words.Serve image blocks) status failed old new = Refuses (serve_steps (string_bytes image) (typed blocks)) status old new
RefusesWords (words.Survey w) status failed old new = Refuses (survey_steps (string_bytes w.image) (string_bytes w.screens.blocks)) status old new
RefusesWords (words.Judge w) status failed old new =
    Refuses (judge_steps (string_bytes w.image) (string_bytes w.texts) (string_bytes w.course) (string_bytes w.pupil)) status old new
RefusesWords (words.Unpack w) status failed old new =
    RefusesUnpack (string_bytes w.disk.container.container) (string_bytes w.disk.container.blocks) (string_bytes w.disk.container.format) w.appends status old new
RefusesWords (words.Pack w) status failed old new =
    RefusesPack (string_bytes w.container.blocks) (string_bytes w.container.container) (string_bytes w.container.format) status old new
RefusesWords (words.Guess w) status failed old new = Refuses (guess_steps (string_bytes w.disk)) status old new
RefusesWords (words.Advise case) status failed old new = Refuses (advise_steps (string_bytes case)) status old new
RefusesWords (words.Headings text) status failed old new = Refuses (headings_steps (string_bytes text)) status old new

-- what the program does with a command line. It obeys the words that were typed, or one of their steps is refused; if a line can't be printed
-- meanwhile, the status is 5. Or no words come of the command line: it is printed why, or memory ran out.
abbrev pub RunsLine : (typed : List (List ℕ)) → (status : ℕ) → (failed : Bool) → (old new : Done) → Type 0
RunsLine typed status failed old new =
    ((w : Words) × IsTyped typed w × (Obeys w status failed old new ⊎ RefusesWords w status failed old new) × (failed ≡ true → status ≡ 5))
    ⊎ (IsUnread typed (parsed.Exit status) × (new ≡ old))
    ⊎ Refuses (step deed.Allocate [] ∷ []) status old new
