-- What the words of a subcommand say, by the rows that clap finds for its arguments.
use Rattle.std.specs.Prelude.{◌≡◌, ◌≢◌, ◌⊎◌, ◌<◌, ◌^◌, ℕ, Bool, true, false, List, [], ◌∷◌, ◌++◌, Option, Some, None, option_map, codes, String}
use Rattle.std.specs.declared.alloc.Global.{Global}
use Rattle.std.specs.String.{string_bytes}
use Rattle.std.specs.Str.Parse.{IsNumeral, digits_value, without_leading_plus}
use Rattle.clap.specs.Walk.{Row, Text, first_of, one_of}
use Rattle.clap.specs.Simple.{subcommand_of}
use Rattle.command_words.specs.CommandLine.{forth83}
use Rattle.command_words.specs.declared.BuildWords.{BuildWords}
use Rattle.command_words.specs.declared.DebugWords.{DebugWords}
use Rattle.command_words.specs.declared.GuessWords.{GuessWords}
use Rattle.command_words.specs.declared.JudgeWords.{JudgeWords}
use Rattle.command_words.specs.declared.LoadWords.{LoadWords}
use Rattle.command_words.specs.declared.RunWords.{RunWords}
use Rattle.command_words.specs.declared.ScreenRange.{ScreenRange}
use Rattle.command_words.specs.declared.SurveyWords.{SurveyWords}
use Rattle.command_words.specs.declared.UpgradeWords.{UpgradeWords}
use Rattle.command_words.specs.declared.containers.ContainerWords.{ContainerWords}
use Rattle.command_words.specs.declared.containers.DiskWords.{DiskWords}
use Rattle.command_words.specs.declared.containers.UnpackWords.{UnpackWords}
use Rattle.command_words.specs.declared.Words.{Words}
use Rattle.command_words.specs.declared.Words.TheVariants as words

-- the text of an argument
abbrev pub IsText : List Row → (name : Text) → String Global → Type 0
IsText rows name text = first_of name rows ≡ Some (string_bytes text)

-- the text of an argument that may be left out
abbrev pub IsTextIfGiven : List Row → (name : Text) → Option (String Global) → Type 0
IsTextIfGiven rows name text = first_of name rows ≡ option_map string_bytes text

-- the number that an argument's text writes, in decimal digits
abbrev pub number_in : Text → List Row → Option ℕ
number_in name rows = option_map (λ text. digits_value 10 (without_leading_plus text)) (one_of name rows)

-- whether a flag was given
pub record IsFlag (rows : List Row) (name : Text) (given : Bool) : Type 0 where
  pub absent : one_of name rows ≡ None → given ≡ false
  pub yes : one_of name rows ≡ Some (codes "true") → given ≡ true
  pub no : one_of name rows ≡ Some (codes "false") → given ≡ false

pub record AreScreens (rows : List Row) (w : ScreenRange) : Type 0 where
  pub blocks : IsText rows (codes "BLOCKS") w.blocks
  pub from : number_in (codes "FROM") rows ≡ Some w.from
  pub to : number_in (codes "TO") rows ≡ Some w.to

pub record IsBuild (rows : List Row) (w : BuildWords) : Type 0 where
  pub screens : AreScreens rows w.screens
  pub image : IsText rows (codes "IMAGE") w.image
  pub buffers : number_in (codes "buffers") rows ≡ Some w.buffers
  pub place : IsFlag rows (codes "where") w.shows_place

pub record IsUpgrade (rows : List Row) (w : UpgradeWords) : Type 0 where
  pub image : IsText rows (codes "IMAGE") w.image
  pub out : IsText rows (codes "OUT") w.out
  pub buffers : number_in (codes "buffers") rows ≡ w.buffers

pub record IsLoad (rows : List Row) (w : LoadWords) : Type 0 where
  pub image : IsText rows (codes "IMAGE") w.image
  pub screens : AreScreens rows w.screens
  pub out : IsText rows (codes "OUT") w.out
  pub limit : number_in (codes "limit") rows ≡ Some w.limit
  pub place : IsFlag rows (codes "where") w.shows_place

pub record IsRun (rows : List Row) (w : RunWords) : Type 0 where
  pub image : IsText rows (codes "IMAGE") w.image
  pub blocks : IsTextIfGiven rows (codes "BLOCKS") w.blocks
  pub limit : number_in (codes "limit") rows ≡ Some w.limit

pub record IsDebug (rows : List Row) (w : DebugWords) : Type 0 where
  pub image : IsText rows (codes "IMAGE") w.image
  pub name : IsText rows (codes "NAME") w.name
  pub trace : IsText rows (codes "TRACE") w.trace
  pub blocks : IsTextIfGiven rows (codes "BLOCKS") w.blocks
  pub limit : number_in (codes "limit") rows ≡ Some w.limit

pub record IsSurvey (rows : List Row) (w : SurveyWords) : Type 0 where
  pub image : IsText rows (codes "IMAGE") w.image
  pub screens : AreScreens rows w.screens
  pub all : IsFlag rows (codes "all") w.lists_all

pub record IsJudge (rows : List Row) (w : JudgeWords) : Type 0 where
  pub image : IsText rows (codes "IMAGE") w.image
  pub texts : IsText rows (codes "TEXTS") w.texts
  pub course : IsText rows (codes "COURSE") w.course
  pub pupil : IsText rows (codes "PUPIL") w.pupil
  pub limit : number_in (codes "limit") rows ≡ Some w.limit

pub record IsContainer (rows : List Row) (w : ContainerWords) : Type 0 where
  pub container : IsText rows (codes "CONTAINER") w.container
  pub blocks : IsText rows (codes "BLOCKS") w.blocks
  pub format : IsText rows (codes "format") w.format
  pub offset : number_in (codes "offset") rows ≡ w.offset
  pub sector : number_in (codes "sector") rows ≡ w.sector
  pub skew : IsTextIfGiven rows (codes "skew") w.skew

pub record IsDisk (rows : List Row) (w : DiskWords) : Type 0 where
  pub container : IsContainer rows w.container
  pub first : number_in (codes "first") rows ≡ w.first
  pub sides : number_in (codes "sides") rows ≡ w.sides
  pub half : IsFlag rows (codes "half") w.is_half
  pub ebcdic : IsFlag rows (codes "ebcdic") w.is_ebcdic

pub record IsUnpack (rows : List Row) (w : UnpackWords) : Type 0 where
  pub disk : IsDisk rows w.disk
  pub width : number_in (codes "width") rows ≡ w.width
  pub lines : number_in (codes "lines") rows ≡ w.lines
  pub columns : number_in (codes "columns") rows ≡ w.columns
  pub clean : IsFlag rows (codes "clean") w.disk.container.cleans
  pub append : IsFlag rows (codes "append") w.appends
  pub file : IsTextIfGiven rows (codes "file") w.file

pub record IsGuess (rows : List Row) (w : GuessWords) : Type 0 where
  pub disk : IsText rows (codes "DISK") w.disk
  pub better : IsFlag rows (codes "better") w.is_better
  pub score : IsFlag rows (codes "score") w.is_score
  pub files : IsFlag rows (codes "files") w.lists_files

-- each file and option is the one that was given in its place
abbrev pub Says : List Row → Words → Type 0
Says rows (words.Kernel blocks) = IsText rows (codes "BLOCKS") blocks
Says rows (words.Build w) = IsBuild rows w
Says rows (words.Upgrade w) = IsUpgrade rows w
Says rows (words.Load w) = IsLoad rows w
Says rows (words.Text w) = AreScreens rows w
Says rows (words.Screens text blocks) = IsText rows (codes "TEXT") text × IsText rows (codes "BLOCKS") blocks
Says rows (words.New blocks count) = IsText rows (codes "BLOCKS") blocks × (number_in (codes "N") rows ≡ Some count)
Says rows (words.Import w) = IsContainer rows w × IsFlag rows (codes "clean") w.cleans
Says rows (words.Export w) = IsContainer rows w
Says rows (words.Run w) = IsRun rows w
Says rows (words.Debug w) = IsDebug rows w
Says rows (words.See image name) = IsText rows (codes "IMAGE") image × IsText rows (codes "NAME") name
Says rows (words.View image name) = IsText rows (codes "IMAGE") image × IsText rows (codes "NAME") name
Says rows (words.Serve image blocks) = IsText rows (codes "IMAGE") image × IsTextIfGiven rows (codes "BLOCKS") blocks
Says rows (words.Survey w) = IsSurvey rows w
Says rows (words.Judge w) = IsJudge rows w
Says rows (words.Unpack w) = IsUnpack rows w
Says rows (words.Pack w) = IsDisk rows w
Says rows (words.Guess w) = IsGuess rows w
Says rows (words.Advise case) = IsText rows (codes "CASE") case
Says rows (words.Headings text) = IsText rows (codes "TEXT") text

-- the subcommand of this name
abbrev pub name_of : Words → Text
name_of (words.Kernel blocks) = codes "kernel"
name_of (words.Build w) = codes "build"
name_of (words.Upgrade w) = codes "upgrade"
name_of (words.Load w) = codes "load"
name_of (words.Text w) = codes "text"
name_of (words.Screens text blocks) = codes "screens"
name_of (words.New blocks count) = codes "new"
name_of (words.Import w) = codes "import"
name_of (words.Export w) = codes "export"
name_of (words.Run w) = codes "run"
name_of (words.Debug w) = codes "debug"
name_of (words.See image name) = codes "see"
name_of (words.View image name) = codes "view"
name_of (words.Serve image blocks) = codes "serve"
name_of (words.Survey w) = codes "survey"
name_of (words.Judge w) = codes "judge"
name_of (words.Unpack w) = codes "unpack"
name_of (words.Pack w) = codes "pack"
name_of (words.Guess w) = codes "guess"
name_of (words.Advise case) = codes "advise"
name_of (words.Headings text) = codes "headings"

-- w is of the subcommand of this name, and says what was found for its arguments
pub record AreOf (name : Text) (rows : List Row) (w : Words) : Type 0 where
  pub named : name_of w ≡ name
  pub said : Says rows w

-- w is the subcommand that was entered, by its name and by what was found for its arguments
abbrev pub Means : Option (Text × List Row) → Words → Type 0
Means None w = ⊥
Means (Some (name, rows)) w = AreOf name rows w

-- w is what was typed, of which the first word is the program's name
abbrev pub IsTyped : (typed : List Text) → Words → Type 0
IsTyped typed w = Means (subcommand_of forth83 typed) w

-- an argument that the words of a subcommand are made of: a text, a number of so many bits, or such a number if one was typed
pub data Part : Type 0 where
  Word : Text → Part
  Number : ℕ → Text → Part
  NumberIfGiven : ℕ → Text → Part

-- a text spells no number of so many bits
abbrev pub IsNoNumber : ℕ → Text → Type 0
IsNoNumber bits text = ¬ (IsNumeral 10 (without_leading_plus text) × (digits_value 10 (without_leading_plus text) < 2 ^ bits))

abbrev pub Lacks : List Row → Part → Type 0
Lacks rows (Word name) = first_of name rows ≡ None
Lacks rows (Number bits name) = (one_of name rows ≡ None) ⊎ ((text : Text) × (one_of name rows ≡ Some text) × IsNoNumber bits text)
Lacks rows (NumberIfGiven bits name) = (text : Text) × (one_of name rows ≡ Some text) × IsNoNumber bits text

-- clap found no such value for one of these
abbrev pub LacksOne : List Row → List Part → Type 0
LacksOne rows [] = ⊥
LacksOne rows (part ∷ parts) = Lacks rows part ⊎ LacksOne rows parts

-- what the words of each subcommand are made of
abbrev pub screens_parts : List Part
screens_parts = Word (codes "BLOCKS") ∷ Number 16 (codes "FROM") ∷ Number 16 (codes "TO") ∷ []

abbrev pub limit_part : Part
limit_part = Number 64 (codes "limit")

abbrev pub build_parts : List Part
build_parts = screens_parts ++ Word (codes "IMAGE") ∷ Number 16 (codes "buffers") ∷ []

abbrev pub load_parts : List Part
load_parts = Word (codes "IMAGE") ∷ (screens_parts ++ Word (codes "OUT") ∷ limit_part ∷ [])

abbrev pub survey_parts : List Part
survey_parts = Word (codes "IMAGE") ∷ screens_parts

abbrev pub judge_parts : List Part
judge_parts = Word (codes "IMAGE") ∷ Word (codes "TEXTS") ∷ Word (codes "COURSE") ∷ Word (codes "PUPIL") ∷ limit_part ∷ []

abbrev pub upgrade_parts : List Part
upgrade_parts = Word (codes "IMAGE") ∷ Word (codes "OUT") ∷ NumberIfGiven 16 (codes "buffers") ∷ []

abbrev pub container_parts : List Part
container_parts =
    Word (codes "CONTAINER") ∷ Word (codes "BLOCKS") ∷ Word (codes "format") ∷ NumberIfGiven 32 (codes "offset") ∷ NumberIfGiven 16 (codes "sector") ∷ []

abbrev pub disk_parts : List Part
disk_parts = container_parts ++ NumberIfGiven 32 (codes "first") ∷ NumberIfGiven 32 (codes "sides") ∷ []

abbrev pub unpack_parts : List Part
unpack_parts =
    disk_parts ++ NumberIfGiven 32 (codes "width") ∷ NumberIfGiven 32 (codes "lines") ∷ NumberIfGiven 32 (codes "columns") ∷ []

abbrev pub debug_parts : List Part
debug_parts = Word (codes "IMAGE") ∷ Word (codes "NAME") ∷ Word (codes "TRACE") ∷ limit_part ∷ []

abbrev pub seen_parts : List Part
seen_parts = Word (codes "IMAGE") ∷ Word (codes "NAME") ∷ []

abbrev pub parts : List (Text × List Part)
parts =
    (codes "kernel", Word (codes "BLOCKS") ∷ []) ∷ (codes "build", build_parts) ∷ (codes "load", load_parts) ∷ (codes "upgrade", upgrade_parts)
    ∷ (codes "text", screens_parts) ∷ (codes "screens", Word (codes "TEXT") ∷ Word (codes "BLOCKS") ∷ [])
    ∷ (codes "new", Word (codes "BLOCKS") ∷ Number 32 (codes "N") ∷ []) ∷ (codes "import", container_parts) ∷ (codes "export", container_parts)
    ∷ (codes "run", Word (codes "IMAGE") ∷ limit_part ∷ []) ∷ (codes "debug", debug_parts) ∷ (codes "see", seen_parts) ∷ (codes "view", seen_parts)
    ∷ (codes "serve", Word (codes "IMAGE") ∷ []) ∷ (codes "survey", survey_parts) ∷ (codes "judge", judge_parts)
    ∷ (codes "unpack", unpack_parts) ∷ (codes "pack", disk_parts) ∷ (codes "guess", Word (codes "DISK") ∷ [])
    ∷ (codes "advise", Word (codes "CASE") ∷ []) ∷ (codes "headings", Word (codes "TEXT") ∷ []) ∷ []

-- of the subcommand of this name one part is lacking, or none has this name
abbrev pub LacksIn : List (Text × List Part) → (name : Text) → List Row → Type 0
LacksIn [] name rows = Unit {0}
LacksIn (known ∷ more) name rows = ((name ≡ known.0) × LacksOne rows known.1) ⊎ ((name ≢ known.0) × LacksIn more name rows)

-- of what clap found for the subcommand that was entered, if one was, a part is lacking
abbrev pub LacksWords : Option (Text × List Row) → Type 0
LacksWords None = Unit {0}
LacksWords (Some (name, rows)) = LacksIn parts name rows
