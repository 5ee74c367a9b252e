-- The command line: each subcommand with its arguments, in their order.
use Rattle.std.specs.Prelude.{◌≡◌, Bool, List, [], ◌∷◌, ◌++◌, Some, true, false, codes, pos}
use Rattle.clap.specs.Walk.{Rule, Text}
use Rattle.clap.specs.Simple.{App, Shape, app_of, new_shape, with_rule, with_subcommand}
pub use Rattle.clap.specs.Simple.{new_rule}
use Rattle.clap.specs.declared.builder.command.Command.TheViews.{out-Command as fields_of}
use Rattle.clap.specs.declared.builder.action.ArgAction.TheVariants.{SetTrue}
use Rattle.clap.specs.declared.builder.command.Command.{Command}
use Rattle.clap.specs.declared.builder.value_parser.ValueParser.TheVariants as value

-- a word that must be given
abbrev pub word : Text → Rule
word id = record (new_rule id) { required = true }

-- the number of a screen, which must be given
abbrev pub screen : Text → Rule
screen id = record (word id) { parser = Some (value.Signed (pos 0) (pos 65535)) }

-- `--ID VALUE`
abbrev pub option : Text → Rule
option id = record (new_rule id) { long = Some id; value_names = 1 }

-- `--ID`
abbrev pub flag : Text → Rule
flag id = record (new_rule id) { long = Some id; action = Some SetTrue }

abbrev pub buffers : Rule
buffers = record (option (codes "buffers")) { parser = Some (value.Signed (pos 2) (pos 16)) }

-- of `build`
abbrev pub four_buffers : Rule
four_buffers = record buffers { defaults = codes "4" ∷ [] }

abbrev pub limit : Rule
limit = record (option (codes "limit")) {
  parser = Some (value.Unsigned 0 18446744073709551615);
  defaults = codes "1000000000000" ∷ [];
}

-- of `judge`
abbrev pub lesson_limit : Rule
lesson_limit = record limit { defaults = codes "5000000" ∷ [] }

abbrev pub show_place : Rule
show_place = flag (codes "where")

-- of `survey`
abbrev pub all_places : Rule
all_places = flag (codes "all")

abbrev pub sub : Text → List Rule → Shape
sub name rules = record (new_shape name) { rules = rules }

unfoldable pub kernel : Shape
kernel = sub (codes "kernel") (word (codes "BLOCKS") ∷ [])

-- the screens FROM to TO of BLOCKS
abbrev pub screens_rules : List Rule
screens_rules = word (codes "BLOCKS") ∷ screen (codes "FROM") ∷ screen (codes "TO") ∷ []

unfoldable pub build : Shape
build = sub (codes "build") (screens_rules
    ++ word (codes "IMAGE") ∷ four_buffers ∷ show_place ∷ [])

unfoldable pub load : Shape
load = sub (codes "load") (word (codes "IMAGE") ∷ (screens_rules ++ word (codes "OUT") ∷ limit ∷ show_place ∷ []))

unfoldable pub upgrade : Shape
upgrade = sub (codes "upgrade") (word (codes "IMAGE") ∷ word (codes "OUT") ∷ buffers ∷ [])

unfoldable pub text : Shape
text = sub (codes "text") screens_rules

unfoldable pub screens : Shape
screens = sub (codes "screens") (word (codes "TEXT") ∷ word (codes "BLOCKS") ∷ [])

-- how many blocks
abbrev pub count : Rule
count = record (word (codes "N")) { parser = Some (value.Signed (pos 0) (pos 4294967295)) }

unfoldable pub new : Shape
new = sub (codes "new") (word (codes "BLOCKS") ∷ count ∷ [])

-- how screens lie in a container: its format, and numbers in place of the format's
abbrev pub format : Rule
format = record (option (codes "format")) { defaults = codes "blocks" ∷ [] }

-- `--ID N`, a number of 32 bits
abbrev pub number : Text → Rule
number id = record (option id) { parser = Some (value.Signed (pos 0) (pos 4294967295)) }

abbrev pub offset : Rule
offset = number (codes "offset")

abbrev pub sector : Rule
sector = record (option (codes "sector")) { parser = Some (value.Signed (pos 0) (pos 65535)) }

abbrev pub layout_rules : List Rule
layout_rules = format ∷ offset ∷ sector ∷ option (codes "skew") ∷ []

-- whether what is read is made text
abbrev pub clean : Rule
clean = flag (codes "clean")

unfoldable pub import : Shape
import = sub (codes "import") (word (codes "CONTAINER") ∷ word (codes "BLOCKS") ∷ clean ∷ layout_rules)

unfoldable pub export : Shape
export = sub (codes "export") (word (codes "BLOCKS") ∷ word (codes "CONTAINER") ∷ layout_rules)

unfoldable pub run : Shape
run = sub (codes "run") (word (codes "IMAGE") ∷ new_rule (codes "BLOCKS") ∷ limit ∷ [])

unfoldable pub see : Shape
see = sub (codes "see") (word (codes "IMAGE") ∷ word (codes "NAME") ∷ [])

unfoldable pub debug : Shape
debug = sub (codes "debug") (word (codes "IMAGE") ∷ word (codes "NAME") ∷ word (codes "TRACE") ∷ new_rule (codes "BLOCKS") ∷ limit ∷ [])

unfoldable pub view : Shape
view = sub (codes "view") (word (codes "IMAGE") ∷ word (codes "NAME") ∷ [])

unfoldable pub serve : Shape
serve = sub (codes "serve") (word (codes "IMAGE") ∷ new_rule (codes "BLOCKS") ∷ [])

unfoldable pub survey : Shape
survey = sub (codes "survey") (word (codes "IMAGE") ∷ (screens_rules ++ all_places ∷ []))

unfoldable pub judge : Shape
judge = sub (codes "judge")
    (word (codes "IMAGE") ∷ word (codes "TEXTS") ∷ word (codes "COURSE") ∷ word (codes "PUPIL") ∷ lesson_limit ∷ [])

-- how screens lie in a container of any kind
abbrev pub disk_rules : List Rule
disk_rules =
    layout_rules ++ number (codes "first") ∷ number (codes "sides") ∷ flag (codes "half") ∷ flag (codes "ebcdic") ∷ []

-- records in place of lines
abbrev pub record_rules : List Rule
record_rules = number (codes "width") ∷ number (codes "lines") ∷ number (codes "columns") ∷ []

unfoldable pub unpack : Shape
unpack = sub (codes "unpack")
    (word (codes "CONTAINER") ∷ word (codes "BLOCKS") ∷ clean ∷ flag (codes "append") ∷ option (codes "file") ∷ (disk_rules ++ record_rules))

unfoldable pub pack : Shape
pack = sub (codes "pack") (word (codes "BLOCKS") ∷ word (codes "CONTAINER") ∷ disk_rules)

unfoldable pub guess : Shape
guess = sub (codes "guess") (word (codes "DISK") ∷ flag (codes "better") ∷ flag (codes "score") ∷ flag (codes "files") ∷ [])

unfoldable pub advise : Shape
advise = sub (codes "advise") (word (codes "CASE") ∷ [])

unfoldable pub headings : Shape
headings = sub (codes "headings") (word (codes "TEXT") ∷ [])

-- what makes and reads files of blocks, and images
abbrev pub of_files : List Shape
of_files = kernel ∷ build ∷ load ∷ upgrade ∷ text ∷ screens ∷ new ∷ import ∷ export ∷ []

-- what runs an image, or shows its words
abbrev pub of_images : List Shape
of_images = run ∷ see ∷ debug ∷ view ∷ serve ∷ []

-- what reads old screens, answers of pupils, and texts
abbrev pub of_sources : List Shape
of_sources = survey ∷ judge ∷ unpack ∷ pack ∷ guess ∷ advise ∷ headings ∷ []

abbrev pub forth83 : App
forth83 = record {
  top = record (new_shape (codes "forth83")) {
    has_version = true;
    subcommand_required = true;
    arg_required_else_help = true;
    is_leaf = false;
  };
  subs = of_files ++ of_images ++ of_sources;
}

-- a command with these arguments after its own
abbrev pub with_rules : List Rule → App → App
with_rules [] a = a
with_rules (rule ∷ rules) a = with_rules rules (with_rule a rule)

-- a command with these subcommands after its own
abbrev pub with_subcommands : List Shape → App → App
with_subcommands [] a = a
with_subcommands (shape ∷ shapes) a = with_subcommands shapes (with_subcommand a shape)

-- clap reads words by this command, of whose arguments none is global but if `globals` says so
pub record IsRead (a : App) (globals : Bool) (c : Command) : Type 0 where
  pub app : app_of c ≡ a
  pub local : (fields_of c).has_globals ≡ globals

-- c is this subcommand
abbrev pub IsSubcommand : Shape → Command → Type 0
IsSubcommand shape c = IsRead (record { top = shape; subs = [] }) false c

-- c is the command `old` with these arguments after its own
abbrev pub Adds : List Rule → (old c : Command) → Type 0
Adds rules old c = IsRead (with_rules rules (app_of old)) (fields_of old).has_globals c

-- c is the command `old` with these subcommands after its own
abbrev pub AddsSubcommands : List Shape → (old c : Command) → Type 0
AddsSubcommands shapes old c = IsRead (with_subcommands shapes (app_of old)) (fields_of old).has_globals c
