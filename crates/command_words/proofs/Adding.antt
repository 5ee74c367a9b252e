-- Arguments and subcommands that are added one after another.
use Rattle.std.proofs.Common.{rules, ◌≡◌, ◌∙◌, ◌||◌, ap, refl, IfOk, Result, Ok, Err, Option, Some, Bool, true, false, List, Bor}
use Rattle.clap.specs.Built.{AddsArg, AddsSubcommand}
use Rattle.clap.specs.Walk.{Rule, Text, rule_of}
use Rattle.clap.specs.Simple.{App, Shape, app_of, app_of_fields, on_top, with_rule, with_subcommand}
use Rattle.clap.specs.declared.builder.arg.Arg.{Arg}
use Rattle.clap.specs.declared.builder.command.Command.{Command}
use Rattle.clap.specs.declared.builder.command.Command.TheViews.{out-Command as fields_of}
use Rattle.command_words.specs.CommandLine.{Adds, AddsSubcommands, IsRead, IsSubcommand, with_rules, with_subcommands}

-- a command, and what it is about
pub about : (a : App) (g : Bool) (c d : Command) (text : Option (Bor Text)) → app_of c ≡ a → (fields_of c).has_globals ≡ g
    → fields_of d ≡ record (fields_of c) { about = text } → IsRead a g d
about a g c d text i l e = record {
  app = ap app_of_fields e ∙ i;
  local = ap (λ f. f.has_globals) e ∙ l;
}

or_false : (x : Bool) → (x || false) ≡ x
or_false true = refl
or_false false = refl

-- an argument more
pub grown : (a : App) (g : Bool) (c : Command) (arg : Arg) (r : Rule) (d : Command) → IsRead a g c → rule_of arg ≡ r → arg.global ≡ false
    → AddsArg c arg d → IsRead (with_rule a r) g d
grown a g c arg r d i e l h = record {
  app = h.shape l ∙ ap (λ x. with_rule x (rule_of arg)) i.app ∙ ap (with_rule a) e;
  local = h.globals ∙ ap (λ x. (fields_of c).has_globals || x) l ∙ ap (λ x. x || false) i.local ∙ or_false g;
}

-- several arguments more
pub passed : (a : App) (g : Bool) (rules : List Rule) (c d : Command) → IsRead a g c → Adds rules c d → IsRead (with_rules rules a) g d
passed a g rules c d i h = record {
  app = h.app ∙ ap (with_rules rules) i.app;
  local = h.local ∙ i.local;
}

-- a subcommand more
pub joined : (a : App) (g : Bool) (s : Shape) (c sub d : Command) → IsRead a g c → IsSubcommand s sub → AddsSubcommand c sub d
    → IsRead (with_subcommand a s) g d
joined a g s c sub d i j h = record {
  app = h.shape j.local ∙ ap (λ x. with_subcommand x (app_of sub).top) i.app ∙ ap (λ x. with_subcommand a x.top) j.app;
  local = h.globals ∙ ap (λ x. x || (fields_of sub).has_globals) i.local ∙ ap (λ x. g || x) j.local ∙ or_false g;
}

-- several subcommands more
pub gathered : (a : App) (g : Bool) (shapes : List Shape) (c d : Command) → IsRead a g c → AddsSubcommands shapes c d
    → IsRead (with_subcommands shapes a) g d
gathered a g shapes c d i h = record {
  app = h.app ∙ ap (with_subcommands shapes) i.app;
  local = h.local ∙ i.local;
}

pub if_ok_then : {T E : Type 0} (r : Result T E) (P Q : T → Type 0) → ((x : T) → P x → Q x) → IfOk r P → IfOk r Q
if_ok_then (Ok x) P Q f h = f x h
if_ok_then (Err e) P Q f h = tt

-- the settings of the program's own command
pub versioned : (a : App) (g : Bool) (c d : Command) (text : Bor Text) → IsRead a g c
    → fields_of d ≡ record (fields_of c) { version = Some text } → IsRead (on_top (λ s. record s { has_version = true }) a) g d
versioned a g c d text i e = record {
  app = ap app_of_fields e ∙ ap (on_top (λ s. record s { has_version = true })) i.app;
  local = ap (λ f. f.has_globals) e ∙ i.local;
}

pub required : (a : App) (g : Bool) (c d : Command) → IsRead a g c → fields_of d ≡ record (fields_of c) { subcommand_required = true }
    → IsRead (on_top (λ s. record s { subcommand_required = true }) a) g d
required a g c d i e = record {
  app = ap app_of_fields e ∙ ap (on_top (λ s. record s { subcommand_required = true })) i.app;
  local = ap (λ f. f.has_globals) e ∙ i.local;
}

pub helped : (a : App) (g : Bool) (c d : Command) → IsRead a g c → fields_of d ≡ record (fields_of c) { arg_required_else_help = true }
    → IsRead (on_top (λ s. record s { arg_required_else_help = true }) a) g d
helped a g c d i e = record {
  app = ap app_of_fields e ∙ ap (on_top (λ s. record s { arg_required_else_help = true })) i.app;
  local = ap (λ f. f.has_globals) e ∙ i.local;
}
