-- What becomes of a command line that clap refuses, or of which no words come.
use Rattle.std.proofs.Common.{◌≡◌, inl, inr, Bool, true, false, List, refl, sym, subst}
use Rattle.clap.specs.Simple.{App, is_simple, subcommand_of}
use Rattle.clap.specs.Takes.{takes}
use Rattle.clap.specs.Values.{kind_of}
use Rattle.clap.specs.Walk.{Text}
use Rattle.clap.specs.Words.{HasKind, fault_of, is_simple_and_free}
use Rattle.clap.specs.declared.error.Error.{Error}
use Rattle.clap.specs.declared.error.kind.ErrorKind.TheVariants.{OutOfMemory}
use Rattle.command_words.specs.CommandLine.{forth83}
use Rattle.command_words.specs.CommandLine as line
use Rattle.command_words.specs.Refused.{IsParsed, IsRefused, IsReport}
use Rattle.command_words.specs.declared.Parsed.{Parsed}
use Rattle.command_words.specs.declared.Refusal.{Refusal}
use Rattle.command_words.specs.declared.Refusal.TheVariants.{Clap}
use Rattle.command_words.specs.declared.Refusal.TheVariants as refusal
use Rattle.command_words.specs.Typed.{LacksWords}
use Rattle.command_words.specs.declared.reading.Unread.{Unread}
use Rattle.command_words.specs.declared.reading.Unread.TheVariants as unread

-- clap gives the matches of this command line
pub simple : is_simple forth83 ≡ true
unfolding line.kernel line.build line.load line.upgrade line.text line.screens line.new line.import line.export line.run line.see line.debug line.view
    line.serve line.survey line.judge line.unpack line.pack line.guess line.advise line.headings
simple = refl

free : is_simple_and_free forth83 ≡ true
unfolding line.kernel line.build line.load line.upgrade line.text line.screens line.new line.import line.export line.run line.see line.debug line.view
    line.serve line.survey line.judge line.unpack line.pack line.guess line.advise line.headings
free = refl

by_taken : (typed : List Text) (e : Error) (b : Bool) → takes forth83 typed ≡ b → (takes forth83 typed ≡ true → kind_of e ≡ OutOfMemory)
    → HasKind (fault_of forth83 typed) e → IsRefused typed (Clap e)
by_taken typed e true q passes kinds = inl (passes q)
by_taken typed e false q passes kinds = elim kinds [
  | inl out ↦ inl out
  | inr among ↦ inr (q, among)
]

-- an error of clap's is one that the command line has
pub refused_by : (typed : List Text) (e : Error) (a : App) → a ≡ forth83 → (takes a typed ≡ true → kind_of e ≡ OutOfMemory)
    → (is_simple_and_free a ≡ true → HasKind (fault_of a typed) e) → IsRefused typed (Clap e)
refused_by typed e a same passes kinds =
    by_taken typed e (takes forth83 typed) refl (subst (λ b. takes b typed ≡ true → kind_of e ≡ OutOfMemory) same passes)
    (subst (λ b. is_simple_and_free b ≡ true → HasKind (fault_of b typed) e) same kinds free)

-- the words lack a part, or memory ran out
pub lacking : (typed : List Text) (why : Unread) → (why ≡ unread.Missing → LacksWords (subcommand_of forth83 typed)) → IsRefused typed (refusal.Unread why)
lacking typed unread.Missing h = h refl
lacking typed unread.OutOfMemory h = tt

-- what is said of a refusal is said of how the program ends
pub reported : (typed : List Text) (why : Refusal) (p : Parsed) → IsRefused typed why → IsReport why p → IsParsed typed p
reported typed (refusal.Unread unread.OutOfMemory) p is report = subst (IsParsed typed) (sym report) (inl refl)
reported typed (refusal.Unread unread.Missing) p is (inl report) = subst (IsParsed typed) (sym report) (inr (inr (is, inl refl)))
reported typed (refusal.Unread unread.Missing) p is (inr report) = subst (IsParsed typed) (sym report) (inr (inr (is, inr refl)))
reported typed (Clap e) p is (inl report) = subst (IsParsed typed) (sym report.1) (inl refl)
reported typed (Clap e) p (inl out) (inr (told, report)) = absurd (told out)
reported typed (Clap e) p (inr is) (inr (told, inl report)) = subst (IsParsed typed) (sym report) (inr (inl (is.0, kind_of e, is.1, inl refl)))
reported typed (Clap e) p (inr is) (inr (told, inr report)) = subst (IsParsed typed) (sym report) (inr (inl (is.0, kind_of e, is.1, inr refl)))
