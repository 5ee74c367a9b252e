use Rattle.std.proofs.Common.{map, subst}
use Rattle.std.specs.String.{string_bytes}
use Rattle.clap.specs.Simple.{HasMatchesOf}
use Rattle.command_words.specs.Typed.{LacksWords, Means}
use Rattle.command_words.proofs.Reporting.{lacking, refused_by, simple}
use Rattle.command_words.proofs.read.Goals as goal

pub returns-in-Ok-words_in-clause-typed : goal.returns-in-Ok-words_in-clause-typed
returns-in-Ok-words_in-clause-typed c =
    let m = c.in-Ok-try_get_matches_from.matches in
    let h = subst (λ a. HasMatchesOf a (map string_bytes c.args.typed.now) m) c.in-Ok.ensures c.in-Ok-try_get_matches_from.ensures.matches in
    subst (λ x. Means x c.in-Ok-words_in.words) (h simple).1 c.in-Ok-words_in.ensures.typed

pub returns-in-Ok-try_get_matches_from-clause-refused : goal.returns-in-Ok-try_get_matches_from-clause-refused
returns-in-Ok-try_get_matches_from-clause-refused c =
    let m = c.in-Ok-try_get_matches_from.matches in
    let h = subst (λ a. HasMatchesOf a (map string_bytes c.args.typed.now) m) c.in-Ok.ensures c.in-Ok-try_get_matches_from.ensures.matches in
    lacking (map string_bytes c.args.typed.now) c.in-Err-words_in.why (λ missing. subst LacksWords (h simple).1 (c.in-Err-words_in.ensures.lacks missing))

pub returns-clause-refused : goal.returns-clause-refused
returns-clause-refused c =
    refused_by (map string_bytes c.args.typed.now) c.in-Err.error _ c.in-Ok.ensures c.in-Err.ensures.passes c.in-Err.ensures.kinds
