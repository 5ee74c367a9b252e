use Rattle.std.proofs.Common.{◌∙◌, sym, ap, Some, option_map}
use Rattle.clap.specs.Matches.{found_of}
use Rattle.clap.proofs.WalkLemmas.{first_value-rows}
use Rattle.command_words.proofs.reading.text_if_given.Goals as goal

pub returns-in-None-clause-typed : goal.returns-in-None-clause-typed
returns-in-None-clause-typed c =
    sym (first_value-rows (found_of c.args.matches.now) c.args.name.now) ∙ sym c.get_str.ensures ∙ ap (option_map (λ s. s.now)) c.in-None.is

pub returns-in_ok-owned-in-Some-clause-typed : goal.returns-in_ok-owned-in-Some-clause-typed
returns-in_ok-owned-in-Some-clause-typed c =
    sym (first_value-rows (found_of c.args.matches.now) c.args.name.now) ∙ sym c.get_str.ensures ∙ ap (option_map (λ s. s.now)) c.in-Some.is
    ∙ ap Some (sym c.in_ok-owned-in-Some.ensures.text)
