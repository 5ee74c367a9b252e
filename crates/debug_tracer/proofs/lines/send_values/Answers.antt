use Rattle.std.proofs.Common.{rules, reverse, ◌∙◌, sym}
use Rattle.debug_tracer.specs.Lines.{signed_text}
use Rattle.debug_tracer.proofs.Sending.{sent_more, sent_cut}
use Rattle.debug_tracer.proofs.lines.send_values.Goals as goal

pub loop-place-preserved : goal.loop-place-preserved
loop-place-preserved g c = record {
  told = sent_more signed_text c.loop-place.place (reverse c.args.values.now) c.in-Some.x _ _ _ (sym c.get.ensures ∙ c.in-Some.is) c.loop-place.invariant.told (search rules);
  mark = search rules;
}

pub returns-in-Err-clause-err : goal.returns-in-Err-clause-err
returns-in-Err-clause-err g c =
    sent_cut signed_text c.loop-place.place (reverse c.args.values.now) c.in-Some.x _ _ _ (sym c.get.ensures ∙ c.in-Some.is) c.loop-place.invariant.told (search rules)
