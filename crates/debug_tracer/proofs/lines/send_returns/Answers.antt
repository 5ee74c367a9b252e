use Rattle.std.proofs.Common.{rules, reverse, ◌∙◌, sym}
use Rattle.debug_tracer.specs.Lines.{unsigned_text}
use Rattle.debug_tracer.proofs.Sending.{sent_more, sent_cut}
use Rattle.debug_tracer.proofs.lines.send_returns.Goals as goal

pub loop-place-preserved : goal.loop-place-preserved
loop-place-preserved g c = record {
  told = sent_more unsigned_text c.loop-place.place (reverse c.args.returns.now) c.in-Some.x _ _ _ (sym c.get.ensures ∙ c.in-Some.is) c.loop-place.invariant.told (search rules);
  mark = search rules;
}

pub returns-in-Err-clause-err : goal.returns-in-Err-clause-err
returns-in-Err-clause-err g c =
    sent_cut unsigned_text c.loop-place.place (reverse c.args.returns.now) c.in-Some.x _ _ _ (sym c.get.ensures ∙ c.in-Some.is) c.loop-place.invariant.told (search rules)
