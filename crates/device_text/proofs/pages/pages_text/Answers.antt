use Rattle.std.proofs.Common.{◌∙◌, ◌+◌, ◌-◌, ◌++◌, ap, arith, refl, rules}
use Rattle.block_buffers.proofs.Likeness.{like_none, like_so_far}
use Rattle.device_text.proofs.Progress.{all_read, as_many_printed, begun_read, keeps_more, keeps_all, none_printed, one_more_read, one_printed, one_stops_read}
use Rattle.device_text.proofs.pages.pages_text.Goals as goal

pub loop-index-init : goal.loop-index-init
loop-index-init g c = record {
  counted = refl;
  read = none_printed c.args.from _ _ _ c.new-text.ensures.items;
  taken = λ d e did. begun_read d e _ c.args.from (c.args.to + 1 - c.args.from) _ _ c.new-text.ensures.items did;
  like = λ d e. like_none d _ _ _ _ c.count.ensures.value c.count.ensures.told e;
  kept = keeps_all _;
}

pub loop-index-preserved : goal.loop-index-preserved
loop-index-preserved g c =
    let added = c.in-Ok-extend_from_slice.ensures.items ∙ ap (λ xs. c.loop-index.text.items ++ xs) c.as_slice.ensures.value in
    let i = c.loop-index.invariant in
    record {
      counted = c.page_text.ensures.counted ∙ i.counted;
      read = one_printed c.args.from c.loop-index.index _ _ _ _ _ _ _ _ i.counted i.read c.in-Ok.ensures.asked added;
      taken = λ d e did. one_more_read d e c.args.from (c.args.to + 1 - c.args.from) _ _ c.loop-index.index _ _ _ _ _ _ _ i.counted i.read.are c.in-Ok.ensures.asked.1 (λ x y z. i.taken x y z) (omega arith) c.in-Ok.ensures.text c.in-Ok.ensures.left added did;
      like = λ d e. like_so_far d _ _ _ _ _ _ _ i.counted (i.like d e) c.page_text.ensures.like;
      kept = keeps_more _ _ _ i.kept c.in-Ok.ensures.kept;
    }

pub returns-in-Err-clause-refused : goal.returns-in-Err-clause-refused
returns-in-Err-clause-refused g c = λ d e did.
    let i = c.loop-index.invariant in
    one_stops_read d e c.args.from (c.args.to + 1 - c.args.from) _ _ c.loop-index.index _ c.in-Err.why _ _ _ _ i.counted i.read.are c.in-Err.ensures.asked.1 (λ x y z. i.taken x y z) (omega arith) c.in-Err.ensures.refused did

pub returns-in-Err-clause-like : goal.returns-in-Err-clause-like
returns-in-Err-clause-like g c = λ d e. like_so_far d _ _ _ _ _ _ _ c.loop-index.invariant.counted (c.loop-index.invariant.like d e) c.page_text.ensures.like

pub returns-in-Err-extend_from_slice-clause-like : goal.returns-in-Err-extend_from_slice-clause-like
returns-in-Err-extend_from_slice-clause-like g c = λ d e. like_so_far d _ _ _ _ _ _ _ c.loop-index.invariant.counted (c.loop-index.invariant.like d e) c.page_text.ensures.like

pub returns-clause-text : goal.returns-clause-text
returns-clause-text g c = λ d e did. all_read d c.args.from (c.args.to + 1 - c.args.from) c.loop-index.index _ _ (c.loop-index.invariant.taken d e did) (omega arith)

pub returns-clause-read : goal.returns-clause-read
returns-clause-read g c = as_many_printed c.args.from _ _ _ _ _ _ (omega arith) c.loop-index.invariant.read
