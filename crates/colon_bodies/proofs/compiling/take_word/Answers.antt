use Rattle.std.proofs.Common.{inr, sym, ap, ◌∙◌, refl, arith}
use Rattle.std.specs.Prelude.{slice_index}
use Rattle.colon_bodies.specs.Rules.{suits, half_after}
use Rattle.colon_bodies.specs.Open.{past_after}
use Rattle.colon_bodies.specs.Draft.{token}
use Rattle.colon_bodies.proofs.Taking.{unsuited, second, deep, long_text, unknown_text, take_err, take_unknown, take_full, take_ok, drafted_marks, not_deep, false_test, not_over, once_if}
use Rattle.colon_bodies.proofs.Opened.{first_is, or_first}
use Rattle.std.proofs.lemmas.Result.{err_from_is_err_and}
use Rattle.colon_bodies.proofs.compiling.take_word.Goals as goal

pub returns-then-not-is_suited-clause-taken : goal.returns-then-not-is_suited-clause-taken
returns-then-not-is_suited-clause-taken c = λ o t h d k.
    inr (first_is (slice_index c.args.runtime.now) c.args.at c.args.limit o t h (token c.args.word) _ k (omega arith) (unsuited (slice_index c.args.runtime.now) c.args.at c.args.limit o t h (token c.args.word) (ap (λ g. suits g (token c.args.word)) (sym d.half_is) ∙ sym c.is_suited.ensures ∙ c.if-not-is_suited.true)))

pub returns-then-is_second-clause-taken : goal.returns-then-is_second-clause-taken
returns-then-is_second-clause-taken c = λ o t h d k.
    let x = c.is_second.ensures.0 c.if-is_second.true in
    inr (first_is (slice_index c.args.runtime.now) c.args.at c.args.limit o t h (token c.args.word) _ k (omega arith) (second (slice_index c.args.runtime.now) c.args.at c.args.limit o t h (token c.args.word) x.0 (sym d.past_is ∙ x.1)))

pub returns-then-is_too_deep-clause-taken : goal.returns-then-is_too_deep-clause-taken
returns-then-is_too_deep-clause-taken c = λ o t h d k.
    let m = drafted_marks (slice_index c.args.runtime.now) c.args.at o t h _ _ d.is in
    let x = c.is_too_deep.ensures.0 c.if-is_too_deep.true in
    let s = ap (λ g. suits g (token c.args.word)) (sym d.half_is) ∙ sym c.is_suited.ensures ∙ c.if-not-is_suited.false in
    inr (first_is (slice_index c.args.runtime.now) c.args.at c.args.limit o t h (token c.args.word) _ k (omega arith) (deep (slice_index c.args.runtime.now) c.args.at c.args.limit o t h (token c.args.word) s x.0 (omega (arith, x.1, m))))

pub returns-then-not-is_known-clause-taken : goal.returns-then-not-is_known-clause-taken
returns-then-not-is_known-clause-taken c = λ o t h d k.
    let s = ap (λ g. suits g (token c.args.word)) (sym d.half_is) ∙ sym c.is_suited.ensures ∙ c.if-not-is_suited.false in
    inr (first_is (slice_index c.args.runtime.now) c.args.at c.args.limit o t h (token c.args.word) _ k (omega arith) (unknown_text (slice_index c.args.runtime.now) c.args.at c.args.limit o t h (token c.args.word) s k (λ x. false_test _ _ c.is_known.ensures c.if-not-is_known.true x) (λ x. false_test _ _ c.is_short.ensures c.if-not-is_short.true x)))

pub returns-then-not-is_short-clause-taken : goal.returns-then-not-is_short-clause-taken
returns-then-not-is_short-clause-taken c = λ o t h d k.
    let s = ap (λ g. suits g (token c.args.word)) (sym d.half_is) ∙ sym c.is_suited.ensures ∙ c.if-not-is_suited.false in
    inr (first_is (slice_index c.args.runtime.now) c.args.at c.args.limit o t h (token c.args.word) _ k (omega arith) (long_text (slice_index c.args.runtime.now) c.args.at c.args.limit o t h (token c.args.word) s k (c.is_known.ensures.0 c.if-not-is_known.false) (λ x. false_test _ _ c.is_short.ensures c.if-not-is_short.true x)))

pub returns-then-not-is_known-2-clause-taken : goal.returns-then-not-is_known-2-clause-taken
returns-then-not-is_known-2-clause-taken c = λ o t h d k.
    let rt = slice_index c.args.runtime.now in
    let w = token c.args.word in
    let m = drafted_marks rt c.args.at o t h _ _ d.is in
    let s = ap (λ g. suits g w) (sym d.half_is) ∙ sym c.is_suited.ensures ∙ c.if-not-is_suited.false in
    inr (first_is (slice_index c.args.runtime.now) c.args.at c.args.limit o t h (token c.args.word) _ k (omega arith) (take_unknown rt c.args.at c.args.limit o t h w c.lay.new.d.image.items c.lay.new.d.marks.items k (λ e. not_deep _ _ _ _ c.is_too_deep.ensures c.if-is_too_deep.false m e) (λ x. false_test _ _ c.is_known-2.ensures c.if-not-is_known-2.true x) (c.in_ok-lay.ensures.taken o t h s d)))

pub returns-in_err-lay-clause-taken : goal.returns-in_err-lay-clause-taken
returns-in_err-lay-clause-taken c = λ o t h d k.
    let rt = slice_index c.args.runtime.now in
    let w = token c.args.word in
    let p = err_from_is_err_and c.from_residual.result c.from_residual.ensures.1 in
    let s = ap (λ g. suits g w) (sym d.half_is) ∙ sym c.is_suited.ensures ∙ c.if-not-is_suited.false in
    rw (p.1, p.2) (or_first rt c.args.at c.args.limit o t h w _ k (take_err rt c.args.at c.args.limit o t h w _ _ _ c.requires.inside s (once_if _ w _ _ c.is_second.ensures c.if-is_second.false d.past_is) (c.in_err-lay.ensures.taken o t h s d)))

pub returns-then-is_over-clause-taken : goal.returns-then-is_over-clause-taken
returns-then-is_over-clause-taken c = λ o t h d k.
    let rt = slice_index c.args.runtime.now in
    let w = token c.args.word in
    let m = drafted_marks rt c.args.at o t h _ _ d.is in
    let s = ap (λ g. suits g w) (sym d.half_is) ∙ sym c.is_suited.ensures ∙ c.if-not-is_suited.false in
    inr (first_is (slice_index c.args.runtime.now) c.args.at c.args.limit o t h (token c.args.word) _ k (omega arith) (take_full rt c.args.at c.args.limit o t h w c.lay.new.d.image.items c.lay.new.d.marks.items k (λ e. not_deep _ _ _ _ c.is_too_deep.ensures c.if-is_too_deep.false m e) (c.is_known-2.ensures.0 c.if-not-is_known-2.false) (c.is_short.ensures.0 c.if-not-is_short.false) (c.is_over.ensures.0 c.if-is_over.true) (c.in_ok-lay.ensures.taken o t h s d)))

pub returns-clause-taken : goal.returns-clause-taken
returns-clause-taken c = λ o t h d k.
    let rt = slice_index c.args.runtime.now in
    let w = token c.args.word in
    let m = drafted_marks rt c.args.at o t h _ _ d.is in
    let s = ap (λ g. suits g w) (sym d.half_is) ∙ sym c.is_suited.ensures ∙ c.if-not-is_suited.false in
    let f = c.in_ok-lay.ensures.half in
    take_ok rt c.args.at c.args.limit o t h w c.args.d.now _ c.lay.new.d.image.items c.lay.new.d.marks.items k (λ e. not_deep _ _ _ _ c.is_too_deep.ensures c.if-is_too_deep.false m e) (c.is_known-2.ensures.0 c.if-not-is_known-2.false) (c.is_short.ensures.0 c.if-not-is_short.false) (not_over _ _ _ c.is_over.ensures c.if-is_over.false) d refl refl (c.half_behind-d.ensures ∙ ap (λ g. half_after g w) f.0) (c.past_behind-d.ensures ∙ ap (λ b. past_after b w) f.1) (c.in_ok-lay.ensures.taken o t h s d)
