use Rattle.std.proofs.Common.{◌<◌, inr, sym, ap, ◌∙◌, arith}
use Rattle.colon_bodies.specs.Tokens.{SEMI}
use Rattle.colon_bodies.specs.Rules.{suits}
use Rattle.colon_bodies.specs.Open.{frames}
use Rattle.colon_bodies.proofs.Taking.{unsuited, ends_inside, end_ok, end_full, end_unknown, drafted_marks, open_some, not_over}
use Rattle.colon_bodies.proofs.Opened.{first_is}
use Rattle.colon_bodies.proofs.compiling.finish.Goals as goal

pub returns-then-not-is_suited-clause-ended : goal.returns-then-not-is_suited-clause-ended
returns-then-not-is_suited-clause-ended c = λ rt o t h r d k.
    inr (first_is rt c.args.at c.args.limit o t h SEMI _ k (omega arith) (unsuited rt c.args.at c.args.limit o t h SEMI (ap (λ g. suits g SEMI) (sym d.half_is) ∙ sym c.is_suited.ensures ∙ c.if-not-is_suited.true)))

pub returns-then-not-is_all_closed-clause-ended : goal.returns-then-not-is_all_closed-clause-ended
returns-then-not-is_all_closed-clause-ended c = λ rt o t h r d k.
    let m = drafted_marks rt c.args.at o t h _ _ d.is in
    let s = ap (λ g. suits g SEMI) (sym d.half_is) ∙ sym c.is_suited.ensures ∙ c.if-not-is_suited.false in
    let pos : 0 < frames o = open_some _ _ _ c.is_all_closed.ensures c.if-not-is_all_closed.true m in
    inr (first_is rt c.args.at c.args.limit o t h SEMI _ k (omega arith) (ends_inside rt c.args.at c.args.limit o t h s pos))

pub returns-then-control-eq0-clause-ended : goal.returns-then-control-eq0-clause-ended
returns-then-control-eq0-clause-ended c = λ rt o t h r d k.
    let m = drafted_marks rt c.args.at o t h _ _ d.is in
    let s = ap (λ g. suits g SEMI) (sym d.half_is) ∙ sym c.is_suited.ensures ∙ c.if-not-is_suited.false in
    let z = c.is_all_closed.ensures.0 c.if-not-is_all_closed.false in
    inr (first_is rt c.args.at c.args.limit o t h SEMI _ k (omega arith) (end_unknown rt c.args.at c.args.limit o t h s (omega (arith, m, z)) k (λ n. n (r ∙ c.if-control-eq0.true))))

pub returns-then-is_over-clause-ended : goal.returns-then-is_over-clause-ended
returns-then-is_over-clause-ended c = λ rt o t h r d k.
    let m = drafted_marks rt c.args.at o t h _ _ d.is in
    let s = ap (λ g. suits g SEMI) (sym d.half_is) ∙ sym c.is_suited.ensures ∙ c.if-not-is_suited.false in
    let z = c.is_all_closed.ensures.0 c.if-not-is_all_closed.false in
    inr (first_is rt c.args.at c.args.limit o t h SEMI _ k (omega arith) (end_full rt c.args.at c.args.limit o t h _ _ _ c.args.control s (omega (arith, m, z)) k (λ e. c.if-control-eq0.false (sym r ∙ e)) d.is c.in_ok-lay_cell.ensures.bytes (c.is_over.ensures.0 c.if-is_over.true)))

pub returns-clause-ended : goal.returns-clause-ended
returns-clause-ended c = λ rt o t h r d k.
    let m = drafted_marks rt c.args.at o t h _ _ d.is in
    let s = ap (λ g. suits g SEMI) (sym d.half_is) ∙ sym c.is_suited.ensures ∙ c.if-not-is_suited.false in
    let z = c.is_all_closed.ensures.0 c.if-not-is_all_closed.false in
    end_ok rt c.args.at c.args.limit o t h _ _ _ c.args.control s (omega (arith, m, z)) (λ e. c.if-control-eq0.false (sym r ∙ e)) r d.is c.in_ok-lay_cell.ensures.bytes (not_over _ _ _ c.is_over.ensures c.if-is_over.false)
