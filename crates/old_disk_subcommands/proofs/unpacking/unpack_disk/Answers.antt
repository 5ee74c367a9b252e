use Rattle.std.proofs.Common.{ap, rules, inl, inr}
use Rattle.named_files.proofs.Making.{made, of_err, read_so, refused, refuses, stopped, taken, then}
use Rattle.old_disk_subcommands.proofs.Growing.{reads_disk}
use Rattle.old_disk_subcommands.proofs.unpacking.unpack_disk.Goals as goal

pub returns-in_err-plain-clause-refused : goal.returns-in_err-plain-clause-refused
returns-in_err-plain-clause-refused g c =
    let same = ap (λ f. f.written) c.in_err-plain.ensures.files in
    of_err c.from_residual.result _ _ c.from_residual.ensures.1
    (inl (elim c.in_err-plain.ensures.refused [
      | inl h ↦ inl (refuses _ _ _ _ _ h.0 (refused _ _ _ _ _ h) same)
      | inr more ↦ elim more [
        | inl h ↦ inr (inl (refuses _ _ _ _ _ h.0 (refused _ _ _ _ _ h) same))
        | inr h ↦ inr (inr (refuses _ _ _ _ _ h.0 (refused _ _ _ _ _ h) same))
      ]
    ]))

pub returns-in_err-before-clause-refused : goal.returns-in_err-before-clause-refused
returns-in_err-before-clause-refused g c =
    let lt = c.in_err-before.ensures.asked.0 in
    of_err c.from_residual-in_err-before.result _ _ c.from_residual-in_err-before.ensures.1
    (inr (rw (← c.in_ok-plain.ensures.same) (refuses _ _ _ _ _ lt (stopped _ _ _ _ _ lt c.in_err-before.ensures.asked.1) (search rules))))

pub returns-in_err-bytes-clause-refused : goal.returns-in_err-bytes-clause-refused
returns-in_err-bytes-clause-refused g c =
    let lt = c.in_err-bytes.ensures.asked.0 in
    of_err c.from_residual-in_err-bytes.result _ _ c.from_residual-in_err-bytes.ensures.1
    (inr (rw (← c.in_ok-plain.ensures.same)
    (refuses _ _ _ _ _ lt (then _ _ _ _ _ _ c.in_ok-before.ensures.asked (refused _ _ _ _ _ c.in_err-bytes.ensures.asked)) (search rules))))

pub returns-clause-unpacked : goal.returns-clause-unpacked
returns-clause-unpacked g c = rw (← c.in_ok-plain.ensures.same) (record {
  bytes = c.in_ok-bytes.bytes.items;
  before = c.in_ok-before.before.items;
  reads = reads_disk _ _ _ _ _ _ _ _ _ _ _ c.in_ok-before.ensures.read c.in_ok-before.ensures.none c.in_ok-bytes.ensures.read
      (read_so _ _ _ _ _ _ c.write_made.ensures.none c.write_made.ensures.made);
  ended = c.do_unpack-status.result.status;
  makes = made _ _ c.do_unpack-status.result.file _ _ _ _ _ _ _ _
      (then _ _ _ _ _ _ c.in_ok-before.ensures.asked (taken _ _ _ c.in_ok-bytes.ensures.asked))
      (search rules) c.do_unpack-status.ensures.file c.write_made.ensures.none c.write_made.ensures.made;
  printed = c.do_unpack-status.ensures.printed;
  refused = c.do_unpack-status.ensures.refused;
})
