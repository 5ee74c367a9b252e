use Rattle.std.proofs.Common.{rules, inr}
use Rattle.serve_subcommand.proofs.serve_command.do_serve.Goals as goal

pub returns-in-Err-clause-served : goal.returns-in-Err-clause-served
returns-in-Err-clause-served g c = λ file f. inr (record {
  reader_is = search rules;
  device_is = search rules;
  status_is = search rules;
  printed = λ kept. c.refuse_image.ensures.out_of_memory kept (c.in-Err.ensures.accepted file f);
})
