use Rattle.std.proofs.Common.{refl, subst, take}
use Rattle.image_loader.specs.Files.{Contents, IsWritten}
use Rattle.memory.specs.Mirrored.{stored}
use Rattle.machine.specs.Registers.{state_of}
use Rattle.forth83_c.proofs.running.save.Goals as goal

pub returns-in-Ok-write_into-clause-saved : goal.returns-in-Ok-write_into-clause-saved
returns-in-Ok-write_into-clause-saved c = λ _.
    let s = state_of (stored c.args.kept.now.memory) c.in-Some.rest in
    let bytes = take c.in-Ok-write_into.count c.write_into.new.room in
    record {
      state = s;
      is_kept = c.in-Some.ensures;
      fits = c.in-Ok.ensures.fits s.parts refl refl;
      written = subst (λ (i : Contents). IsWritten bytes i) (c.in-Ok.ensures.saved s.parts refl refl) c.in-Ok-write_into.ensures.written;
    }

pub returns-in-Err-clause-why : goal.returns-in-Err-clause-why
returns-in-Err-clause-why c =
    let s = state_of (stored c.args.kept.now.memory) c.in-Some.rest in
    let more = c.in-Err.ensures.short.0 refl in
    (s, c.in-Some.ensures, (more.0, subst (λ (i : Contents). IsWritten more.0 i) (c.in-Ok.ensures.saved s.parts refl refl) more.1, more.2))
