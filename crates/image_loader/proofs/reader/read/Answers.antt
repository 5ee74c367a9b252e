use Rattle.image_loader.specs.declared.fault.ImageFault.TheVariants as fault
use Rattle.image_loader.proofs.Copies.{same_fault, same_found, same_accepted, out_of_memory}
use Rattle.image_loader.proofs.reader.read.Goals as goal

pub returns-clause-found : goal.returns-clause-found
returns-clause-found c = same_found c.read_in_place.result c.copied.result _ c.copied.ensures c.read_in_place.ensures.found

pub returns-clause-accepted : goal.returns-clause-accepted
returns-clause-accepted c = λ image f. same_accepted c.read_in_place.result c.copied.result image c.copied.ensures (c.read_in_place.ensures.accepted image f)

pub returns-clause-out_of_memory : goal.returns-clause-out_of_memory
returns-clause-out_of_memory c = out_of_memory c.read_in_place.result c.copied.result _ c.copied.ensures c.read_in_place.ensures.found c.read_in_place.ensures.known

pub returns-clause-truncated : goal.returns-clause-truncated
returns-clause-truncated c = same_fault c.read_in_place.result c.copied.result fault.Truncated _ (λ e. absurd (cc)) c.copied.ensures c.read_in_place.ensures.truncated

pub returns-clause-trailing : goal.returns-clause-trailing
returns-clause-trailing c = same_fault c.read_in_place.result c.copied.result fault.TrailingBytes _ (λ e. absurd (cc)) c.copied.ensures c.read_in_place.ensures.trailing

pub returns-clause-bad_magic : goal.returns-clause-bad_magic
returns-clause-bad_magic c = same_fault c.read_in_place.result c.copied.result fault.BadMagic _ (λ e. absurd (cc)) c.copied.ensures c.read_in_place.ensures.bad_magic

pub returns-clause-bad_version : goal.returns-clause-bad_version
returns-clause-bad_version c = same_fault c.read_in_place.result c.copied.result fault.BadVersion _ (λ e. absurd (cc)) c.copied.ensures c.read_in_place.ensures.bad_version

pub returns-clause-bad_buffers : goal.returns-clause-bad_buffers
returns-clause-bad_buffers c = same_fault c.read_in_place.result c.copied.result fault.BadBuffers _ (λ e. absurd (cc)) c.copied.ensures c.read_in_place.ensures.bad_buffers

pub returns-clause-bad_size : goal.returns-clause-bad_size
returns-clause-bad_size c = same_fault c.read_in_place.result c.copied.result fault.BadSize _ (λ e. absurd (cc)) c.copied.ensures c.read_in_place.ensures.bad_size
