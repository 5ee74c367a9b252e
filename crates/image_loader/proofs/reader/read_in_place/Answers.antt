use Rattle.image_loader.proofs.Tails.{are_bytes}
use Rattle.image_loader.proofs.Verdicts.{found, accepted, known, truncated, trailing, bad_magic, bad_version, bad_buffers, bad_size}
use Rattle.image_loader.proofs.reader.read_in_place.Goals as goal

pub returns-clause-accepted : goal.returns-clause-accepted
returns-clause-accepted c = λ image f. accepted c.args.bytes.now c.find_image.result image c.find_image.ensures f

pub returns-clause-found : goal.returns-clause-found
returns-clause-found c = found c.args.bytes.now c.find_image.result (are_bytes c.args.bytes.now c.type_inv.bytes) c.find_image.ensures

pub returns-clause-known : goal.returns-clause-known
returns-clause-known c = known c.args.bytes.now c.find_image.result (are_bytes c.args.bytes.now c.type_inv.bytes) c.find_image.ensures

pub returns-clause-truncated : goal.returns-clause-truncated
returns-clause-truncated c = truncated c.args.bytes.now c.find_image.result (are_bytes c.args.bytes.now c.type_inv.bytes) c.find_image.ensures

pub returns-clause-trailing : goal.returns-clause-trailing
returns-clause-trailing c = trailing c.args.bytes.now c.find_image.result (are_bytes c.args.bytes.now c.type_inv.bytes) c.find_image.ensures

pub returns-clause-bad_magic : goal.returns-clause-bad_magic
returns-clause-bad_magic c = bad_magic c.args.bytes.now c.find_image.result (are_bytes c.args.bytes.now c.type_inv.bytes) c.find_image.ensures

pub returns-clause-bad_version : goal.returns-clause-bad_version
returns-clause-bad_version c = bad_version c.args.bytes.now c.find_image.result (are_bytes c.args.bytes.now c.type_inv.bytes) c.find_image.ensures

pub returns-clause-bad_buffers : goal.returns-clause-bad_buffers
returns-clause-bad_buffers c = bad_buffers c.args.bytes.now c.find_image.result (are_bytes c.args.bytes.now c.type_inv.bytes) c.find_image.ensures

pub returns-clause-bad_size : goal.returns-clause-bad_size
returns-clause-bad_size c = bad_size c.args.bytes.now c.find_image.result (are_bytes c.args.bytes.now c.type_inv.bytes) c.find_image.ensures
