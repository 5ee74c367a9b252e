use Rattle.row_examples.proofs.laws.device_examples.Goals as goal
use Rattle.row_examples.proofs.Computed.{hold_devices}

pub returns : goal.returns
returns c = hold_devices
