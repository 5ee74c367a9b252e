-- What a call answers that judges the next lesson of a pupil.
use Rattle.std.specs.Prelude.{ℕ}
use Rattle.image_loader.specs.declared.fault.ImageFault.{ImageFault}
use Rattle.image_loader.specs.declared.fault.ImageFault.TheVariants as fault

-- the numbers of the header for bytes that are no image's file
abbrev pub fault_code : ImageFault → ℕ
fault_code fault.OutOfMemory = 2
fault_code fault.Truncated = 4
fault_code fault.TrailingBytes = 5
fault_code fault.BadMagic = 6
fault_code fault.BadVersion = 7
fault_code fault.BadBuffers = 8
fault_code fault.BadSize = 9
