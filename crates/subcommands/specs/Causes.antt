-- How refusals are spelled.
use Rattle.std.specs.Prelude.{ℕ, List, ◌++◌, codes, decimal}
use Rattle.image_loader.specs.Files.{IsCutShort, IsFollowed, HasBadMagic, HasBadVersion, HasBadBuffers, HasBadSize}
use Rattle.image_loader.specs.declared.fault.ImageFault.{ImageFault}
use Rattle.image_loader.specs.declared.fault.ImageFault.TheVariants as image
use Rattle.image_loader.specs.declared.upgrading.UpgradeFault.{UpgradeFault}
use Rattle.image_loader.specs.declared.upgrading.UpgradeFault.TheVariants as upgrade
use Rattle.image_builder.specs.declared.cause.Cause.{Cause}
use Rattle.image_builder.specs.declared.cause.Cause.TheVariants as build
use Rattle.see.specs.declared.refusal.SeeRefused.{SeeRefused}
use Rattle.see.specs.declared.refusal.SeeRefused.TheVariants as see
use Rattle.see.specs.declared.refusal.ViewRefused.{ViewRefused}
use Rattle.see.specs.declared.refusal.ViewRefused.TheVariants as view

abbrev pub image_cause : ImageFault → List ℕ
image_cause image.Truncated = codes "Truncated"
image_cause image.BadMagic = codes "BadMagic"
image_cause image.BadVersion = codes "BadVersion"
image_cause image.BadBuffers = codes "BadBuffers"
image_cause image.BadSize = codes "BadSize"
image_cause image.TrailingBytes = codes "TrailingBytes"
image_cause image.OutOfMemory = codes "OutOfMemory"

abbrev pub build_cause : Cause → List ℕ
build_cause build.OutOfMemory = codes "out of memory"
build_cause build.EndsInside = codes "EndsInside"
build_cause build.BadNumber = codes "BadNumber"
build_cause build.BadPrimitive = codes "BadPrimitive"
build_cause build.Misplaced = codes "Misplaced"
build_cause build.Unbalanced = codes "Unbalanced"
build_cause build.Unknown = codes "Unknown"
build_cause build.BadName = codes "BadName"
build_cause build.Full = codes "Full"
build_cause build.NoBoot = codes "NoBoot"
build_cause build.Device = codes "Device"

abbrev pub upgrade_cause : UpgradeFault → List ℕ
upgrade_cause upgrade.TooLarge = codes "TooLarge"
upgrade_cause upgrade.OutOfMemory = codes "OutOfMemory"

abbrev pub view_cause : ViewRefused → List ℕ
view_cause view.NotFound = codes "NotFound"
view_cause view.ChainTooLong = codes "ChainTooLong"

abbrev pub see_cause : SeeRefused → List ℕ
see_cause see.NotFound = codes "NotFound"
see_cause see.ChainTooLong = codes "ChainTooLong"
see_cause see.NotColon = codes "NotColon"
see_cause see.NotStructured = codes "NotStructured"
see_cause (see.Nameless cell) = codes "Nameless " ++ decimal cell
see_cause see.Shadowed = codes "Shadowed"
see_cause see.BadText = codes "BadText"
see_cause see.OutOfMemory = codes "OutOfMemory"

-- why these bytes are no image's file
abbrev pub IsNoFile : List ℕ → ImageFault → Type 0
IsNoFile bytes image.Truncated = IsCutShort bytes
IsNoFile bytes image.BadMagic = HasBadMagic bytes
IsNoFile bytes image.BadVersion = HasBadVersion bytes
IsNoFile bytes image.BadBuffers = HasBadBuffers bytes
IsNoFile bytes image.BadSize = HasBadSize bytes
IsNoFile bytes image.TrailingBytes = IsFollowed bytes
IsNoFile bytes image.OutOfMemory = ⊥
