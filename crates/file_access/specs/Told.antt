-- What a device over a file, or over none, says of its blocks.
use Rattle.std.specs.Prelude.{[], Option, Some, None}
use Rattle.std.specs.declared.fs.File.{File}
use Rattle.block_buffers.specs.Disks.{Disk}

-- that it has none, if there is no file; of those in a file, nothing
abbrev pub told : Option File → Option Disk
told None = Some (record { blocks = []; coming = [] })
told (Some _) = None
