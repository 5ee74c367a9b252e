-- What the ends of a run report of themselves, at one moment.
use Rattle.std.specs.Prelude.{ℕ, Bool, List, Option}
use Rattle.block_buffers.specs.DeviceCalls.{DeviceCall}
use Rattle.block_buffers.specs.Disks.{Disk}
use Rattle.block_buffers.specs.declared.devices.Device as device
use Rattle.inner_interpreter.specs.declared.ends.Input as input
use Rattle.inner_interpreter.specs.declared.ends.Output as output
use Rattle.inner_interpreter.specs.Moves.{Logs, logs}

-- of a reader: the bytes that it has left, if it reports them; what its calls gave so far, bytes and ends; whether one has failed
pub record ReaderEnd : Type 0 where
  pub unread : Option (List ℕ)
  pub reads : List (Option ℕ)
  pub failed : Bool

-- of a writer: the bytes that it took, if it reports them; whether a flush passed all of them on; whether a call has failed
pub record WriterEnd : Type 0 where
  pub sent : Option (List ℕ)
  pub passed : Bool
  pub failed : Bool

-- of a device: its blocks, if it reports them; how many it has; and the calls that it was given so far
pub record DeviceEnd : Type 0 where
  pub disk : Option Disk
  pub block_count : ℕ
  pub calls : List DeviceCall

-- of all three
pub record RunEnds : Type 0 where
  pub reader : ReaderEnd
  pub writer : WriterEnd
  pub device : DeviceEnd

abbrev pub reader_end : {R : Type 0} → input.Ghosts R → R → ReaderEnd
reader_end g r = record { unread = g.unread r; reads = g.reads r; failed = g.failed r }

abbrev pub writer_end : {W : Type 0} → output.Ghosts W → W → WriterEnd
writer_end g w = record { sent = g.sent w; passed = g.passed w; failed = g.failed w }

abbrev pub device_end : {D : Type 0} → device.Ghosts D → D → DeviceEnd
device_end g d = record { disk = g.disk d; block_count = g.block_count d; calls = g.calls d }

abbrev pub run_ends : {R W D : Type 0} → input.Ghosts R → output.Ghosts W → device.Ghosts D → R → W → D → RunEnds
run_ends rs ws ds reader writer device =
    record { reader = reader_end rs reader; writer = writer_end ws writer; device = device_end ds device }

-- what they keep of a run
abbrev pub logs_of : RunEnds → Logs
logs_of ends = logs ends.device.calls ends.writer.sent ends.reader.reads
