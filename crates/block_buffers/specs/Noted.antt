-- A call of a device, as it is noted.
use Rattle.block_buffers.specs.DeviceCalls.{DeviceCall, WasRead, ReadFailed, WasWritten, WriteFailed}
use Rattle.block_buffers.specs.declared.page_log.Called.{Called}
use Rattle.block_buffers.specs.declared.page_log.Called.TheVariants as called

abbrev pub call_of : Called → DeviceCall
call_of (called.Read block page) = WasRead block page.now
call_of (called.ReadFailed block) = ReadFailed block
call_of (called.Written block page) = WasWritten block page.now
call_of (called.WriteFailed block page) = WriteFailed block page.now
