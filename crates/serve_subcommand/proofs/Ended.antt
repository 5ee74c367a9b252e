-- What a writer has, and the status, when serving has ended.
use Rattle.std.proofs.Common.{rules, ◌≡◌, ℕ, List, Option, Some, Bool, true, false}
use Rattle.block_buffers.specs.DeviceCalls.{DeviceCall}
use Rattle.machine_parts.specs.Whole.{Whole}
use Rattle.named_files.specs.Done.{IsPassedOn}
use Rattle.serve_subcommand.specs.Serving.{SavesAtEnd}
use Rattle.serving.specs.Taking.{KeepsWriter}
use Rattle.serving.specs.declared.serving.Ending.{Ending}
use Rattle.serving.specs.declared.serving.Ending.TheVariants as ending

-- what was sent was passed on, unless the writer failed or the status is 5
pub passed_on : (e : Ending) (count : ℕ) (s : Whole) (calls calls' : List DeviceCall) (status : ℕ) (failed failed' passed passed' : Bool) (sent sent' : Option (List ℕ))
    → KeepsWriter (Some e) failed failed' passed passed' sent sent' → SavesAtEnd e count s calls calls' status → IsPassedOn status failed' passed' sent sent'
passed_on = elim [
  | ending.Quit ↦ λ count s calls calls' status failed failed' passed passed' sent sent' k h. search rules
  | ending.End ↦ λ count s calls calls' status failed failed' passed passed' sent sent' k h. search rules
  | ending.InputFault ↦ λ count s calls calls' status failed failed' passed passed' sent sent' k h. search rules
  | ending.OutputFault ↦ λ count s calls calls' status failed failed' passed passed' sent sent' k h. search rules
  | ending.TooMany ↦ λ count s calls calls' status failed failed' passed passed' sent sent' k h. search rules
]

-- the status is 5 if the writer failed meanwhile
pub cut_off : (e : Ending) (count : ℕ) (s : Whole) (calls calls' : List DeviceCall) (status : ℕ) (failed failed' passed passed' : Bool) (sent sent' : Option (List ℕ))
    → KeepsWriter (Some e) failed failed' passed passed' sent sent' → SavesAtEnd e count s calls calls' status → failed ≡ false → failed' ≡ true → status ≡ 5
cut_off = elim [
  | ending.Quit ↦ λ count s calls calls' status failed failed' passed passed' sent sent' k h f t. search rules
  | ending.End ↦ λ count s calls calls' status failed failed' passed passed' sent sent' k h f t. search rules
  | ending.InputFault ↦ λ count s calls calls' status failed failed' passed passed' sent sent' k h f t. search rules
  | ending.OutputFault ↦ λ count s calls calls' status failed failed' passed passed' sent sent' k h f t. search rules
  | ending.TooMany ↦ λ count s calls calls' status failed failed' passed passed' sent sent' k h f t. search rules
]
