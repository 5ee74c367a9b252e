-- What `build` ends with, by what building answers.
use Rattle.std.proofs.Common.{ℕ, List, Option, Some, None, Vec}
use Rattle.std.specs.Prelude.{IfSome}
use Rattle.std.specs.declared.alloc.Global.{Global}
use Rattle.block_buffers.specs.DeviceCalls.{DeviceCall}
use Rattle.block_buffers.specs.Disks.{Disk}
use Rattle.image_builder.specs.Sources.{Done, IsBuiltOf, IsBuiltOfRead}
use Rattle.image_loader.specs.Files.{Contents, IsWritten}
use Rattle.subcommands.specs.Images.{IsBuiltFile, IsFileOfRead}
use Rattle.subcommands.specs.Lines.{IsFileOf, IsTold, image_line}

pub built_file : (count : ℕ) (image : Contents) (d : Disk) (from to : ℕ) (done : Done) (file : Option (Vec ℕ Global))
    → IsBuiltOf count d from to image done → IfSome file (λ f. IsWritten f.items image)
    → IfSome file (IsBuiltFile count d from to done)
built_file count image d from to done None built is = tt
built_file count image d from to done (Some f) built is = record { image = image; is_built = built; is_file = is }

pub read_file : (buffers count from to : ℕ) (image : Contents) (calls calls' : List DeviceCall) (file : Option (Vec ℕ Global))
    → IsBuiltOfRead buffers count from to image calls calls' → IfSome file (λ f. IsWritten f.items image)
    → IfSome file (λ f. IsFileOfRead buffers count from to f calls calls')
read_file buffers count from to image calls calls' None built is = tt
read_file buffers count from to image calls calls' (Some f) built is = record { image = image; is_built = built; is_file = is }

pub told_file : (image : Contents) (file : Option (Vec ℕ Global)) (sent sent' : Option (List ℕ))
    → IfSome file (λ f. IsFileOf image (image_line image) f.items sent sent') → IfSome file (λ f. IsTold f.items sent sent')
told_file image None sent sent' is = tt
told_file image (Some f) sent sent' is = record { image = image; told = is }
