-- A traced run over ends that nothing was asked of before.
use Rattle.std.proofs.Common.{◌≡◌, ◌⊎◌, ◌∙◌, inl, inr, ap, subst, ℕ, List, [], Option, Some, Bool, IsOk}
use Rattle.block_buffers.specs.DeviceCalls.{DeviceCall}
use Rattle.debug_subcommand.specs.Files.{IsWanting}
use Rattle.debug_subcommand.specs.Traced.{AreKept, HasTracedWith, IsUnmarked}
use Rattle.debug_tracer.specs.Debugged.{debugged}
use Rattle.image_loader.specs.Files.{Contents}
use Rattle.inner_interpreter.specs.Moves.{logs}
use Rattle.subcommands.specs.Lines.{OfImageFile, memory_of}

over_file : {R D T : Type 0} (reads : R → List (Option ℕ)) (calls : D → List DeviceCall) (lines : T → Option (List ℕ)) (file : Contents)
    (name : List ℕ) (count limit : ℕ) (r r' : R) (d d' : D) (t t' : T) (unread failed untraced : Bool) (sent sent' : Option (List ℕ)) (status : ℕ)
    → reads r ≡ [] → calls d ≡ [] → lines t ≡ Some []
    → HasTracedWith status file name count (logs (calls d) sent (reads r)) (logs (calls d') sent' (reads r')) limit unread failed untraced (lines t) (lines t')
    ⊎ IsUnmarked (AreKept r r' d d' t t') status failed
    → HasTracedWith status file name count (logs [] sent []) (logs (calls d') sent' (reads r')) limit unread failed untraced (Some []) (lines t')
    ⊎ IsWanting status failed (reads r') (calls d') (lines t')
over_file reads calls lines file name count limit r r' d d' t t' unread failed untraced sent sent' status hr hd ht (inl h) =
    inl (subst (λ x. HasTracedWith status file name count (logs [] sent []) (logs (calls d') sent' (reads r')) limit unread failed untraced x (lines t')) ht
    (subst (λ x. HasTracedWith status file name count (logs x sent []) (logs (calls d') sent' (reads r')) limit unread failed untraced (lines t) (lines t')) hd
    (subst (λ x. HasTracedWith status file name count (logs (calls d) sent x) (logs (calls d') sent' (reads r')) limit unread failed untraced (lines t) (lines t')) hr h)))
over_file reads calls lines file name count limit r r' d d' t t' unread failed untraced sent sent' status hr hd ht (inr u) =
    inr (record {
      untyped = ap reads u.0.0 ∙ hr;
      uncalled = ap calls u.0.1 ∙ hd;
      untraced = ap lines u.0.2 ∙ ht;
      status_is = u.1;
    })

pub over : {R D T : Type 0} (reads : R → List (Option ℕ)) (calls : D → List DeviceCall) (lines : T → Option (List ℕ)) (bytes : List ℕ)
    (name : List ℕ) (count limit : ℕ) (r r' : R) (d d' : D) (t t' : T) (unread failed untraced : Bool) (sent sent' : Option (List ℕ)) (status : ℕ)
    → reads r ≡ [] → calls d ≡ [] → lines t ≡ Some []
    → OfImageFile bytes (λ file. IsOk (debugged (memory_of file) name) →
    HasTracedWith status file name count (logs (calls d) sent (reads r)) (logs (calls d') sent' (reads r')) limit unread failed untraced (lines t) (lines t')
    ⊎ IsUnmarked (AreKept r r' d d' t t') status failed)
    → OfImageFile bytes (λ file. IsOk (debugged (memory_of file) name) →
    HasTracedWith status file name count (logs [] sent []) (logs (calls d') sent' (reads r')) limit unread failed untraced (Some []) (lines t')
    ⊎ IsWanting status failed (reads r') (calls d') (lines t'))
over reads calls lines bytes name count limit r r' d d' t t' unread failed untraced sent sent' status hr hd ht h =
    λ file is ok. over_file reads calls lines file name count limit r r' d d' t t' unread failed untraced sent sent' status hr hd ht (h file is ok)
