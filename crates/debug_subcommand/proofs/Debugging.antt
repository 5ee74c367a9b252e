-- A run of `debug` over the image of a file.
use Rattle.std.proofs.Common.{◌≡◌, ◌≢◌, ◌⊎◌, ◌∙◌, ℕ, List, Option, Result, Ok, Err, IsOk, false, true, Bool, ap, inl, inr, refl, subst, sym, length}
use Rattle.std.specs.Prelude.{IfSome}
use Rattle.debug_subcommand.specs.Traced.{EndsTracedWith, HasTracedWith, PrintsUntraced, debug_cause}
use Rattle.debug_tracer.specs.Debugged.{EndsCutDebugged, EndsFaultedDebugged, EndsUntracedDebugged, IsFault, RunsDebugged, debugged, line_from}
use Rattle.debug_tracer.specs.declared.fault.DebugFault.{DebugFault}
use Rattle.debug_tracer.specs.declared.fault.DebugFault.TheVariants as fault
use Rattle.image_loader.specs.Files.{Contents}
use Rattle.inner_interpreter.proofs.Loading.{loaded_at, start_not_failed}
use Rattle.inner_interpreter.specs.Reports.{RunEnds, WriterEnd, logs_of}
use Rattle.inner_interpreter.specs.Runs.{World}
use Rattle.inner_interpreter.specs.RunsTo.{BeginsAt}
use Rattle.inner_interpreter.specs.Tracing.{EndsTraced, EndsCutTraced, EndsFaultedTraced, EndsUntraced, HasRunTraced}
use Rattle.inner_interpreter.specs.Worlds.{OfImage, loaded}
use Rattle.inner_interpreter.specs.declared.stop.Stop.{Stop}
use Rattle.inner_interpreter.specs.declared.stop.Stop.TheVariants as stop
use Rattle.machine.specs.declared.extent.Extent.{Extent}
use Rattle.machine.specs.State.{State, loaded_state}
use Rattle.subcommands.specs.Ends.{IsRefusal}
use Rattle.subcommands.specs.Lines.{PrintsOutOfMemory, PrintsRefusal, memory_of}
use Rattle.subcommands.specs.Statuses.{status_of}

-- the machine that was loaded is that of the file's image, and the name was typed so
pub of_file : {image file : Contents} {s new : State} {count : ℕ} {typed name : List ℕ} {ends ends' : RunEnds} {trace trace' : WriterEnd} {limit : ℕ} {why : Stop}
    → s ≡ loaded_state image count → image ≡ file → typed ≡ name
    → RunsDebugged typed s new ends ends' trace trace' limit why → RunsDebugged name (loaded_state file count) new ends ends' trace trace' limit why
of_file {image} {file} {s} {new} {count} {typed} {name} {ends} {ends'} {trace} {trace'} {limit} {why} is same spelled h =
    subst (λ (x : State). RunsDebugged name x new ends ends' trace trace' limit why) (is ∙ ap (λ (i : Contents). loaded_state i count) same)
    (subst (λ (t : List ℕ). RunsDebugged t s new ends ends' trace trace' limit why) spelled h)

-- what holds of each world in which the run begins holds of each world of the image
in_worlds : (file : Contents) (count limit : ℕ) (ends : RunEnds) (P : World → Type 0) → IfSome ends.device.disk (λ d. count ≡ length d.blocks)
    → ((w : World) → BeginsAt w (loaded_state file count) ends limit → P w) → OfImage file ends.reader.unread ends.device.disk ends.writer.sent limit P
in_worlds file count limit ends P told h = λ typed u disk k sent s.
    h (loaded file typed disk sent limit) (loaded_at file (loaded_state file count) count limit ends.reader.unread ends.device.disk ends.writer.sent typed disk sent refl told u k s)

-- what holds of the thread that was traced, in the state at the start, holds of the thread in that world
of_thread : (P : Extent → State → Type 0) (s t : State) (name : List ℕ) (e f : Extent) → s ≡ t
    → debugged s.parts.memory name ≡ Ok e → debugged t.parts.memory name ≡ Ok f → P e s → P f t
of_thread P s t name e f same h k p =
    let both : debugged s.parts.memory name ≡ Ok f = ap (λ (x : State). debugged x.parts.memory name) same ∙ k in
    let one : e ≡ f = cc in
    subst (λ (x : Extent). P x t) one (subst (λ (x : State). P e x) same p)

pub ran_of : (file : Contents) {new : State} {count status : ℕ} {name : List ℕ} {ends ends' : RunEnds} {trace trace' : WriterEnd} {limit : ℕ} (why : Stop)
    → IfSome ends.device.disk (λ d. count ≡ length d.blocks) → status ≡ status_of why → RunsDebugged name (loaded_state file count) new ends ends' trace trace' limit why
    → ends'.reader.failed ≡ false → ends'.writer.failed ≡ false → trace'.failed ≡ false
    → OfImage file ends.reader.unread ends.device.disk ends.writer.sent limit
    (λ w. EndsTracedWith status w name ends'.reader.unread ends'.device.disk ends'.writer.sent trace.sent trace'.sent)
ran_of file {new} {count} {status} {name} {ends} {ends'} {trace} {trace'} {limit} why told is h fine good kept =
    in_worlds file count limit ends (λ w. EndsTracedWith status w name ends'.reader.unread ends'.device.disk ends'.writer.sent trace.sent trace'.sent) told
    (λ w at. record {
      stop = why;
      status_is = is;
      ends = λ thread found. (
        new,
        of_thread (λ e (x : State). EndsTraced e (line_from x.parts.memory) w new ends'.reader.unread ends'.device.disk ends'.writer.sent trace.sent trace'.sent why)
            (loaded_state file count) w.state name h.thread thread at.state_is h.thread_is found (h.run.whole fine good kept w at),
      );
    })

pub cut_of : (file : Contents) {new : State} {count : ℕ} {name : List ℕ} {ends ends' : RunEnds} {trace trace' : WriterEnd} {limit : ℕ} {why : Stop}
    → IfSome ends.device.disk (λ d. count ≡ length d.blocks) → RunsDebugged name (loaded_state file count) new ends ends' trace trace' limit why
    → ends.writer.failed ≡ false → ends'.writer.failed ≡ true
    → OfImage file ends.reader.unread ends.device.disk ends.writer.sent limit
    (λ w. EndsCutDebugged w name ends'.reader.unread ends'.device.disk ends'.writer.sent trace.sent trace'.sent)
cut_of file {new} {count} {name} {ends} {ends'} {trace} {trace'} {limit} {why} told h fine failed =
    in_worlds file count limit ends (λ w. EndsCutDebugged w name ends'.reader.unread ends'.device.disk ends'.writer.sent trace.sent trace'.sent) told
    (λ w at thread found. (
      new,
      of_thread (λ e (x : State). EndsCutTraced e (line_from x.parts.memory) w new ends'.reader.unread ends'.device.disk ends'.writer.sent trace.sent trace'.sent)
          (loaded_state file count) w.state name h.thread thread at.state_is h.thread_is found (h.run.cut fine failed w at),
    ))

pub faulted_of : (file : Contents) {new : State} {count : ℕ} {name : List ℕ} {ends ends' : RunEnds} {trace trace' : WriterEnd} {limit : ℕ} {why : Stop}
    → IfSome ends.device.disk (λ d. count ≡ length d.blocks) → RunsDebugged name (loaded_state file count) new ends ends' trace trace' limit why
    → ends.reader.failed ≡ false → ends'.reader.failed ≡ true
    → OfImage file ends.reader.unread ends.device.disk ends.writer.sent limit
    (λ w. EndsFaultedDebugged w name ends'.reader.unread ends'.device.disk ends'.writer.sent trace.sent trace'.sent)
faulted_of file {new} {count} {name} {ends} {ends'} {trace} {trace'} {limit} {why} told h fine failed =
    in_worlds file count limit ends (λ w. EndsFaultedDebugged w name ends'.reader.unread ends'.device.disk ends'.writer.sent trace.sent trace'.sent) told
    (λ w at thread found. (
      new,
      of_thread (λ e (x : State). EndsFaultedTraced e (line_from x.parts.memory) w new ends'.reader.unread ends'.device.disk ends'.writer.sent trace.sent trace'.sent)
          (loaded_state file count) w.state name h.thread thread at.state_is h.thread_is found (h.run.faulted fine failed w at),
    ))

pub unfinished_of : (file : Contents) {new : State} {count : ℕ} {name : List ℕ} {ends ends' : RunEnds} {trace trace' : WriterEnd} {limit : ℕ} {why : Stop}
    → IfSome ends.device.disk (λ d. count ≡ length d.blocks) → RunsDebugged name (loaded_state file count) new ends ends' trace trace' limit why
    → trace.failed ≡ false → trace'.failed ≡ true
    → OfImage file ends.reader.unread ends.device.disk ends.writer.sent limit
    (λ w. EndsUntracedDebugged w name ends'.reader.unread ends'.device.disk ends'.writer.sent trace.sent trace'.sent)
unfinished_of file {new} {count} {name} {ends} {ends'} {trace} {trace'} {limit} {why} told h fine failed =
    in_worlds file count limit ends (λ w. EndsUntracedDebugged w name ends'.reader.unread ends'.device.disk ends'.writer.sent trace.sent trace'.sent) told
    (λ w at thread found. (
      new,
      of_thread (λ e (x : State). EndsUntraced e (line_from x.parts.memory) w new ends'.reader.unread ends'.device.disk ends'.writer.sent trace.sent trace'.sent)
          (loaded_state file count) w.state name h.thread thread at.state_is h.thread_is found (h.run.untraced fine failed w at),
    ))

pub moved_of : {file : Contents} {new : State} {count blocks status : ℕ} {name : List ℕ} {ends ends' : RunEnds} {trace trace' : WriterEnd} {limit : ℕ} (why : Stop)
    → count ≡ blocks → status ≡ status_of why → RunsDebugged name (loaded_state file count) new ends ends' trace trace' limit why
    → HasTracedWith status file name blocks (logs_of ends) (logs_of ends') limit ends'.reader.failed ends'.writer.failed trace'.failed trace.sent trace'.sent
moved_of {file} {new} {count} {blocks} {status} {name} {ends} {ends'} {trace} {trace'} {limit} why same is h =
    subst (λ (n : ℕ). HasTracedWith status file name n (logs_of ends) (logs_of ends') limit ends'.reader.failed ends'.writer.failed trace'.failed trace.sent trace'.sent) same
    (record {
      stop = why;
      status_is = is;
      run = record {
        state = new;
        run = h.run.moved.run;
        traced = λ thread found. of_thread (λ e (x : State). HasRunTraced e (line_from x.parts.memory) (loaded_state file count) new (logs_of ends) (logs_of ends') limit why trace.sent trace'.sent)
            (loaded_state file count) (loaded_state file count) name h.thread thread refl h.thread_is found h.run.moved;
        ended = h.run.ended;
      };
    })

-- why no word was traced, of the file's image and the name
pub fault_of : {image file : Contents} {s : State} {count : ℕ} {typed name : List ℕ} {fault : DebugFault} → s ≡ loaded_state image count → image ≡ file → typed ≡ name
    → IsFault (debugged s.parts.memory typed) fault → IsFault (debugged (memory_of file) name) fault
fault_of {image} {file} {s} {count} {typed} {name} {fault} is same spelled h =
    subst (λ (t : List ℕ). IsFault (debugged (memory_of file) t) fault) spelled
    (subst (λ (i : Contents). IsFault (debugged (memory_of i) typed) fault) same
    (subst (λ (x : State). IsFault (debugged x.parts.memory typed) fault) is h))

printed_so : (name : List ℕ) (why : DebugFault) (status : ℕ) (old new : Option (List ℕ))
    → PrintsUntraced name why status old new → PrintsRefusal name (debug_cause why) status old new ⊎ PrintsOutOfMemory status old new
printed_so name fault.NotFound status old new p = inl p
printed_so name fault.ChainTooLong status old new p = inl p
printed_so name fault.NotColon status old new p = inl p
printed_so name fault.OutOfMemory status old new p = inr p

-- if a word can't be traced, it was printed why
pub printed_why : (found : Result Extent DebugFault) (name : List ℕ) (why said : DebugFault) (status : ℕ) (old new : Option (List ℕ))
    → found ≡ Err why → IsFault found said → PrintsUntraced name said status old new
    → PrintsRefusal name (debug_cause why) status old new ⊎ PrintsOutOfMemory status old new
printed_why found name why said status old new is (inl same) printed =
    let one : said ≡ why = cc in
    printed_so name why status old new (subst (λ (f : DebugFault). PrintsUntraced name f status old new) one printed)
printed_why found name why said status old new is (inr want) printed =
    inr (subst (λ (f : DebugFault). PrintsUntraced name f status old new) want.0 printed)

-- if it can, that memory ran out
pub printed_want : (found : Result Extent DebugFault) (name : List ℕ) (said : DebugFault) (status : ℕ) (old new : Option (List ℕ))
    → IsOk found → IsFault found said → PrintsUntraced name said status old new → PrintsOutOfMemory status old new
printed_want found name said status old new ok (inl same) printed = absurd (not_ok (subst (λ (r : Result Extent DebugFault). IsOk r) same ok)) where
  not_ok : IsOk {T = Extent} (Err said) → ⊥
  not_ok h = cc
printed_want found name said status old new ok (inr want) printed =
    subst (λ (f : DebugFault). PrintsUntraced name f status old new) want.0 printed

-- no status but those of an end that failed is 5
status_apart : (why : Stop) → why ≢ stop.OutputFault → why ≢ stop.InputFault → why ≢ stop.TraceFault → status_of why ≡ 5 → ⊥
status_apart stop.Bye a b c q = cc
status_apart stop.InputEnded a b c q = cc
status_apart (stop.Fault f) a b c q = cc
status_apart stop.Limit a b c q = cc
status_apart stop.InputFault a b c q = absurd (b refl)
status_apart stop.OutputFault a b c q = absurd (a refl)
status_apart stop.TraceFault a b c q = absurd (c refl)

unfailed : {b : Bool} → b ≡ false → b ≡ true → ⊥
unfailed {b} h k = cc

-- of a run that was refused nothing was traced
pub unrun_passes : {status : ℕ} {failed heard passed : Bool} → IsRefusal status failed → failed ≡ false → status ≢ 1 → heard ≡ false → passed ≡ true
unrun_passes (inl one) fine other unread = absurd (other one)
unrun_passes (inr five) fine other unread = absurd (unfailed fine five.1)

-- if no end failed, the status is not 5
pub told_of : (image : Contents) {s new : State} (count : ℕ) {status : ℕ} {name : List ℕ} {ends ends' : RunEnds} {trace trace' : WriterEnd} {limit : ℕ} (why : Stop)
    → s ≡ loaded_state image count → status ≡ status_of why → RunsDebugged name s new ends ends' trace trace' limit why
    → ends.writer.failed ≡ false → ends'.writer.failed ≡ false → ends'.reader.failed ≡ false → trace.failed ≡ false → trace'.failed ≡ false → status ≢ 5
told_of image {s} {new} count {status} {name} {ends} {ends'} {trace} {trace'} {limit} why loaded is h w w' r t t' five =
    status_apart why (λ q. unfailed w' ((h.run.ends_told.output w).0 q)) (λ q. h.run.ends_told.told (start_not_failed image s count loaded) r q)
    (λ q. unfailed t' ((h.run.trace_told t).0 q)) (sym is ∙ five)
