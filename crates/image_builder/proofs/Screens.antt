-- The screens of a source: what they are read as, what is refused, and where.
use Rattle.std.proofs.Common.{ℕ, List, [], ◌∷◌, Ok, ◌≡◌, ◌+◌, ◌-◌, ◌≤◌, ◌∙◌, ◌++◌, length, take, drop, arith, refl, ap, sym, subst, ◌⊎◌, Some, ◌≢◌, inl, inr, append_assoc, Err, suc, ◌<◌, slice_index_or, length-drop, append-nil}
use Rattle.block_buffers.specs.DeviceCalls.{DeviceCall, WasRead}
use Rattle.block_buffers.specs.Disks.{Disk, block_at, called, next_fails, succeeds}
use Rattle.block_buffers.specs.Likeness.{DidAs}
use Rattle.block_buffers.specs.ReadPages.{AreReadFrom, reads_of}
use Rattle.block_buffers.proofs.Likeness.{DidBoth, both_of, none_made}
use Rattle.source_words.specs.declared.modes.Mode.{Mode}
use Rattle.image_builder.specs.ReadScreens.{Asks, Stopped, TookAll, Why, refusal, settled, Holds, IsHeld, IsFaultOf, TakesScreen, Underway, TakesAll, HasRead, HasFailed, Midway}
use Rattle.std.proofs.lemmas.List.{take-take, take-append-drop, take_more, get_or-drop, drop-drop, length-take-le}
use Rattle.std.specs.Prelude.{Result, true, false, not, ◌&&◌, OnOk, Option}
use Rattle.memory.specs.Bytes.{limit_of}
use Rattle.source_words.specs.declared.modes.Mode.TheVariants.{Outside}
use Rattle.source_words.specs.Words.{SourceWord, after_words, words_of_screens, source_words, screen_words}
use Rattle.source_words.proofs.Joining.{words_append, after_append, words_snoc, after_snoc}
use Rattle.colon_bodies.specs.Tokens.{Token}
use Rattle.image_builder.specs.declared.reading.Compilation.{Compilation}
use Rattle.image_builder.specs.declared.reading.Stop.{Stop}
use Rattle.image_builder.specs.declared.reading.Stop.TheVariants as stop
use Rattle.image_builder.specs.declared.cause.BuildFault.{BuildFault}
use Rattle.image_builder.specs.declared.cause.Cause.{Cause}
use Rattle.image_builder.specs.declared.cause.Cause.TheVariants as c
use Rattle.image_builder.specs.declared.entry.Lead.{Lead}
use Rattle.image_builder.specs.declared.spot.Sort.{Sort}
use Rattle.image_builder.specs.Places.{Place}
use Rattle.image_builder.specs.Spelled.{all_placed, placed}
use Rattle.image_builder.specs.Items.{Items}
use Rattle.image_builder.specs.Stages.{Stage}
use Rattle.image_builder.specs.Faults.{IsFault, IsGood, IsSameFault}
use Rattle.image_builder.proofs.Applying.{AtNumber, AtName, AtVocabulary, InBody, Applies, said}
use Rattle.image_builder.specs.State.{IsBuilt, Shows, IsState, IsRead, Goes, TakenAt}
use Rattle.image_builder.specs.Sources.{AllReadable, AsksFor, Done, IsRefused, IsBuiltOf, IsFaultless, IsWrong, after_reads, readable, readable_words, screens, source_of, done_of, IsBuiltOfRead}
use Rattle.image_builder.proofs.Looping.{IsOfWord, sense_cause, read_on, stops, is_front}
use Rattle.image_builder.proofs.Running.{no_fault}
use Rattle.image_builder.proofs.Single.{none_at_fault, one_fault, turned}
use Rattle.image_builder.specs.declared.state.Build.{Build}
use Rattle.image_builder.specs.declared.state.Begun.{Begun}
use Rattle.image_builder.specs.Built.{Building}
use Rattle.std.proofs.lemmas.Bool.{cases_lt, le-ltb, ltb-true}
use Rattle.image_builder.proofs.Readable.{readable_more, readable_stops, readable_least}
use Rattle.source_words.specs.declared.scanner.Scanner.{Scanner}
use Rattle.source_words.specs.Modes.{mode_after}
use Rattle.std.specs.Result.{is_err}
use Rattle.block_buffers.specs.Calls.{Reads, read_call}
use Rattle.block_buffers.proofs.Failures.{succeeded, failed}
use Rattle.block_buffers.specs.declared.devices.DeviceFault.{DeviceFault}
use Rattle.source_words.specs.Scanned.{words_left}
use Rattle.block_buffers.proofs.ReadPages.{blocks_with, did_as, same_pages, sound}

-- Screens that are read one after another, whatever the device is.

-- what the device did before the next screen, and in its read
pub screen_before : (d e : Disk) (from s n count count' : ℕ) (next : Mode) (a b c : List DeviceCall) → AreReadFrom from n count a b → Asks s count' (Ok next) b c → DidAs d e count a c → DidBoth d e count a b c
screen_before d e from s n count count' next a b c h k did = both_of d e count a b c (reads_of from h.pages) (WasRead s k.0 ∷ []) h.read k.1 did

-- Why a source is refused.

-- no word has the cause of a device
number_none : (limit : ℕ) (t : Items) (n : ℕ) (sort : Sort) → AtNumber limit t n sort c.Device → ⊥
number_none limit t n sort h = grind arith

name_none : (limit : ℕ) (t : Items) (w : Place) (l : Lead) → AtName limit t w l c.Device → ⊥
name_none limit t w l h = grind arith

vocabulary_none : (sort : Sort) → AtVocabulary sort c.Device → ⊥
vocabulary_none sort h = grind arith

body_none : (limit : ℕ) (rt : ℕ → ℕ) (at : ℕ) (before : List Token) (m : Result Token Cause) → IsOfWord m → InBody rt at limit before m c.Device → ⊥
body_none limit rt at before m x5 x = grind arith

none_of_device : (limit : ℕ) (t : Items) (stage : Stage) (w : Place) (after : List Place) → Applies limit t stage w after c.Device → ⊥
none_of_device limit t stage w after = grind (arith, number_none, name_none, vocabulary_none, body_none, sense_cause)

-- the words of the first screens are the first words
first_screens : (d : Disk) (from n k : ℕ) → k ≤ n → (rest : List SourceWord) × (source_words from (screens d from n) ≡ source_words from (screens d from k) ++ rest)
first_screens d from n k h =
    let all : List (List ℕ) = screens d from n in
    let front : take k all ≡ screens d from k = take-take k n (drop from d.blocks) h in (
      words_of_screens (after_words Outside (words_of_screens Outside from (take k all))) (from + length (take k all)) (drop k all),
      ap (source_words from) (sym (take-append-drop k all)) ∙ words_append Outside from (take k all) (drop k all) ∙ ap (λ ws. ws ++ words_of_screens (after_words Outside (words_of_screens Outside from (take k all))) (from + length (take k all)) (drop k all)) (ap (source_words from) front),
    )

-- a word at fault among those of the first screens is the first fault of more screens
pub fault_of_more : (limit : ℕ) (d : Disk) (from n k last screen offset : ℕ) (cause : Cause) → k ≤ n →
    ((rest : List SourceWord) → IsFault limit (all_placed (source_words from (screens d from k) ++ rest)) last screen offset cause) → IsFault limit (all_placed (source_words from (screens d from n))) last screen offset cause
fault_of_more limit d from n k last screen offset cause h all =
    let r : (rest : List SourceWord) × (source_words from (screens d from n) ≡ source_words from (screens d from k) ++ rest) = first_screens d from n k h in
    let P : List SourceWord → Type 0 = λ ws. IsFault limit (all_placed ws) last screen offset cause in
    subst P (sym r.1) (all r.0)

-- a refusal, with what it asks for
abbrev IsAnswer : ℕ → Disk → (from to k screen offset : ℕ) → Cause → Done → Type 0
IsAnswer limit d from to k screen offset cause done = IsWrong limit d from to screen offset cause × AsksFor limit d from to k screen offset cause done

as_refused : {limit : ℕ} (d : Disk) (from to k screen offset : ℕ) (cause : Cause) (done : Done) → k ≤ to + 1 - from → done.disk ≡ Some (after_reads k d) →
    IsAnswer limit d from to k screen offset cause done → IsRefused limit d from to (record { screen = screen; offset = offset; cause = cause }) done
as_refused d from to k screen offset cause done few disk h = record { is = h.0; k = k; few = few; disk = disk; asks = h.1 }

-- a word's fault, as a refusal
word_answer : {limit : ℕ} (d : Disk) (from to k screen offset : ℕ) (cause : Cause) (done : Done) → k ≤ readable d from (to + 1 - from) → done.after ≡ done.before → IsFaultless limit (source_words from (screens d from (k - 1))) →
    ((rest : List SourceWord) (last : ℕ) → IsFault limit (all_placed (source_words from (screens d from k) ++ rest)) last screen offset cause) →
    IsAnswer limit d from to k (settled screen offset cause from).screen (settled screen offset cause from).offset (settled screen offset cause from).cause done
word_answer d from to k screen offset c.OutOfMemory done l q o h = ((refl, refl), q)
word_answer {limit} d from to k screen offset c.Device done l q o h = let f = h [] 0 in absurd (none_of_device limit f.3 f.5 f.1 f.2 (said limit f.0 f.3 f.4 f.5 f.1 f.2 c.Device f.9 f.10))
word_answer d from to k screen offset c.EndsInside done l q o h = let a = (h [] screen).0 in let b = (h [] (screen + 1)).0 in absurd (omega (arith, b))
word_answer d from to k screen offset c.NoBoot done l q o h = let a = (h [] screen).0 in let b = (h [] (screen + 1)).0 in absurd (omega (arith, b))
word_answer {limit} d from to k screen offset z done l q o h = (fault_of_more limit d from (readable d from (to + 1 - from)) k to screen offset z l (λ rest. h rest to), (q, o, λ rest. h rest to))

-- the screen that can't be read, as a refusal
device_answer : {limit : ℕ} (d : Disk) (from to k u : ℕ) (done : Done) → Why limit d from to k (stop.Device u) done → IsAnswer limit d from to k u 0 c.Device done
device_answer {limit} d from to k u done h = grind arith

pub stopped_refused : {limit : ℕ} (d : Disk) (from to : ℕ) (e : Stop) (done : Done) → Stopped limit d from to e done → IsRefused limit d from to (refusal e from) done
stopped_refused d from to (stop.Device u) done h = as_refused d from to h.k u 0 c.Device done h.few h.disk (device_answer d from to h.k u done h.because)
stopped_refused {limit} d from to (stop.Word f) done h =
    let b = h.because in
    let r = settled f.screen f.offset f.cause from in
    as_refused d from to h.k r.screen r.offset r.cause done h.few h.disk (word_answer {limit = limit} d from to h.k f.screen f.offset f.cause done b.0 b.1 b.2 b.3)

-- the end of all screens, as a refusal
pub ended_refused : {limit : ℕ} (d : Disk) (from to : ℕ) (k : Compilation) (f : BuildFault) (done : Done) → TookAll limit d from to k done → (f.cause ≡ c.EndsInside) ⊎ (f.cause ≡ c.NoBoot) ⊎ (f.cause ≡ c.OutOfMemory) →
    IsFault limit (all_placed (source_of d from to)) to f.screen f.offset f.cause → IsRefused limit d from to (settled f.screen f.offset f.cause from) done
ended_refused {limit} d from to k f done h o x = grind (arith, as_refused)

-- a word at fault among those of the first screens is the first fault of the source
pub fault_of_source : (limit : ℕ) (d : Disk) (from to k screen offset : ℕ) (cause : Cause) → k ≤ to + 1 - from →
    ((rest : List SourceWord) → IsFault limit (all_placed (source_words from (screens d from k) ++ rest)) to screen offset cause) → IsFault limit (all_placed (source_of d from to)) to screen offset cause
fault_of_source limit d from to k screen offset cause = fault_of_more limit d from (to + 1 - from) k to screen offset cause

-- what is built
pub built_of : {limit : ℕ} (count : ℕ) (d : Disk) (from to : ℕ) (k : Compilation) (bytes : List ℕ) (entry : ℕ) (done : Done) → limit ≡ limit_of count
    → TookAll limit d from to k done → IsBuilt limit (all_placed (source_of d from to)) bytes entry
    → IsBuiltOf count d from to (record { buffers = count; entry = entry; bytes = bytes }) done
built_of {limit} count d from to k bytes entry done q h b = grind arith

-- the same limit by another name
pub refused_by : (l m : ℕ) (d : Disk) (from to : ℕ) (e : BuildFault) (done : Done) → l ≡ m → IsRefused l d from to e done → IsRefused m d from to e done
refused_by l m d from to e done q h = subst (λ n. IsRefused n d from to e done) q h

-- The screens of a disk have one refusal.

-- if all screens can be read, none can't
no_device : (limit : ℕ) (d : Disk) (from to screen offset : ℕ) → AllReadable d from to → IsWrong limit d from to screen offset c.Device → ⊥
no_device limit d from to screen offset all h = omega (arith, all, h.0, h.1)

-- if all screens can be read, their words are all words
to_all : (limit : ℕ) (d : Disk) (from to screen offset : ℕ) (cause : Cause) → AllReadable d from to →
    IsFault limit (all_placed (readable_words d from to)) to screen offset cause → IsFault limit (all_placed (source_of d from to)) to screen offset cause
to_all limit d from to screen offset cause all = subst (λ n. IsFault limit (all_placed (source_words from (screens d from n))) to screen offset cause) all

-- any refusal beside that of a screen that can't be read
device_and : (limit : ℕ) (d : Disk) (from to p o q n : ℕ) (a : Cause) → IsWrong limit d from to p o a → IsWrong limit d from to q n c.Device → IsSameFault p o a q n c.Device
device_and limit d from to p o q n c.OutOfMemory h g = inl refl
device_and limit d from to p o q n c.Device h g = inr (inr (h.0 ∙ sym g.0, h.2 ∙ sym g.2, refl))
device_and limit d from to p o q n c.EndsInside h g = absurd (no_device limit d from to q n h.0 g)
device_and limit d from to p o q n c.NoBoot h g = absurd (no_device limit d from to q n h.0 g)
device_and limit d from to p o q n a h g =
    absurd (none_at_fault limit (all_placed (readable_words d from to)) g.3.items g.3.words g.3.stage to p o a (omega arith) (omega arith) g.3.front h)

-- any other is the first fault of the words that can be read
of_words : (limit : ℕ) (d : Disk) (from to screen offset : ℕ) (cause : Cause) → cause ≢ c.Device → IsWrong limit d from to screen offset cause → IsFault limit (all_placed (readable_words d from to)) to screen offset cause
of_words limit d from to screen offset cause e h = grind arith

pub one_refusal : (limit : ℕ) (d : Disk) (from to p o q n : ℕ) (a b : Cause) → IsWrong limit d from to p o a → IsWrong limit d from to q n b → IsSameFault p o a q n b
one_refusal limit d from to p o q n c.Device b h g = turned p q o n c.Device b (device_and limit d from to q n p o b g h)
one_refusal limit d from to p o q n a c.Device h g = device_and limit d from to p o q n a h g
one_refusal limit d from to p o q n a b h g =
    one_fault limit (all_placed (readable_words d from to)) to p q o n a b
    (of_words limit d from to p o a (λ e. cc) h) (of_words limit d from to q n b (λ e. cc) g)

-- if all screens can be read, the refusal is the first fault of the whole source
pub refused_at : (limit : ℕ) (d : Disk) (from to screen offset : ℕ) (cause : Cause) → AllReadable d from to → IsWrong limit d from to screen offset cause → IsFault limit (all_placed (source_of d from to)) to screen offset cause
refused_at limit d from to screen offset cause all h = grind (arith, no_device, to_all, of_words)

-- a good source is then refused only for lack of memory
pub good_refused : (limit : ℕ) (d : Disk) (from to screen offset : ℕ) (cause : Cause) (items : Items) (entry : ℕ) → AllReadable d from to → IsGood limit (all_placed (source_of d from to)) items entry →
    IsWrong limit d from to screen offset cause → cause ≡ c.OutOfMemory
good_refused limit d from to screen offset cause items entry all good h =
    no_fault limit (all_placed (source_of d from to)) items entry to screen offset cause good (refused_at limit d from to screen offset cause all h)

-- What the words that were taken say of a source.
pub placed-append : (xs ys : List SourceWord) → all_placed (xs ++ ys) ≡ all_placed xs ++ all_placed ys
placed-append [] ys = refl
placed-append (x ∷ xs) ys = ap (λ l. placed x ∷ l) (placed-append xs ys)

abbrev pub is_read : {limit : ℕ} (k : Compilation) (front : List SourceWord) → Holds limit k front → IsRead limit k.build k.begun (all_placed front)
is_read k front h = record { items = h.items; words = h.words; stage = h.stage; shows = h.shows; is = h.is; front = h.split }

pub holds_read : {limit : ℕ} (k : Compilation) (front : List SourceWord) → IsRead limit k.build k.begun (all_placed front) → Holds limit k front
holds_read k front h = record { items = h.items; words = h.words; stage = h.stage; shows = h.shows; is = h.is; split = h.front }

pub faultless : {limit : ℕ} (k : Compilation) (front : List SourceWord) → Holds limit k front → IsFaultless limit front
faultless k front h = record { items = h.items; words = h.words; stage = h.stage; front = is_front k.build k.begun (all_placed front) (is_read k front h) }

-- one word more
pub goes_on : {limit : ℕ} (old new : Compilation) (front : List SourceWord) (w : SourceWord) (h : Holds limit old front) → Goes limit new.build new.begun h.items h.words (placed w) → Holds limit new (front ++ w ∷ [])
goes_on {limit} old new front w h g =
    holds_read new (front ++ w ∷ []) (subst (λ l. IsRead limit new.build new.begun l) (sym (placed-append front (w ∷ [])))
    (read_on old.build new.build old.begun new.begun (all_placed front) (placed w) (is_read old front h) g))

pub refused : {limit : ℕ} (old : Compilation) (new : Build) (front : List SourceWord) (w : SourceWord) (f : BuildFault) (h : Holds limit old front) → ((after : List Place) → TakenAt limit h.items h.words h.stage (placed w) after (Err f) new) → IsFaultOf limit (front ++ w ∷ []) f
refused old new front w f h t = λ rest last.
    let e : all_placed ((front ++ w ∷ []) ++ rest) ≡ all_placed front ++ placed w ∷ all_placed rest =
    ap all_placed (append_assoc front (w ∷ []) rest) ∙ placed-append front (w ∷ rest) in
    stops old.build new old.begun (all_placed ((front ++ w ∷ []) ++ rest)) (all_placed front) (all_placed rest) (placed w) last f (is_read old front h) e (t (all_placed rest))

-- the same, as the code has it: by the limit that the state has
own_holds : {limit : ℕ} (k : Compilation) (front : List SourceWord) → Holds limit k front → (k.build.limit ≡ limit) × Holds k.build.limit k front
own_holds k front h = grind arith

taken_own : (old new : Compilation) (begun : Begun) (front : List SourceWord) (w : SourceWord) (p : Place) (h : Holds old.build.limit old front) → p ≡ placed w → begun ≡ old.begun →
    ((t : Items) (ws after : List Place) (stage : Stage) → Shows begun ws stage → IsState old.build.limit old.build t ws stage → TakenAt old.build.limit t ws stage p after (Ok new.begun) new.build) → Holds old.build.limit new (front ++ w ∷ [])
taken_own old new begun front w p h e g t =
    goes_on old new front w h
    (subst (λ q. Goes old.build.limit new.build new.begun h.items h.words q) e (t h.items h.words [] h.stage (subst (λ x. Shows x h.words h.stage) (sym g) h.shows) h.is))

pub word_taken : {limit : ℕ} (old new : Compilation) (begun : Begun) (front : List SourceWord) (w : SourceWord) (p : Place) (h : Holds limit old front) → p ≡ placed w → begun ≡ old.begun →
    ((t : Items) (ws after : List Place) (stage : Stage) → Shows begun ws stage → IsState old.build.limit old.build t ws stage → TakenAt old.build.limit t ws stage p after (Ok new.begun) new.build) → Holds limit new (front ++ w ∷ [])
word_taken old new begun front w p h e g t =
    let o = own_holds old front h in
    subst (λ n. Holds n new (front ++ w ∷ [])) o.0 (taken_own old new begun front w p o.1 e g t)

refused_own : (old : Compilation) (new : Build) (begun : Begun) (front : List SourceWord) (w : SourceWord) (p : Place) (f : BuildFault) (h : Holds old.build.limit old front) → p ≡ placed w → begun ≡ old.begun →
    ((t : Items) (ws after : List Place) (stage : Stage) → Shows begun ws stage → IsState old.build.limit old.build t ws stage → TakenAt old.build.limit t ws stage p after (Err f) new) → IsFaultOf old.build.limit (front ++ w ∷ []) f
refused_own old new begun front w p f h e g t =
    refused old new front w f h
    (λ after. subst (λ q. TakenAt old.build.limit h.items h.words h.stage q after (Err f) new) e (t h.items h.words after h.stage (subst (λ x. Shows x h.words h.stage) (sym g) h.shows) h.is))

pub word_refused : {limit : ℕ} (old : Compilation) (new : Build) (begun : Begun) (front : List SourceWord) (w : SourceWord) (p : Place) (f : BuildFault) (h : Holds limit old front) → p ≡ placed w → begun ≡ old.begun →
    ((t : Items) (ws after : List Place) (stage : Stage) → Shows begun ws stage → IsState old.build.limit old.build t ws stage → TakenAt old.build.limit t ws stage p after (Err f) new) → IsFaultOf limit (front ++ w ∷ []) f
word_refused old new begun front w p f h e g t =
    let o = own_holds old front h in
    subst (λ n. IsFaultOf n (front ++ w ∷ []) f) o.0 (refused_own old new begun front w p f o.1 e g t)

-- what holds by a limit is by its own
pub limit_held : {limit : ℕ} (k : Compilation) → IsHeld limit k → k.build.limit ≡ limit
limit_held k h = let x = h.holds in let i = x.is in let b = i.built in b.limit_is

pub held_own : {limit : ℕ} (k : Compilation) → IsHeld limit k → IsHeld k.build.limit k
held_own k h = subst (λ n. IsHeld n k) (sym (limit_held k h)) h

-- what is held by the limit of before is held by the limit that this was held by
pub held_as : {limit : ℕ} (old new : Compilation) → IsHeld limit old → IsHeld old.build.limit new → IsHeld limit new
held_as old new h i = subst (λ n. IsHeld n new) (limit_held old h) i

pub held_building : {limit : ℕ} (k : Compilation) → IsHeld limit k → Building k.build
held_building k g = let h = held_own k g in let x = h.holds in let i = x.is in record { items = x.items; is = i.built; sound = i.sound }

-- Screens, taken one by one.
screens-more : (d : Disk) (from s : ℕ) → from ≤ s → s < length d.blocks → screens d from (s + 1 - from) ≡ screens d from (s - from) ++ block_at d.blocks s ∷ []
screens-more d from s h k =
    let e : s + 1 - from ≡ (s - from) + 1 = omega arith in
    let at : slice_index_or (drop from d.blocks) (s - from) [] ≡ slice_index_or d.blocks s [] =
    get_or-drop from d.blocks (s - from) [] ∙ ap (λ n. slice_index_or d.blocks n []) (omega arith) in
    rw (e, ← at) (take_more (drop from d.blocks) (s - from) [] (omega (arith, length-drop from d.blocks)))

length-screens : (d : Disk) (from s : ℕ) → from ≤ s → s < length d.blocks → from + length (screens d from (s - from)) ≡ s
length-screens d from s h k = omega (arith, length-take-le (s - from) (drop from d.blocks) (omega (arith, length-drop from d.blocks)))

-- the words of one screen more
words-more : (d : Disk) (from s : ℕ) (m : Mode) → from ≤ s → s < length d.blocks → m ≡ after_words Outside (source_words from (screens d from (s - from))) →
    source_words from (screens d from (s + 1 - from)) ≡ source_words from (screens d from (s - from)) ++ screen_words m s (block_at d.blocks s)
words-more d from s m h k q = grind (arith, screens-more, words_snoc, length-screens)

reads-more : (d : Disk) (from s : ℕ) → from ≤ s → called (after_reads (s - from) d) ≡ after_reads (s + 1 - from) d
reads-more d from s h = ap (λ c. record { blocks = d.blocks; coming = c }) (drop-drop 1 (s - from) d.coming ∙ ap (λ n. drop n d.coming) (omega arith))

some_injective : {A : Type 0} {x y : A} → Some x ≡ Some y → x ≡ y
some_injective e = cc

-- the screens before the first of them are none
begun_underway : {limit : ℕ} (d : Disk) (from : ℕ) (kp : Compilation) (done : Done) → Holds limit kp [] → done.disk ≡ Some d → done.after ≡ done.before → Underway limit d from from Outside kp done
unfolding words_of_screens after_words readable
begun_underway d from kp done h q f = grind arith

pub none_underway : {limit : ℕ} (d e : Disk) (from count : ℕ) (kp : Compilation) (calls : List DeviceCall) → Holds limit kp [] → DidAs d e count calls calls → Underway limit d from from Outside kp (done_of (Some e) calls calls)
none_underway d e from count kp calls h did = begun_underway d from kp (done_of (Some e) calls calls) h (ap Some (none_made d e count calls did)) refl

-- one screen more could be read
one_readable : (d : Disk) (from s : ℕ) → from ≤ s → readable d from (s - from) ≡ s - from → succeeds (after_reads (s - from) d) s ≡ true → readable d from (s + 1 - from) ≡ s + 1 - from
one_readable d from s h all e =
    let here : from + (s - from) ≡ s = omega arith in
    let next : s + 1 - from ≡ suc (s - from) = omega arith in
    rw next (readable_more (s - from) d from all (ap (succeeds (after_reads (s - from) d)) here ∙ e))

-- the next screen can't be read
stops_at : (d : Disk) (from s to : ℕ) → from ≤ s → s ≤ to → readable d from (s - from) ≡ s - from → succeeds (after_reads (s - from) d) s ≡ false → s ≡ from + readable d from (to + 1 - from)
stops_at d from s to h k all e = grind (arith, readable_stops)

-- a screen that the device doesn't have
past_fails : (d : Disk) (s : ℕ) → length d.blocks ≤ s → succeeds d s ≡ false
past_fails d s h = ap (λ b. b && not (next_fails d.coming)) (le-ltb s (length d.blocks) h)

-- one screen more is taken
pub screen_more : {limit : ℕ} (d : Disk) (from s : ℕ) (m next : Mode) (old new : Compilation) (done step : Done) → Underway limit d from s m old done →
    TakesScreen limit (after_reads (s - from) d) s m (source_words from (screens d from (s - from))) (Ok next) old new step → step.before ≡ done.after →
    Underway limit d from (s + 1) next new (record { disk = step.disk; before = done.before; after = step.after })
screen_more d from s m next old new done step h t f = grind (arith, words-more, one_readable, after_append, reads-more)

-- if one is not, that is where it stops
pub screen_stops : {limit : ℕ} (d : Disk) (from s to : ℕ) (m : Mode) (e : Stop) (old new : Compilation) (done step : Done) → Underway limit d from s m old done → s ≤ to →
    TakesScreen limit (after_reads (s - from) d) s m (source_words from (screens d from (s - from))) (Err e) old new step → step.before ≡ done.after →
    Stopped limit d from to e (record { disk = step.disk; before = done.before; after = step.after })
screen_stops {limit} d from s to m (stop.Device u) old new done step h k t f =
    elim t.2 as (λ w. Stopped limit d from to (stop.Device u) (record { disk = step.disk; before = done.before; after = step.after })) [
      | inl failed ↦ record {
        k = s + 1 - from;
        few = omega arith;
        disk = failed.disk ∙ ap Some (reads-more d from s h.above);
        because = rw t.0 (stops_at d from s to h.above k h.all failed.fails, k, faultless old _ t.1, inr (failed.there, omega arith, failed.failures ∙ ap (λ n. n + 1) (f ∙ h.failures)));
      }
      | inr none ↦ record {
        k = s - from;
        few = omega arith;
        disk = none.disk;
        because = rw t.0 (stops_at d from s to h.above k h.all (past_fails (after_reads (s - from) d) s none.past), k, faultless old _ t.1, inl (none.past, omega arith, none.failures ∙ f ∙ h.failures));
      }
    ]
screen_stops {limit} d from s to m (stop.Word fault) old new done step h k t f =
    let words : source_words from (screens d from (s + 1 - from)) ≡ source_words from (screens d from (s - from)) ++ screen_words m s (block_at d.blocks s) =
    words-more d from s m h.above t.1.there h.mode in
    let last : s + 1 - from - 1 ≡ s - from = omega arith in
    let P : List SourceWord → Type 0 = λ r. IsFaultOf limit r fault in
    record {
      k = s + 1 - from;
      few = omega arith;
      disk = grind (arith, reads-more);
      because = (readable_least (s + 1 - from) (to + 1 - from) d from (omega arith) (one_readable d from s h.above h.all t.1.succeeds_is), t.1.failures ∙ f ∙ h.failures, rw last (faultless old _ t.0), subst P (sym words) t.2);
    }

-- the same, by what a device did
pub screens_more_read : {limit : ℕ} (d e : Disk) (from s n count count' : ℕ) (m next : Mode) (old new : Compilation) (a b c : List DeviceCall) → count' ≡ count → AreReadFrom from n count a b → Asks s count' (Ok next) b c
    → ((d m' : Disk) → DidAs d m' count a b → Underway limit d from s m old (done_of (Some m') a b))
    → ((d e : Disk) → DidAs d e count' b c → (limit : ℕ) (front : List SourceWord) → Holds limit old front → TakesScreen limit d s m front (Ok next) old new (done_of (Some e) b c))
    → DidAs d e count a c → Underway limit d from (s + 1) next new (done_of (Some e) a c)
screens_more_read {limit} d e from s n count count' m next old new a b c q read asks before takes did =
    let both = screen_before d e from s n count count' next a b c read asks did in
    let h = before d both.mid both.first in
    let same : both.mid ≡ after_reads (s - from) d = some_injective h.disk in
    let front = source_words from (screens d from (s - from)) in
    let t = takes both.mid e (subst (λ k. DidAs both.mid e k b c) (sym q) both.second) limit front h.took in
    screen_more d from s m next old new (done_of (Some both.mid) a b) (done_of (Some e) b c) h (subst (λ x. TakesScreen limit x s m front (Ok next) old new (done_of (Some e) b c)) same t) refl

pub screens_stop : {limit : ℕ} (d e : Disk) (from s to n count count' : ℕ) (m : Mode) (why : Stop) (old new : Compilation) (a b c : List DeviceCall) → s ≤ to → count' ≡ count → AreReadFrom from n count a b → Asks s count' (Err why) b c
    → ((d m' : Disk) → DidAs d m' count a b → Underway limit d from s m old (done_of (Some m') a b))
    → ((d e : Disk) → DidAs d e count' b c → (limit : ℕ) (front : List SourceWord) → Holds limit old front → TakesScreen limit d s m front (Err why) old new (done_of (Some e) b c))
    → DidAs d e count a c → Stopped limit d from to why (done_of (Some e) a c)
screens_stop {limit} d e from s to n count count' m why old new a b c last q read asks before takes did =
    let both = both_of d e count a b c (reads_of from read.pages) asks.0 read.read asks.1 did in
    let h = before d both.mid both.first in
    let same : both.mid ≡ after_reads (s - from) d = some_injective h.disk in
    let front = source_words from (screens d from (s - from)) in
    let t = takes both.mid e (subst (λ k. DidAs both.mid e k b c) (sym q) both.second) limit front h.took in
    screen_stops d from s to m why old new (done_of (Some both.mid) a b) (done_of (Some e) b c) h last (subst (λ x. TakesScreen limit x s m front (Err why) old new (done_of (Some e) b c)) same t) refl

-- all were taken
pub all_screens : {limit : ℕ} (d : Disk) (from s to : ℕ) (m : Mode) (kp : Compilation) (done : Done) → Underway limit d from s m kp done → s - from ≡ to + 1 - from → (from ≤ to → to < s) → TookAll limit d from to kp done
all_screens {limit} d from s to m kp done h e q = grind arith

-- a loop that never began
pub never_began : (from s to : ℕ) → from ≤ s → to < s → (from < s → s ≤ to) → s - from ≡ to + 1 - from
never_began from s to h k w = elim (cases_lt from s) [ inl l ↦ absurd (omega (arith, w l)) | inr g ↦ omega arith ]

-- The words of a screen, taken one by one.

-- no word is taken yet
pub none_taken : {limit : ℕ} (m : Mode) (words : List SourceWord) (k : Compilation) (scanner : Scanner) → words_left scanner ≡ words → scanner.mode ≡ m → Midway limit m words k k scanner
unfolding after_words
none_taken m words k scanner e q = grind (arith, append-nil)

-- one word more is taken
pub one_taken : {limit : ℕ} (m : Mode) (words : List SourceWord) (w : SourceWord) (old mid new : Compilation) (scanner next : Scanner) → Midway limit m words old mid scanner →
    words_left scanner ≡ w ∷ words_left next → next.mode ≡ mode_after scanner.mode w.name → ((front : List SourceWord) → Holds limit mid front → Holds limit new (front ++ w ∷ [])) →
    Midway limit m words old new next
one_taken {limit} m words w old mid new scanner next h e q t =
    record {
      done = h.done ++ w ∷ [];
      split = grind (arith, append_assoc);
      mode = q ∙ ap (λ n. mode_after n w.name) h.mode ∙ sym (after_snoc m h.done w);
      took = grind (arith, append_assoc);
    }

-- a word is at fault, whatever comes after it
pub one_refused : {limit : ℕ} (m : Mode) (words : List SourceWord) (w : SourceWord) (old mid : Compilation) (scanner next : Scanner) (f : BuildFault) → Midway limit m words old mid scanner →
    words_left scanner ≡ w ∷ words_left next → ((front : List SourceWord) → Holds limit mid front → IsFaultOf limit (front ++ w ∷ []) f) →
    (front : List SourceWord) → Holds limit old front → IsFaultOf limit (front ++ words) f
one_refused {limit} m words w old mid scanner next f h q t front k = λ rest last.
    let P : List SourceWord → Type 0 = λ r. IsFault limit (all_placed r) last f.screen f.offset f.cause in
    let e : ((front ++ h.done) ++ w ∷ []) ++ (words_left next ++ rest) ≡ (front ++ words) ++ rest = rw (h.split, q) (simp append_assoc) in
    subst P e (t (front ++ h.done) (h.took front k) (words_left next ++ rest) last)

-- all words are taken
pub all_taken : {limit : ℕ} (m : Mode) (words : List SourceWord) (old new : Compilation) (scanner next : Scanner) → Midway limit m words old new scanner →
    words_left scanner ≡ [] → next.mode ≡ scanner.mode → (front : List SourceWord) → Holds limit old front → TakesAll limit m front words (Ok next.mode) new
all_taken {limit} m words old new scanner next h e q front k = grind (arith, append-nil)

-- what a read that succeeds says
pub read_done : (d : Disk) (s : ℕ) (r : Result Unit DeviceFault) (page : List ℕ) (new : Option Disk) (before after : List DeviceCall) → is_err r ≡ false → Reads d s new page r → after ≡ before ++ read_call s page r ∷ [] → HasRead d s (done_of new before after) × (page ≡ block_at d.blocks s)
read_done d s r page new before x6 e x n = grind (arith, ltb-true, succeeded)

-- a screen that the device has, and failed to read
pub read_failed : (d : Disk) (s : ℕ) (r : Result Unit DeviceFault) (page : List ℕ) (new : Option Disk) (before after : List DeviceCall) → is_err r ≡ true → s < length d.blocks → Reads d s new page r → after ≡ before ++ read_call s page r ∷ [] → HasFailed d s (done_of new before after)
read_failed d s r page new before x6 e l x n = grind (arith, failed)

-- a screen that was read, and its words
pub screen_taken : {limit : ℕ} (d : Disk) (s : ℕ) (m : Mode) (front : List SourceWord) (r : Result Mode Stop) (old new : Compilation) (done : Done) → Holds limit old front → HasRead d s done → TakesAll limit m front (screen_words m s (block_at d.blocks s)) r new → TakesScreen limit d s m front r old new done
screen_taken d s m front r old new done o h t = grind arith

pub held_after : (m : Mode) (ws : List SourceWord) (r : Result Mode Stop) (old new : Compilation) → IsHeld old.build.limit old → ((limit : ℕ) (front : List SourceWord) → Holds limit old front → TakesAll limit m front ws r new) → OnOk r (IsHeld old.build.limit new)
held_after m ws (Ok next) old new i t = record { front = i.front ++ ws; holds = (t old.build.limit i.front i.holds).0 }
held_after m ws (Err e) old new i t = tt

-- some words are taken on the way
pub held_midway : (m : Mode) (words : List SourceWord) (old mid : Compilation) (scanner : Scanner) → IsHeld old.build.limit old → ((limit : ℕ) → Midway limit m words old mid scanner) → IsHeld mid.build.limit mid
held_midway m words old mid scanner i h = let w = h old.build.limit in held_own mid (record { front = i.front ++ w.done; holds = w.took i.front i.holds })

-- a read that succeeded, whatever came of its words
pub asked_then : (s count : ℕ) (r : Result Mode Stop) (page : List ℕ) (o : Result Unit DeviceFault) (before after : List DeviceCall) → s < count → is_err o ≡ false → after ≡ before ++ read_call s page o ∷ [] → Asks s count r before after
asked_then s count r page o before x6 l e q = grind arith

-- The image of the pages that were read, by a disk of these pages.

-- the image of the pages that were read, by the image of each disk as which the device did
pub built_of_read : {limit : ℕ} (buffers count from to : ℕ) (k : Compilation) (bytes : List ℕ) (entry : ℕ) (calls calls' : List DeviceCall) → limit ≡ limit_of buffers
    → AreReadFrom from (to + 1 - from) count calls calls' → ((d e : Disk) → DidAs d e count calls calls' → TookAll limit d from to k (done_of (Some e) calls calls'))
    → ((source : List Place) → IsRead limit k.build k.begun source → IsBuilt limit source bytes entry)
    → IsBuiltOfRead buffers count from to (record { buffers = buffers; entry = entry; bytes = bytes }) calls calls'
built_of_read {limit} buffers count from to k bytes entry calls calls' q are taken built =
    let d = sound (blocks_with count from are.pages) in
    let h = taken d d (did_as count from (to + 1 - from) are.pages calls calls' are.all are.there are.read) in
    let b = built (all_placed (source_of d from to)) (is_read k (source_of d from to) h.took) in
    let same : screens d from (to + 1 - from) ≡ are.pages = ap (screens d from) (sym are.all) ∙ same_pages count from are.pages in
    record {
      are = are;
      is = grind arith;
    }

-- memory runs out before a screen is read
pub refused_at_once : (d e : Disk) (limit count from to : ℕ) (calls : List DeviceCall) → DidAs d e count calls calls → IsRefused limit d from to (record { screen = from; offset = 0; cause = c.OutOfMemory }) (done_of (Some e) calls calls)
refused_at_once d e limit count from to calls did = record { is = (refl, refl); k = 0; few = omega arith; disk = ap Some (none_made d e count calls did); asks = refl }
