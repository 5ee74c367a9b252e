-- Frames, one after another.
use Rattle.std.proofs.Common.{◌≡◌, ℕ, ◌+◌, ◌*◌, ◌/◌, ◌%◌, ◌<◌, ◌&&◌, List, [], ◌∷◌, ◌++◌, Option, Some, None, Bool, true, false, not, refl, sym, ap, subst, ◌∙◌, arith, append_assoc, append-nil, length, get_or, map, nat_lt, drop, inl, inr}
use Rattle.std.proofs.lemmas.List.{map-append, length-append}
use Rattle.std.specs.List.{list_all}
use Rattle.std.specs.Io.KnownBytes.{Appends}
use Rattle.block_buffers.specs.DeviceCalls.{DeviceCall}
use Rattle.memory.specs.Bytes.{cell_bytes}
use Rattle.machine.specs.State.{State}
use Rattle.inner_interpreter.specs.Reads.{as_given}
use Rattle.inner_interpreter.proofs.Sending.{appends_both, part_second}
use Rattle.inner_interpreter.proofs.Moving.{appends_none}
use Rattle.serving.specs.Frames.{frame}
use Rattle.serving.specs.Requests.{Wish, Frame, framed, cell_in, wished, is_quit}
use Rattle.serving.specs.Served.{Served, HasObeyed, IsServed, Sends, Serves, ServesAll, then_served, told}
use Rattle.serving.specs.declared.serving.Ending.{Ending}
use Rattle.serving.specs.declared.serving.Ending.TheVariants as ending
use Rattle.serving.specs.declared.taking.Taken.{Taken}
use Rattle.serving.specs.declared.taking.Taken.TheVariants as taken
use Rattle.serving.specs.Taking.{ArePassed, AreTaken, IsCutTaken, IsTaken, IsCut, EndsIn, HasServed, HasServedSome, HasServedOne, HasEnded, KeepsWriter, frames_bytes, is_more, is_sized, wish_in}

given_both : (xs ys : List ℕ) → as_given (xs ++ ys) ≡ as_given xs ++ as_given ys
given_both xs ys = map-append (λ b. Some b) xs ys

-- three bytes and as many as they say are a frame
frame_is : (h body : List ℕ) (kind size : ℕ) → length h ≡ 3 → kind ≡ get_or h 0 0 → size ≡ get_or h 1 0 + 256 * get_or h 2 0 → get_or h 1 0 < 256 → length body ≡ size → h ++ body ≡ frame kind body
unfolding frame cell_bytes
frame_is [] body kind size n k s low e = grind arith
frame_is (a ∷ []) body kind size n k s low e = grind arith
frame_is (a ∷ b ∷ []) body kind size n k s low e = grind arith
frame_is (a ∷ b ∷ c ∷ []) body kind size n k s low e =
    let x : length body % 256 ≡ b = omega (arith, e, s, low) in
    let y : length body / 256 ≡ c = omega (arith, e, s, low) in
    rw (k, x, y) refl
frame_is (a ∷ b ∷ c ∷ d ∷ h) body kind size n k s low e = grind arith

is_cut : (h body : List ℕ) (size : ℕ) → length h ≡ 3 → size ≡ get_or h 1 0 + 256 * get_or h 2 0 → length body < size → IsCut (h ++ body)
is_cut [] body size n s e = grind arith
is_cut (a ∷ []) body size n s e = grind arith
is_cut (a ∷ b ∷ []) body size n s e = grind arith
is_cut (a ∷ b ∷ c ∷ []) body size n s e = inr (omega (arith, s, e))
is_cut (a ∷ b ∷ c ∷ d ∷ h) body size n s e = grind arith

-- what a reader gave for a frame, after what it gave before
abbrev pub Gave : Taken → (body : List ℕ) → List (Option ℕ) → List (Option ℕ) → Type 0
Gave t body reads reads' = (given : List (Option ℕ)) × IsTaken t body given × (reads' ≡ reads ++ given)

pub frame_taken : (h body : List ℕ) (kind size : ℕ) (r m r' : List (Option ℕ)) → AreTaken 3 h true r m → kind ≡ get_or h 0 0 → size ≡ cell_in h 1 → get_or h 1 0 < 256 → size < 65536 → AreTaken size body true m r' → Gave (taken.Frame kind) body r r'
frame_taken h body kind size r m r' one k s low few two = (
  as_given (frame kind body),
  (omega (arith, two.0, few), refl),
  two.1 ∙ ap (λ v. v ++ as_given body) one.1 ∙ append_assoc r (as_given h) (as_given body)
      ∙ ap (λ v. r ++ v) (sym (given_both h body) ∙ ap as_given (frame_is h body kind size one.0 k s low two.0)),
)

-- the end came in the first three bytes
pub head_ended : (h body : List ℕ) (r r' : List (Option ℕ)) → AreTaken 3 h false r r' → Gave taken.End body r r'
head_ended h body r r' one = (as_given h ++ None ∷ [], (h, inl one.0, refl), one.1)

pub head_failed : (h body : List ℕ) (r r' : List (Option ℕ)) → IsCutTaken 3 h r r' → Gave taken.Failed body r r'
head_failed h body r r' one = (as_given h, (h, inl one.0, refl), one.1)

-- or in those that come then
pub body_ended : (h body : List ℕ) (size : ℕ) (r m r' : List (Option ℕ)) → AreTaken 3 h true r m → size ≡ cell_in h 1 → AreTaken size body false m r' → Gave taken.End body r r'
body_ended h body size r m r' one s two = (
  as_given (h ++ body) ++ None ∷ [],
  (h ++ body, is_cut h body size one.0 s two.0, refl),
  two.1 ∙ ap (λ v. v ++ (as_given body ++ None ∷ [])) one.1 ∙ append_assoc r (as_given h) (as_given body ++ None ∷ [])
      ∙ ap (λ v. r ++ v) (sym (append_assoc (as_given h) (as_given body) (None ∷ [])) ∙ ap (λ v. v ++ None ∷ []) (sym (given_both h body))),
)

pub body_failed : (h body : List ℕ) (size : ℕ) (r m r' : List (Option ℕ)) → AreTaken 3 h true r m → size ≡ cell_in h 1 → IsCutTaken size body m r' → Gave taken.Failed body r r'
body_failed h body size r m r' one s two = (
  as_given (h ++ body),
  (h ++ body, is_cut h body size one.0 s two.0, refl),
  two.1 ∙ ap (λ v. v ++ as_given body) one.1 ∙ append_assoc r (as_given h) (as_given body) ∙ ap (λ v. r ++ v) (sym (given_both h body)),
)

frames_more : (fs : List Frame) (f : Frame) → frames_bytes (fs ++ f ∷ []) ≡ frames_bytes fs ++ frame f.kind f.body
unfolding frames_bytes
frames_more [] f = append-nil (frame f.kind f.body)
frames_more (x ∷ fs) f = ap (λ v. frame x.kind x.body ++ v) (frames_more fs f) ∙ sym (append_assoc (frame x.kind x.body) (frames_bytes fs) (frame f.kind f.body))

reads_more : (fs : List Frame) (f : Frame) (r r' r'' : List (Option ℕ)) → r' ≡ r ++ as_given (frames_bytes fs) → r'' ≡ r' ++ as_given (frame f.kind f.body) → r'' ≡ r ++ as_given (frames_bytes (fs ++ f ∷ []))
reads_more fs f r r' r'' x y =
    y ∙ ap (λ v. v ++ as_given (frame f.kind f.body)) x ∙ append_assoc r (as_given (frames_bytes fs)) (as_given (frame f.kind f.body))
    ∙ ap (λ v. r ++ v) (sym (given_both (frames_bytes fs) (frame f.kind f.body)) ∙ ap as_given (sym (frames_more fs f)))

-- requests, and then others
same_served : (s : State) (c d : List DeviceCall) (x y : List ℕ) → c ≡ d → x ≡ y → (let r : Served = record { state = s; calls = c; replies = x } in r) ≡ record { state = s; calls = d; replies = y }
same_served s c d x y e f = rw (e, f) refl

then_assoc : (a b c : Served) → then_served (then_served a b) c ≡ then_served a (then_served b c)
then_assoc a b c = same_served c.state ((a.calls ++ b.calls) ++ c.calls) (a.calls ++ (b.calls ++ c.calls)) ((a.replies ++ b.replies) ++ c.replies) (a.replies ++ (b.replies ++ c.replies)) (append_assoc a.calls b.calls c.calls) (append_assoc a.replies b.replies c.replies)

then_none : (a : Served) → then_served a (told a.state []) ≡ a
then_none a = same_served a.state (a.calls ++ []) a.calls (a.replies ++ []) a.replies (append-nil a.calls) (append-nil a.replies)

-- one request more
pub served_more : (count : ℕ) (s : State) (ws : List Wish) (w : Wish) (a b : Served) → ServesAll count s ws a → Serves count a.state w true b → ServesAll count s (ws ++ w ∷ []) (then_served a b)
unfolding ServesAll
served_more count s [] w a b x y =
    let one : Serves count s w true b = subst (λ (r : Served). Serves count r.state w true b) x y in
    (b, told b.state [], one, refl, ap (λ (r : Served). then_served r b) x ∙ sym (then_none b))
served_more count s (v ∷ ws) w a b x y =
    let same : a ≡ then_served x.0 x.1 = x.4 in
    let one : Serves count x.1.state w true b = subst (λ (r : Served). Serves count r.state w true b) same y in
    (x.0, then_served x.1 b, x.2, served_more count x.0.state ws w x.1 b x.3 one, ap (λ (r : Served). then_served r b) same ∙ then_assoc x.0 x.1 b)

all_serves : (count : ℕ) (a s : State) (fs : List Frame) (f : Frame) (r b : Served) → ServesAll count a (map wish_in fs) r → s ≡ r.state → Serves count s (wish_in f) true b → ServesAll count a (map wish_in (fs ++ f ∷ [])) (then_served r b)
all_serves count a s fs f r b x e y =
    subst (λ ws. ServesAll count a ws (then_served r b)) (sym (map-append wish_in fs (f ∷ []))) (served_more count a (map wish_in fs) (wish_in f) r b x (subst (λ u. Serves count u (wish_in f) true b) e y))

sends_then : (whole : Bool) (o o' o'' : Option (List ℕ)) (x y : List ℕ) → Appends o o' x → Sends whole o' o'' y → Sends whole o o'' (x ++ y)
sends_then true o o' o'' x y h k = appends_both o o' o'' x y h k
sends_then false o o' o'' x y h k = part_second o o' o'' x y h k

all_served : (whole : Bool) (s t : State) (r b : Served) (c c' c'' : List DeviceCall) (o o' o'' : Option (List ℕ)) → IsServed r true s c c' o o' → IsServed b whole t c' c'' o' o'' → IsServed (then_served r b) whole t c c'' o o''
all_served whole s t r b c c' c'' o o' o'' x y = record {
  state_is = y.state_is;
  calls_are = y.calls_are ∙ ap (λ v. v ++ b.calls) x.calls_are ∙ append_assoc c r.calls b.calls;
  sent_is = sends_then whole o o' o'' r.replies b.replies x.sent_is y.sent_is;
}

first_more : (a b c : Bool) → (a && b) ≡ true → (b ≡ true → c ≡ true) → (a && c) ≡ true
first_more a b c h f = grind arith

all_more : (p : Frame → Bool) (fs : List Frame) (f : Frame) → list_all p fs ≡ true → p f ≡ true → list_all p (fs ++ f ∷ []) ≡ true
all_more p [] f x y = rw y refl
all_more p (g ∷ fs) f x y = first_more (p g) (list_all p fs) (list_all p (fs ++ f ∷ [])) x (λ h. all_more p fs f h y)

fits : (n : ℕ) → n < 65536 → nat_lt n 65536 ≡ true
fits n h = grind arith

one_longer : (fs : List Frame) (f : Frame) (n : ℕ) → length fs ≡ n → length (fs ++ f ∷ []) ≡ n + 1
one_longer fs f n h = length-append fs (f ∷ []) ∙ omega (arith, h)

pub none_served : (count : ℕ) (s : State) (c : List DeviceCall) (r : List (Option ℕ)) (o : Option (List ℕ)) → HasServedSome 0 count s s c c r r o o
unfolding frames_bytes ServesAll
none_served count s c r o = record { frames = []; served_are = refl; sized = refl; more = refl; front = told s []; serves = refl; reads_are = sym (append-nil r); served_is = record { state_is = refl; calls_are = sym (append-nil c); sent_is = appends_none o } }

pub next_served : (n count : ℕ) (a s t : State) (c c' c'' : List DeviceCall) (r r' r'' : List (Option ℕ)) (o o' o'' : Option (List ℕ)) → HasServedSome n count a s c c' r r' o o' → HasServedOne count s t c' c'' r' r'' o' o'' → HasServedSome (n + 1) count a t c c'' r r'' o o''
next_served n count a s t c c' c'' r r' r'' o o' o'' x y = record {
  frames = x.frames ++ framed y.kind y.body ∷ [];
  served_are = one_longer x.frames (framed y.kind y.body) n x.served_are;
  sized = all_more is_sized x.frames (framed y.kind y.body) x.sized (fits (length y.body) y.sized);
  more = all_more is_more x.frames (framed y.kind y.body) x.more y.more;
  front = then_served x.front y.obeyed.one;
  serves = all_serves count a s x.frames (framed y.kind y.body) x.front y.obeyed.one x.serves x.served_is.state_is y.obeyed.serves;
  reads_are = reads_more x.frames (framed y.kind y.body) r r' r'' x.reads_are y.reads_are;
  served_is = all_served true s t x.front y.obeyed.one c c' c'' o o' o'' x.served_is y.obeyed.served_is;
}

pub last_served : (how : Ending) (n count : ℕ) (a s t : State) (c c' c'' : List DeviceCall) (r r' r'' : List (Option ℕ)) (o o' o'' : Option (List ℕ)) → HasServedSome n count a s c c' r r' o o' → HasEnded how count s t c' c'' r' r'' o' o'' → HasServed how count a t c c'' r r'' o o''
last_served how n count a s t c c' c'' r r' r'' o o' o'' x y = record {
  frames = x.frames;
  sized = x.sized;
  more = x.more;
  front = x.front;
  serves = x.serves;
  given = y.given;
  reads_are = y.reads_are ∙ ap (λ v. v ++ y.given) x.reads_are ∙ append_assoc r (as_given (frames_bytes x.frames)) y.given;
  whole = y.whole;
  last = y.last;
  ends = subst (λ u. EndsIn (length x.frames) count how u y.given y.whole y.last) x.served_is.state_is (y.ends (length x.frames));
  served_is = all_served y.whole s t x.front y.last c c' c'' o o' o'' x.served_is y.served_is;
}

-- no more is served
pub none_after : (s : State) (c : List DeviceCall) (o : Option (List ℕ)) → IsServed (told s []) true s c c o o
none_after s c o = record { state_is = refl; calls_are = sym (append-nil c); sent_is = appends_none o }

pub too_many : (count : ℕ) (a s : State) (c c' : List DeviceCall) (r r' : List (Option ℕ)) (o o' : Option (List ℕ)) → HasServedSome 18446744073709551615 count a s c c' r r' o o' → HasServed ending.TooMany count a s c c' r r' o o'
too_many count a s c c' r r' o o' x = record {
  frames = x.frames;
  sized = x.sized;
  more = x.more;
  front = x.front;
  serves = x.serves;
  given = [];
  reads_are = x.reads_are ∙ ap (λ v. r ++ v) (sym (append-nil (as_given (frames_bytes x.frames))));
  whole = true;
  last = told s [];
  ends = (refl, ap (λ u. told u []) x.served_is.state_is, refl, x.served_are);
  served_is = all_served true s s x.front (told s []) c c' c' o o' o' x.served_is (none_after s c' o');
}

-- the reader gave no whole frame
pub ended_here : (body : List ℕ) (count : ℕ) (s : State) (c : List DeviceCall) (r r' : List (Option ℕ)) (o : Option (List ℕ)) → Gave taken.End body r r' → HasEnded ending.End count s s c c r r' o o
ended_here body count s c r r' o g = record { given = g.0; reads_are = g.2; whole = true; last = told s []; ends = λ n. (refl, refl, g.1); served_is = none_after s c o }

pub failed_here : (body : List ℕ) (count : ℕ) (s : State) (c : List DeviceCall) (r r' : List (Option ℕ)) (o : Option (List ℕ)) → Gave taken.Failed body r r' → HasEnded ending.InputFault count s s c c r r' o o
failed_here body count s c r r' o g = record { given = g.0; reads_are = g.2; whole = true; last = told s []; ends = λ n. (refl, refl, g.1); served_is = none_after s c o }

-- a request was obeyed, and its replies were passed on
pub one_obeyed : (kind : ℕ) (body : List ℕ) (count : ℕ) (s t : State) (c c' : List DeviceCall) (r : List (Option ℕ)) (o o' : Option (List ℕ)) → length body < 65536 → is_quit (wished kind body) ≡ false → HasObeyed count (wished kind body) true s t c c' o o'
    → HasServedOne count s t c c' r (r ++ as_given (frame kind body)) o o'
one_obeyed kind body count s t c c' r o o' few q h = record { kind = kind; body = body; sized = few; reads_are = refl; more = ap not q; obeyed = h }

pub quit_obeyed : (kind : ℕ) (body : List ℕ) (count : ℕ) (s t : State) (c c' : List DeviceCall) (r : List (Option ℕ)) (o o' : Option (List ℕ)) → length body < 65536 → is_quit (wished kind body) ≡ true → HasObeyed count (wished kind body) true s t c c' o o'
    → HasEnded ending.Quit count s t c c' r (r ++ as_given (frame kind body)) o o'
quit_obeyed kind body count s t c c' r o o' few q h = record {
  given = as_given (frame kind body);
  reads_are = refl;
  whole = true;
  last = h.one;
  ends = λ n. (refl, record { kind = kind; body = body; sized = few; given_is = refl; serves = h.serves; quits_is = λ e. q });
  served_is = h.served_is;
}

no_quit : (b : Bool) → false ≡ true → b ≡ true
no_quit b e = grind arith

-- or not
pub cut_obeyed : (whole : Bool) (kind : ℕ) (body : List ℕ) (count : ℕ) (s t : State) (c c' : List DeviceCall) (r : List (Option ℕ)) (o o' : Option (List ℕ)) → length body < 65536 → HasObeyed count (wished kind body) whole s t c c' o o'
    → HasEnded ending.OutputFault count s t c c' r (r ++ as_given (frame kind body)) o o'
cut_obeyed whole kind body count s t c c' r o o' few h = record {
  given = as_given (frame kind body);
  reads_are = refl;
  whole = whole;
  last = h.one;
  ends = λ n. record { kind = kind; body = body; sized = few; given_is = refl; serves = h.serves; quits_is = no_quit (is_quit (wished kind body)) };
  served_is = h.served_is;
}

-- equal bytes have equal parts if the first ones are as long
split : (xs ys us vs : List ℕ) → length xs ≡ length ys → xs ++ us ≡ ys ++ vs → (xs ≡ ys) × (us ≡ vs)
split [] [] us vs n e = (refl, e)
split [] (y ∷ ys) us vs n e = grind arith
split (x ∷ xs) [] us vs n e = grind arith
split (x ∷ xs) (y ∷ ys) us vs n e =
    let first : x ≡ y = ap (λ (l : List ℕ). get_or l 0 0) e in
    let rest : xs ++ us ≡ ys ++ vs = ap (λ (l : List ℕ). drop 1 l) e in
    let both : (xs ≡ ys) × (us ≡ vs) = split xs ys us vs (omega (arith, n)) rest in
    (ap (λ v. v ∷ xs) first ∙ ap (λ l. y ∷ l) both.0, both.1)

one_frame : (f g : Frame) (u v : List ℕ) → frame f.kind f.body ++ u ≡ frame g.kind g.body ++ v → (f ≡ g) × (u ≡ v)
unfolding frame cell_bytes
one_frame f g u v e =
    let kind : f.kind ≡ g.kind = ap (λ (l : List ℕ). get_or l 0 0) e in
    let low : length f.body % 256 ≡ length g.body % 256 = ap (λ (l : List ℕ). get_or l 1 0) e in
    let high : length f.body / 256 ≡ length g.body / 256 = ap (λ (l : List ℕ). get_or l 2 0) e in
    let rest : f.body ++ u ≡ g.body ++ v = ap (λ (l : List ℕ). drop 3 l) e in
    let both : (f.body ≡ g.body) × (u ≡ v) = split f.body g.body u v (omega (arith, low, high)) rest in
    (ap (λ k. framed k f.body) kind ∙ ap (λ b. framed g.kind b) both.0, both.1)

no_cut : (k : ℕ) (body v : List ℕ) → IsCut (frame k body ++ v) → ⊥
unfolding frame cell_bytes
no_cut k body v (inl h) = omega (arith, h)
no_cut k body v (inr h) = let n : length (body ++ v) ≡ length body + length v = length-append body v in omega (arith, h, n)

-- bytes are those of one list of frames, and of one cut frame after them
pub same_frames : (fs gs : List Frame) (c d : List ℕ) → IsCut c → IsCut d → frames_bytes fs ++ c ≡ frames_bytes gs ++ d → (fs ≡ gs) × (c ≡ d)
unfolding frames_bytes
same_frames [] [] c d x y e = (refl, e)
same_frames [] (g ∷ gs) c d x y e = absurd (no_cut g.kind g.body (frames_bytes gs ++ d) (subst IsCut (e ∙ append_assoc (frame g.kind g.body) (frames_bytes gs) d) x))
same_frames (f ∷ fs) [] c d x y e = absurd (no_cut f.kind f.body (frames_bytes fs ++ c) (subst IsCut (sym e ∙ append_assoc (frame f.kind f.body) (frames_bytes fs) c) y))
same_frames (f ∷ fs) (g ∷ gs) c d x y e =
    let here : (f ≡ g) × (frames_bytes fs ++ c ≡ frames_bytes gs ++ d) =
    one_frame f g (frames_bytes fs ++ c) (frames_bytes gs ++ d) (sym (append_assoc (frame f.kind f.body) (frames_bytes fs) c) ∙ e ∙ append_assoc (frame g.kind g.body) (frames_bytes gs) d) in
    let more : (fs ≡ gs) × (c ≡ d) = same_frames fs gs c d x y here.1 in
    (ap (λ h. h ∷ fs) here.0 ∙ ap (λ hs. g ∷ hs) more.0, more.1)

-- passed on before and after
pub passed_both : (p p' p'' : Bool) (o o' o'' : Option (List ℕ)) → ArePassed p p' o o' → ArePassed p' p'' o' o'' → ArePassed p p'' o o''
passed_both p p' p'' o o' o'' x (inl h) = inl h
passed_both p p' p'' o o' o'' (inl h) (inr k) = inl (k.1 ∙ h)
passed_both p p' p'' o o' o'' (inr h) (inr k) = inr (k.0 ∙ h.0, k.1 ∙ h.1)

pub writer_both : (how : Ending) (f f' f'' p p' p'' : Bool) (o o' o'' : Option (List ℕ)) → f' ≡ f → ArePassed p p' o o' → KeepsWriter (Some how) f' f'' p' p'' o' o'' → KeepsWriter (Some how) f f'' p p'' o o''
writer_both ending.OutputFault f f' f'' p p' p'' o o' o'' e x h = h
writer_both ending.Quit f f' f'' p p' p'' o o' o'' e x h = (h.0 ∙ e, passed_both p p' p'' o o' o'' x h.1)
writer_both ending.End f f' f'' p p' p'' o o' o'' e x h = (h.0 ∙ e, passed_both p p' p'' o o' o'' x h.1)
writer_both ending.InputFault f f' f'' p p' p'' o o' o'' e x h = (h.0 ∙ e, passed_both p p' p'' o o' o'' x h.1)
writer_both ending.TooMany f f' f'' p p' p'' o o' o'' e x h = (h.0 ∙ e, passed_both p p' p'' o o' o'' x h.1)
