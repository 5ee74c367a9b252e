-- How many bytes replies have.
use Rattle.std.proofs.Common.{◌≡◌, ℕ, zero, suc, ◌+◌, ◌*◌, ◌/◌, ◌%◌, ◌-◌, ◌<◌, ◌≤◌, List, [], ◌∷◌, ◌++◌, Option, Some, None, Result, OnOk, refl, sym, ap, ◌∙◌, arith, length, take, drop}
use Rattle.std.proofs.lemmas.List.{length-append, take-append-drop}
use Rattle.std.specs.Io.KnownBytes.{Appends}
use Rattle.memory.specs.Bytes.{cell_bytes}
use Rattle.inner_interpreter.specs.declared.ends.EndFault.{EndFault}
use Rattle.inner_interpreter.proofs.Running.{on_ok_then}
use Rattle.machine.specs.State.{State}
use Rattle.machine.specs.declared.act.Shown.{Shown}
use Rattle.inner_interpreter.specs.Moves.{shown_bytes}
use Rattle.serving.specs.Frames.{frame, pieces, shown_pieces, shown_reply}
use Rattle.serving.specs.Replies.{end_reply, long_bytes, refusal}
use Rattle.serving.specs.declared.replies.Standing.{Standing}
use Rattle.serving.specs.Room.{SendsFew, move_room}
use Rattle.serving.specs.Served.{move_refusal}

pub few_none : (most : ℕ) (a : Option (List ℕ)) → SendsFew most a a
few_none most None = tt
few_none most (Some xs) = omega arith

pub few_sent : (most : ℕ) (a b : Option (List ℕ)) (bs : List ℕ) → Appends a b bs → length bs ≤ most → SendsFew most a b
few_sent most a b bs h k = grind (arith, length-append)

-- one after the other
pub few_both : (m n most : ℕ) (a b c : Option (List ℕ)) → SendsFew m a b → SendsFew n b c → m + n ≤ most → SendsFew most a c
few_both m n most a b c h k le = grind arith

cell_length : (n : ℕ) → length (cell_bytes n) ≡ 2
unfolding cell_bytes
cell_length n = refl

frame_length : (kind : ℕ) (body : List ℕ) → length (frame kind body) ≡ length body + 3
unfolding frame
frame_length kind body =
    let two = cell_length (length body) in length-append (kind ∷ cell_bytes (length body)) body ∙ omega (arith, two)

pieces_length : (full kind : ℕ) (bytes : List ℕ) → length (pieces full kind bytes) ≡ length bytes + 3 * (full + 1)
unfolding pieces
pieces_length zero kind bytes = frame_length kind bytes
pieces_length (suc n) kind bytes =
    let whole : length (take 2048 bytes) + length (drop 2048 bytes) ≡ length bytes = sym (length-append (take 2048 bytes) (drop 2048 bytes)) ∙ ap length (take-append-drop 2048 bytes) in
    let here = frame_length kind (take 2048 bytes) in
    let rest = pieces_length n kind (drop 2048 bytes) in
    length-append (frame kind (take 2048 bytes)) (pieces n kind (drop 2048 bytes)) ∙ omega (arith, whole, here, rest)

lean_by : (size : ℕ) (bytes : List ℕ) → length bytes ≡ size → size < 2048 → length (shown_pieces size bytes) ≤ 4 * size
unfolding shown_pieces
lean_by zero bytes e h = omega arith
lean_by (suc n) bytes e h =
    let all = pieces_length (n / 2048) 115 bytes in omega (arith, all, e, h)

-- few bytes that are shown: at most four for each
pub lean_shown : (bytes : List ℕ) → length bytes < 2048 → length (shown_reply bytes) ≤ 4 * length bytes
unfolding shown_reply
lean_shown bytes h = lean_by (length bytes) bytes refl h

most_by : (size : ℕ) (bytes : List ℕ) → length bytes ≡ size → size ≤ 65536 → length (shown_pieces size bytes) ≤ 65632
unfolding shown_pieces
most_by zero bytes e h = omega arith
most_by (suc n) bytes e h =
    let all = pieces_length (n / 2048) 115 bytes in omega (arith, all, e, h)

-- as many as an act can show
pub most_shown : (bytes : List ℕ) → length bytes ≤ 65536 → length (shown_reply bytes) ≤ 65632
unfolding shown_reply
most_shown bytes h = most_by (length bytes) bytes refl h

pub end_length : (done : ℕ) (s : Standing) → length (end_reply done s) ≤ 10
unfolding end_reply
end_length done s =
    let all = frame_length 101 (long_bytes done ++ s.letter ∷ s.number % 256 ∷ s.number / 256 ∷ []) in omega (arith, all)

pub refusal_length : (cause : ℕ) → length (refusal cause) ≤ 10
unfolding refusal
refusal_length cause = let all = frame_length 33 (cause ∷ []) in omega (arith, all)

-- the end of a move
pub end_room : {T : Type 0} (r : Result T EndFault) (a b : Option (List ℕ)) (done : ℕ) (s : Standing) → OnOk r (Appends a b (end_reply done s)) → OnOk r (SendsFew move_room a b)
end_room r a b done s h =
    let few = end_length done s in on_ok_then r _ _ (λ sent. few_sent move_room a b (end_reply done s) sent (omega (arith, few))) h

pub refusal_room : {T : Type 0} (r : Result T EndFault) (a b : Option (List ℕ)) (cause : ℕ) → OnOk r (Appends a b (refusal cause)) → OnOk r (SendsFew move_room a b)
refusal_room r a b cause h =
    let few = refusal_length cause in on_ok_then r _ _ (λ sent. few_sent move_room a b (refusal cause) sent (omega (arith, few))) h

-- a move that is not taken
pub refused_room : {T : Type 0} (r : Result T EndFault) (a b : Option (List ℕ)) (s : State) → OnOk r (Appends a b (move_refusal s)) → OnOk r (SendsFew move_room a b)
unfolding move_refusal
refused_room r a b s h = refusal_room r a b _ h

-- what a move showed, and its end
pub act_room : {T : Type 0} (r : Result T EndFault) (a b c : Option (List ℕ)) (bytes : List ℕ) (done : ℕ) (s : Standing) → length bytes ≤ 65536 → Appends a b (shown_reply bytes) → OnOk r (Appends b c (end_reply done s)) → OnOk r (SendsFew move_room a c)
act_room r a b c bytes done s fits shown h =
    let few = end_length done s in
    on_ok_then r _ _ (λ sent. few_both 65632 10 move_room a b c (few_sent 65632 a b (shown_reply bytes) shown (most_shown bytes fits)) (few_sent 10 b c (end_reply done s) sent few) (omega arith)) h

-- ticks, and what they showed, while few bytes were shown
pub lean_on : (sh len : ℕ) (m : List ℕ) (shown : Shown) (a b c : Option (List ℕ)) → len ≡ length (shown_bytes m shown) → SendsFew (4 * sh) a b → Appends b c (shown_reply (shown_bytes m shown)) → sh + len < 2048 → SendsFew (4 * (sh + len)) a c
lean_on sh len m shown a b c e few sent fits =
    let part = lean_shown (shown_bytes m shown) (omega (arith, e, fits)) in
    few_both (4 * sh) (4 * len) (4 * (sh + len)) a b c few (few_sent (4 * len) b c (shown_reply (shown_bytes m shown)) sent (omega (arith, e, part))) (omega arith)

-- the same up to the last one
pub most_on : (sh len : ℕ) (m : List ℕ) (shown : Shown) (a b c : Option (List ℕ)) → len ≡ length (shown_bytes m shown) → SendsFew (4 * sh) a b → Appends b c (shown_reply (shown_bytes m shown)) → sh < 2048 → len ≤ 65536 → SendsFew 73820 a c
most_on sh len m shown a b c e few sent fits all =
    let part = most_shown (shown_bytes m shown) (omega (arith, e, all)) in
    few_both (4 * sh) 65632 73820 a b c few (few_sent 65632 b c (shown_reply (shown_bytes m shown)) sent part) (omega (arith, fits))
