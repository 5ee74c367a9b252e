-- One word of a body, as the machine reads it.
use Rattle.std.proofs.Common.{◌≡◌, ℕ, ◌+◌, ◌*◌, ◌-◌, ◌<◌, ◌≤◌, ◌/◌, ◌%◌, ◌++◌, ◌∷◌, List, length, take, drop, refl, arith, false, ap, sym, subst, ◌∙◌, length-append, length-drop, Some, inl, inr, ◌⊎◌, Bool, true}
use Rattle.std.specs.Prelude.{◌==◌, nat_lt, nat_le, ◌||◌}
use Rattle.std.proofs.lemmas.List.{ext_get_or, take-append-drop, take-append-le, length-take-le}
use Rattle.cells.specs.Cell.{wrap}
use Rattle.memory.specs.declared.limit.TheConstants.{GREATEST_LIMIT}
use Rattle.memory.specs.Bytes.{byte, bytes, cell, put_cell, put_bytes, cell_bytes, limit_of}
use Rattle.memory.proofs.Ranges.{length-bytes, byte-bytes}
use Rattle.memory.proofs.Kept.{wrap_small, byte_cell, byte_below, byte_above, cell_beside}
use Rattle.memory.proofs.Same.{Stands, bytes_by, cell_by}
use Rattle.memory.proofs.Both.{stands_has}
use Rattle.dictionary.specs.Laying.{laid_at}
use Rattle.dictionary.proofs.Fronted.{Fronted}
use Rattle.compiling_words.specs.Code.{runtime, control_code, literal_code, text_code}
use Rattle.compiling_words.specs.Laying.{laid}
use Rattle.colon_bodies.specs.declared.words.Half.{Half}
use Rattle.colon_bodies.specs.declared.words.Half.TheVariants.{Free, Compiling}
use Rattle.colon_bodies.specs.Tokens.{Token, NAME, NUMBER, DOUBLE, TEXT, FORCE, laid_by, text_control}
use Rattle.colon_bodies.specs.Tree.{Body, Tick}
use Rattle.colon_bodies.specs.Open.{Outer, Top, Past, InIf, InElse, InBegin, InWhile, InDo, At, fit, read, open_size, open_code, frames}
use Rattle.colon_bodies.proofs.Laying.{length-open}
use Rattle.colon_bodies.proofs.Cells.{length-cell}
use Rattle.resident_bodies.specs.Words.{lays, row_of}
use Rattle.resident_bodies.specs.Drafts.{places, Draft, Kept}
use Rattle.resident_bodies.proofs.Ending.{head_low, kept_cell}
use Rattle.resident_bodies.proofs.Words.{length-two, word_is, tick_name}
use Rattle.block_buffers.specs.Disks.{Disk, block_at}
use Rattle.dictionary.specs.Header.{is_immediate, compilation_address}
use Rattle.dictionary.specs.Search.{Found, Nowhere, sought, sought_from}
use Rattle.number_text.specs.Numbers.{is_number, is_double, number_value}
use Rattle.machine_parts.specs.Whole.{Whole}
use Rattle.machine_parts.specs.Row.{After, needs, done, has_room}
use Rattle.machine_parts.specs.declared.parts.Outcome.TheVariants.{Done}
use Rattle.input_source.specs.declared.words.Stream.{Stream}
use Rattle.input_source.specs.declared.words.Word.{Word}
use Rattle.input_source.specs.Words.{parsed, parsed_in, bytes_in, bytes_of}
use Rattle.primitives.specs.Interpret.{compiles_past}
use Rattle.primitives.specs.Defining.{lays_past}
use Rattle.primitives.specs.Names.{finds_word, searches}
use Rattle.plain_rows.specs.Table.{row_in}
use Rattle.primitives.specs.Table.{row, compiling}
use Rattle.resident_bodies.proofs.Bodies.{grows}
use Rattle.resident_bodies.proofs.Rows.{has_room_is, row_is, lays_past_is}
use Rattle.resident_bodies.proofs.Moved.{moved_text}
use Rattle.metacompiler.specs.Loop.{Words}
use Rattle.metacompiler.specs.Seen.{Sees}
use Rattle.metacompiler.specs.Turning.{MovesStream, KeepsStream, Holds, Ready}
use Rattle.metacompiler.specs.Opened.{Opened, Drafts, Turned}
use Rattle.metacompiler.proofs.Orders.{hidden_named, sees_fronted}
use Rattle.metacompiler.specs.Rounds.{at}
use Rattle.metacompiler.specs.ScreenStream.{Reading, stream, next, name}
use Rattle.metacompiler.specs.Meaning.{Key}
use Rattle.metacompiler.proofs.Turns.{takes, takes_compiled, takes_executed, takes_single, takes_double, named_here, reads_here, parsed_here, parsed_within, some_bytes, next_within, length_text, reading_at, ready_aside, moves, aside_moved, aside_on, compiled, executed, leads_by, ready_least}

-- A definition written in part, at a turn of INTERPRET's loop.

-- bytes that are at a place, as a range of memory, and back
stands_bytes : (m bs : List ℕ) (pf : ℕ) → length m ≡ 65536 → pf + length bs < 65536 → Stands m pf bs → bytes m pf (length bs) ≡ bs
stands_bytes m bs pf l h s =
    let e : length (bytes m pf (length bs)) ≡ length bs = length-bytes m pf (length bs) l (omega arith) in
    ext_get_or 0 (bytes m pf (length bs)) bs e (λ (i : ℕ) (p : i < length (bytes m pf (length bs))).
    let q : i < length bs = subst (λ (x : ℕ). i < x) e p in
    (byte-bytes m pf (length bs) i l (omega arith) (omega arith) q) ∙ (ap (byte m) (wrap_small (pf + i) (omega arith))) ∙ stands_has m pf i bs s q)

bytes_stand : (m bs : List ℕ) (pf : ℕ) → length m ≡ 65536 → pf + length bs < 65536 → bytes m pf (length bs) ≡ bs → Stands m pf bs
unfolding bytes
bytes_stand m bs pf l h e =
    let n : length (drop pf m) ≡ length m - pf = length-drop pf m in
    let front : take (length bs) (drop pf m) ≡ bs = sym (take-append-le (length bs) (drop pf m) m (omega arith)) ∙ e in
    let back : drop pf m ≡ bs ++ drop (length bs) (drop pf m) = sym (take-append-drop (length bs) (drop pf m)) ∙ ap (λ (xs : List ℕ). xs ++ drop (length bs) (drop pf m)) front in
    record {
      before = take pf m;
      after = drop (length bs) (drop pf m);
      is = sym (take-append-drop pf m) ∙ ap (λ (xs : List ℕ). take pf m ++ xs) back;
      place = length-take-le pf m (omega arith);
    }

stands_moved : {limit : ℕ} (m m' bs : List ℕ) (pf : ℕ) → limit ≤ GREATEST_LIMIT → length m ≡ 65536 → 256 ≤ pf → pf + length bs ≤ limit → MovesStream limit m m' → Stands m pf bs → Stands m' pf bs
stands_moved {limit} m m' bs pf top l lo h k s = grind (arith, bytes_stand, bytes_by, stands_bytes)

-- the draft, if the stream moved
pub drafts_kept : {limit : ℕ} (m1 : List ℕ) (pf : ℕ) (o : Outer) (t : Body) (h : Half) (d below m m' : List ℕ) → 256 ≤ pf → limit ≤ GREATEST_LIMIT → MovesStream limit m m' → Drafts limit m1 pf o t h d below m → Drafts limit m1 pf o t h d below m'
drafts_kept {limit} m1 pf o t h d below m m' lo top k g =
    let room = g.room in
    let n = length-open (runtime m1) o t h pf in
    record {
      draft = record {
        stands = stands_moved m m' (open_code (runtime m1) o t h pf) pf top g.draft.all lo (omega arith) k g.draft.stands;
        here = cell_by m' m 28 (omega arith) (k.same 28 (omega arith) (omega arith)) (k.same 29 (omega arith) (omega arith)) ∙ g.draft.here;
        kept = λ i a b c. k.same i (omega arith) b ∙ g.draft.kept i a b c;
        all = k.all;
        stack = g.draft.stack;
      };
      room = g.room;
    }

-- what the machine finds while a body is read
fronted_kept : {limit : ℕ} (ws : Words) (a cur ctx most here head pf : ℕ) (n m1 title m : List ℕ) → Opened limit ws a cur ctx most here head pf n m1 title → Kept pf m m1 → length m ≡ 65536 → Fronted n m here head (here + 2)
fronted_kept {limit} ws a cur ctx most here head pf n m1 title m g k l =
    let f = g.fronted in
    let hl = head_low head here g.orderly.low (g.orderly.heads head g.head_is) in
    record {
      head_is = kept_cell pf head m m1 k (omega arith) (omega arith) (omega arith) (omega arith) (omega arith) (omega arith) ∙ f.head_is;
      link_is = kept_cell pf (here + 2) m m1 k (omega arith) (omega arith) (omega arith) (omega arith) (omega arith) (omega arith) ∙ f.link_is;
      some = f.some;
      low = f.low;
      high = f.high;
      same = λ i x y z w. k i (omega arith) (omega arith) (omega arith) ∙ f.same i x y z w;
      all = f.all;
      all_new = l;
    }

pub sees_kept : {limit : ℕ} (ws : Words) (a cur ctx most here head pf : ℕ) (n m1 title m : List ℕ) → Opened limit ws a cur ctx most here head pf n m1 title → Kept pf m m1 → length m ≡ 65536 → Sees limit ws a here n cur m
sees_kept {limit} ws a cur ctx most here head pf n m1 title m g k l =
    sees_fronted ws a cur ctx most here head n m g.orderly g.few g.head_is (fronted_kept ws a cur ctx most here head pf n m1 title m g k l)
    (λ x. hidden_named m title x here g.short (omega arith) (k (here + 4) (omega arith) (omega arith) (omega arith) ∙ g.count))
    (kept_cell pf 32 m m1 k (omega arith) (omega arith) (omega arith) (omega arith) (omega arith) (omega arith) ∙ g.context)
    (kept_cell pf 18 m m1 k (omega arith) (omega arith) (omega arith) (omega arith) (omega arith) (omega arith) ∙ g.ten)

pub compiling_kept : {limit : ℕ} (ws : Words) (a cur ctx most here head pf : ℕ) (n m1 title m : List ℕ) → Opened limit ws a cur ctx most here head pf n m1 title → Kept pf m m1 → (cell m 16 == 0) ≡ false
compiling_kept {limit} ws a cur ctx most here head pf n m1 title m g k =
    let e : cell m 16 ≡ 65535 = kept_cell pf 16 m m1 k (omega arith) (omega arith) (omega arith) (omega arith) (omega arith) (omega arith) ∙ g.compiling in
    rw e refl

pub low_place : {limit : ℕ} (ws : Words) (a cur ctx most here head pf : ℕ) (n m1 title : List ℕ) → Opened limit ws a cur ctx most here head pf n m1 title → 256 ≤ pf
low_place {limit} ws a cur ctx most here head pf n m1 title g = let lo = g.orderly.low in let p = g.place in omega arith

pub holds_draft : {limit : ℕ} (ws : Words) (a cur ctx most here head pf : ℕ) (n m1 title : List ℕ) (o : Outer) (t : Body) (h : Half) (d below : List ℕ) → Opened limit ws a cur ctx most here head pf n m1 title → Holds limit ws a here n cur (Drafts limit m1 pf o t h d below)
holds_draft {limit} ws a cur ctx most here head pf n m1 title o t h d below g = record {
  keep = λ m m' k x. drafts_kept m1 pf o t h d below m m' (low_place ws a cur ctx most here head pf n m1 title g) g.top k x;
  sees = λ m x. sees_kept ws a cur ctx most here head pf n m1 title m g x.draft.kept x.draft.all;
}

-- what words write is aside from the stream
abbrev IsAside : (limit : ℕ) → ℕ → Type 0
IsAside limit i = (limit ≤ GREATEST_LIMIT) × ((i / 4 ≡ 5) ⊎ (limit ≤ i))

laid_byte : {limit : ℕ} (m bs : List ℕ) (i : ℕ) → 256 ≤ cell m 28 → cell m 28 + length bs ≤ limit → IsAside limit i → byte (laid m bs) i ≡ byte m i
unfolding laid_at
laid_byte {limit} m bs i l h y0 = grind (arith, byte_cell, put_bytes, cell, wrap, byte_below, byte_above)

put_aside : {limit : ℕ} (m : List ℕ) (p x i : ℕ) → 256 ≤ p → p + 1 < limit → IsAside limit i → byte (put_cell m p x) i ≡ byte m i
put_aside {limit} m p x i l h y0 = grind (arith, byte_cell)

resolved_byte : {limit : ℕ} (m bs : List ℕ) (p x i : ℕ) → 256 ≤ cell m 28 → cell m 28 + length bs ≤ limit → 256 ≤ p → p + 1 < limit → IsAside limit i → byte (put_cell (laid m bs) p x) i ≡ byte m i
resolved_byte {limit} m bs p x i l h lo hi a = put_aside (laid m bs) p x i lo hi a ∙ laid_byte m bs i l h a

two_byte : {limit : ℕ} (m : List ℕ) (k x i : ℕ) → 256 ≤ cell m 28 → cell m 28 + 4 ≤ limit → IsAside limit i → byte (laid m (control_code m k x)) i ≡ byte m i
two_byte {limit} m k x i l h a = laid_byte m (control_code m k x) i l (omega (arith, length-two (cell m (64 + 2 * k)) x)) a

one_byte : {limit : ℕ} (m : List ℕ) (x i : ℕ) → 256 ≤ cell m 28 → cell m 28 + 2 ≤ limit → IsAside limit i → byte (laid m (cell_bytes x)) i ≡ byte m i
one_byte {limit} m x i l h a = laid_byte m (cell_bytes x) i l (omega (arith, length-cell x)) a

length-text : (x : ℕ) (bs : List ℕ) → length (text_code x bs) ≡ 3 + length bs
unfolding text_code
length-text x bs = length-append (cell_bytes x) (length bs ∷ bs) ∙ omega (arith, length-cell x)

length-wide : (m : List ℕ) (x y : ℕ) → length (literal_code m x ++ literal_code m y) ≡ 8
length-wide m x y = length-append (literal_code m x) (literal_code m y) ∙ omega (arith, length-two (cell m 76) x, length-two (cell m 76) y)

abbrev Room : (limit : ℕ) → ℕ → Outer → Body → Half → Token → List ℕ → Type 0
Room limit at o t h w m = (256 ≤ at) × (at + open_size o t h + laid_by w ≤ limit) × (cell m 28 ≡ at + open_size o t h)

fit_aside : {limit : ℕ} (at : ℕ) (o p : Outer) (t u : Body) (k : Half) (w : Token) (m below : List ℕ) (i : ℕ) → Room limit at o t Free w m → fit o t w ≡ Some (At p u k) → IsAside limit i → byte (lays w m (places at o ++ below)).0 i ≡ byte m i
fit_aside {limit} at o p t u k w m below i r e a = grind (arith, one_byte, two_byte, laid_byte, length-wide, length-text, put_aside, resolved_byte, length-two)

read_aside : {limit : ℕ} (at : ℕ) (o p : Outer) (t u : Body) (h k : Half) (w : Token) (m below : List ℕ) (i : ℕ) → Room limit at o t h w m → read o t h w ≡ Some (At p u k) → IsAside limit i → byte (lays w m (places at o ++ below)).0 i ≡ byte m i
read_aside {limit} at o p t u h k (NAME w) m below i r e a = let r0 = r.0 in let r1 = r.1 in let r2 = r.2 in one_byte m w i (omega arith) (omega arith) a
read_aside {limit} at o p t u Free k w m below i r e a = fit_aside at o p t u k w m below i r e a
read_aside {limit} at o p t u Compiling k FORCE m below i r e a = refl
read_aside {limit} at o p t u _ k _ m below i r e a = cc

-- a word that was written leaves the stream
pub lays_aside : {limit : ℕ} (before : List ℕ) (at : ℕ) (o p : Outer) (t u : Body) (h k : Half) (w : Token) (m d below : List ℕ) (q : ℕ) → 256 ≤ at → limit ≤ GREATEST_LIMIT → at + open_size o t h + laid_by w ≤ limit → read o t h w ≡ Some (At p u k) → Draft before at o t h m d below
    → cell m 20 ≡ q → q ≤ 1024 → length (lays w m d).0 ≡ 65536 → KeepsStream limit m (lays w m d).0 q
lays_aside {limit} before at o p t u h k w m d below q l top r e g c hq n =
    let same : (i : ℕ) → IsAside limit i → byte (lays w m d).0 i ≡ byte m i = λ i a. subst (λ x. byte (lays w m x).0 i ≡ byte m i) (sym g.stack) (read_aside at o p t u h k w m below i (l, r, g.here) e a) in
    record {
      all = n;
      blk = cell_by (lays w m d).0 m 22 (omega arith) (same 22 (top, inl refl)) (same 23 (top, inl refl));
      place = cell_by (lays w m d).0 m 20 (omega arith) (same 20 (top, inl refl)) (same 21 (top, inl refl)) ∙ c;
      within = hq;
      above = λ i a b. same i (top, inr a);
    }

-- the cells of open structures: at most two each
pub places_length : (at : ℕ) (o : Outer) → length (places at o) ≤ 2 * frames o
places_length at Top = omega arith
places_length at (Past t) = omega arith
places_length at (InIf o t) = let h = places_length at o in omega arith
places_length at (InElse o t a) = let h = places_length at o in omega arith
places_length at (InBegin o t) = let h = places_length at o in omega arith
places_length at (InWhile o t a) = let h = places_length at o in omega arith
places_length at (InDo o t) = let h = places_length at o in omega arith

pub stack_room : (before : List ℕ) (at : ℕ) (o : Outer) (t : Body) (h : Half) (m d below : List ℕ) → Draft before at o t h m d below → frames o ≤ 64 → length below ≤ 100 → length d ≤ 250
stack_room before at o t h m d below g f b = grind (arith, places_length, length-append)

-- One word of a body, as the machine reads it.

-- a draft and one word more
more_drafts : {limit : ℕ} (m1 : List ℕ) (pf : ℕ) (o p : Outer) (t v : Body) (h g : Half) (k : Token) (m d below : List ℕ) → 256 ≤ pf → limit ≤ GREATEST_LIMIT → pf + open_size o t h + laid_by k ≤ limit → read o t h k ≡ Some (At p v g) → Draft m1 pf o t h m d below → Drafts limit m1 pf p v g (lays k m d).1 below (lays k m d).0
more_drafts {limit} m1 pf o p t v h g k m d below l top r e x = record { draft = word_is m1 pf o p t v h g k m d below l (omega arith) e x; room = let n = grows o p t v h g k e in omega arith }

-- a word that writes bytes by (INTERPRET) itself
pub compiles_step : {limit : ℕ} (ws : Words) (a cur ctx most here head pf : ℕ) (n m1 title : List ℕ) (o p : Outer) (t v : Body) (h g : Half) (k : Token) (u : Whole) (f : Disk) (d below bs : List ℕ) (b at0 more : ℕ) →
    let text = block_at f.blocks b in let q = (next text at0).next in let m0 = put_cell u.memory 20 q in
    Opened limit ws a cur ctx most here head pf n m1 title → Ready limit f u b at0 more → Drafts limit m1 pf o t h d below u.memory → length d ≤ 250 → takes (at u d (a + 2)) (next text at0) (name text at0) ≡ compiles_past (at u d (a + 2)) (next text at0) bs
    → length bs ≡ laid_by k → lays k m0 d ≡ (laid m0 bs, d) → read o t h k ≡ Some (At p v g) → pf + open_size o t h + laid_by k ≤ limit
    → Turned limit ws.interpret a (λ e m. Drafts limit m1 pf p v g e below m) u f d b q more
compiles_step {limit} ws a cur ctx most here head pf n m1 title o p t v h g k u f d below bs b at0 more x r y l took len is e room =
    let text = block_at f.blocks b in
    let q = (next text at0).next in
    let m0 = put_cell u.memory 20 q in
    let m2 = laid m0 bs in
    let lo = low_place ws a cur ctx most here head pf n m1 title x in
    let top = x.top in
    let rd = r.reading in
    let hq : q ≤ 1024 = next_within text at0 (length_text u b at0 text rd) rd.within in
    let g0 : Drafts limit m1 pf o t h d below m0 = drafts_kept m1 pf o t h d below u.memory m0 lo top (moves u.memory q rd.all) y in
    let new = more_drafts m1 pf o p t v h g k m0 d below lo top room e g0.draft in
    let gm : Drafts limit m1 pf p v g d below m2 = subst (λ z. Drafts limit m1 pf p v g z.1 below z.0) is new in
    let as0 = aside_moved u.memory q (ready_least r) rd.all hq in
    let as1 = lays_aside m1 pf o p t v h g k m0 d below q lo top room e g0.draft as0.place hq new.draft.all in
    let s = sees_kept ws a cur ctx most here head pf n m1 title u.memory x y.draft.kept y.draft.all in
    let t2 = (sees_kept ws a cur ctx most here head pf n m1 title m2 x gm.draft.kept gm.draft.all).thread in
    record {
      memory = m2;
      values = d;
      leads = leads_by ws.interpret 6 (at u d a) (at (record u { memory = m2 }) d a) f f b more (compiled ws a here n cur u f d bs b at0 text s rd l took (omega arith) t2);
      ready = ready_aside f u m2 b at0 q more r (aside_on u.memory m0 m2 q q as0 (subst (λ z. KeepsStream limit m0 z.0 q) is as1));
      inv = gm;
    }

-- a word whose row does it
pub executes_step : {limit : ℕ} (ws : Words) (a cur ctx most here head pf number q2 : ℕ) (n m1 title nm : List ℕ) (o p : Outer) (t v : Body) (h g : Half) (u : Whole) (f : Disk) (d below m2 e : List ℕ) (b at0 more : ℕ) →
    let text = block_at f.blocks b in let q = (next text at0).next in let m0 = put_cell u.memory 20 q in
    Opened limit ws a cur ctx most here head pf n m1 title → Ready limit f u b at0 more → Drafts limit m1 pf o t h d below u.memory → length d ≤ 250 → ((next text at0).len == 0) ≡ false → name text at0 ≡ nm → Key n cur nm number true → nat_lt number 256 ≡ true
    → ((w : ℕ) → row number w (at (record u { memory = m0 }) d (a + 16)) ≡ (at (record u { memory = m2 }) e (a + 16), Done)) → KeepsStream limit m0 m2 q2 → Drafts limit m1 pf p v g e below m2
    → Turned limit ws.interpret a (λ e m. Drafts limit m1 pf p v g e below m) u f d b q2 more
executes_step {limit} ws a cur ctx most here head pf number q2 n m1 title nm o p t v h g u f d below m2 e b at0 more x r y l z is key small made as2 gm =
    let text = block_at f.blocks b in
    let q = (next text at0).next in
    let m0 = put_cell u.memory 20 q in
    let lo = low_place ws a cur ctx most here head pf n m1 title x in
    let rd = r.reading in
    let hq : q ≤ 1024 = next_within text at0 (length_text u b at0 text rd) rd.within in
    let g0 : Drafts limit m1 pf o t h d below m0 = drafts_kept m1 pf o t h d below u.memory m0 lo x.top (moves u.memory q rd.all) y in
    let s = sees_kept ws a cur ctx most here head pf n m1 title u.memory x y.draft.kept y.draft.all in
    let t0 = (sees_kept ws a cur ctx most here head pf n m1 title m0 x g0.draft.kept g0.draft.all).thread in
    let t2 = (sees_kept ws a cur ctx most here head pf n m1 title m2 x gm.draft.kept gm.draft.all).thread in
    let found : sought u.memory (name text at0) ≡ Found key.link = ap (λ j. sought u.memory j) is ∙ s.sought_is nm ∙ key.found in
    let seen = s.header nm key.link key.found in
    let w = compilation_address u.memory key.link in
    let place = seen.address in
    let imm : (is_immediate u.memory key.link || (cell u.memory 16 == 0)) ≡ true = either (is_immediate u.memory key.link) (cell u.memory 16 == 0) (seen.immediate ∙ key.bit) in
    let code : cell u.memory w ≡ number = ap (λ j. cell u.memory j) place ∙ seen.code ∙ key.code in
    record {
      memory = m2;
      values = e;
      leads = leads_by ws.interpret 8 (at u d a) (at (record u { memory = m2 }) e a) f f b more
          (executed ws a here n cur u (record u { memory = m2 }) f d e w number b at0 text s rd l (takes_executed (at u d (a + 2)) (next text at0) (name text at0) key.link z found imm) (omega (arith, place)) (omega (arith, place)) code small t0 t2 (made w));
      ready = ready_aside f u m2 b at0 q2 more r (aside_on u.memory m0 m2 q q2 (aside_moved u.memory q (ready_least r) rd.all hq) as2);
      inv = gm;
    }
  where
    either : (i j : Bool) → i ≡ true → (i || j) ≡ true
    either i j c = rw c refl

-- a name that is found and not immediate
pub name_step : {limit : ℕ} (ws : Words) (a cur ctx most here head pf : ℕ) (n m1 title : List ℕ) (o p : Outer) (t v : Body) (h g : Half) (k : Token) (l : ℕ) (u : Whole) (f : Disk) (d below : List ℕ) (b at0 more : ℕ) →
    let text = block_at f.blocks b in let q = (next text at0).next in let m0 = put_cell u.memory 20 q in
    Opened limit ws a cur ctx most here head pf n m1 title → Ready limit f u b at0 more → Drafts limit m1 pf o t h d below u.memory → length d ≤ 250 → ((next text at0).len == 0) ≡ false
    → sought_from n cur (name text at0) ≡ Found l → is_immediate n l ≡ false → laid_by k ≡ 2 → lays k m0 d ≡ (laid m0 (cell_bytes (compilation_address n l)), d) → read o t h k ≡ Some (At p v g) → pf + open_size o t h + laid_by k ≤ limit
    → Turned limit ws.interpret a (λ e m. Drafts limit m1 pf p v g e below m) u f d b q more
name_step {limit} ws a cur ctx most here head pf n m1 title o p t v h g k l u f d below b at0 more x r y len z found plain two is e room =
    let text = block_at f.blocks b in
    let s = sees_kept ws a cur ctx most here head pf n m1 title u.memory x y.draft.kept y.draft.all in
    let seen = s.header (name text at0) l found in
    let neither : (is_immediate u.memory l || (cell u.memory 16 == 0)) ≡ false = rw (seen.immediate ∙ plain) (compiling_kept ws a cur ctx most here head pf n m1 title u.memory x y.draft.kept) in
    let took = takes_compiled (at u d (a + 2)) (next text at0) (name text at0) l z (s.sought_is (name text at0) ∙ found) neither ∙ ap (λ c. compiles_past (at u d (a + 2)) (next text at0) (cell_bytes c)) seen.address in
    compiles_step ws a cur ctx most here head pf n m1 title o p t v h g k u f d below (cell_bytes (compilation_address n l)) b at0 more x r y len took (length-cell (compilation_address n l) ∙ sym two) is e room

-- a number
controls_moved : (m : List ℕ) (q : ℕ) → runtime (put_cell m 20 q) 6 ≡ runtime m 6
controls_moved m q = cell_beside m 20 q 76 (omega arith) (omega arith) (omega arith) (omega arith) (omega arith)

pub single_step : {limit : ℕ} (ws : Words) (a cur ctx most here head pf : ℕ) (n m1 title : List ℕ) (o p : Outer) (t v : Body) (h g : Half) (u : Whole) (f : Disk) (d below : List ℕ) (b at0 more : ℕ) →
    let text = block_at f.blocks b in let q = (next text at0).next in let k = NUMBER (number_value 10 (name text at0) % 65536) in
    Opened limit ws a cur ctx most here head pf n m1 title → Ready limit f u b at0 more → Drafts limit m1 pf o t h d below u.memory → length d ≤ 250 → ((next text at0).len == 0) ≡ false
    → sought_from n cur (name text at0) ≡ Nowhere → is_number 10 (name text at0) ≡ true → is_double (name text at0) ≡ false → read o t h k ≡ Some (At p v g) → pf + open_size o t h + 4 ≤ limit
    → Turned limit ws.interpret a (λ e m. Drafts limit m1 pf p v g e below m) u f d b q more
single_step {limit} ws a cur ctx most here head pf n m1 title o p t v h g u f d below b at0 more x r y len z found number double e room =
    let text = block_at f.blocks b in
    let q = (next text at0).next in
    let y0 = number_value 10 (name text at0) % 65536 in
    let s = sees_kept ws a cur ctx most here head pf n m1 title u.memory x y.draft.kept y.draft.all in
    let c = compiling_kept ws a cur ctx most here head pf n m1 title u.memory x y.draft.kept in
    let took = takes_single (at u d (a + 2)) (next text at0) (name text at0) z (s.sought_is (name text at0) ∙ found) s.ten number double c in
    compiles_step ws a cur ctx most here head pf n m1 title o p t v h g (NUMBER y0) u f d below (literal_code u.memory y0) b at0 more x r y len took (length-two (runtime u.memory 6) y0)
    (ap (λ j. (laid (put_cell u.memory 20 q) (cell_bytes j ++ cell_bytes y0), d)) (controls_moved u.memory q)) e room

pub double_step : {limit : ℕ} (ws : Words) (a cur ctx most here head pf : ℕ) (n m1 title : List ℕ) (o p : Outer) (t v : Body) (h g : Half) (u : Whole) (f : Disk) (d below : List ℕ) (b at0 more : ℕ) →
    let text = block_at f.blocks b in let q = (next text at0).next in let k = DOUBLE (number_value 10 (name text at0)) in
    Opened limit ws a cur ctx most here head pf n m1 title → Ready limit f u b at0 more → Drafts limit m1 pf o t h d below u.memory → length d ≤ 250 → ((next text at0).len == 0) ≡ false
    → sought_from n cur (name text at0) ≡ Nowhere → is_number 10 (name text at0) ≡ true → is_double (name text at0) ≡ true → read o t h k ≡ Some (At p v g) → pf + open_size o t h + 8 ≤ limit
    → Turned limit ws.interpret a (λ e m. Drafts limit m1 pf p v g e below m) u f d b q more
double_step {limit} ws a cur ctx most here head pf n m1 title o p t v h g u f d below b at0 more x r y len z found number double e room =
    let text = block_at f.blocks b in
    let q = (next text at0).next in
    let y0 = number_value 10 (name text at0) in
    let s = sees_kept ws a cur ctx most here head pf n m1 title u.memory x y.draft.kept y.draft.all in
    let c = compiling_kept ws a cur ctx most here head pf n m1 title u.memory x y.draft.kept in
    let took = takes_double (at u d (a + 2)) (next text at0) (name text at0) z (s.sought_is (name text at0) ∙ found) s.ten number double c in
    compiles_step ws a cur ctx most here head pf n m1 title o p t v h g (DOUBLE y0) u f d below (literal_code u.memory (y0 % 65536) ++ literal_code u.memory (y0 / 65536)) b at0 more x r y len took (length-wide u.memory (y0 % 65536) (y0 / 65536))
    (ap (λ j. (laid (put_cell u.memory 20 q) ((cell_bytes j ++ cell_bytes (y0 % 65536)) ++ (cell_bytes j ++ cell_bytes (y0 / 65536))), d)) (controls_moved u.memory q)) e room

-- a keyword whose row needs no name and no text
pub row_step : {limit : ℕ} (ws : Words) (a cur ctx most here head pf number : ℕ) (n m1 title nm : List ℕ) (o p : Outer) (t v : Body) (g : Half) (k : Token) (u : Whole) (f : Disk) (d below : List ℕ) (b at0 more : ℕ) →
    let text = block_at f.blocks b in let q = (next text at0).next in
    Opened limit ws a cur ctx most here head pf n m1 title → Ready limit f u b at0 more → Drafts limit m1 pf o t Free d below u.memory → length d ≤ 250 → ((next text at0).len == 0) ≡ false → name text at0 ≡ nm → Key n cur nm number true → nat_lt number 256 ≡ true
    → row_of k ≡ Some number → read o t Free k ≡ Some (At p v g) → pf + open_size o t Free + laid_by k ≤ limit
    → Turned limit ws.interpret a (λ e m. Drafts limit m1 pf p v g e below m) u f d b q more
row_step {limit} ws a cur ctx most here head pf number n m1 title nm o p t v g k u f d below b at0 more x r y l z is key small has e room =
    let text = block_at f.blocks b in
    let q = (next text at0).next in
    let m0 = put_cell u.memory 20 q in
    let lo = low_place ws a cur ctx most here head pf n m1 title x in
    let top = x.top in
    let rd = r.reading in
    let hq : q ≤ 1024 = next_within text at0 (length_text u b at0 text rd) rd.within in
    let g0 : Drafts limit m1 pf o t Free d below m0 = drafts_kept m1 pf o t Free d below u.memory m0 lo top (moves u.memory q rd.all) y in
    let new = more_drafts m1 pf o p t v Free g k m0 d below lo top room e g0.draft in
    let as1 = lays_aside m1 pf o p t v Free g k m0 d below q lo top room e g0.draft (aside_moved u.memory q (ready_least r) rd.all hq).place hq new.draft.all in
    executes_step ws a cur ctx most here head pf number q n m1 title nm o p t v Free g u f d below (lays k m0 d).0 (lays k m0 d).1 b at0 more x r y l z is key small
    (λ w. row_is m1 pf o p t v g k number w (at (record u { memory = m0 }) d (a + 16)) below (omega arith) l has e g0.draft) as1 new

-- a word with its text
abbrev tells : ℕ → Whole → Word → List ℕ → After
tells c t w bs =
    needs t 15 (nat_le w.len 255)
    (needs t 8 (has_room t (3 + w.len))
    (done (record t { memory = laid_at (cell t.memory 28) (put_cell t.memory 20 w.next) (text_code (runtime t.memory c) bs) })))

abbrev tells_on : ℕ → Whole → Stream → After
tells_on c t st = tells c t (parsed_in t.memory st 34) (bytes_in t.memory st (parsed_in t.memory st 34))

tells_here : (c : ℕ) (u : Whole) (b p : ℕ) (text : List ℕ) → Reading u b p text → (parsed text p 34).len ≤ 255 → cell u.memory 28 + (3 + (parsed text p 34).len) ≤ limit_of (length u.buffers)
    → tells_on c u (stream u b p) ≡ (record u { memory = laid_at (cell u.memory 28) (put_cell u.memory 20 (parsed text p 34).next) (text_code (runtime u.memory c) (bytes_of text (parsed text p 34))) }, Done)
tells_here c u b p text r s h = grind (arith, parsed_within, length_text, parsed_here, some_bytes, has_room_is)

abbrev pub text_row_of : Bool → ℕ
text_row_of false = 190
text_row_of true = 191

text_row : (k : Bool) (u : Whole) (d : List ℕ) (i b p w : ℕ) (text : List ℕ) → Reading u b p text → (parsed text p 34).len ≤ 255 → cell u.memory 28 + (3 + (parsed text p 34).len) ≤ limit_of (length u.buffers)
    → row (text_row_of k) w (at u d i) ≡ (at (record u { memory = laid_at (cell u.memory 28) (put_cell u.memory 20 (parsed text p 34).next) (text_code (runtime u.memory (text_control k)) (bytes_of text (parsed text p 34))) }) d i, Done)
unfolding row row_in compiling
text_row false u d i b p w text r s h = reads_here (at u d i) b p text (tells_on 16) (reading_at u d i b p text r) ∙ tells_here 16 (at u d i) b p text (reading_at u d i b p text r) s h
text_row true u d i b p w text r s h = reads_here (at u d i) b p text (tells_on 17) (reading_at u d i b p text r) ∙ tells_here 17 (at u d i) b p text (reading_at u d i b p text r) s h

text_small : (k : Bool) → nat_lt (text_row_of k) 256 ≡ true
text_small k = grind arith

text_length : (text : List ℕ) (p : ℕ) → length text ≡ 1024 → p ≤ 1024 → length (bytes_of text (parsed text p 34)) ≡ (parsed text p 34).len
text_length text p l h = grind (arith, parsed_within, length-take-le, length-drop)

pub text_step : {limit : ℕ} (ws : Words) (a cur ctx most here head pf : ℕ) (n m1 title nm : List ℕ) (o p : Outer) (t v : Body) (g : Half) (k : Bool) (u : Whole) (f : Disk) (d below : List ℕ) (b at0 more : ℕ) →
    let text = block_at f.blocks b in let q = (next text at0).next in let z = parsed text q 34 in let bs = bytes_of text z in
    Opened limit ws a cur ctx most here head pf n m1 title → Ready limit f u b at0 more → Drafts limit m1 pf o t Free d below u.memory → length d ≤ 250 → ((next text at0).len == 0) ≡ false → name text at0 ≡ nm → Key n cur nm (text_row_of k) true → length bs < 256
    → read o t Free (TEXT k bs) ≡ Some (At p v g) → pf + open_size o t Free + (3 + length bs) ≤ limit
    → Turned limit ws.interpret a (λ e m. Drafts limit m1 pf p v g e below m) u f d b z.next more
text_step {limit} ws a cur ctx most here head pf n m1 title nm o p t v g k u f d below b at0 more x r y l zero is key short e room =
    let text = block_at f.blocks b in
    let q = (next text at0).next in
    let z = parsed text q 34 in
    let bs = bytes_of text z in
    let m0 = put_cell u.memory 20 q in
    let m3 = put_cell m0 20 z.next in
    let lo = low_place ws a cur ctx most here head pf n m1 title x in
    let top = x.top in
    let rd = r.reading in
    let lt = length_text u b at0 text rd in
    let hq : q ≤ 1024 = next_within text at0 lt rd.within in
    let hz : z.next ≤ 1024 = (parsed_within text q 34 lt hq).1 in
    let len : length bs ≡ z.len = text_length text q lt hq in
    let as0 = aside_moved u.memory q (ready_least r) rd.all hq in
    let g0 : Drafts limit m1 pf o t Free d below m0 = drafts_kept m1 pf o t Free d below u.memory m0 lo top (moves u.memory q rd.all) y in
    let g3 : Drafts limit m1 pf o t Free d below m3 = drafts_kept m1 pf o t Free d below m0 m3 lo top (moves m0 z.next g0.draft.all) g0 in
    let as3 = aside_moved m0 z.next (ready_least r) g0.draft.all hz in
    let new = more_drafts m1 pf o p t v Free g (TEXT k bs) m3 d below lo top room e g3.draft in
    let as4 = lays_aside m1 pf o p t v Free g (TEXT k bs) m3 d below z.next lo top room e g3.draft as3.place hz new.draft.all in
    let m2 = laid_at (cell m0 28) m3 (text_code (runtime m0 (text_control k)) bs) in
    let same : (lays (TEXT k bs) m3 d).0 ≡ m2 = moved_text m0 d bs z.next k in
    let gm : Drafts limit m1 pf p v g d below m2 = subst (λ m. Drafts limit m1 pf p v g d below m) same new in
    let as2 : KeepsStream limit m0 m2 z.next = subst (λ m. KeepsStream limit m0 m z.next) same (aside_on m0 m3 (lays (TEXT k bs) m3 d).0 z.next z.next as3 as4) in
    executes_step ws a cur ctx most here head pf (text_row_of k) z.next n m1 title nm o p t v Free g u f d below m2 d b at0 more x r y l zero is key (text_small k)
    (λ w. text_row k (record u { memory = m0 }) d (a + 16) b q w text (ready_aside f u m0 b at0 q more r as0).reading (omega arith) (omega arith)) as2 gm

-- ['] and its name
tick_takes : (t : Whole) (w : Word) (nm : List ℕ) (l : ℕ) (after : ℕ → After) → (w.len == 0) ≡ false → sought t.memory nm ≡ Found l → finds_word t w nm after ≡ after (compilation_address t.memory l)
unfolding searches
tick_takes t w nm l after z f = rw (z, f) refl

abbrev ticks_past : Whole → Word → List ℕ → After
ticks_past t w nm = finds_word t w nm (λ x. lays_past t w (literal_code t.memory x))

tick_row : (u : Whole) (d : List ℕ) (i b p w l : ℕ) (text : List ℕ) → Reading u b p text → ((next text p).len == 0) ≡ false → sought u.memory (name text p) ≡ Found l → cell u.memory 28 + 4 ≤ limit_of (length u.buffers)
    → row 176 w (at u d i) ≡ (at (record u { memory = laid (put_cell u.memory 20 (next text p).next) (literal_code u.memory (compilation_address u.memory l)) }) d i, Done)
unfolding row row_in compiling
tick_row u d i b p w l text r z f h =
    named_here (at u d i) b p text ticks_past (reading_at u d i b p text r)
    ∙ tick_takes (at u d i) (next text p) (name text p) l (λ x. lays_past (at u d i) (next text p) (literal_code u.memory x)) z f
    ∙ lays_past_is (at u d i) (next text p) (literal_code u.memory (compilation_address u.memory l)) (omega (arith, length-two (runtime u.memory 6) (compilation_address u.memory l)))

pub tick_step : {limit : ℕ} (ws : Words) (a cur ctx most here head pf : ℕ) (n m1 title nm : List ℕ) (o : Outer) (t : Body) (w l : ℕ) (u : Whole) (f : Disk) (d below : List ℕ) (b at0 more : ℕ) →
    let text = block_at f.blocks b in let q = (next text at0).next in
    Opened limit ws a cur ctx most here head pf n m1 title → Ready limit f u b at0 more → Drafts limit m1 pf o t Free d below u.memory → length d ≤ 250 → ((next text at0).len == 0) ≡ false → name text at0 ≡ nm → Key n cur nm 176 true
    → ((next text q).len == 0) ≡ false → sought_from n cur (name text q) ≡ Found l → compilation_address n l ≡ w → pf + open_size o t Free + 4 ≤ limit
    → Turned limit ws.interpret a (λ e m. Drafts limit m1 pf o (Tick t w) Free e below m) u f d b (next text q).next more
tick_step {limit} ws a cur ctx most here head pf n m1 title nm o t w l u f d below b at0 more x r y len zero is key some found at_w room =
    let text = block_at f.blocks b in
    let q = (next text at0).next in
    let q2 = (next text q).next in
    let m0 = put_cell u.memory 20 q in
    let m3 = put_cell m0 20 q2 in
    let lo = low_place ws a cur ctx most here head pf n m1 title x in
    let top = x.top in
    let rd = r.reading in
    let lt = length_text u b at0 text rd in
    let hq : q ≤ 1024 = next_within text at0 lt rd.within in
    let h2 : q2 ≤ 1024 = next_within text q lt hq in
    let rv = ready_aside f u m0 b at0 q more r (aside_moved u.memory q (ready_least r) rd.all hq) in
    let g0 : Drafts limit m1 pf o t Free d below m0 = drafts_kept m1 pf o t Free d below u.memory m0 lo top (moves u.memory q rd.all) y in
    let g3 : Drafts limit m1 pf o t Free d below m3 = drafts_kept m1 pf o t Free d below m0 m3 lo top (moves m0 q2 g0.draft.all) g0 in
    let as3 = aside_moved m0 q2 (ready_least r) g0.draft.all h2 in
    let s0 = sees_kept ws a cur ctx most here head pf n m1 title m0 x g0.draft.kept g0.draft.all in
    let m2 = laid m3 (literal_code m3 w) in
    let new : Draft m1 pf o (Tick t w) Free m2 d below = tick_name m1 pf o t m3 d below w lo (omega arith) g3.draft in
    let as4 : KeepsStream limit m3 m2 q2 = lays_aside m1 pf o o t _ Free Free (NUMBER w) m3 d below q2 lo top room refl g3.draft as3.place h2 new.all in
    let address : compilation_address m0 l ≡ w = (s0.header (name text q) l found).address ∙ at_w in
    let made : laid m3 (literal_code m0 (compilation_address m0 l)) ≡ m2 = ap (λ j. laid m3 (literal_code m0 j)) address ∙ ap (λ j. laid m3 (cell_bytes j ++ cell_bytes w)) (sym (controls_moved m0 q2)) in
    executes_step ws a cur ctx most here head pf 176 q2 n m1 title nm o o t (Tick t w) Free Free u f d below m2 d b at0 more x r y len zero is key refl
    (λ j. tick_row (record u { memory = m0 }) d (a + 16) b q j l text rv.reading some (s0.sought_is (name text q) ∙ found) (omega arith) ∙ ap (λ m. (at (record u { memory = m }) d (a + 16), Done)) made)
    (aside_on m0 m3 m2 q2 q2 as3 as4) (record { draft = new; room = omega arith })

-- [COMPILE] and its name
abbrev forces_past : Whole → Word → List ℕ → After
forces_past t w nm = finds_word t w nm (λ x. lays_past t w (cell_bytes x))

force_row : (u : Whole) (d : List ℕ) (i b p w l : ℕ) (text : List ℕ) → Reading u b p text → ((next text p).len == 0) ≡ false → sought u.memory (name text p) ≡ Found l → cell u.memory 28 + 2 ≤ limit_of (length u.buffers)
    → row 177 w (at u d i) ≡ (at (record u { memory = laid (put_cell u.memory 20 (next text p).next) (cell_bytes (compilation_address u.memory l)) }) d i, Done)
unfolding row row_in compiling
force_row u d i b p w l text r z f h =
    named_here (at u d i) b p text forces_past (reading_at u d i b p text r)
    ∙ tick_takes (at u d i) (next text p) (name text p) l (λ x. lays_past (at u d i) (next text p) (cell_bytes x)) z f
    ∙ lays_past_is (at u d i) (next text p) (cell_bytes (compilation_address u.memory l)) (omega (arith, length-cell (compilation_address u.memory l)))

pub force_step : {limit : ℕ} (ws : Words) (a cur ctx most here head pf : ℕ) (n m1 title nm : List ℕ) (o p : Outer) (t v : Body) (h h2 g : Half) (w l : ℕ) (u : Whole) (f : Disk) (d below : List ℕ) (b at0 more : ℕ) →
    let text = block_at f.blocks b in let q = (next text at0).next in
    Opened limit ws a cur ctx most here head pf n m1 title → Ready limit f u b at0 more → Drafts limit m1 pf o t h d below u.memory → length d ≤ 250 → ((next text at0).len == 0) ≡ false → name text at0 ≡ nm → Key n cur nm 177 true
    → ((next text q).len == 0) ≡ false → sought_from n cur (name text q) ≡ Found l → compilation_address n l ≡ w
    → read o t h FORCE ≡ Some (At o t h2) → read o t h2 (NAME w) ≡ Some (At p v g) → pf + open_size o t h + 2 ≤ limit
    → Turned limit ws.interpret a (λ e m. Drafts limit m1 pf p v g e below m) u f d b (next text q).next more
force_step {limit} ws a cur ctx most here head pf n m1 title nm o p t v h hf g w l u f d below b at0 more x r y len zero is key some found at_w e1 e2 room =
    let text = block_at f.blocks b in
    let q = (next text at0).next in
    let q2 = (next text q).next in
    let m0 = put_cell u.memory 20 q in
    let m3 = put_cell m0 20 q2 in
    let lo = low_place ws a cur ctx most here head pf n m1 title x in
    let top = x.top in
    let rd = r.reading in
    let lt = length_text u b at0 text rd in
    let hq : q ≤ 1024 = next_within text at0 lt rd.within in
    let h2 : q2 ≤ 1024 = next_within text q lt hq in
    let rv = ready_aside f u m0 b at0 q more r (aside_moved u.memory q (ready_least r) rd.all hq) in
    let g0 : Drafts limit m1 pf o t h d below m0 = drafts_kept m1 pf o t h d below u.memory m0 lo top (moves u.memory q rd.all) y in
    let g3 : Drafts limit m1 pf o t h d below m3 = drafts_kept m1 pf o t h d below m0 m3 lo top (moves m0 q2 g0.draft.all) g0 in
    let gf : Drafts limit m1 pf o t hf d below m3 = more_drafts m1 pf o o t t h hf FORCE m3 d below lo top (omega arith) e1 g3.draft in
    let as3 = aside_moved m0 q2 (ready_least r) g0.draft.all h2 in
    let s0 = sees_kept ws a cur ctx most here head pf n m1 title m0 x g0.draft.kept g0.draft.all in
    let m2 = laid m3 (cell_bytes w) in
    let new : Drafts limit m1 pf p v g d below m2 = more_drafts m1 pf o p t v hf g (NAME w) m3 d below lo top (omega arith) e2 gf.draft in
    let as4 : KeepsStream limit m3 m2 q2 = lays_aside m1 pf o p t v hf g (NAME w) m3 d below q2 lo top (omega arith) e2 gf.draft as3.place h2 new.draft.all in
    let made : laid m3 (cell_bytes (compilation_address m0 l)) ≡ m2 = ap (λ j. laid m3 (cell_bytes j)) ((s0.header (name text q) l found).address ∙ at_w) in
    executes_step ws a cur ctx most here head pf 177 q2 n m1 title nm o p t v h g u f d below m2 d b at0 more x r y len zero is key refl
    (λ j. force_row (record u { memory = m0 }) d (a + 16) b q j l text rv.reading some (s0.sought_is (name text q) ∙ found) (omega arith) ∙ ap (λ m. (at (record u { memory = m }) d (a + 16), Done)) made)
    (aside_on m0 m3 m2 q2 q2 as3 as4) new
