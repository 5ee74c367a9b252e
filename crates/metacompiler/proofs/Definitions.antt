-- `:` with its name, and `;`, at a turn of INTERPRET's loop.
use Rattle.std.proofs.Common.{◌≡◌, ℕ, ◌+◌, ◌<◌, ◌≤◌, ◌/◌, ◌∷◌, List, [], length, refl, arith, Bool, true, false, ap, sym, ◌∙◌, length-drop, suc, subst, Some, ◌≢◌, inl, inr, ◌⊎◌, None}
use Rattle.std.specs.Prelude.{nat_le, ◌==◌, ◌||◌, ◌&&◌, codes}
use Rattle.std.proofs.lemmas.List.{length-take-le}
use Rattle.std.specs.Str.{bytes_eq}
use Rattle.std.proofs.lemmas.Slice.Eq.{bytes_eq-Decides}
use Rattle.memory.specs.Bytes.{limit_of, byte, cell, put_cell, PutCell, written, put_byte, cell_bytes}
use Rattle.memory.specs.declared.limit.TheConstants.{GREATEST_LIMIT}
use Rattle.memory.proofs.Kept.{byte_cell, byte_above, length_cell, cell_here, cell_beside, byte_below, length_byte}
use Rattle.memory.proofs.Same.{cell_by}
use Rattle.block_buffers.specs.Disks.{Disk, block_at}
use Rattle.dictionary.specs.Header.{is_immediate, compilation_address, is_named}
use Rattle.dictionary.specs.Search.{head_of, Found, sought_from}
use Rattle.dictionary.specs.Adding.{site_of}
use Rattle.dictionary.proofs.Fronted.{Fronted, header_same, sought_fronted}
use Rattle.compiling_words.specs.Definitions.{begun, begun_writes, ended}
use Rattle.machine_parts.specs.Whole.{Whole}
use Rattle.machine_parts.specs.Row.{After}
use Rattle.machine_parts.specs.declared.parts.Outcome.TheVariants.{Done}
use Rattle.input_source.specs.declared.words.Word.{Word}
use Rattle.input_source.proofs.WordLaw.{word_law}
use Rattle.primitives.specs.DictionaryRows.{creates}
use Rattle.plain_rows.specs.Table.{row_in}
use Rattle.primitives.specs.Table.{row, compiling}
use Rattle.colon_bodies.specs.declared.words.Half.TheVariants.{Free}
use Rattle.colon_bodies.specs.Tree.{Empty, Body as Tree, Definition}
use Rattle.colon_bodies.specs.Open.{Top, Outer, whole}
use Rattle.resident_bodies.specs.Definitions.{Agrees, Opens, laid_definition}
use Rattle.resident_bodies.specs.Drafts.{Draft, Bodied}
use Rattle.resident_bodies.proofs.Bodies.{begins, whole_code as laid_whole}
use Rattle.resident_bodies.proofs.Rows.{has_room_is, semicolon_is}
use Rattle.resident_bodies.proofs.Ending.{Site, head_low, top_byte, opened, opening, begun_opening, opening_low, length-opening, opening_here, finished, finished_byte, length-laid, ended_is, ended_agrees, length-extra, kept_cell}
use Rattle.compiling_words.specs.Code.{runtime}
use Rattle.compiling_words.specs.Laying.{laid}
use Rattle.dictionary.specs.Newest.{newest_count, revealed}
use Rattle.colon_bodies.specs.declared.words.Half.{Half}
use Rattle.colon_bodies.specs.Code.{all_size, whole_code}
use Rattle.colon_bodies.proofs.Cells.{length-cell}
use Rattle.colon_bodies.specs.Tokens.{Token}
use Rattle.source_words.specs.Modes.{begins_body, begins_comment}
use Rattle.image_builder.specs.Spelled.{keyword}
use Rattle.metacompiler.specs.Loop.{Words}
use Rattle.metacompiler.specs.Rounds.{at}
use Rattle.metacompiler.specs.ScreenStream.{Reading, next, name}
use Rattle.metacompiler.specs.Meaning.{Key, IsKey, Keys}
use Rattle.metacompiler.specs.Orderly.{IsHead, Orderly}
use Rattle.metacompiler.specs.Turning.{MovesStream, KeepsStream, Ready, Holds}
use Rattle.metacompiler.specs.Opened.{Opened, Drafts, Turned}
use Rattle.metacompiler.specs.Between.{IsBetween}
use Rattle.metacompiler.proofs.Turns.{takes_executed, named_here, next_within, length_text, reading_at, ready_aside, moves, aside_moved, aside_on, executed, leads_by, ready_least}
use Rattle.metacompiler.proofs.Orders.{length-head, opening_fronted, opening_count, agrees_cell, own_head, sees_agrees, low_cell, laid_agrees, agrees_on, orderly_site, orderly_kept, whole_is, whole_fronted, whole_named, forth_head, chain_apart, fits_orderly, found_apart, seen_by}
use Rattle.metacompiler.proofs.WordSteps.{sees_kept, drafts_kept, low_place}
use Rattle.metacompiler.specs.Sources.{ColonDefinition, laid_one, IsFree}

-- `:` and its name, at a turn of INTERPRET's loop.

-- between definitions
pub between_kept : {limit : ℕ} (n m m' : List ℕ) (voc : ℕ) → cell n 28 ≤ limit → 256 ≤ limit → MovesStream limit m m' → IsBetween n voc m → IsBetween n voc m'
between_kept {limit} n m m' voc h least k g = search (arith, cell_by)

pub holds_between : {limit : ℕ} (ws : Words) (a cur ctx most here voc : ℕ) (n : List ℕ) → Orderly limit ws a cur ctx most here n → most ≤ 32767 → ((y : List ℕ) → IsHead cur ctx (head_of voc y)) → Holds limit ws a here n voc (IsBetween n voc)
holds_between {limit} ws a cur ctx most here voc n g l i = record {
  keep = λ m m' k x. between_kept n m m' voc (let hi = g.high in let dp = g.dp in omega arith) (omega arith) k x;
  sees = λ m x. sees_agrees ws a cur ctx most here voc m n g l x.agrees x.all x.context i;
}

-- where a definition begins on the machine
pub between_site : {limit : ℕ} (ws : Words) (a cur ctx most here voc : ℕ) (n m title : List ℕ) → Orderly limit ws a cur ctx most here n → IsBetween n voc m → length title ≤ 31 → Site m title here (head_of cur title)
between_site {limit} ws a cur ctx most here voc n m title g x s =
    record {
      here_is = x.agrees.here ∙ g.dp;
      head_is = ap (λ v. head_of v title) (agrees_cell m n 34 x.agrees (omega arith) (omega arith) (omega arith) ∙ g.current);
      all = x.all;
      executing = low_cell m n 16 here x.agrees g.dp g.low (omega arith) (omega arith) (omega arith) (omega arith) (omega arith) (omega arith) (omega arith) ∙ g.executing;
      short = s;
      low = g.low;
      placed = g.heads (head_of cur title) (own_head cur ctx title);
    }

-- the row of :
abbrev makes : Whole → Word → List ℕ → After
makes t w name = creates t w name true 1 [] (PutCell 16 65535 ∷ PutCell 32 (cell t.memory 34) ∷ []) t.values

colon_row : (u : Whole) (d : List ℕ) (i b p x : ℕ) (text : List ℕ) → Reading u b p text → 0 < (next text p).len → (next text p).len ≤ 31 → cell u.memory 28 + (7 + (next text p).len) ≤ limit_of (length u.buffers)
    → row 168 x (at u d i) ≡ (at (record u { memory = written u.memory (PutCell 20 (next text p).next ∷ begun_writes (site_of u.memory (name text p)) (cell u.memory 34) (name text p)) }) d i, Done)
unfolding row row_in compiling creates
colon_row u d i b p x text r s l h =
    let a : (nat_le 1 (next text p).len && nat_le (next text p).len 31) ≡ true = grind arith in
    named_here (at u d i) b p text makes (reading_at u d i b p text r) ∙ rw (a, has_room_is (at u d i) (7 + (next text p).len + 0) (omega arith)) refl

-- >IN moves before the header is made
site_moved : (m name : List ℕ) (q head : ℕ) → 42 ≤ head → head + 1 < 65536 → head_of (cell m 34) name ≡ head → site_of (put_cell m 20 q) name ≡ site_of m name
unfolding site_of
site_moved m name q head l h e = grind (arith, cell_beside)

begun_moved : (m name : List ℕ) (q head : ℕ) → 42 ≤ head → head + 1 < 65536 → head_of (cell m 34) name ≡ head → written m (PutCell 20 q ∷ begun_writes (site_of m name) (cell m 34) name) ≡ begun (put_cell m 20 q) name
unfolding begun written
begun_moved m name q head l h e = grind (arith, cell_beside, site_moved)

-- what : writes is aside from the stream
opening_above : {limit : ℕ} (m name : List ℕ) (here head j : ℕ) → Site m name here head → here + (7 + length name) ≤ limit → limit ≤ GREATEST_LIMIT → limit ≤ j → byte (opening m name here head) j ≡ byte m j
opening_above {limit} m name here head j s r top l = omega (arith, head_low, byte_cell, opened, top_byte, byte_above, length-head)

opening_aside : {limit : ℕ} (m name : List ℕ) (here head q : ℕ) → Site m name here head → here + (7 + length name) ≤ limit → limit ≤ GREATEST_LIMIT → cell m 20 ≡ q → q ≤ 1024 → KeepsStream limit m (opening m name here head) q
opening_aside {limit} m name here head q s r top c h = search (arith, head_low, opening, opening_low, length-opening, cell_by, opening_above)

fronted_agrees : (n m k : List ℕ) (here head new : ℕ) → Agrees m n → cell n 28 ≡ here → length n ≡ 65536 → 34 ≤ head → head + 1 < here → Fronted m k here head new → Fronted n k here head new
fronted_agrees n m k here head new g e l a b f = search (arith, agrees_cell)

-- what holds after : and the name
pub opened_by : {limit : ℕ} (ws : Words) (a cur ctx most here voc : ℕ) (n m title : List ℕ) → Orderly limit ws a cur ctx most here n → most ≤ 32767 → IsBetween n voc m → length title ≤ 31 → here + (7 + length title) ≤ limit
    → Opened limit ws a cur ctx most here (head_of cur title) (here + (7 + length title)) n (opening m title here (head_of cur title)) title
opened_by {limit} ws a cur ctx most here voc n m title g l x s r =
    let head = head_of cur title in
    let st = between_site ws a cur ctx most here voc n m title g x s in
    let hl = head_low head here g.low st.placed in
    let o = opening m title here head in
    let top = g.top in
    let r63 : here + (7 + length title) ≤ GREATEST_LIMIT = omega arith in
    let lm = length-opening m title here head st in
    let low : (j : ℕ) → j < 34 → j / 2 ≡ 9 → byte o j ≡ byte m j = λ j a b. opening_low m title here head j st r63 (omega arith) (omega arith) (omega arith) (omega arith) (omega arith) (omega arith) (omega arith) in
    record {
      orderly = g;
      few = l;
      head_is = own_head cur ctx title;
      fronted = fronted_agrees n m o here head (here + 2) x.agrees g.dp g.all (omega arith) hl.1 (opening_fronted m title here head st r63);
      short = s;
      count = opening_count m title here head st r63;
      context = cell_here (put_cell (opened m title here head) 16 65535) 32 (cell m 34) (sym (length_cell (put_cell (opened m title here head) 16 65535) 32 (cell m 34)) ∙ lm) (omega arith) ∙ agrees_cell m n 34 x.agrees (omega arith) (omega arith) (omega arith) ∙ g.current;
      compiling = cell_beside (put_cell (opened m title here head) 16 65535) 32 (cell m 34) 16 (omega arith) (omega arith) (omega arith) (omega arith) (omega arith)
          ∙ cell_here (opened m title here head) 16 65535 (sym (length_cell (opened m title here head) 16 65535) ∙ sym (length_cell (put_cell (opened m title here head) 16 65535) 32 (cell m 34)) ∙ lm) (omega arith);
      ten = cell_by o m 18 (omega arith) (low 18 (omega arith) refl) (low 19 (omega arith) refl) ∙ low_cell m n 18 here x.agrees g.dp g.low (omega arith) (omega arith) (omega arith) (omega arith) (omega arith) (omega arith) (omega arith) ∙ g.ten;
      place = refl;
      high = r;
      top = g.top;
    }

pub len_name : (text : List ℕ) (p : ℕ) → length text ≡ 1024 → p ≤ 1024 → length (name text p) ≡ (next text p).len
len_name text p l h = grind (arith, word_law, length-take-le, length-drop)

-- the turn
pub colon_turn : {limit : ℕ} (ws : Words) (a cur ctx most here voc : ℕ) (n : List ℕ) (u : Whole) (f : Disk) (d : List ℕ) (b p more : ℕ) →
    let text = block_at f.blocks b in let q1 = (next text p).next in let title = name text q1 in let q2 = (next text q1).next in
    let m1 = opening (put_cell (put_cell u.memory 20 q1) 20 q2) title here (head_of cur title) in let pf = here + (7 + length title) in
    Orderly limit ws a cur ctx most here n → most ≤ 32767 → ((y : List ℕ) → IsHead cur ctx (head_of voc y)) → Ready limit f u b p more → IsBetween n voc u.memory → length d ≤ 100 → ((next text p).len == 0) ≡ false → Key n voc (name text p) 168 false
    → ((next text q1).len == 0) ≡ false → length title ≤ 31 → pf ≤ limit
    → Turned limit ws.interpret a (λ e m. Drafts limit m1 pf Top Empty Free e d m) u f d b q2 more
colon_turn {limit} ws a cur ctx most here voc n u f d b p more g l i r x ld z key some short room =
    let text = block_at f.blocks b in
    let q1 = (next text p).next in
    let title = name text q1 in
    let q2 = (next text q1).next in
    let head = head_of cur title in
    let pf = here + (7 + length title) in
    let rd = r.reading in
    let lt = length_text u b p text rd in
    let h1 : q1 ≤ 1024 = next_within text p lt rd.within in
    let h2 : q2 ≤ 1024 = next_within text q1 lt h1 in
    let m0 = put_cell u.memory 20 q1 in
    let mm = put_cell m0 20 q2 in
    let m1 = opening mm title here head in
    let dn : cell n 28 ≤ limit = let hi = g.high in let dp = g.dp in omega arith in
    let room63 : pf ≤ GREATEST_LIMIT = omega arith in
    let x0 = between_kept {limit = limit} n u.memory m0 voc dn (omega arith) (moves u.memory q1 rd.all) x in
    let xm = between_kept {limit = limit} n m0 mm voc dn (omega arith) (moves m0 q2 x0.all) x0 in
    let as0 = aside_moved u.memory q1 (ready_least r) rd.all h1 in
    let r0 = ready_aside f u m0 b p q1 more r as0 in
    let asm = aside_moved m0 q2 (ready_least r) x0.all h2 in
    let st0 = between_site ws a cur ctx most here voc n m0 title g x0 short in
    let st = between_site ws a cur ctx most here voc n mm title g xm short in
    let as1 = opening_aside mm title here head q2 st room g.top asm.place h2 in
    let hold = holds_between ws a cur ctx most here voc n g l i in
    let s = hold.sees u.memory x in
    let t0 = (hold.sees m0 x0).thread in
    let lm1 = length-opening mm title here head st in
    let dr : Draft m1 pf Top Empty Free m1 d d = begins m1 d pf lm1 (opening_here mm title here head st room63) room63 in
    let t1 = (sees_kept ws a cur ctx most here head pf n m1 title m1 (opened_by ws a cur ctx most here voc n mm title g l xm short room) dr.kept lm1).thread in
    let seen = s.header (name text p) key.link key.found in
    let w = compilation_address u.memory key.link in
    let place = seen.address in
    let state : cell u.memory 16 ≡ 0 = low_cell u.memory n 16 here x.agrees g.dp g.low (omega arith) (omega arith) (omega arith) (omega arith) (omega arith) (omega arith) (omega arith) ∙ g.executing in
    let exec : (is_immediate u.memory key.link || (cell u.memory 16 == 0)) ≡ true = rw state (or_right (is_immediate u.memory key.link)) in
    let code : cell u.memory w ≡ 168 = ap (λ j. cell u.memory j) place ∙ seen.code ∙ key.code in
    let len = len_name text q1 lt h1 in
    let positive : 0 < (next text q1).len = grind arith in
    let memory_is : written m0 (PutCell 20 q2 ∷ begun_writes (site_of m0 title) (cell m0 34) title) ≡ m1 = begun_moved m0 title q2 head (omega arith) (omega arith) st0.head_is ∙ begun_opening mm title here head st room63 in
    let made : row 168 w (at (record u { memory = m0 }) d (a + 16)) ≡ (at (record u { memory = m1 }) d (a + 16), Done) =
    colon_row (record u { memory = m0 }) d (a + 16) b q1 w text r0.reading positive (omega arith) (omega arith) ∙ ap (λ m. (at (record u { memory = m }) d (a + 16), Done)) memory_is in
    record {
      memory = m1;
      values = d;
      leads = leads_by ws.interpret 8 (at u d a) (at (record u { memory = m1 }) d a) f f b more
          (executed ws a here n voc u (record u { memory = m1 }) f d d w 168 b p text s rd (omega arith) (takes_executed (at u d (a + 2)) (next text p) (name text p) key.link z (s.sought_is (name text p) ∙ key.found) exec) (omega (arith, place)) (omega (arith, place)) code refl t0 t1 made);
      ready = ready_aside f u m1 b p q2 more r (aside_on u.memory m0 m1 q1 q2 as0 (aside_on m0 mm m1 q2 q2 asm as1));
      inv = record { draft = dr; room = omega arith };
    }
  where
    or_right : (c : Bool) → (c || true) ≡ true
    or_right true = refl
    or_right false = refl

-- `;`, at a turn of INTERPRET's loop.

opens_site : (m name : List ℕ) (here head k : ℕ) → Site m name here head → here + (7 + length name + k) ≤ GREATEST_LIMIT → Opens m name k
opens_site m name here head k s r = search arith

-- the whole body exists
bodied : (m1 : List ℕ) (pf : ℕ) (o : Outer) (t : Tree) (h : Half) (m d below : List ℕ) (b : Definition) → whole o t h ≡ Some b → Draft m1 pf o t h m d below → Bodied m1 pf b m × (d ≡ below)
bodied m1 pf o t h m d below b e g = search (arith, laid_whole)

-- what ; writes is aside from the stream
finished_aside : {limit : ℕ} (s : List ℕ) (here k e q : ℕ) → length (finished s here k e) ≡ 65536 → 256 ≤ here → here + 4 < limit → 256 ≤ cell s 28 → cell s 28 + 2 ≤ limit → limit ≤ GREATEST_LIMIT → cell s 20 ≡ q → q ≤ 1024 → KeepsStream limit s (finished s here k e) q
finished_aside {limit} s here k e q l a b d r top c h = search (arith, finished, finished_byte, byte_below, length-cell, cell_by, byte_above)

-- the turn: m is the machine's memory in which the definition was started
pub semi_turn : {limit : ℕ} (ws : Words) (a cur ctx most here voc view : ℕ) (n m title : List ℕ) (body : Definition) (o : Outer) (t : Tree) (h : Half) (u : Whole) (f : Disk) (d below : List ℕ) (b p more : ℕ) →
    let text = block_at f.blocks b in let head = head_of cur title in let pf = here + (7 + length title) in let m1 = opening m title here head in
    Orderly limit ws a cur ctx most here n → most + 1 ≤ 32767 → IsBetween n voc m → length title ≤ 31 → cell m 22 ≡ view → pf + (all_size body + 2) ≤ limit → Opened limit ws a cur ctx most here head pf n m1 title
    → Ready limit f u b p more → Drafts limit m1 pf o t h d below u.memory → whole o t h ≡ Some body → length below ≤ 100 → ((next text p).len == 0) ≡ false → Key n cur (name text p) 169 true
    → Turned limit ws.interpret a (λ e m2. (e ≡ below) × IsBetween (laid_definition n view title body) cur m2) u f d b (next text p).next more
semi_turn {limit} ws a cur ctx most here voc view n m title body o t h u f d below b p more g l x short vw room op r y e ld z key =
    let text = block_at f.blocks b in
    let head = head_of cur title in
    let pf = here + (7 + length title) in
    let m1 = opening m title here head in
    let q = (next text p).next in
    let rd = r.reading in
    let hq : q ≤ 1024 = next_within text p (length_text u b p text rd) rd.within in
    let m0 = put_cell u.memory 20 q in
    let top = g.top in
    let as0 = aside_moved u.memory q (ready_least r) rd.all hq in
    let y0 = drafts_kept m1 pf o t h d below u.memory m0 (low_place ws a cur ctx most here head pf n m1 title op) top (moves u.memory q rd.all) y in
    let bd = bodied m1 pf o t h m0 d below body e y0.draft in
    let body_at = bd.0 in
    let st = between_site ws a cur ctx most here voc n m title g x short in
    let is_begun : begun m title ≡ m1 = begun_opening m title here head st (omega arith) in
    let opens = opens_site m title here head (all_size body + 2) st (omega arith) in
    let b1 : Bodied (begun m title) (cell m 28 + (7 + length title)) body m0 =
    subst (λ j. Bodied (begun m title) (j + (7 + length title)) body m0) (sym st.here_is) (subst (λ j. Bodied j pf body m0) (sym is_begun) body_at) in
    let m2 = ended m0 in
    let agrees2 : Agrees m2 (laid_definition m view title body) = subst (λ j. Agrees m2 (laid_definition m j title body)) vw (ended_agrees m title m0 body opens b1) in
    let sn = orderly_site ws a cur ctx most here n title g short in
    let le = length-extra (runtime n) body pf in
    let agrees3 : Agrees m2 (laid_definition n view title body) = agrees_on m2 (laid_definition m view title body) (laid_definition n view title body) agrees2 (laid_agrees m n title view here head body st sn (omega arith) x.agrees) in
    let fin : ended m0 ≡ finished m0 here (length title) (runtime m 5) = ended_is m title m0 here head body (record { site = st; room = omega arith; body = body_at }) in
    let l2 : length m2 ≡ 65536 = length_ended m0 y0.draft.all in
    let as1 : KeepsStream limit m0 (finished m0 here (length title) (runtime m 5)) q = finished_aside m0 here (length title) (runtime m 5) q (ap (λ j. length j) (sym fin) ∙ l2) g.low (omega arith) (omega arith) (omega arith) top as0.place hq in
    let low : (j : ℕ) → 32 ≤ j → j < 34 → byte (finished m0 here (length title) (runtime m 5)) j ≡ byte m0 j = λ j i1 i2. finished_byte m0 here (length title) (runtime m 5) j (omega arith) (omega arith) (omega arith) ∙ byte_below m0 (cell m0 28) (cell_bytes (runtime m 5)) j (omega (arith, length-cell (runtime m 5))) (omega arith) in
    let ctx1 : cell m2 32 ≡ cell m0 32 = ap (λ j. cell j 32) fin ∙ cell_by (finished m0 here (length title) (runtime m 5)) m0 32 (omega arith) (low 32 (omega arith) (omega arith)) (low 33 (omega arith) (omega arith)) in
    let ctx2 : cell m0 32 ≡ cur = kept_cell pf 32 m0 m1 y0.draft.kept (omega arith) (omega arith) (omega arith) (omega arith) (omega arith) (omega arith) ∙ op.context in
    let orderly2 = orderly_kept ws a cur ctx most here view n title body g (omega arith) short (omega arith) in
    let t2 = (sees_agrees ws a cur ctx (suc most) (here + (7 + length title + (all_size body + 2))) cur m2 (laid_definition n view title body) orderly2 (omega arith) agrees3 l2 (ctx1 ∙ ctx2) (λ j. own_head cur ctx j)).thread in
    let s = sees_kept ws a cur ctx most here head pf n m1 title u.memory op y.draft.kept y.draft.all in
    let t0 = (sees_kept ws a cur ctx most here head pf n m1 title m0 op y0.draft.kept y0.draft.all).thread in
    let seen = s.header (name text p) key.link key.found in
    let w = compilation_address u.memory key.link in
    let at_w = seen.address in
    let imm : (is_immediate u.memory key.link || (cell u.memory 16 == 0)) ≡ true = either (is_immediate u.memory key.link) (cell u.memory 16 == 0) (seen.immediate ∙ key.bit) in
    let code : cell u.memory w ≡ 169 = ap (λ j. cell u.memory j) at_w ∙ seen.code ∙ key.code in
    let d_is : d ≡ below = bd.1 in
    let ld2 : length d ≤ 250 = subst (λ j. length j ≤ 250) (sym d_is) (omega arith) in
    let made : row 169 w (at (record u { memory = m0 }) d (a + 16)) ≡ (at (record u { memory = m2 }) d (a + 16), Done) = semicolon_is (at (record u { memory = m0 }) d (a + 16)) w (omega arith) in
    record {
      memory = m2;
      values = d;
      leads = leads_by ws.interpret 8 (at u d a) (at (record u { memory = m2 }) d a) f f b more
          (executed ws a here n cur u (record u { memory = m2 }) f d d w 169 b p text s rd ld2 (takes_executed (at u d (a + 2)) (next text p) (name text p) key.link z (s.sought_is (name text p) ∙ key.found) imm) (omega (arith, at_w)) (omega (arith, at_w)) code refl t0 t2 made);
      ready = ready_aside f u m2 b p q more r (aside_on u.memory m0 m2 q q as0 (subst (λ j. KeepsStream limit m0 j q) (sym fin) as1));
      inv = (d_is, record { agrees = agrees3; context = ctx1 ∙ ctx2; all = l2 });
    }
  where
    either : (i j : Bool) → i ≡ true → (i || j) ≡ true
    either i j c = rw c refl

    length_ended : (s : List ℕ) → length s ≡ 65536 → length (ended s) ≡ 65536
    length_ended s q = length_cell (put_byte (laid s (cell_bytes (runtime s 5))) (newest_count s) (revealed (byte s (newest_count s)))) 16 0 ∙ length_byte (laid s (cell_bytes (runtime s 5))) (newest_count s) (revealed (byte s (newest_count s))) ∙ length-laid s (cell_bytes (runtime s 5)) ∙ q

-- A definition of another name leaves what the resident compiler's words mean.

laid_fronted : {limit : ℕ} (ws : Words) (a cur ctx most here : ℕ) (n : List ℕ) (e : ColonDefinition) → Orderly limit ws a cur ctx most here n → length e.title ≤ 31 → here + (7 + length e.title + (all_size e.body + 2)) ≤ limit → Fronted n (laid_one n e) here (head_of cur e.title) (here + 2)
laid_fronted {limit} ws a cur ctx most here n e g s h =
    let extra = whole_code (runtime n) e.body (here + (7 + length e.title)) in
    let le = length-extra (runtime n) e.body (here + (7 + length e.title)) in
    let st = orderly_site ws a cur ctx most here n e.title g s in
    subst (λ x. Fronted n x here (head_of cur e.title) (here + 2)) (sym (whole_is n e.screen e.title here (head_of cur e.title) e.body st (omega arith)))
    (whole_fronted n e.title extra e.screen here (head_of cur e.title) (fits_orderly ws a cur ctx most here (length extra) n e.title g s (omega arith)))

laid_named : {limit : ℕ} (ws : Words) (a cur ctx most here : ℕ) (n : List ℕ) (e : ColonDefinition) (x : List ℕ) → Orderly limit ws a cur ctx most here n → length e.title ≤ 31 → here + (7 + length e.title + (all_size e.body + 2)) ≤ limit → is_named (laid_one n e) x (here + 2) ≡ bytes_eq e.title x
laid_named {limit} ws a cur ctx most here n e x g s h =
    let extra = whole_code (runtime n) e.body (here + (7 + length e.title)) in
    let le = length-extra (runtime n) e.body (here + (7 + length e.title)) in
    let st = orderly_site ws a cur ctx most here n e.title g s in
    subst (λ y. is_named y x (here + 2) ≡ bytes_eq e.title x) (sym (whole_is n e.screen e.title here (head_of cur e.title) e.body st (omega arith)))
    (whole_named n e.title extra x e.screen here (head_of cur e.title) (fits_orderly ws a cur ctx most here (length extra) n e.title g s (omega arith)))

-- what is known of a search
record Same (here : ℕ) (n k : List ℕ) (voc : ℕ) (x : List ℕ) : Type 0 where
  sought : sought_from k voc x ≡ sought_from n voc x
  immediate : (l : ℕ) → sought_from n voc x ≡ Found l → is_immediate k l ≡ is_immediate n l
  address : (l : ℕ) → sought_from n voc x ≡ Found l → compilation_address k l ≡ compilation_address n l
  code : (l : ℕ) → sought_from n voc x ≡ Found l → cell k (compilation_address k l) ≡ cell n (compilation_address n l)

same_search : {limit : ℕ} (ws : Words) (a cur ctx most here : ℕ) (n : List ℕ) (e : ColonDefinition) (x : List ℕ) → Orderly limit ws a cur ctx most here n → most ≤ 32767 → length e.title ≤ 31 → here + (7 + length e.title + (all_size e.body + 2)) ≤ limit → bytes_eq e.title x ≡ false → Same here n (laid_one n e) cur x
same_search {limit} ws a cur ctx most here n e x g l s h other =
    let k = laid_one n e in
    let head = head_of cur e.title in
    let i = own_head cur ctx e.title in
    let f = laid_fronted ws a cur ctx most here n e g s h in
    let own = chain_apart ws a cur ctx most here head (head_of cur x) n g l i (own_head cur ctx x) in
    let forth = chain_apart ws a cur ctx most here head (head_of 42 x) n g l i (forth_head cur ctx x) in
    let seen = λ (y : ℕ) (q : sought_from n cur x ≡ Found y).
    let there = found_apart here head cur n x y own forth q in
    seen_by here n k y (omega arith) (header_same n k here head (here + 2) y f there) there.0 there.1 in
    record {
      sought = sought_fronted n k here head (here + 2) cur x f (laid_named ws a cur ctx most here n e x g s h ∙ other) own forth;
      immediate = λ y q. (seen y q).immediate;
      address = λ y q. (seen y q).address;
      code = λ y q. ap (λ w. cell k w) (seen y q).address ∙ (seen y q).code;
    }

key_kept : (here : ℕ) (n k : List ℕ) (voc : ℕ) (x : List ℕ) (number : ℕ) (bit : Bool) → Same here n k voc x → Key n voc x number bit → Key k voc x number bit
key_kept here n k voc x number bit s y = search (arith)

is_key_kept : (here : ℕ) (n k : List ℕ) (voc : ℕ) (x : List ℕ) (w : Token) → runtime k 19 ≡ runtime n 19 → Same here n k voc x → IsKey n voc x w → IsKey k voc x w
is_key_kept here n k voc x w c s y = grind arith

-- a name that is no keyword isn't that of one
not_keyword : (title nm text : List ℕ) (w : Token) → ((t : List ℕ) → keyword title t ≡ None) → keyword nm text ≡ Some w → bytes_eq title nm ≡ false
not_keyword title nm text w f e = grind (arith, bytes_eq-Decides)

not_colon : (title : List ℕ) → begins_body title ≡ false → bytes_eq title (codes ":") ≡ false
unfolding begins_body
not_colon title h = h

not_paren : (title : List ℕ) → begins_comment title ≡ false → bytes_eq title (codes "(") ≡ false
unfolding begins_comment
not_paren title h = h

pub keys_kept : {limit : ℕ} (ws : Words) (a cur ctx most here : ℕ) (n : List ℕ) (e : ColonDefinition) → Orderly limit ws a cur ctx most here n → most ≤ 32767 → length e.title ≤ 31 → here + (7 + length e.title + (all_size e.body + 2)) ≤ limit → IsFree e.title → Keys n cur → Keys (laid_one n e) cur
keys_kept {limit} ws a cur ctx most here n e g l s h free y =
    let k = laid_one n e in
    let head = head_of cur e.title in
    let f = laid_fronted ws a cur ctx most here n e g s h in
    let placed = g.heads head (own_head cur ctx e.title) in
    let c : runtime k 19 ≡ runtime n 19 = cell_by k n 102 (omega arith) (f.same 102 (omega arith) (omega arith) (apart head placed 102 (omega arith) (omega arith)) (apart_next head placed 102 (omega arith) (omega arith))) (f.same 103 (omega arith) (omega arith) (apart head placed 103 (omega arith) (omega arith)) (apart_next head placed 103 (omega arith) (omega arith))) in
    record {
      colon = key_kept here n k cur (codes ":") 168 false (same_search ws a cur ctx most here n e (codes ":") g l s h (not_colon e.title free.colon)) y.colon;
      paren = key_kept here n k cur (codes "(") 145 true (same_search ws a cur ctx most here n e (codes "(") g l s h (not_paren e.title free.comment)) y.paren;
      keywords = λ nm text w q. is_key_kept here n k cur nm w c (same_search ws a cur ctx most here n e nm g l s h (not_keyword e.title nm text w free.keyword_none q)) (y.keywords nm text w q);
    }
  where
    apart : (head : ℕ) → ((42 ≤ head) × (head + 1 < 52)) ⊎ ((256 ≤ head) × (head + 1 < here)) → (j : ℕ) → 60 < j → j < 200 → j ≢ head
    apart head (inl q) j p r = let q1 = q.1 in omega arith
    apart head (inr q) j p r = let q0 = q.0 in omega arith

    apart_next : (head : ℕ) → ((42 ≤ head) × (head + 1 < 52)) ⊎ ((256 ≤ head) × (head + 1 < here)) → (j : ℕ) → 60 < j → j < 200 → j ≢ head + 1
    apart_next head (inl q) j p r = let q1 = q.1 in omega arith
    apart_next head (inr q) j p r = let q0 = q.0 in omega arith
