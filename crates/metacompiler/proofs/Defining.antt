-- Definitions, one after another, over screens, and the screens that hold them, loaded.
use Rattle.std.proofs.Common.{◌≡◌, ℕ, suc, ◌+◌, ◌≤◌, ◌++◌, ◌∷◌, List, [], length, refl, arith, true, false, ap, sym, subst, ◌∙◌, zero, Bool, ◌≢◌, ◌-◌, ◌<◌, ◌/◌, take, drop}
use Rattle.std.specs.Prelude.{codes, ◌==◌, nat_le}
use Rattle.std.proofs.lemmas.Slice.Eq.{bytes_eq-Decides}
use Rattle.std.proofs.lemmas.Bool.{eqb-true}
use Rattle.std.proofs.lemmas.List.{get_or-take, length-take-le}
use Rattle.memory.specs.Bytes.{cell, put_cell, IsCount, limit_of, byte}
use Rattle.memory.proofs.Kept.{cell_beside, wrap_small, byte_set, byte_here, byte_cell, length_byte, length_cell}
use Rattle.block_buffers.specs.Disks.{block_at, Disk, called}
use Rattle.dictionary.specs.Search.{head_of}
use Rattle.colon_bodies.specs.declared.words.Half.TheVariants.{Free}
use Rattle.colon_bodies.specs.Tokens.{SEMI}
use Rattle.colon_bodies.specs.Tree.{Empty, all_words}
use Rattle.colon_bodies.specs.Code.{all_size, whole_code}
use Rattle.colon_bodies.specs.Open.{Top}
use Rattle.colon_bodies.proofs.Reading.{accept_all}
use Rattle.colon_bodies.proofs.Taking.{laid-all}
use Rattle.source_words.specs.declared.modes.Mode.TheVariants.{Outside, NameOfBody, Body}
use Rattle.source_words.specs.Modes.{begins_body, mode_after, begins_comment}
use Rattle.source_words.specs.Words.{SourceWord, words_of_screens}
use Rattle.resident_bodies.specs.Definitions.{laid_definition, Agrees}
use Rattle.resident_bodies.proofs.Ending.{opening, head_low, length-extra}
use Rattle.machine_parts.specs.Whole.{Whole}
use Rattle.input_source.specs.Words.{parsed, IsNextWord}
use Rattle.input_source.proofs.WordLaw.{word_law}
use Rattle.memory.specs.declared.limit.TheConstants.{GREATEST_LIMIT}
use Rattle.memory.proofs.Limits.{limit_is}
use Rattle.machine.specs.Entering.{can_save}
use Rattle.memory.proofs.Same.{cell_by}
use Rattle.block_buffers.proofs.Kept.{are_started, length-start}
use Rattle.block_buffers.specs.Entries.{holds, has_updated, start as start_buffers}
use Rattle.image_loader.specs.Files.{Contents}
use Rattle.machine.specs.State.{loaded_state}
use Rattle.compiling_words.specs.Code.{runtime}
use Rattle.metacompiler.specs.Loop.{Words}
use Rattle.metacompiler.specs.Rounds.{at, Out, rounds, then_screens, out, Ended, screens}
use Rattle.metacompiler.specs.ScreenStream.{next, name}
use Rattle.metacompiler.specs.Meaning.{Keys, Key, Means}
use Rattle.metacompiler.specs.Sources.{ColonDefinition, laid_one, laid_all, Defines, AreDefined}
use Rattle.metacompiler.specs.Orderly.{IsHead, Orderly}
use Rattle.metacompiler.specs.Turning.{IsReliable, Ready, words_left, spot, Leads, Met, Holds}
use Rattle.metacompiler.specs.Opened.{Drafts, Turned}
use Rattle.metacompiler.specs.Between.{IsBetween}
use Rattle.metacompiler.proofs.Folding.{Env, IsEnv, Here, spot_of, text_of_screen, Point, Closing, same_spot}
use Rattle.metacompiler.proofs.Turns.{length_text, next_within, leads_on, leads_none, moves, takes_none, ended_screen}
use Rattle.metacompiler.proofs.Seek.{plain_spot, left_word, due_here, seek, none_left, comment_left, comment, left_by, over, reliable_called, left_over, further, Before, Begun, begin_screen, screens_left, first_of}
use Rattle.metacompiler.proofs.Orders.{own_head, orderly_kept, whole_is, whole_low, context_head, orderly_site, fits_orderly}
use Rattle.metacompiler.proofs.Body.{body_fold}
use Rattle.metacompiler.proofs.Definitions.{holds_between, between_kept, opened_by, colon_turn, semi_turn, keys_kept}
use Rattle.metacompiler.specs.Loaded.{put_back, restored, ended, answered, by_out, IsLaidOr}
use Rattle.metacompiler.proofs.Limits.{Lasts, all_last}

-- Definitions, one after another, over screens.

-- Definitions, one after another, over screens.

-- the bytes of :
is_colon : (nm : List ℕ) → begins_body nm ≡ true → nm ≡ codes ":"
unfolding begins_body
is_colon nm h = (bytes_eq-Decides nm (codes ":")).0 h

after_colon : (nm : List ℕ) → begins_body nm ≡ true → mode_after Outside nm ≡ NameOfBody
after_colon nm h = rw h refl

-- between definitions: where the machine is, and the words that are left
pub record Idle (limit : ℕ) (n : List ℕ) (voc : ℕ) (s : Here) (sw : List SourceWord) : Type 0 where
  pub ready : Ready limit s.disk s.parts s.screen s.place s.others
  pub reliable : IsReliable s.disk
  pub between : IsBetween n voc s.parts.memory
  pub left : words_left Outside s.disk.blocks s.screen s.place s.others ≡ sw

-- some ticks lead to such a place
pub record Comes (limit : ℕ) (w a : ℕ) (s : Here) (n : List ℕ) (voc : ℕ) (sw : List SourceWord) : Type 0 where
  pub final : Here
  pub leads : Leads w (spot_of a s) (spot_of a final)
  pub blocks : final.disk.blocks ≡ s.disk.blocks
  pub values : final.values ≡ s.values
  pub idle : Idle limit n voc final sw

-- the next word, met
met_idle : {limit : ℕ} (ws : Words) (a cur ctx most here voc : ℕ) (n : List ℕ) (s : Here) (v : SourceWord) (sw : List SourceWord) → Orderly limit ws a cur ctx most here n → most ≤ 32767 → ((y : List ℕ) → IsHead cur ctx (head_of voc y)) → Keys n voc → length s.values ≤ 100 → Idle limit n voc s (v ∷ sw)
    → Met limit ws.interpret a (IsBetween n voc) Outside s.parts s.disk s.values s.screen s.others (v ∷ sw)
met_idle {limit} ws a cur ctx most here voc n s v sw g l i keys ld x =
    seek ws a here n voc (IsBetween n voc) Outside s.others s.values v sw (holds_between ws a cur ctx most here voc n g l i) keys refl (omega arith) s.disk s.screen s.parts s.place x.ready x.reliable x.between x.left

-- One definition.
pub define : {limit : ℕ} (ws : Words) (a cur ctx most here voc : ℕ) (n : List ℕ) (s : Here) (sw : List SourceWord) (e : ColonDefinition) (rest : List SourceWord) → Orderly limit ws a cur ctx most here n → most + 1 ≤ 32767 → ((y : List ℕ) → IsHead cur ctx (head_of voc y)) → Keys n voc → Keys n cur → length s.values ≤ 100
    → Defines limit n sw e rest → Idle limit n voc s sw → Comes limit ws.interpret a s (laid_one n e) cur rest
define {limit} ws a cur ctx most here voc n s sw e rest g l i keys own ld df x =
    let m : Met limit ws.interpret a (IsBetween n voc) Outside s.parts s.disk s.values s.screen s.others (df.colon ∷ df.name ∷ df.inner) =
    met_idle ws a cur ctx most here voc n s df.colon (df.name ∷ df.inner) g (omega arith) i keys ld (record { ready = x.ready; reliable = x.reliable; between = x.between; left = x.left ∙ df.is }) in
    let b = m.screen in
    let p = m.place in
    let f = m.disk in
    let text = block_at f.blocks b in
    let u = m.parts in
    let more = m.others in
    let rd = m.ready.reading in
    let page : length text ≡ 1024 = length_text u b p text rd in
    let q1 = (next text p).next in
    let q2 = (next text q1).next in
    let h1 : q1 ≤ 1024 = next_within text p page rd.within in
    let title = name text q1 in
    let first = left_word Outside f.blocks b p more page rd.within m.some m.word refl in
    let s1 = same_spot df.colon (plain_spot b p text) (df.name ∷ df.inner) (words_left (mode_after Outside (name text p)) f.blocks b q1 more) (sym m.words ∙ first) in
    let begins : begins_body (name text p) ≡ true = ap (λ (v : SourceWord). begins_body v.name) (sym s1.0) ∙ df.begins in
    let at_name : words_left NameOfBody f.blocks b q1 more ≡ df.name ∷ df.inner = ap (λ k. words_left k f.blocks b q1 more) (sym (after_colon (name text p) begins)) ∙ sym s1.1 in
    let screen : df.name.screen ≡ b = df.beside ∙ ap (λ (v : SourceWord). v.screen) s1.0 in
    let some2 = due_here NameOfBody f.blocks b q1 more df.name df.inner page h1 at_name screen in
    let second = left_word NameOfBody f.blocks b q1 more page h1 some2 refl refl in
    let s2 = same_spot df.name (plain_spot b q1 text) df.inner (words_left Body f.blocks b q2 more) (sym at_name ∙ second) in
    let titled : e.title ≡ title = sym df.title ∙ ap (λ (v : SourceWord). v.name) s2.0 in
    let viewed : b ≡ e.screen = sym screen ∙ df.screen in
    let short : length title ≤ 31 = let k = df.short in subst (λ t. length t ≤ 31) titled (omega arith) in
    let dp = g.dp in
    let room0 = df.room in
    let lt : length title ≡ length e.title = ap (λ t. length t) (sym titled) in
    let pf = here + (7 + length title) in
    let head = head_of cur title in
    let m0 = put_cell u.memory 20 q1 in
    let mm = put_cell m0 20 q2 in
    let m1 = opening mm title here head in
    let dn : cell n 28 ≤ limit = let hi = g.high in omega arith in
    let x0 = between_kept {limit = limit} n u.memory m0 voc dn (omega arith) (moves u.memory q1 rd.all) m.inv in
    let xm = between_kept {limit = limit} n m0 mm voc dn (omega arith) (moves m0 q2 x0.all) x0 in
    let op = opened_by ws a cur ctx most here voc n mm title g (omega arith) xm short (omega arith) in
    let named : name text p ≡ codes ":" = is_colon (name text p) begins in
    let turned : Turned limit ws.interpret a (λ k j. Drafts limit m1 pf Top Empty Free k s.values j) u f s.values b q2 more =
    colon_turn ws a cur ctx most here voc n u f s.values b p more g (omega arith) i m.ready m.inv ld m.some (subst (λ t. Key n voc t 168 false) (sym named) keys.colon) some2 short (omega arith) in
    let E : Env = record { ws = ws; a = a; cur = cur; ctx = ctx; limit = limit; most = most; here = here; head = head; pf = pf; n = n; m1 = m1; title = title; body = e.body; rest = rest; below = s.values } in
    let env : IsEnv E = record { opened = op; keys = own; few = ld; shallow = df.shallow } in
    let start : Here = record { parts = record u { memory = turned.memory }; disk = f; screen = b; place = q2; others = more; values = turned.values } in
    let size = laid-all e.body in
    let point : Point E start Top Empty Free df.inner (all_words e.body) = record {
      ready = turned.ready;
      reliable = m.reliable;
      drafts = turned.inv;
      loose = tt;
      means = subst (λ v. Means n v Free df.inner (all_words e.body ++ SEMI ∷ []) rest) g.current df.means;
      left = sym s2.1;
      accepts = accept_all e.body;
      room = omega arith;
      short = df.texts;
    } in
    let c : Closing E start = body_fold (length (all_words e.body)) E start Top Empty Free df.inner (all_words e.body) env (omega arith) point in
    let fin = c.final in
    let blk : cell mm 22 ≡ b = cell_beside m0 20 q2 22 (omega arith) (omega arith) (omega arith) (omega arith) (omega arith) ∙ cell_beside u.memory 20 q1 22 (omega arith) (omega arith) (omega arith) (omega arith) (omega arith) ∙ rd.blk in
    let done : Turned limit ws.interpret a (λ k m2. (k ≡ s.values) × IsBetween (laid_definition n b title e.body) cur m2) fin.parts fin.disk fin.values fin.screen (next (text_of_screen fin) fin.place).next fin.others =
    semi_turn ws a cur ctx most here voc b n mm title e.body c.outer c.tree c.half fin.parts fin.disk fin.values s.values fin.screen fin.place fin.others g (omega arith) xm short blk (omega arith) op c.ready c.drafts c.whole_is ld c.some c.key in
    let same : laid_definition n b title e.body ≡ laid_one n e = ap (λ t. laid_definition n b t e.body) (sym titled) ∙ ap (λ v. laid_definition n v e.title e.body) viewed in
    let last : Here = record { parts = record fin.parts { memory = done.memory }; disk = fin.disk; screen = fin.screen; place = (next (text_of_screen fin) fin.place).next; others = fin.others; values = done.values } in
    record {
      final = last;
      leads = leads_on ws.interpret (spot_of a s) (spot (at u s.values a) f b more) (spot_of a last) m.leads
          (leads_on ws.interpret (spot (at u s.values a) f b more) (spot_of a start) (spot_of a last) turned.leads
          (leads_on ws.interpret (spot_of a start) (spot_of a fin) (spot_of a last) c.leads done.leads));
      blocks = c.blocks ∙ m.blocks;
      values = done.inv.0;
      idle = record {
        ready = done.ready;
        reliable = c.reliable;
        between = subst (λ k. IsBetween k cur done.memory) same done.inv.1;
        left = c.left;
      };
    }

comes_on : {limit : ℕ} (w a : ℕ) (s r : Here) (n k : List ℕ) (v c : ℕ) (sw rest : List SourceWord) (x : Comes limit w a s n v sw) → x.final ≡ r → Comes limit w a r k c rest → Comes limit w a s k c rest
comes_on {limit} w a s r n k v c sw rest x e y = search (arith, leads_on, spot_of)

-- the vocabulary that is searched first after definitions
abbrev pub context_of : (cur voc : ℕ) → List ColonDefinition → ℕ
context_of cur voc [] = voc
context_of cur voc (e ∷ es) = cur

context_own : (cur : ℕ) (es : List ColonDefinition) → context_of cur cur es ≡ cur
context_own cur es = grind arith

-- All of them.
pub define_all : {limit : ℕ} (ws : Words) (a cur ctx most here voc : ℕ) (n : List ℕ) (s : Here) (sw : List SourceWord) (es : List ColonDefinition) → Orderly limit ws a cur ctx most here n → most + length es ≤ 32767 → ((y : List ℕ) → IsHead cur ctx (head_of voc y)) → Keys n voc → Keys n cur → length s.values ≤ 100
    → AreDefined limit n sw es → Idle limit n voc s sw → Comes limit ws.interpret a s (laid_all n es) (context_of cur voc es) []
define_all {limit} ws a cur ctx most here voc n s sw [] g l i keys own ld src x = search (arith, leads_none, spot_of)
define_all {limit} ws a cur ctx most here voc n s sw (e ∷ es) g l i keys own ld src x =
    let df = src.1 in
    let one = define ws a cur ctx most here voc n s sw e src.0 g (omega arith) i keys own ld df x in
    let n2 = laid_one n e in
    let here2 = here + (7 + length e.title + (all_size e.body + 2)) in
    let g2 : Orderly limit ws a cur ctx (suc most) here2 n2 = orderly_kept ws a cur ctx most here e.screen n e.title e.body g (omega arith) (omega arith) (omega arith) in
    let k2 = keys_kept ws a cur ctx most here n e g (omega arith) (omega arith) (omega arith) df.free own in
    let ld2 : length one.final.values ≤ 100 = subst (λ j. length j ≤ 100) (sym one.values) ld in
    let two = define_all ws a cur ctx (suc most) here2 cur n2 one.final src.0 es g2 (omega arith) (own_head cur ctx) k2 k2 ld2 src.2 one.idle in
    subst (λ j. Comes limit ws.interpret a s (laid_all n2 es) j []) (context_own cur es) (comes_on ws.interpret a s one.final n2 (laid_all n2 es) cur (context_of cur cur es) src.0 [] one refl two)

-- the dictionary after all of them is orderly
pub orderly_all : {limit : ℕ} (ws : Words) (a cur ctx most here : ℕ) (n : List ℕ) (sw : List SourceWord) (es : List ColonDefinition) → Orderly limit ws a cur ctx most here n → most + length es ≤ 32767 → AreDefined limit n sw es → (z : ℕ) × Orderly limit ws a cur ctx (most + length es) z (laid_all n es)
orderly_all {limit} ws a cur ctx most here n sw [] g l src = let e : most + 0 ≡ most = omega arith in (here, rw e g)
orderly_all {limit} ws a cur ctx most here n sw (e ∷ es) g l src =
    let g2 = orderly_kept ws a cur ctx most here e.screen n e.title e.body g (omega arith) (omega arith) (omega arith) in
    let rest = orderly_all ws a cur ctx (suc most) (here + (7 + length e.title + (all_size e.body + 2))) (laid_one n e) src.0 es g2 (omega arith) src.2 in
    let k : most + suc (length es) ≡ suc most + length es = omega arith in
    (rest.0, rw k rest.1)

-- From the last word of the screens to the end of the last screen.

-- all screens end
pub record Finished (limit w a : ℕ) (I : List ℕ → Type 0) (u : Whole) (f : Disk) (d : List ℕ) (b more : ℕ) : Type 0 where
  pub ticks : ℕ
  pub parts : Whole
  pub disk : Disk
  pub blocks : disk.blocks ≡ f.blocks
  pub limit_is : limit_of (length parts.buffers) ≡ limit
  pub count : IsCount (length parts.buffers)
  pub inv : I parts.memory
  pub is : (k : ℕ) → then_screens w more (b + 1) (rounds (ticks + suc k) (at u d a) f) ≡ out parts disk k Ended

-- if no word is left, the next word is a comment
only_comments : {limit : ℕ} (f : Disk) (u : Whole) (b p more : ℕ) → Ready limit f u b p more → ((next (block_at f.blocks b) p).len == 0) ≡ false → words_left Outside f.blocks b p more ≡ [] → begins_comment (name (block_at f.blocks b) p) ≡ true
only_comments {limit} f u b p more r z e = grind (arith, left_word, length_text)

finish_on : {limit : ℕ} (w a : ℕ) (I : List ℕ → Type 0) (u v : Whole) (f g : Disk) (d : List ℕ) (b c more rest : ℕ) → Leads w (spot (at u d a) f b more) (spot (at v d a) g c rest) → g.blocks ≡ f.blocks → Finished limit w a I v g d c rest → Finished limit w a I u f d b more
finish_on {limit} w a I u v f g d b c more rest l e x = record {
  ticks = l.ticks + x.ticks;
  parts = x.parts;
  disk = x.disk;
  blocks = x.blocks ∙ e;
  limit_is = x.limit_is;
  count = x.count;
  inv = x.inv;
  is = λ k.
      let n : l.ticks + x.ticks + suc k ≡ l.ticks + suc (x.ticks + k) = omega arith in
      ap (λ j. then_screens w more (b + 1) (rounds j (at u d a) f)) n ∙ l.is (x.ticks + k) ∙ ap (λ j. then_screens w rest (c + 1) (rounds j (at v d a) g)) (omega arith) ∙ x.is k;
}

last_screen : (w b : ℕ) (o : Out) → then_screens w zero b o ≡ o
unfolding then_screens
last_screen w b o = refl

finish_within : {limit : ℕ} (ws : Words) (a here : ℕ) (n : List ℕ) (voc : ℕ) (I : List ℕ → Type 0) (f : Disk) (d : List ℕ) (b more fuel : ℕ) → Holds limit ws a here n voc I → Keys n voc → length d ≤ 250 →
    ((u : Whole) (p : ℕ) → Ready limit f u b p more → I u.memory → ((next (block_at f.blocks b) p).len == 0) ≡ true → words_left Outside f.blocks b p more ≡ [] → Finished limit ws.interpret a I u f d b more) →
    (u : Whole) (p : ℕ) → 1024 ≤ p + fuel → Ready limit f u b p more → I u.memory → words_left Outside f.blocks b p more ≡ [] → Finished limit ws.interpret a I u f d b more
finish_within {limit} ws a here n voc I f d b more zero h keys l end u p g r i e =
    let text = block_at f.blocks b in
    let lt = length_text u b p text r.reading in
    let w : IsNextWord text p 32 (next text p) = word_law text p 32 (let k = r.reading.within in omega arith) in
    end u p r i (grind arith) e
finish_within {limit} ws a here n voc I f d b more (suc fuel) h keys l end u p g r i e =
    by (λ u1 p1 g1 r1 i1 e1. finish_within ws a here n voc I f d b more fuel h keys l end u1 p1 g1 r1 i1 e1) ((next text p).len == 0) refl
  where
    text : List ℕ
    text = block_at f.blocks b

    by : (go : (u1 : Whole) (p1 : ℕ) → 1024 ≤ p1 + fuel → Ready limit f u1 b p1 more → I u1.memory → words_left Outside f.blocks b p1 more ≡ [] → Finished limit ws.interpret a I u1 f d b more) (x : Bool) → ((next text p).len == 0) ≡ x → Finished limit ws.interpret a I u f d b more
    by go true z = end u p r i z e
    by go false z =
        let lt = length_text u b p text r.reading in
        let c = only_comments f u b p more r z e in
        let one = comment ws a here n voc I u f d b p more h keys r i l z c in
        let far = further text p lt r.reading.within z in
        let q = (parsed text (next text p).next 41).next in
        finish_on ws.interpret a I u (record u { memory = one.memory }) f f d b b more more one.leads refl
        (go (record u { memory = one.memory }) q (omega arith) one.ready one.inv (sym (left_by Outside f.blocks b p q more (comment_left Outside b p text (omega arith) z c)) ∙ e))

pub finish : {limit : ℕ} (ws : Words) (a here : ℕ) (n : List ℕ) (voc : ℕ) (I : List ℕ → Type 0) (more : ℕ) (d : List ℕ) → Holds limit ws a here n voc I → Keys n voc → length d ≤ 250 →
    (f : Disk) (b : ℕ) (u : Whole) (p : ℕ) → Ready limit f u b p more → IsReliable f → I u.memory → words_left Outside f.blocks b p more ≡ [] → Finished limit ws.interpret a I u f d b more
finish {limit} ws a here n voc I zero d h keys l f b u p r reliable i e =
    finish_within ws a here n voc I f d b 0 1024 h keys l
    (λ u1 p1 r1 i1 z e1.
    let text = block_at f.blocks b in
    let q = (next text p1).next in
    let m1 = put_cell u1.memory 20 q in
    let s = h.sees u1.memory i1 in
    let j1 = h.keep u1.memory m1 (moves u1.memory q r1.reading.all) i1 in
    let t1 = (h.sees m1 j1).thread in
    record {
      ticks = 3;
      parts = record (at (record u1 { memory = m1 }) d 0) { returns = [] };
      disk = f;
      blocks = refl;
      limit_is = r1.limit_is;
      count = r1.buffers.count;
      inv = j1;
      is = λ k. last_screen ws.interpret (b + 1) (rounds (3 + suc k) (at u1 d a) f) ∙ ended_screen ws a here n voc u1 f d b p1 k text s r1.reading l (takes_none (at u1 d (a + 2)) (next text p1) (name text p1) z) t1 r1.returns;
    })
    u p (omega arith) r i e
finish {limit} ws a here n voc I (suc more) d h keys l f b u p r reliable i e =
    finish_within ws a here n voc I f d b (suc more) 1024 h keys l
    (λ u1 p1 r1 i1 z e1.
    let one = over ws a here n voc I u1 f d b p1 more h reliable r1 i1 l z in
    let same = left_over Outside f.blocks b p1 more (omega arith) (none_left Outside b p1 (block_at f.blocks b) (omega arith) z) in
    let two = finish ws a here n voc I more d h keys l (called f) (b + 1) one.parts 0 one.ready (reliable_called f reliable) one.inv (sym same ∙ e1) in
    finish_on ws.interpret a I u1 one.parts f (called f) d b (b + 1) (suc more) more one.leads refl two)
    u p (omega arith) r i e

-- An image whose memory is an orderly dictionary, and screens that hold them.

-- the buffers at the start
start_clean : (count : ℕ) → has_updated (start_buffers count) ≡ false
unfolding start_buffers has_updated
start_clean zero = refl
start_clean (suc n) = start_clean n

start_fresh : (count j : ℕ) → holds (start_buffers count) j ≡ false
unfolding start_buffers holds
start_fresh zero j = refl
start_fresh (suc n) j = start_fresh n j

-- memory agrees with itself
pub agrees_self : (n : List ℕ) → Agrees n n
agrees_self n = record { here = refl; same = λ i l a b c. refl }

-- All screens, from the start: the rounds end with all definitions written.
head_of_all : (cur ctx voc : ℕ) (es : List ColonDefinition) → ((y : List ℕ) → IsHead cur ctx (head_of voc y)) → (y : List ℕ) → IsHead cur ctx (head_of (context_of cur voc es) y)
head_of_all cur ctx voc [] i y = i y
head_of_all cur ctx voc (e ∷ es) i y = own_head cur ctx y

count_by : (a b : ℕ) → IsCount a → IsCount b → limit_of a ≡ limit_of b → a ≡ b
count_by a b x y e = omega (arith, limit_is a x, limit_is b y)

pub screens_law : (ws : Words) (a cur ctx most here : ℕ) (image : Contents) (f : Disk) (from more : ℕ) (es : List ColonDefinition) → let u = (loaded_state image (length f.blocks)).parts in let n = u.memory in let limit = limit_of image.buffers in
    IsCount image.buffers → Orderly limit ws a cur ctx most here n → most + length es ≤ 32767 → cell n 32 ≡ ctx → Keys n ctx → Keys n cur → IsReliable f → 0 < from → from + more < length f.blocks
    → Keys (laid_all n es) (context_of cur ctx es)
    → AreDefined limit n (words_of_screens Outside from (take (suc more) (drop from f.blocks))) es
    → (ticks : ℕ) × (parts : Whole) × (disk : Disk) × (disk.blocks ≡ f.blocks) × IsBetween (laid_all n es) (context_of cur ctx es) parts.memory × ((k : ℕ) → screens ws.interpret (suc more) from (ticks + suc k) u f ≡ out parts disk k Ended) × (length parts.buffers ≡ image.buffers)
screens_law ws a cur ctx most here image f from more es count g l c keys own reliable pos room last src =
    let u = (loaded_state image (length f.blocks)).parts in
    let n = u.memory in
    let limit = limit_of image.buffers in
    let hold = holds_between ws a cur ctx most here ctx n g (omega arith) (context_head cur ctx) in
    let before : Before limit f u from more = record {
      all = g.all;
      buffers = are_started image.buffers count;
      limit_is = ap (λ (k : ℕ). limit_of k) (length-start image.buffers);
      clean = start_clean image.buffers;
      fresh = λ j h. start_fresh image.buffers j;
      count = refl;
      some = grind arith;
      room = room;
    } in
    let bt : IsBetween n ctx n = record { agrees = agrees_self n; context = c; all = g.all } in
    let b : Begun limit ws a (IsBetween n ctx) u f [] from more = begin_screen ws a here n ctx (IsBetween n ctx) u f [] from more hold reliable before bt in
    let s : Here = record { parts = b.parts; disk = called f; screen = from; place = 0; others = more; values = [] } in
    let words = words_of_screens Outside from (take (suc more) (drop from f.blocks)) in
    let idle : Idle limit n ctx s words = record { ready = b.ready; reliable = reliable_called f reliable; between = b.inv; left = sym (screens_left Outside f.blocks from more (omega arith)) } in
    let x : Comes limit ws.interpret a s (laid_all n es) (context_of cur ctx es) [] = define_all ws a cur ctx most here ctx n s words es g l (context_head cur ctx) keys own (omega arith) src idle in
    let z = orderly_all ws a cur ctx most here n words es g l src in
    let n2 = laid_all n es in
    let voc2 = context_of cur ctx es in
    let hold2 = holds_between ws a cur ctx (most + length es) z.0 voc2 n2 z.1 l (head_of_all cur ctx ctx es (context_head cur ctx)) in
    let r = x.final in
    let lv : length r.values ≤ 250 = subst (λ j. length j ≤ 250) (sym x.values) (omega arith) in
    let y : Finished limit ws.interpret a (IsBetween n2 voc2) r.parts r.disk r.values r.screen r.others = finish ws a z.0 n2 voc2 (IsBetween n2 voc2) r.others r.values hold2 last lv r.disk r.screen r.parts r.place x.idle.ready x.idle.reliable x.idle.between x.idle.left in
    let led = x.leads in (
      2 + (led.ticks + y.ticks),
      y.parts,
      y.disk,
      y.blocks ∙ x.blocks,
      y.inv,
      λ k.
          ap (λ j. screens ws.interpret (suc more) from j u f) (omega arith)
          ∙ first_of ws.interpret more from u f (2 + suc (led.ticks + (y.ticks + k)))
          ∙ ap (λ o. then_screens ws.interpret more (from + 1) o) (b.rounds_are (led.ticks + (y.ticks + k)))
          ∙ ap (λ j. then_screens ws.interpret more (from + 1) (rounds j (at b.parts [] a) (called f))) (omega arith)
          ∙ led.is (y.ticks + k)
          ∙ ap (λ j. then_screens ws.interpret r.others (r.screen + 1) (rounds j (at r.parts r.values a) r.disk)) (omega arith)
          ∙ y.is k,
      count_by (length y.parts.buffers) image.buffers y.count count y.limit_is,
    )

-- the resident compiler's words after all definitions
keys_all : {limit : ℕ} (ws : Words) (a cur ctx most here : ℕ) (n : List ℕ) (sw : List SourceWord) (es : List ColonDefinition) → Orderly limit ws a cur ctx most here n → most + length es ≤ 32767 → Keys n cur → AreDefined limit n sw es → Keys (laid_all n es) cur
keys_all {limit} ws a cur ctx most here n sw [] g l own src = own
keys_all {limit} ws a cur ctx most here n sw (e ∷ es) g l own src =
    let df = src.1 in
    let g2 = orderly_kept ws a cur ctx most here e.screen n e.title e.body g (omega arith) (omega arith) (omega arith) in
    keys_all ws a cur ctx (suc most) (here + (7 + length e.title + (all_size e.body + 2))) (laid_one n e) src.0 es g2 (omega arith) (keys_kept ws a cur ctx most here n e g (omega arith) (omega arith) (omega arith) df.free own) src.2

keys_last : {limit : ℕ} (ws : Words) (a cur ctx most here : ℕ) (n : List ℕ) (sw : List SourceWord) (es : List ColonDefinition) → Orderly limit ws a cur ctx most here n → most + length es ≤ 32767 → Keys n ctx → Keys n cur → AreDefined limit n sw es → Keys (laid_all n es) (context_of cur ctx es)
keys_last {limit} ws a cur ctx most here n sw [] g l keys own src = keys
keys_last {limit} ws a cur ctx most here n sw (e ∷ es) g l keys own src = keys_all ws a cur ctx most here n sw (e ∷ es) g l own src

-- a byte of the system that no definition writes
def_low : {limit : ℕ} (ws : Words) (a cur ctx most here : ℕ) (n : List ℕ) (e : ColonDefinition) (i : ℕ) → Orderly limit ws a cur ctx most here n → length e.title ≤ 31 → here + (7 + length e.title + (all_size e.body + 2)) ≤ limit → i < 256 → i / 2 ≢ 14 → i / 2 ≢ 15 → ((x : List ℕ) → (i ≢ head_of cur x) × (i ≢ head_of cur x + 1)) → byte (laid_one n e) i ≡ byte n i
def_low {limit} ws a cur ctx most here n e i g s h l b c apart =
    let extra = whole_code (runtime n) e.body (here + (7 + length e.title)) in
    let le = length-extra (runtime n) e.body (here + (7 + length e.title)) in
    let head = head_of cur e.title in
    ap (λ x. byte x i) (whole_is n e.screen e.title here head e.body (orderly_site ws a cur ctx most here n e.title g s) (omega arith))
    ∙ whole_low n e.title extra e.screen here head i (fits_orderly ws a cur ctx most here (length extra) n e.title g s (omega arith)) (omega arith) b c (apart e.title).0 (apart e.title).1

pub laid_low : {limit : ℕ} (ws : Words) (a cur ctx most here : ℕ) (n : List ℕ) (sw : List SourceWord) (es : List ColonDefinition) (i : ℕ) → Orderly limit ws a cur ctx most here n → most + length es ≤ 32767 → AreDefined limit n sw es → i < 256 → i / 2 ≢ 14 → i / 2 ≢ 15 → ((x : List ℕ) → (i ≢ head_of cur x) × (i ≢ head_of cur x + 1)) → byte (laid_all n es) i ≡ byte n i
laid_low {limit} ws a cur ctx most here n sw [] i g l src h b c apart = refl
laid_low {limit} ws a cur ctx most here n sw (e ∷ es) i g l src h b c apart =
    let g2 = orderly_kept ws a cur ctx most here e.screen n e.title e.body g (omega arith) (omega arith) (omega arith) in
    laid_low ws a cur ctx (suc most) (here + (7 + length e.title + (all_size e.body + 2))) (laid_one n e) src.0 es i g2 (omega arith) src.2 h b c apart
    ∙ def_low ws a cur ctx most here n e i g (omega arith) (omega arith) h b c apart

-- >IN and BLK, which no head meets
stream_apart : {limit : ℕ} (ws : Words) (a cur ctx most here : ℕ) (n : List ℕ) → Orderly limit ws a cur ctx most here n → (i : ℕ) → i < 42 → (x : List ℕ) → (i ≢ head_of cur x) × (i ≢ head_of cur x + 1)
stream_apart {limit} ws a cur ctx most here n g i h x =
    let q = head_low (head_of cur x) here g.low (g.heads (head_of cur x) (own_head cur ctx x)) in
    (omega arith, omega arith)

-- a cell that is put back byte by byte
back_low : (m n : List ℕ) (a : ℕ) → length m ≡ 65536 → a + 1 < 65536 → byte n a < 256 → byte (put_cell m a (cell n a)) a ≡ byte n a
unfolding put_cell cell
back_low m n a l h b = omega (arith, wrap_small, byte_set, byte_here)

back_high : (m n : List ℕ) (a : ℕ) → length m ≡ 65536 → a + 1 < 65536 → byte n a < 256 → byte (put_cell m a (cell n a)) (a + 1) ≡ byte n (a + 1)
unfolding put_cell cell
back_high m n a l h b = grind (arith, wrap_small, byte_here, length_byte)

-- the stream's cells, put back
restored_byte : (n m : List ℕ) (i : ℕ) → length m ≡ 65536 → ((j : ℕ) → j < 256 → byte n j < 256) → i / 4 ≡ 5 → byte (put_back n m) i ≡ byte n i
restored_byte n m i l b h = grind (arith, length_cell, back_low, back_high, byte_cell)

restored_other : (n m : List ℕ) (i : ℕ) → i / 4 ≢ 5 → byte (put_back n m) i ≡ byte m i
restored_other n m i h = byte_cell (put_cell m 22 (cell n 22)) 20 (cell n 20) i (omega arith) (omega arith) (omega arith) ∙ byte_cell m 22 (cell n 22) i (omega arith) (omega arith) (omega arith)

restored_cell : (n m : List ℕ) (i : ℕ) → i / 4 ≢ 5 → (i + 1) / 4 ≢ 5 → i + 1 < 65536 → cell (put_back n m) i ≡ cell m i
restored_cell n m i h k l = cell_by (put_back n m) m i l (restored_other n m i h) (restored_other n m (i + 1) k)

length-restored : (n m : List ℕ) → length (put_back n m) ≡ length m
length-restored n m = length_cell (put_cell m 22 (cell n 22)) 20 (cell n 20) ∙ length_cell m 22 (cell n 22)

-- the first bytes of a memory
taken_byte : (m : List ℕ) (z i : ℕ) → i < z → byte (take z m) i ≡ byte m i
unfolding byte
taken_byte m z i h = get_or-take z m i 0 h

taken_cell : (m : List ℕ) (z i : ℕ) → i + 1 < z → i + 1 < 65536 → cell (take z m) i ≡ cell m i
taken_cell m z i h l = cell_by (take z m) m i l (taken_byte m z i (omega arith)) (taken_byte m z (i + 1) h)

-- what is saved after all screens
can_save_by : (s : Whole) (z : ℕ) → cell s.memory 28 ≡ z → nat_le 256 z ≡ true → nat_le z (limit_of (length s.buffers)) ≡ true → can_save s ≡ true
unfolding can_save
can_save_by s z e a b = rw (e, a, b) refl

pub saved_as : (old : Contents) (context : ℕ) (n : List ℕ) (s : Whole) (n2 : List ℕ) → length s.buffers ≡ old.buffers → length s.memory ≡ 65536 → Agrees s.memory n2 → cell s.memory 32 ≡ context → cell n2 16 ≡ 0 → 256 ≤ cell n2 28 → cell n2 28 ≤ limit_of old.buffers → limit_of old.buffers ≤ GREATEST_LIMIT → ((j : ℕ) → j < 256 → byte n j < 256) → ((i : ℕ) → i / 4 ≡ 5 → byte n2 i ≡ byte n i)
    → IsLaidOr old n2 context (ended old.entry (restored n s))
saved_as old context n s n2 size l g c st lo hi top b low =
    let m = s.memory in
    let r = put_back n m in
    let z = cell n2 28 in
    let dp : cell r 28 ≡ z = restored_cell n m 28 (omega arith) (omega arith) (omega arith) ∙ g.here in
    let s16 : cell m 16 ≡ cell n2 16 = cell_by m n2 16 (omega arith) (g.same 16 (omega arith) (omega arith) (omega arith) (omega arith)) (g.same 17 (omega arith) (omega arith) (omega arith) (omega arith)) in
    rw (restored_cell n m 16 (omega arith) (omega arith) (omega arith) ∙ s16 ∙ st, can_save_by (restored n s) z dp (grind arith) (rw size (grind arith)), dp) (record {
      buffers_are = size;
      entry_is = refl;
      size = length-take-le z r (omega (arith, length-restored n m));
      here = taken_cell r z 28 (omega arith) (omega arith) ∙ dp;
      context_is = taken_cell r z 32 (omega arith) (omega arith) ∙ restored_cell n m 32 (omega arith) (omega arith) (omega arith) ∙ c;
      same = λ i h x y. taken_byte r z i h ∙ by i h x y (i / 4 == 5) refl;
    })
  where
    not_five : (i : ℕ) → (i / 4 == 5) ≡ false → i / 4 ≢ 5
    not_five i e = grind arith

    by : (i : ℕ) → i < cell n2 28 → i / 2 ≢ 14 → i / 2 ≢ 16 → (v : Bool) → (i / 4 == 5) ≡ v → byte (put_back n s.memory) i ≡ byte n2 i
    by i h x y true e = let q = eqb-true (i / 4) 5 e in restored_byte n s.memory i l b q ∙ sym (low i q)
    by i h x y false e = let q = not_five i e in restored_other n s.memory i q ∙ g.same i h q x y

-- whatever the ticks are
by_limit : (old : Contents) (context : ℕ) (n n2 : List ℕ) (o : Out) (parts : Whole) (disk : Disk) (t k : ℕ) → Lasts t o (out parts disk k Ended) → IsLaidOr old n2 context (ended old.entry (restored n parts)) → IsLaidOr old n2 context (answered old.entry n o.parts o.stop)
by_limit old context n n2 o parts disk t k y0 y = grind arith

-- The law of screens on an image: they are compiled, or there were too few ticks.
pub load_law : (ws : Words) (a cur ctx chains here : ℕ) (image : Contents) (f : Disk) (from more ticks : ℕ) (es : List ColonDefinition) → let u = (loaded_state image (length f.blocks)).parts in let n = u.memory in let limit = limit_of image.buffers in
    IsCount image.buffers → Orderly limit ws a cur ctx chains here n → chains + length es ≤ 32767 → cell n 32 ≡ ctx → Keys n ctx → Keys n cur → ((j : ℕ) → j < 256 → byte n j < 256) → IsReliable f → 0 < from → from + more < length f.blocks
    → AreDefined limit n (words_of_screens Outside from (take (suc more) (drop from f.blocks))) es
    → IsLaidOr image (laid_all n es) (context_of cur ctx es) (by_out image.entry n (screens ws.interpret (suc more) from ticks u f)).answer
load_law ws a cur ctx chains here image f from more ticks es count g l c keys own b reliable pos room src =
    let u = (loaded_state image (length f.blocks)).parts in
    let n = u.memory in
    let words = words_of_screens Outside from (take (suc more) (drop from f.blocks)) in
    let x = screens_law ws a cur ctx chains here image f from more es count g l c keys own reliable pos room (keys_last ws a cur ctx chains here n words es g l keys own src) src in
    let g2 = (orderly_all ws a cur ctx chains here n words es g l src).1 in
    let n2 = laid_all n es in
    let o = screens ws.interpret (suc more) from ticks u f in
    let e : x.0 + suc ticks ≡ ticks + suc x.0 = omega arith in
    let last : Lasts (suc x.0) o (out x.1 x.2 ticks Ended) = subst (λ p. Lasts (suc x.0) o p) (ap (λ j. screens ws.interpret (suc more) from j u f) (sym e) ∙ x.5 ticks) (all_last (suc x.0) ws.interpret (suc more) from ticks u f) in
    let bt = x.4 in
    by_limit image (context_of cur ctx es) n n2 o x.1 x.2 (suc x.0) ticks last
    (saved_as image (context_of cur ctx es) n x.1 n2 x.6 bt.all bt.agrees bt.context g2.executing (omega arith) (omega arith) g2.top b
    (λ i h. laid_low ws a cur ctx chains here n words es i g l src (omega arith) (omega arith) (omega arith) (stream_apart ws a cur ctx chains here n g i (omega arith))))

-- With enough ticks screens end, and what is saved is so written.
pub enough_law : (ws : Words) (a cur ctx chains here : ℕ) (image : Contents) (f : Disk) (from more : ℕ) (es : List ColonDefinition) → let u = (loaded_state image (length f.blocks)).parts in let n = u.memory in let limit = limit_of image.buffers in
    IsCount image.buffers → Orderly limit ws a cur ctx chains here n → chains + length es ≤ 32767 → cell n 32 ≡ ctx → Keys n ctx → Keys n cur → ((j : ℕ) → j < 256 → byte n j < 256) → IsReliable f → 0 < from → from + more < length f.blocks
    → AreDefined limit n (words_of_screens Outside from (take (suc more) (drop from f.blocks))) es
    → (t : ℕ) × ((ticks : ℕ) → t < ticks → (parts : Whole) × (disk : Disk) × (k : ℕ) × (screens ws.interpret (suc more) from ticks u f ≡ out parts disk k Ended) × IsLaidOr image (laid_all n es) (context_of cur ctx es) (ended image.entry (restored n parts)))
enough_law ws a cur ctx chains here image f from more es count g l c keys own b reliable pos room src =
    let u = (loaded_state image (length f.blocks)).parts in
    let n = u.memory in
    let words = words_of_screens Outside from (take (suc more) (drop from f.blocks)) in
    let x = screens_law ws a cur ctx chains here image f from more es count g l c keys own reliable pos room (keys_last ws a cur ctx chains here n words es g l keys own src) src in
    let g2 = (orderly_all ws a cur ctx chains here n words es g l src).1 in
    let bt = x.4 in
    let laid_so = saved_as image (context_of cur ctx es) n x.1 (laid_all n es) x.6 bt.all bt.agrees bt.context g2.executing (omega arith) (omega arith) g2.top b
    (λ i h. laid_low ws a cur ctx chains here n words es i g l src (omega arith) (omega arith) (omega arith) (stream_apart ws a cur ctx chains here n g i (omega arith))) in (
      x.0,
      λ ticks h.
          let k = ticks - x.0 - 1 in
          (x.1, x.2, k, ap (λ j. screens ws.interpret (suc more) from j u f) (sym (omega arith)) ∙ x.5 k, laid_so),
    )
