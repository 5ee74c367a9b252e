-- A whole body, word by word, up to its `;`.
use Rattle.std.proofs.Common.{◌≡◌, ℕ, suc, ◌+◌, ◌≤◌, ◌++◌, ◌∷◌, List, [], length, refl, arith, Bool, true, false, ap, sym, subst, ◌∙◌, Option, Some, None, inl, inr, zero}
use Rattle.std.specs.Prelude.{◌==◌}
use Rattle.dictionary.specs.Header.{compilation_address}
use Rattle.dictionary.specs.Search.{Found, sought_from}
use Rattle.input_source.specs.Words.{parsed, bytes_of}
use Rattle.colon_bodies.specs.declared.words.Half.{Half}
use Rattle.colon_bodies.specs.declared.words.Half.TheVariants.{Free, Ticked, Forced, Compiling, Both}
use Rattle.colon_bodies.specs.Tokens.{Token, NAME, NUMBER, DOUBLE, TEXT, TICK, FORCE, COMPILE, LOOP, SEMI, laid, laid_by, AreShort}
use Rattle.colon_bodies.specs.Tree.{Body as Tree, Definition, Tick}
use Rattle.colon_bodies.specs.Rules.{half_after}
use Rattle.colon_bodies.specs.Open.{Outer, At, read, whole, open_size, complete}
use Rattle.colon_bodies.proofs.Reading.{accept}
use Rattle.source_words.specs.declared.modes.Mode.TheVariants.{Body, NameInBody}
use Rattle.source_words.specs.Modes.{takes_text, begins_comment, mode_after}
use Rattle.source_words.specs.Words.{SourceWord}
use Rattle.image_builder.specs.Spelled.{keyword}
use Rattle.resident_bodies.proofs.Bodies.{grows}
use Rattle.metacompiler.specs.ScreenStream.{next, name}
use Rattle.metacompiler.specs.Meaning.{token_of, Key, IsKey, Means, IsBeside}
use Rattle.metacompiler.specs.Turning.{words_left, Leads, Met}
use Rattle.metacompiler.specs.Opened.{Drafts, Turned}
use Rattle.metacompiler.proofs.Folding.{Env, IsEnv, Here, text_of_screen, Loose, Tight, Case, NotName, text_if, Marks, marks_of, case_of, due_name, Accepted, accept_one, accept_end, after_in_body, same_spot, Facing, Stepped, one_step, facts, Plainly, plainly, Textly, textly, step_room, by_name, by_compile, by_single, by_double, by_row, no_semi, spot_of, Point, Closing, frames_few}
use Rattle.metacompiler.proofs.Turns.{next_within, length_text, leads_on}
use Rattle.metacompiler.proofs.Seek.{plain_spot, left_word, due_here, text_spot, left_text, seek}
use Rattle.metacompiler.proofs.WordSteps.{text_row_of, text_step, tick_step, force_step, holds_draft, stack_room}

-- A whole body, word by word.

-- a text
key_text : (n : List ℕ) (voc : ℕ) (nm bs : List ℕ) (k : Bool) → IsKey n voc nm (TEXT k bs) → Key n voc nm (text_row_of k) true
key_text n voc nm bs k x = grind arith

free_text : (o p : Outer) (t v : Tree) (h g : Half) (k : Bool) (bs : List ℕ) → Loose h → read o t h (TEXT k bs) ≡ Some (At p v g) → h ≡ Free
free_text o p t v h g k bs l r = grind arith

by_text : (E : Env) (s : Here) (o : Outer) (t : Tree) (h : Half) (v : SourceWord) (sw : List SourceWord) (k : Bool) (ks : List Token) → let text = text_of_screen s in let z = parsed text (next text s.place).next 34 in let bs = bytes_of text z in
    IsEnv E → Facing E s o t h v sw (TEXT k bs) ks → Textly s v sw → keyword (name text s.place) bs ≡ Some (TEXT k bs) → Accepted o t h (TEXT k bs) ks E.body → Stepped E s ks
by_text E s o t h v sw k ks i x p key acc =
    let text = text_of_screen s in
    let nm = name text s.place in
    let z = parsed text (next text s.place).next 34 in
    let bs = bytes_of text z in
    let pt = x.point in
    let f = facts E s o t h v sw (TEXT k bs) ks i x in
    let m = marks_of nm bs (Some (TEXT k bs)) key in
    let is = key_text E.n E.cur nm bs k (i.keys.keywords nm bs (TEXT k bs) key) in
    let free : h ≡ Free = free_text o acc.outer t acc.tree h acc.half k bs pt.loose acc.reads in
    let room = step_room E s o t h v sw (TEXT k bs) ks x in
    let left : words_left Body s.disk.blocks s.screen z.next s.others ≡ sw = sym (p.behind ∙ ap (λ j. words_left j s.disk.blocks s.screen z.next s.others) (after_in_body nm false false m.0 m.1)) in
    one_step E s o acc.outer t acc.tree h acc.half v sw (TEXT k bs) ks z.next x refl acc.reads acc.rest left
    (text_step E.ws E.a E.cur E.ctx E.most E.here E.head E.pf E.n E.m1 E.title nm o acc.outer t acc.tree acc.half k s.parts s.disk s.values E.below s.screen s.place s.others i.opened pt.ready (subst (λ j. Drafts E.limit E.m1 E.pf o t j s.values E.below s.parts.memory) free pt.drafts) f.stack x.some refl is pt.short.0 (subst (λ j. read o t j (TEXT k bs) ≡ Some (At acc.outer acc.tree acc.half)) free acc.reads) (subst (λ j. E.pf + open_size o t j + (3 + length bs) ≤ E.limit) free room))

-- a name that is due
no_whole : (o : Outer) (t : Tree) (h : Half) (u : Definition) → Tight h → whole o t h ≡ Some u → ⊥
no_whole o t h u l e = grind arith

-- the word after, its name and the words after that
record Named (E : Env) (s : Here) (h : Half) (w : ℕ) (sw : List SourceWord) : Type 0 where
  link : ℕ
  some : ((next (text_of_screen s) (next (text_of_screen s) s.place).next).len == 0) ≡ false
  found : sought_from E.n E.cur (name (text_of_screen s) (next (text_of_screen s) s.place).next) ≡ Found link
  address : compilation_address E.n link ≡ w
  left : words_left Body s.disk.blocks s.screen (next (text_of_screen s) (next (text_of_screen s) s.place).next).next s.others ≡ sw

named_here : (E : Env) (s : Here) (h : Half) (w2 : SourceWord) (sw : List SourceWord) (w : ℕ) → Tight h → length (text_of_screen s) ≡ 1024 → s.place ≤ 1024
    → w2 ∷ sw ≡ words_left NameInBody s.disk.blocks s.screen (next (text_of_screen s) s.place).next s.others → w2.screen ≡ s.screen → token_of E.n E.cur h w2 ≡ Some (NAME w) → Named E s h w sw
named_here E s h w2 sw w tight page inside e screen tok = grind (arith, text_of_screen, next_within, due_here, left_word, same_spot, plain_spot, due_name)

accept_same : (o p : Outer) (t v : Tree) (h g : Half) (ws : List Token) (u : Definition) → Some (At o t h) ≡ Some (At p v g) → accept p v g ws ≡ Some u → accept o t h ws ≡ Some u
accept_same o p t v h g ws u e r = grind arith

-- ['] and [COMPILE]
second_token : (o : Outer) (t : Tree) (h : Half) (ks : List Token) (u : Definition) → Tight h → accept o t h (ks ++ SEMI ∷ []) ≡ Some u → (w : ℕ) × (more : List Token) × (ks ≡ NAME w ∷ more) × Accepted o t h (NAME w) more u
second_token o t h [] u l e = absurd (no_whole o t h u l (accept_end o t h u e))
second_token o t h (k ∷ ks) u l e = grind arith

means_two : (n : List ℕ) (voc : ℕ) (h : Half) (sw : List SourceWord) (ks more : List Token) (w : ℕ) (rest : List SourceWord) → ks ≡ NAME w ∷ more → Means n voc h sw (ks ++ SEMI ∷ []) rest → (w2 : SourceWord) × (sw2 : List SourceWord) × (sw ≡ w2 ∷ sw2) × (token_of n voc h w2 ≡ Some (NAME w)) × Means n voc (half_after h (NAME w)) sw2 (more ++ SEMI ∷ []) rest
means_two n voc h sw ks more w rest e m = grind arith

after_name : (h : Half) (w : ℕ) → half_after h (NAME w) ≡ Free
after_name h w = grind arith

-- after a word and the name that it takes
two_steps : (E : Env) (s : Here) (o p : Outer) (t v0 : Tree) (h : Half) (v : SourceWord) (sw : List SourceWord) (k : Token) (ks more : List Token) (sw2 : List SourceWord) (w q : ℕ) → Facing E s o t h v sw k ks
    → Turned E.limit E.ws.interpret E.a (λ e m. Drafts E.limit E.m1 E.pf p v0 Free e E.below m) s.parts s.disk s.values s.screen q s.others
    → words_left Body s.disk.blocks s.screen q s.others ≡ sw2 → Means E.n E.cur Free sw2 (more ++ SEMI ∷ []) E.rest → accept p v0 Free (more ++ SEMI ∷ []) ≡ Some E.body → ks ≡ NAME w ∷ more → open_size p v0 Free ≡ open_size o t h + laid_by k + 2 → Stepped E s ks
two_steps E s o p t v0 h v sw k ks more sw2 w q x turned left means rest is size =
    let pt = x.point in
    let room = pt.room in
    let lk : laid ks ≡ 2 + laid more = ap laid is in
    let n : length ks ≡ suc (length more) = ap (λ j. length j) is in
    record {
      place = record { parts = record s.parts { memory = turned.memory }; disk = s.disk; screen = s.screen; place = q; others = s.others; values = turned.values };
      leads = turned.leads;
      blocks = refl;
      outer = p;
      tree = v0;
      half = Free;
      words = sw2;
      tokens = more;
      fewer = omega arith;
      point = record {
        ready = turned.ready;
        reliable = pt.reliable;
        drafts = turned.inv;
        loose = tt;
        means = means;
        left = left;
        accepts = rest;
        room = omega arith;
        short = (subst (λ j. AreShort j) is pt.short.1).1;
      };
    }

by_tick : (E : Env) (s : Here) (o : Outer) (t : Tree) (v : SourceWord) (sw : List SourceWord) (ks : List Token) → IsEnv E → Facing E s o t Free v sw TICK ks → Plainly s v sw
    → keyword (name (text_of_screen s) s.place) [] ≡ Some TICK → Accepted o t Free TICK ks E.body → Stepped E s ks
by_tick E s o t v sw ks i x p key acc =
    let text = text_of_screen s in
    let nm = name text s.place in
    let pt = x.point in
    let f = facts E s o t Free v sw TICK ks i x in
    let m = marks_of nm [] (Some TICK) key in
    let is = i.keys.keywords nm [] TICK key in
    let rest : accept o t Ticked (ks ++ SEMI ∷ []) ≡ Some E.body = accept_same o acc.outer t acc.tree Ticked acc.half (ks ++ SEMI ∷ []) E.body acc.reads acc.rest in
    let two = second_token o t Ticked ks E.body tt rest in
    let w = two.0 in
    let more = two.1 in
    let mm = means_two E.n E.cur Ticked sw ks more w E.rest two.2 pt.means.2 in
    let left : mm.0 ∷ mm.1 ≡ words_left NameInBody s.disk.blocks s.screen (next text s.place).next s.others = sym mm.2 ∙ p.behind ∙ ap (λ j. words_left j s.disk.blocks s.screen (next text s.place).next s.others) (after_in_body nm false true m.0 m.1) in
    let named = named_here E s Ticked mm.0 mm.1 w tt f.page f.within left ((subst (λ j. IsBeside TICK v j) mm.2 pt.means.1) ∙ ap (λ (j : SourceWord). j.screen) p.is) mm.3 in
    let a2 = two.3 in
    let rest2 : accept o (Tick t w) Free (more ++ SEMI ∷ []) ≡ Some E.body = accept_same o a2.outer (Tick t w) a2.tree Free a2.half (more ++ SEMI ∷ []) E.body a2.reads a2.rest in
    let lk : laid ks ≡ 2 + laid more = ap laid two.2 in
    two_steps E s o o t (Tick t w) Free v sw TICK ks more mm.1 w (next text (next text s.place).next).next x
    (tick_step E.ws E.a E.cur E.ctx E.most E.here E.head E.pf E.n E.m1 E.title nm o t w named.link s.parts s.disk s.values E.below s.screen s.place s.others i.opened pt.ready pt.drafts f.stack x.some refl is named.some named.found named.address (omega arith))
    named.left mm.4 rest2 two.2 (omega arith)

by_force : (E : Env) (s : Here) (o : Outer) (t : Tree) (h hf : Half) (v : SourceWord) (sw : List SourceWord) (ks : List Token) → IsEnv E → Tight hf → read o t h FORCE ≡ Some (At o t hf) → half_after h FORCE ≡ hf → Facing E s o t h v sw FORCE ks → Plainly s v sw
    → keyword (name (text_of_screen s) s.place) [] ≡ Some FORCE → Accepted o t h FORCE ks E.body → Stepped E s ks
by_force E s o t h hf v sw ks i tight e1 half x p key acc =
    let text = text_of_screen s in
    let nm = name text s.place in
    let pt = x.point in
    let f = facts E s o t h v sw FORCE ks i x in
    let m = marks_of nm [] (Some FORCE) key in
    let is = i.keys.keywords nm [] FORCE key in
    let rest : accept o t hf (ks ++ SEMI ∷ []) ≡ Some E.body = accept_same o acc.outer t acc.tree hf acc.half (ks ++ SEMI ∷ []) E.body (sym e1 ∙ acc.reads) acc.rest in
    let two = second_token o t hf ks E.body tight rest in
    let w = two.0 in
    let more = two.1 in
    let mm = means_two E.n E.cur hf sw ks more w E.rest two.2 (subst (λ j. Means E.n E.cur j sw (ks ++ SEMI ∷ []) E.rest) half pt.means.2) in
    let left : mm.0 ∷ mm.1 ≡ words_left NameInBody s.disk.blocks s.screen (next text s.place).next s.others = sym mm.2 ∙ p.behind ∙ ap (λ j. words_left j s.disk.blocks s.screen (next text s.place).next s.others) (after_in_body nm false true m.0 m.1) in
    let named = named_here E s hf mm.0 mm.1 w tight f.page f.within left ((subst (λ j. IsBeside FORCE v j) mm.2 pt.means.1) ∙ ap (λ (j : SourceWord). j.screen) p.is) mm.3 in
    let a2 = two.3 in
    let v2 = complete hf t w in
    let e2 : read o t hf (NAME w) ≡ Some (At o v2 Free) = refl in
    let rest2 : accept o v2 Free (more ++ SEMI ∷ []) ≡ Some E.body = accept_same o a2.outer v2 a2.tree Free a2.half (more ++ SEMI ∷ []) E.body a2.reads a2.rest in
    let lk : laid ks ≡ 2 + laid more = ap laid two.2 in
    let g1 = grows o o t t h hf FORCE e1 in
    let g2 = grows o o t v2 hf Free (NAME w) e2 in
    two_steps E s o o t v2 h v sw FORCE ks more mm.1 w (next text (next text s.place).next).next x
    (force_step E.ws E.a E.cur E.ctx E.most E.here E.head E.pf E.n E.m1 E.title nm o o t v2 h hf Free w named.link s.parts s.disk s.values E.below s.screen s.place s.others i.opened pt.ready pt.drafts f.stack x.some refl is named.some named.found named.address e1 e2 (omega arith))
    named.left (subst (λ j. Means E.n E.cur j mm.1 (more ++ SEMI ∷ []) E.rest) (after_name hf w) mm.4) rest2 two.2 (omega arith)

-- any keyword
by_keyword : (E : Env) (s : Here) (o : Outer) (t : Tree) (h : Half) (v : SourceWord) (sw : List SourceWord) (k : Token) (ks : List Token) → IsEnv E → Facing E s o t h v sw k ks → Plainly s v sw → text_if (Some k) ≡ false → NotName k
    → keyword (name (text_of_screen s) s.place) [] ≡ Some k → Accepted o t h k ks E.body → Stepped E s ks
by_keyword E s o t h v sw (NAME w) ks i x p n d key acc = absurd d
by_keyword E s o t h v sw (NUMBER y) ks i x p n d key acc = absurd d
by_keyword E s o t h v sw (DOUBLE y) ks i x p n d key acc = absurd d
by_keyword E s o t Free v sw TICK ks i x p n d key acc = by_tick E s o t v sw ks i x p key acc
by_keyword E s o t Compiling v sw TICK ks i x p n d key acc = let r = acc.reads in cc
by_keyword E s o t Free v sw FORCE ks i x p n d key acc = by_force E s o t Free Forced v sw ks i tt refl refl x p key acc
by_keyword E s o t Compiling v sw FORCE ks i x p n d key acc = by_force E s o t Compiling Both v sw ks i tt refl refl x p key acc
by_keyword E s o t Ticked v sw k ks i x p n d key acc = absurd x.point.loose
by_keyword E s o t Forced v sw k ks i x p n d key acc = absurd x.point.loose
by_keyword E s o t Both v sw k ks i x p n d key acc = absurd x.point.loose
by_keyword E s o t h v sw COMPILE ks i x p n d key acc = by_compile E s o t h v sw ks i x p key acc
by_keyword E s o t h v sw (LOOP false) ks i x p n d key acc = by_row E s o t h v sw (LOOP false) ks 188 i x p refl key acc
by_keyword E s o t h v sw (LOOP true) ks i x p n d key acc = by_row E s o t h v sw (LOOP true) ks 189 i x p refl key acc
by_keyword E s o t h v sw (TEXT b bs) ks i x p n d key acc = cc
by_keyword E s o t h v sw SEMI ks i x p n d key acc = let r = sym (no_semi o t h) ∙ acc.reads in cc
by_keyword E s o t h v sw k ks i x p n d key acc = by_row E s o t h v sw _ ks _ i x p refl key acc

-- one step, whatever the word is
no_text : (k : Option Token) (nm bs : List ℕ) → Marks nm bs k → takes_text nm ≡ false → text_if k ≡ false
no_text k nm bs m e = sym m.2 ∙ e

pub step : (E : Env) (s : Here) (o : Outer) (t : Tree) (h : Half) (v : SourceWord) (sw : List SourceWord) (k : Token) (ks : List Token) → IsEnv E → Facing E s o t h v sw k ks → Accepted o t h k ks E.body → Stepped E s ks
step E s o t h v sw k ks i x acc = by (takes_text nm) refl
  where
    text : List ℕ
    text = text_of_screen s

    nm : List ℕ
    nm = name text s.place

    bs : List ℕ
    bs = bytes_of text (parsed text (next text s.place).next 34)

    plain : (p : Plainly s v sw) → takes_text nm ≡ false → Case E.n E.cur nm [] k → Stepped E s ks
    plain p e (inl (l, found, imm, is, none)) = by_name E s o t h v sw k ks l i x p found imm is none acc
    plain p e (inr (inl key)) = let m = marks_of nm [] (Some k) key in by_keyword E s o t h v sw k ks i x p (no_text (Some k) nm [] m e) m.4 key acc
    plain p e (inr (inr (inl (found, number, double, is, none)))) = by_single E s o t h v sw k ks i x p found number double is none acc
    plain p e (inr (inr (inr (found, number, double, is, none)))) = by_double E s o t h v sw k ks i x p found number double is none acc

    texts : (j : Token) → k ≡ j → keyword nm bs ≡ Some j → text_if (Some j) ≡ true → Textly s v sw → Stepped E s ks
    texts (TEXT b ts) is key y p =
        let same : ts ≡ bs = (marks_of nm bs (Some (TEXT b ts)) key).3 in
        let token : k ≡ TEXT b bs = is ∙ ap (λ z. TEXT b z) same in
        by_text E s o t h v sw b ks i (subst (λ z. Facing E s o t h v sw z ks) token x) p (key ∙ ap (λ z. Some (TEXT b z)) same) (subst (λ z. Accepted o t h z ks E.body) token acc)
    texts _ is key y p = cc

    texted : (p : Textly s v sw) → takes_text nm ≡ true → Case E.n E.cur nm bs k → Stepped E s ks
    texted p e (inl (l, found, imm, is, none)) = let m = (marks_of nm bs None none).2 in cc
    texted p e (inr (inl key)) = texts k refl key (sym (marks_of nm bs (Some k) key).2 ∙ e) p
    texted p e (inr (inr (inl (found, number, double, is, none)))) = let m = (marks_of nm bs None none).2 in cc
    texted p e (inr (inr (inr (found, number, double, is, none)))) = let m = (marks_of nm bs None none).2 in cc

    by : (b : Bool) → takes_text nm ≡ b → Stepped E s ks
    by false e =
        let p = plainly E s o t h v sw k ks i x e in
        plain p e (case_of E.n E.cur h nm [] k x.point.loose x.word (subst (λ j. token_of E.n E.cur h j ≡ Some k) p.is x.point.means.0))
    by true e =
        let p = textly E s o t h v sw k ks i x e in
        texted p e (case_of E.n E.cur h nm bs k x.point.loose x.word (subst (λ j. token_of E.n E.cur h j ≡ Some k) p.is x.point.means.0))

-- From the first word of a body to its `;`.

-- the place of the next word
record Reached (E : Env) (s : Here) (o : Outer) (t : Tree) (h : Half) (sw : List SourceWord) (ks : List Token) : Type 0 where
  place : Here
  leads : Leads E.ws.interpret (spot_of E.a s) (spot_of E.a place)
  blocks : place.disk.blocks ≡ s.disk.blocks
  point : Point E place o t h sw ks
  some : ((next (text_of_screen place) place.place).len == 0) ≡ false
  word : begins_comment (name (text_of_screen place) place.place) ≡ false

reach : (E : Env) (s : Here) (o : Outer) (t : Tree) (h : Half) (v : SourceWord) (sw : List SourceWord) (ks : List Token) → IsEnv E → Point E s o t h (v ∷ sw) ks → Reached E s o t h (v ∷ sw) ks
reach E s o t h v sw ks i x =
    let hold = holds_draft E.ws E.a E.cur E.ctx E.most E.here E.head E.pf E.n E.m1 E.title o t h s.values E.below i.opened in
    let room = stack_room E.m1 E.pf o t h s.parts.memory s.values E.below x.drafts.draft (frames_few o t h E.body (ks ++ SEMI ∷ []) x.accepts i.shallow) i.few in
    let m : Met E.limit E.ws.interpret E.a (Drafts E.limit E.m1 E.pf o t h s.values E.below) Body s.parts s.disk s.values s.screen s.others (v ∷ sw) =
    seek E.ws E.a E.here E.n E.cur (Drafts E.limit E.m1 E.pf o t h s.values E.below) Body s.others s.values v sw hold i.keys refl room s.disk s.screen s.parts s.place x.ready x.reliable x.drafts x.left in
    record {
      place = record { parts = m.parts; disk = m.disk; screen = m.screen; place = m.place; others = m.others; values = s.values };
      leads = m.leads;
      blocks = m.blocks;
      point = record {
        ready = m.ready;
        reliable = m.reliable;
        drafts = m.inv;
        loose = x.loose;
        means = x.means;
        left = m.words;
        accepts = x.accepts;
        room = x.room;
        short = x.short;
      };
      some = m.some;
      word = m.word;
    }

-- the last word
close : (E : Env) (s : Here) (o : Outer) (t : Tree) (h : Half) (v : SourceWord) (sw : List SourceWord) → IsEnv E → Reached E s o t h (v ∷ sw) [] → Closing E s
close E s o t h v sw i r = by (takes_text nm) refl
  where
    here : Here
    here = r.place

    text : List ℕ
    text = text_of_screen here

    nm : List ℕ
    nm = name text here.place

    bs : List ℕ
    bs = bytes_of text (parsed text (next text here.place).next 34)

    page : length text ≡ 1024
    page = length_text here.parts here.screen here.place text r.point.ready.reading

    ends : keyword nm [] ≡ Some SEMI → sw ≡ words_left (mode_after Body nm) here.disk.blocks here.screen (next text here.place).next here.others → Closing E s
    ends key b =
        let m = marks_of nm [] (Some SEMI) key in
        record {
          final = here;
          leads = r.leads;
          blocks = r.blocks;
          ready = r.point.ready;
          reliable = r.point.reliable;
          outer = o;
          tree = t;
          half = h;
          whole_is = accept_end o t h E.body r.point.accepts;
          drafts = r.point.drafts;
          some = r.some;
          key = i.keys.keywords nm [] SEMI key;
          left = sym (ap (λ j. words_left j here.disk.blocks here.screen (next text here.place).next here.others) (after_in_body nm true false m.0 m.1)) ∙ sym b ∙ r.point.means.2;
        }

    plain : Case E.n E.cur nm [] SEMI → sw ≡ words_left (mode_after Body nm) here.disk.blocks here.screen (next text here.place).next here.others → Closing E s
    plain (inl (l, found, imm, is, none)) b = cc
    plain (inr (inl key)) b = ends key b
    plain (inr (inr (inl (found, number, double, is, none)))) b = cc
    plain (inr (inr (inr (found, number, double, is, none)))) b = cc

    texted : Case E.n E.cur nm bs SEMI → takes_text nm ≡ true → Closing E s
    texted (inl (l, found, imm, is, none)) e = cc
    texted (inr (inl key)) e = let m = (marks_of nm bs (Some SEMI) key).2 in cc
    texted (inr (inr (inl (found, number, double, is, none)))) e = cc
    texted (inr (inr (inr (found, number, double, is, none)))) e = cc

    by : (b : Bool) → takes_text nm ≡ b → Closing E s
    by false e =
        let l = left_word Body here.disk.blocks here.screen here.place here.others page r.point.ready.reading.within r.some r.word e in
        let q = same_spot v (plain_spot here.screen here.place text) sw (words_left (mode_after Body nm) here.disk.blocks here.screen (next text here.place).next here.others) (sym r.point.left ∙ l) in
        plain (case_of E.n E.cur h nm [] SEMI r.point.loose r.word (subst (λ j. token_of E.n E.cur h j ≡ Some SEMI) q.0 r.point.means.0)) q.1
    by true e =
        let l = left_text Body here.disk.blocks here.screen here.place here.others page r.point.ready.reading.within r.some r.word e in
        let q = same_spot v (text_spot here.screen here.place text) sw (words_left (mode_after Body nm) here.disk.blocks here.screen (parsed text (next text here.place).next 34).next here.others) (sym r.point.left ∙ l) in
        texted (case_of E.n E.cur h nm bs SEMI r.point.loose r.word (subst (λ j. token_of E.n E.cur h j ≡ Some SEMI) q.0 r.point.means.0)) e

closing_on : (E : Env) (s r : Here) → Leads E.ws.interpret (spot_of E.a s) (spot_of E.a r) → r.disk.blocks ≡ s.disk.blocks → Closing E r → Closing E s
closing_on E s r l b c = record {
  final = c.final;
  leads = leads_on E.ws.interpret (spot_of E.a s) (spot_of E.a r) (spot_of E.a c.final) l c.leads;
  blocks = c.blocks ∙ b;
  ready = c.ready;
  reliable = c.reliable;
  outer = c.outer;
  tree = c.tree;
  half = c.half;
  whole_is = c.whole_is;
  drafts = c.drafts;
  some = c.some;
  key = c.key;
  left = c.left;
}

pub body_fold : (fuel : ℕ) (E : Env) (s : Here) (o : Outer) (t : Tree) (h : Half) (sw : List SourceWord) (ks : List Token) → IsEnv E → length ks ≤ fuel → Point E s o t h sw ks → Closing E s
body_fold fuel E s o t h [] [] i n x = absurd x.means
body_fold fuel E s o t h [] (k ∷ ks) i n x = absurd x.means
body_fold fuel E s o t h (v ∷ sw) [] i n x = close E s o t h v sw i (reach E s o t h v sw [] i x)
body_fold zero E s o t h (v ∷ sw) (k ∷ ks) i n x = absurd (omega arith)
body_fold (suc fuel) E s o t h (v ∷ sw) (k ∷ ks) i n x =
    let r = reach E s o t h v sw (k ∷ ks) i x in
    let st = step E r.place o t h v sw k ks i (record { point = r.point; some = r.some; word = r.word }) (accept_one o t h k ks E.body r.point.accepts) in
    let rest = body_fold fuel E st.place st.outer st.tree st.half st.words st.tokens i (omega arith) st.point in
    closing_on E s r.place r.leads r.blocks (closing_on E r.place st.place st.leads st.blocks rest)
