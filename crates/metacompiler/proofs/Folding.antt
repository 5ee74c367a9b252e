-- The words of a body, over screens.
use Rattle.std.proofs.Common.{◌≡◌, ℕ, ◌%◌, List, refl, Bool, true, false, Option, Some, None, sym, ap, subst, ◌∙◌, inl, inr, ◌⊎◌, ◌≢◌, ◌<◌, arith}
use Rattle.std.specs.Prelude.{codes, if◌then◌else◌, ◌≤◌, ◌+◌, ◌==◌, ◌++◌, ◌∷◌, [], length, nat_lt, ◌&&◌}
use Rattle.std.specs.Str.{bytes_eq}
use Rattle.std.proofs.lemmas.Slice.Eq.{bytes_eq-Decides}
use Rattle.dictionary.specs.Header.{is_immediate, compilation_address}
use Rattle.dictionary.specs.Search.{Sought, Found, Nowhere, TooLong, sought_from}
use Rattle.number_text.specs.Numbers.{is_number, is_double, number_value}
use Rattle.source_words.specs.Modes.{takes_text, begins_comment, ends_body, names_in_body, mode_after}
use Rattle.colon_bodies.specs.Tokens.{Token, NAME, NUMBER, DOUBLE, TICK, FORCE, TEXT, SEMI, AreShort, laid, COMPILE, laid_by}
use Rattle.colon_bodies.specs.declared.words.Half.{Half}
use Rattle.colon_bodies.specs.declared.words.Half.TheVariants.{Free, Ticked, Forced, Compiling, Both}
use Rattle.colon_bodies.specs.Meaning.{Sense, Plain, Keyword, Figure, Wide, Remark}
use Rattle.image_builder.specs.Spelled.{keyword, naming, choosing, repeating, counting, saying, ending, figure_of, keyword_or, sense_of_word}
use Rattle.block_buffers.specs.Disks.{Disk, block_at}
use Rattle.machine_parts.specs.Whole.{Whole}
use Rattle.colon_bodies.specs.Tree.{Body as Tree, Definition, all_nesting}
use Rattle.colon_bodies.specs.Open.{Outer, open_size, whole, At, read, frames}
use Rattle.colon_bodies.proofs.Reading.{accept, next as next_state, finish, finish_is, accept_depth}
use Rattle.source_words.specs.declared.modes.Mode.TheVariants.{Outside, Body, NameInBody}
use Rattle.source_words.specs.Words.{SourceWord}
use Rattle.memory.specs.Bytes.{put_cell, cell_bytes}
use Rattle.memory.proofs.Kept.{cell_beside}
use Rattle.memory.proofs.Same.{cell_by}
use Rattle.compiling_words.specs.Code.{runtime}
use Rattle.compiling_words.specs.Laying.{laid as laid_memory}
use Rattle.input_source.specs.Words.{parsed}
use Rattle.colon_bodies.specs.Rules.{half_after}
use Rattle.colon_bodies.proofs.Exact.{finish_end}
use Rattle.colon_bodies.proofs.Taking.{read_half}
use Rattle.resident_bodies.specs.Words.{row_of, lays}
use Rattle.resident_bodies.specs.Drafts.{Draft}
use Rattle.resident_bodies.proofs.Bodies.{grows}
use Rattle.resident_bodies.proofs.Ending.{kept_cell}
use Rattle.metacompiler.specs.Meaning.{name_first, token_as, Keys, Key, Means, IsKey}
use Rattle.metacompiler.specs.Loop.{Words}
use Rattle.metacompiler.specs.Rounds.{at}
use Rattle.metacompiler.specs.ScreenStream.{next, name}
use Rattle.metacompiler.specs.Turning.{IsReliable, Ready, words_left, Spot, spot, Leads}
use Rattle.metacompiler.specs.Opened.{Opened, Drafts, Turned}
use Rattle.metacompiler.proofs.Turns.{length_text}
use Rattle.metacompiler.proofs.Seek.{plain_spot, text_spot, left_word, left_text}
use Rattle.metacompiler.proofs.WordSteps.{stack_room, name_step, single_step, double_step, row_step}

-- What a word of a body is, by its bytes.

abbrev pub semi_if : Option Token → Bool
semi_if (Some SEMI) = true
semi_if _ = false

abbrev pub lead_if : Option Token → Bool
lead_if (Some TICK) = true
lead_if (Some FORCE) = true
lead_if _ = false

abbrev pub text_if : Option Token → Bool
text_if (Some (TEXT k bs)) = true
text_if _ = false

abbrev pub Says : Option Token → List ℕ → Type 0
Says (Some (TEXT k bs)) text = bs ≡ text
Says _ text = Unit {0}

abbrev pub NotName : Token → Type 0
NotName (NAME w) = ⊥
NotName (NUMBER n) = ⊥
NotName (DOUBLE n) = ⊥
NotName _ = Unit {0}

abbrev pub NameIf : Option Token → Type 0
NameIf (Some k) = NotName k
NameIf None = Unit {0}

-- what the modes of a source say of a word, by the keyword that it is
abbrev pub Marks : List ℕ → List ℕ → Option Token → Type 0
Marks nm text k = (ends_body nm ≡ semi_if k) × (names_in_body nm ≡ lead_if k) × (takes_text nm ≡ text_if k) × Says k text × NameIf k

pub split : (nm c : List ℕ) (P : List ℕ → Type 0) → P c → (bytes_eq nm c ≡ false → P nm) → P nm
split nm c P here there = grind (arith, bytes_eq-Decides)

pub marks : (nm text : List ℕ) → Marks nm text (keyword nm text)
unfolding keyword naming choosing repeating counting saying ending ends_body names_in_body takes_text
marks nm text =
    let P = λ (x : List ℕ). Marks x text (keyword x text) in
    split nm (codes "[']") P (refl, refl, refl, tt, tt) (λ e1.
    split nm (codes "[COMPILE]") P (refl, refl, refl, tt, tt) (λ e2.
    split nm (codes "COMPILE") P (refl, refl, refl, tt, tt) (λ e3.
    split nm (codes "IF") P (refl, refl, refl, tt, tt) (λ e4.
    split nm (codes "ELSE") P (refl, refl, refl, tt, tt) (λ e5.
    split nm (codes "THEN") P (refl, refl, refl, tt, tt) (λ e6.
    split nm (codes "BEGIN") P (refl, refl, refl, tt, tt) (λ e7.
    split nm (codes "UNTIL") P (refl, refl, refl, tt, tt) (λ e8.
    split nm (codes "AGAIN") P (refl, refl, refl, tt, tt) (λ e9.
    split nm (codes "WHILE") P (refl, refl, refl, tt, tt) (λ e10.
    split nm (codes "REPEAT") P (refl, refl, refl, tt, tt) (λ e11.
    split nm (codes "DO") P (refl, refl, refl, tt, tt) (λ e12.
    split nm (codes "LOOP") P (refl, refl, refl, tt, tt) (λ e13.
    split nm (codes "+LOOP") P (refl, refl, refl, tt, tt) (λ e14.
    split nm (codes ".\"") P (refl, refl, refl, refl, tt) (λ e15.
    split nm (codes "ABORT\"") P (refl, refl, refl, refl, tt) (λ e16.
    split nm (codes "DOES>") P (refl, refl, refl, tt, tt) (λ e17.
    split nm (codes ";") P (refl, refl, refl, tt, tt) (λ e18.
    rw (e1, e2, e3, e4, e5, e6, e7, e8, e9, e10, e11, e12, e13, e14, e15, e16, e17, e18) (refl, refl, refl, tt, tt)))))))))))))))))))

pub marks_of : (nm text : List ℕ) (k : Option Token) → keyword nm text ≡ k → Marks nm text k
marks_of nm text k e = subst (λ x. Marks nm text x) e (marks nm text)

-- what a word is in a body, if no name is due
abbrev pub Case : List ℕ → (voc : ℕ) → (nm text : List ℕ) → Token → Type 0
Case n voc nm text k =
    ((l : ℕ) × (sought_from n voc nm ≡ Found l) × (is_immediate n l ≡ false) × (NAME (compilation_address n l) ≡ k) × (keyword nm text ≡ None))
    ⊎ ((keyword nm text ≡ Some k)
    ⊎ (((sought_from n voc nm ≡ Nowhere) × (is_number 10 nm ≡ true) × (is_double nm ≡ false) × (NUMBER (number_value 10 nm % 65536) ≡ k) × (keyword nm text ≡ None))
    ⊎ ((sought_from n voc nm ≡ Nowhere) × (is_number 10 nm ≡ true) × (is_double nm ≡ true) × (DOUBLE (number_value 10 nm) ≡ k) × (keyword nm text ≡ None))))

-- if it is no keyword
abbrev figure_by : List ℕ → Bool → Bool → Sense
figure_by nm number double = if number then (if double then Wide (number_value 10 nm) else Figure (number_value 10 nm % 65536)) else Plain

unnamed : (n : List ℕ) (voc : ℕ) (nm text : List ℕ) (k : Token) (number double : Bool) → sought_from n voc nm ≡ Nowhere → keyword nm text ≡ None → is_number 10 nm ≡ number → is_double nm ≡ double
    → name_first n Free Nowhere (figure_by nm number double) ≡ Some k → Case n voc nm text k
unnamed n voc nm text k number double s e i d q = grind arith

-- Free and Compiling look at words in the same way
abbrev pub Loose : Half → Type 0
Loose Free = Unit {0}
Loose Compiling = Unit {0}
Loose _ = ⊥

loose_is : (n : List ℕ) (x : Sought) (s : Sense) → token_as n Compiling x s ≡ token_as n Free x s
loose_is n x s = grind arith

case_free : (n : List ℕ) (voc : ℕ) (nm text : List ℕ) (k : Token) (o : Option Token) → keyword nm text ≡ o → begins_comment nm ≡ false → token_as n Free (sought_from n voc nm) (keyword_or o (figure_of nm)) ≡ Some k → Case n voc nm text k
unfolding figure_of
case_free n voc nm text k o e c q = grind arith

pub case_of : (n : List ℕ) (voc : ℕ) (h : Half) (nm text : List ℕ) (k : Token) → Loose h → begins_comment nm ≡ false → token_as n h (sought_from n voc nm) (sense_of_word nm text) ≡ Some k → Case n voc nm text k
unfolding sense_of_word
case_of n voc h nm text k p c q = grind (arith, case_free, loose_is)

-- after ['] and [COMPILE] a name is due, immediate or not
abbrev pub Tight : Half → Type 0
Tight Ticked = Unit {0}
Tight Forced = Unit {0}
Tight Both = Unit {0}
Tight _ = ⊥

due_by : (n : List ℕ) (voc : ℕ) (h : Half) (nm : List ℕ) (w : ℕ) (x : Sought) (s : Sense) → Tight h → sought_from n voc nm ≡ x → ((k : Token) → s ≡ Keyword k → NotName k) → name_first n h x s ≡ Some (NAME w) → (l : ℕ) × (sought_from n voc nm ≡ Found l) × (compilation_address n l ≡ w)
due_by n voc Ticked nm w (Found l) s t e f q = (l, e, cc)
due_by n voc Forced nm w (Found l) s t e f q = (l, e, cc)
due_by n voc Both nm w (Found l) s t e f q = (l, e, cc)
due_by n voc Free nm w (Found l) s t e f q = absurd t
due_by n voc Compiling nm w (Found l) s t e f q = absurd t
due_by n voc h nm w TooLong s t e f q = cc
due_by n voc h nm w Nowhere Plain t e f q = cc
due_by n voc h nm w Nowhere Remark t e f q = cc
due_by n voc h nm w Nowhere (Figure y) t e f q = cc
due_by n voc h nm w Nowhere (Wide y) t e f q = cc
due_by n voc h nm w Nowhere (Keyword k) t e f q = let r : k ≡ NAME w = cc in absurd (subst NotName r (f k refl))

sense_named : (nm text : List ℕ) (k : Token) → sense_of_word nm text ≡ Keyword k → NotName k
unfolding sense_of_word
sense_named nm text k e = by (begins_comment nm) (keyword nm text) refl refl e
  where
    figures : (number double : Bool) → (if number then (if double then Wide (number_value 10 nm) else Figure (number_value 10 nm % 65536)) else Plain) ≡ Keyword k → NotName k
    figures true true q = cc
    figures true false q = cc
    figures false double q = cc

    none : figure_of nm ≡ Keyword k → NotName k
    none q = figures (is_number 10 nm) (is_double nm) (unfold figure_of in q)

    by : (c : Bool) (o : Option Token) → begins_comment nm ≡ c → keyword nm text ≡ o → (if c then Remark else keyword_or o (figure_of nm)) ≡ Keyword k → NotName k
    by true o f g q = cc
    by false None f g q = none q
    by false (Some w) f g q = let r : w ≡ k = cc in subst NotName r (marks_of nm text (Some w) g).4

pub due_name : (n : List ℕ) (voc : ℕ) (h : Half) (nm text : List ℕ) (w : ℕ) → Tight h → token_as n h (sought_from n voc nm) (sense_of_word nm text) ≡ Some (NAME w) → (l : ℕ) × (sought_from n voc nm ≡ Found l) × (compilation_address n l ≡ w)
due_name n voc h nm text w t q = grind (arith, due_by, sense_named)

-- A body that the machine reads, word by word, over screens.

-- what is the same all through a body: where it is written, what it is, and the words after it
pub record Env : Type 0 where
  pub ws : Words
  pub a : ℕ
  pub cur : ℕ
  pub ctx : ℕ
  pub limit : ℕ
  pub most : ℕ
  pub here : ℕ
  pub head : ℕ
  pub pf : ℕ
  pub n : List ℕ
  pub m1 : List ℕ
  pub title : List ℕ
  pub body : Definition
  pub rest : List SourceWord
  pub below : List ℕ

pub record IsEnv (E : Env) : Type 0 where
  pub opened : Opened E.limit E.ws E.a E.cur E.ctx E.most E.here E.head E.pf E.n E.m1 E.title
  pub keys : Keys E.n E.cur
  pub few : length E.below ≤ 100
  pub shallow : all_nesting E.body ≤ 64

-- where the machine is
pub record Here : Type 0 where
  pub parts : Whole
  pub disk : Disk
  pub screen : ℕ
  pub place : ℕ
  pub others : ℕ
  pub values : List ℕ

abbrev pub spot_of : (a : ℕ) → Here → Spot
spot_of a s = spot (at s.parts s.values a) s.disk s.screen s.others

abbrev pub text_of_screen : Here → List ℕ
text_of_screen s = block_at s.disk.blocks s.screen

-- o, t and h are read, and these words and tokens are left
pub record Point (E : Env) (s : Here) (o : Outer) (t : Tree) (h : Half) (sw : List SourceWord) (ks : List Token) : Type 0 where
  pub ready : Ready E.limit s.disk s.parts s.screen s.place s.others
  pub reliable : IsReliable s.disk
  pub drafts : Drafts E.limit E.m1 E.pf o t h s.values E.below s.parts.memory
  pub loose : Loose h
  pub means : Means E.n E.cur h sw (ks ++ SEMI ∷ []) E.rest
  pub left : words_left Body s.disk.blocks s.screen s.place s.others ≡ sw
  pub accepts : accept o t h (ks ++ SEMI ∷ []) ≡ Some E.body
  pub room : E.pf + open_size o t h + laid ks ≤ E.limit
  pub short : AreShort ks

-- the whole body is read, and `;` is next
pub record Closing (E : Env) (s : Here) : Type 0 where
  pub final : Here
  pub leads : Leads E.ws.interpret (spot_of E.a s) (spot_of E.a final)
  pub blocks : final.disk.blocks ≡ s.disk.blocks
  pub ready : Ready E.limit final.disk final.parts final.screen final.place final.others
  pub reliable : IsReliable final.disk
  pub outer : Outer
  pub tree : Tree
  pub half : Half
  pub whole_is : whole outer tree half ≡ Some E.body
  pub drafts : Drafts E.limit E.m1 E.pf outer tree half final.values E.below final.parts.memory
  pub some : ((next (text_of_screen final) final.place).len == 0) ≡ false
  pub key : Key E.n E.cur (name (text_of_screen final) final.place) 169 true
  pub left : words_left Outside final.disk.blocks final.screen (next (text_of_screen final) final.place).next final.others ≡ E.rest

-- All words of a body, over screens.

-- one token of the reader
no_end : (ks : List Token) → ks ++ SEMI ∷ [] ≡ [] → ⊥
no_end [] e = cc
no_end (k ∷ ks) e = cc

pub record Accepted (o : Outer) (t : Tree) (h : Half) (k : Token) (ks : List Token) (u : Definition) : Type 0 where
  pub outer : Outer
  pub tree : Tree
  pub half : Half
  pub reads : read o t h k ≡ Some (At outer tree half)
  pub rest : accept outer tree half (ks ++ SEMI ∷ []) ≡ Some u

pub accept_one : (o : Outer) (t : Tree) (h : Half) (k : Token) (ks : List Token) (u : Definition) → accept o t h (k ∷ (ks ++ SEMI ∷ [])) ≡ Some u → Accepted o t h k ks u
accept_one o t h k ks u e = grind (arith, next_state, accept, finish, no_end, finish_end)

pub no_semi : (o : Outer) (t : Tree) (h : Half) → read o t h SEMI ≡ None
no_semi o t h = grind arith

pub accept_end : (o : Outer) (t : Tree) (h : Half) (u : Definition) → accept o t h (SEMI ∷ []) ≡ Some u → whole o t h ≡ Some u
accept_end o t h u e = (finish_is o t h u SEMI [] (sym (ap (λ x. next_state x (λ p v k. accept p v k []) (finish o t h SEMI [])) (no_semi o t h)) ∙ e)).0

pub frames_few : (o : Outer) (t : Tree) (h : Half) (u : Definition) (ks : List Token) → accept o t h ks ≡ Some u → all_nesting u ≤ 64 → frames o ≤ 64
frames_few o t h u ks e l = let d = accept_depth ks o t h u e in omega arith

pub loose_after : (h : Half) (k : Token) → Loose h → lead_if (Some k) ≡ false → Loose (half_after h k)
loose_after h k p e = grind arith

-- the mode after a word of a body
pub after_in_body : (nm : List ℕ) (semi lead : Bool) → ends_body nm ≡ semi → names_in_body nm ≡ lead → mode_after Body nm ≡ (if semi then Outside else if lead then NameInBody else Body)
after_in_body nm semi lead e f = rw (e, f) refl

pub same_spot : (a b : SourceWord) (xs ys : List SourceWord) → a ∷ xs ≡ b ∷ ys → (a ≡ b) × (xs ≡ ys)
same_spot a b xs ys e = (cc, cc)

-- o, t and h are read, this word is next on the machine's screen, and its token is k
pub record Facing (E : Env) (s : Here) (o : Outer) (t : Tree) (h : Half) (v : SourceWord) (sw : List SourceWord) (k : Token) (ks : List Token) : Type 0 where
  pub point : Point E s o t h (v ∷ sw) (k ∷ ks)
  pub some : ((next (text_of_screen s) s.place).len == 0) ≡ false
  pub word : begins_comment (name (text_of_screen s) s.place) ≡ false

-- after some step
pub record Stepped (E : Env) (s : Here) (ks : List Token) : Type 0 where
  pub place : Here
  pub leads : Leads E.ws.interpret (spot_of E.a s) (spot_of E.a place)
  pub blocks : place.disk.blocks ≡ s.disk.blocks
  pub outer : Outer
  pub tree : Tree
  pub half : Half
  pub words : List SourceWord
  pub tokens : List Token
  pub fewer : length tokens ≤ length ks
  pub point : Point E place outer tree half words tokens

-- a step of one token
pub one_step : (E : Env) (s : Here) (o p : Outer) (t v : Tree) (h g : Half) (w : SourceWord) (sw : List SourceWord) (k : Token) (ks : List Token) (q : ℕ) → Facing E s o t h w sw k ks → lead_if (Some k) ≡ false → read o t h k ≡ Some (At p v g) → accept p v g (ks ++ SEMI ∷ []) ≡ Some E.body
    → words_left Body s.disk.blocks s.screen q s.others ≡ sw
    → Turned E.limit E.ws.interpret E.a (λ e m. Drafts E.limit E.m1 E.pf p v g e E.below m) s.parts s.disk s.values s.screen q s.others → Stepped E s ks
one_step E s o p t v h g w sw k ks q x lead reads rest left turned =
    let pt = x.point in
    let half : half_after h k ≡ g = read_half o t h k p v g reads in
    let size = grows o p t v h g k reads in
    let room = pt.room in
    record {
      place = record { parts = record s.parts { memory = turned.memory }; disk = s.disk; screen = s.screen; place = q; others = s.others; values = turned.values };
      leads = turned.leads;
      blocks = refl;
      outer = p;
      tree = v;
      half = g;
      words = sw;
      tokens = ks;
      fewer = omega arith;
      point = record {
        ready = turned.ready;
        reliable = pt.reliable;
        drafts = turned.inv;
        loose = subst (λ i. Loose i) half (loose_after h k pt.loose lead);
        means = subst (λ i. Means E.n E.cur i sw (ks ++ SEMI ∷ []) E.rest) half pt.means.2;
        left = left;
        accepts = rest;
        room = omega arith;
        short = pt.short.1;
      };
    }

-- what a keyword's name is, by its row
key_row : (n : List ℕ) (voc : ℕ) (nm : List ℕ) (k : Token) (number : ℕ) → row_of k ≡ Some number → IsKey n voc nm k → Key n voc nm number true × (nat_lt number 256 ≡ true)
key_row n voc nm k number e x = grind arith

-- a keyword with a row is where nothing is half read
free_row : (o p : Outer) (t v : Tree) (h g : Half) (k : Token) (number : ℕ) → row_of k ≡ Some number → Loose h → read o t h k ≡ Some (At p v g) → h ≡ Free
free_row o p t v h g k number e l r = grind arith

row_no_lead : (k : Token) (number : ℕ) → row_of k ≡ Some number → (lead_if (Some k) ≡ false) × (semi_if (Some k) ≡ false)
row_no_lead k number e = grind arith

-- the place's facts that every step wants
pub record Facts (E : Env) (s : Here) (o : Outer) (t : Tree) (h : Half) : Type 0 where
  pub page : length (text_of_screen s) ≡ 1024
  pub within : s.place ≤ 1024
  pub stack : length s.values ≤ 250

pub facts : (E : Env) (s : Here) (o : Outer) (t : Tree) (h : Half) (v : SourceWord) (sw : List SourceWord) (k : Token) (ks : List Token) → IsEnv E → Facing E s o t h v sw k ks → Facts E s o t h
facts E s o t h v sw k ks i x = search (arith, length_text, stack_room, frames_few)

-- the control primitive at runtime cell 19 is that of the memory before
compile_cell : (E : Env) (m : List ℕ) (o : Outer) (t : Tree) (h : Half) (d : List ℕ) → IsEnv E → Draft E.m1 E.pf o t h m d E.below → runtime m 19 ≡ runtime E.n 19
compile_cell E m o t h d i g =
    let x = i.opened in
    let f = x.fronted in
    let placed = x.orderly.heads E.head x.head_is in
    kept_cell E.pf 102 m E.m1 g.kept (omega arith) (omega arith) (omega arith) (omega arith) (omega arith) (omega arith)
    ∙ cell_by E.m1 E.n 102 (omega arith) (f.same 102 (omega arith) (omega arith) (apart placed 102 refl) (apart_next placed 102 refl)) (f.same 103 (omega arith) (omega arith) (apart placed 103 refl) (apart_next placed 103 refl))
  where
    apart : ((42 ≤ E.head) × (E.head + 1 < 52)) ⊎ ((256 ≤ E.head) × (E.head + 1 < E.here)) → (j : ℕ) → (nat_lt 60 j && nat_lt j 200) ≡ true → j ≢ E.head
    apart (inl q) j e = let q1 = q.1 in grind arith
    apart (inr q) j e = let q0 = q.0 in grind arith

    apart_next : ((42 ≤ E.head) × (E.head + 1 < 52)) ⊎ ((256 ≤ E.head) × (E.head + 1 < E.here)) → (j : ℕ) → (nat_lt 60 j && nat_lt j 200) ≡ true → j ≢ E.head + 1
    apart_next (inl q) j e = let q1 = q.1 in grind arith
    apart_next (inr q) j e = let q0 = q.0 in grind arith

-- a word without a text: where it is, and the words after it
pub record Plainly (s : Here) (v : SourceWord) (sw : List SourceWord) : Type 0 where
  pub is : v ≡ plain_spot s.screen s.place (text_of_screen s)
  pub behind : sw ≡ words_left (mode_after Body (name (text_of_screen s) s.place)) s.disk.blocks s.screen (next (text_of_screen s) s.place).next s.others

pub plainly : (E : Env) (s : Here) (o : Outer) (t : Tree) (h : Half) (v : SourceWord) (sw : List SourceWord) (k : Token) (ks : List Token) → IsEnv E → Facing E s o t h v sw k ks → takes_text (name (text_of_screen s) s.place) ≡ false → Plainly s v sw
plainly E s o t h v sw k ks i x e = grind (arith, facts, left_word, same_spot, plain_spot)

pub record Textly (s : Here) (v : SourceWord) (sw : List SourceWord) : Type 0 where
  pub is : v ≡ text_spot s.screen s.place (text_of_screen s)
  pub behind : sw ≡ words_left (mode_after Body (name (text_of_screen s) s.place)) s.disk.blocks s.screen (parsed (text_of_screen s) (next (text_of_screen s) s.place).next 34).next s.others

pub textly : (E : Env) (s : Here) (o : Outer) (t : Tree) (h : Half) (v : SourceWord) (sw : List SourceWord) (k : Token) (ks : List Token) → IsEnv E → Facing E s o t h v sw k ks → takes_text (name (text_of_screen s) s.place) ≡ true → Textly s v sw
textly E s o t h v sw k ks i x e = grind (arith, facts, left_text, same_spot, text_spot)

-- a word after which the body goes on
on_in_body : (s : Here) (v : SourceWord) (sw : List SourceWord) → Plainly s v sw → ends_body (name (text_of_screen s) s.place) ≡ false → names_in_body (name (text_of_screen s) s.place) ≡ false → words_left Body s.disk.blocks s.screen (next (text_of_screen s) s.place).next s.others ≡ sw
on_in_body s v sw p e f = sym (p.behind ∙ ap (λ m. words_left m s.disk.blocks s.screen (next (text_of_screen s) s.place).next s.others) (after_in_body (name (text_of_screen s) s.place) false false e f))

pub step_room : (E : Env) (s : Here) (o : Outer) (t : Tree) (h : Half) (v : SourceWord) (sw : List SourceWord) (k : Token) (ks : List Token) → Facing E s o t h v sw k ks → E.pf + open_size o t h + laid_by k ≤ E.limit
step_room E s o t h v sw k ks x = let r = x.point.room in omega arith

-- a name
pub by_name : (E : Env) (s : Here) (o : Outer) (t : Tree) (h : Half) (v : SourceWord) (sw : List SourceWord) (k : Token) (ks : List Token) (l : ℕ) → IsEnv E → Facing E s o t h v sw k ks → Plainly s v sw
    → sought_from E.n E.cur (name (text_of_screen s) s.place) ≡ Found l → is_immediate E.n l ≡ false → NAME (compilation_address E.n l) ≡ k → keyword (name (text_of_screen s) s.place) [] ≡ None → Accepted o t h k ks E.body → Stepped E s ks
by_name E s o t h v sw k ks l i x p found plain is none acc =
    let pt = x.point in
    let f = facts E s o t h v sw k ks i x in
    let m = marks_of (name (text_of_screen s) s.place) [] None none in
    let room = step_room E s o t h v sw k ks x in
    let w = compilation_address E.n l in
    let two : laid_by k ≡ 2 = subst (λ j. laid_by j ≡ 2) is refl in
    let lead : lead_if (Some k) ≡ false = subst (λ j. lead_if (Some j) ≡ false) is refl in
    let m0 = put_cell s.parts.memory 20 (next (text_of_screen s) s.place).next in
    let lay : lays k m0 s.values ≡ (laid_memory m0 (cell_bytes w), s.values) = subst (λ j. lays j m0 s.values ≡ (laid_memory m0 (cell_bytes w), s.values)) is refl in
    one_step E s o acc.outer t acc.tree h acc.half v sw k ks (next (text_of_screen s) s.place).next x lead acc.reads acc.rest (on_in_body s v sw p m.0 m.1)
    (name_step E.ws E.a E.cur E.ctx E.most E.here E.head E.pf E.n E.m1 E.title o acc.outer t acc.tree h acc.half k l s.parts s.disk s.values E.below s.screen s.place s.others i.opened pt.ready pt.drafts f.stack x.some found plain two lay acc.reads room)

-- COMPILE
pub by_compile : (E : Env) (s : Here) (o : Outer) (t : Tree) (h : Half) (v : SourceWord) (sw : List SourceWord) (ks : List Token) → IsEnv E → Facing E s o t h v sw COMPILE ks → Plainly s v sw
    → keyword (name (text_of_screen s) s.place) [] ≡ Some COMPILE → Accepted o t h COMPILE ks E.body → Stepped E s ks
by_compile E s o t h v sw ks i x p key acc =
    let nm = name (text_of_screen s) s.place in
    let pt = x.point in
    let f = facts E s o t h v sw COMPILE ks i x in
    let m = marks_of nm [] (Some COMPILE) key in
    let room = step_room E s o t h v sw COMPILE ks x in
    let is = i.keys.keywords nm [] COMPILE key in
    let q = (next (text_of_screen s) s.place).next in
    let m0 = put_cell s.parts.memory 20 q in
    let moved : runtime m0 19 ≡ runtime s.parts.memory 19 = cell_beside s.parts.memory 20 q 102 (omega arith) (omega arith) (omega arith) (omega arith) (omega arith) in
    let cell_is : runtime m0 19 ≡ compilation_address E.n is.0 = moved ∙ compile_cell E s.parts.memory o t h s.values i pt.drafts.draft ∙ sym is.3 in
    let lay : lays COMPILE m0 s.values ≡ (laid_memory m0 (cell_bytes (compilation_address E.n is.0)), s.values) = ap (λ j. (laid_memory m0 (cell_bytes j), s.values)) cell_is in
    one_step E s o acc.outer t acc.tree h acc.half v sw COMPILE ks q x refl acc.reads acc.rest (on_in_body s v sw p m.0 m.1)
    (name_step E.ws E.a E.cur E.ctx E.most E.here E.head E.pf E.n E.m1 E.title o acc.outer t acc.tree h acc.half COMPILE is.0 s.parts s.disk s.values E.below s.screen s.place s.others i.opened pt.ready pt.drafts f.stack x.some is.1 is.2 refl lay acc.reads room)

-- numbers
pub by_single : (E : Env) (s : Here) (o : Outer) (t : Tree) (h : Half) (v : SourceWord) (sw : List SourceWord) (k : Token) (ks : List Token) → IsEnv E → Facing E s o t h v sw k ks → Plainly s v sw → let nm = name (text_of_screen s) s.place in
    sought_from E.n E.cur nm ≡ Nowhere → is_number 10 nm ≡ true → is_double nm ≡ false → NUMBER (number_value 10 nm % 65536) ≡ k → keyword nm [] ≡ None → Accepted o t h k ks E.body → Stepped E s ks
by_single E s o t h v sw k ks i x p found number double is none acc =
    let pt = x.point in
    let f = facts E s o t h v sw k ks i x in
    let m = marks_of (name (text_of_screen s) s.place) [] None none in
    let four : laid_by k ≡ 4 = subst (λ j. laid_by j ≡ 4) is refl in
    let lead : lead_if (Some k) ≡ false = subst (λ j. lead_if (Some j) ≡ false) is refl in
    let e = subst (λ j. read o t h j ≡ Some (At acc.outer acc.tree acc.half)) (sym is) acc.reads in
    one_step E s o acc.outer t acc.tree h acc.half v sw k ks (next (text_of_screen s) s.place).next x lead acc.reads acc.rest (on_in_body s v sw p m.0 m.1)
    (single_step E.ws E.a E.cur E.ctx E.most E.here E.head E.pf E.n E.m1 E.title o acc.outer t acc.tree h acc.half s.parts s.disk s.values E.below s.screen s.place s.others i.opened pt.ready pt.drafts f.stack x.some found number double e (omega arith))

pub by_double : (E : Env) (s : Here) (o : Outer) (t : Tree) (h : Half) (v : SourceWord) (sw : List SourceWord) (k : Token) (ks : List Token) → IsEnv E → Facing E s o t h v sw k ks → Plainly s v sw → let nm = name (text_of_screen s) s.place in
    sought_from E.n E.cur nm ≡ Nowhere → is_number 10 nm ≡ true → is_double nm ≡ true → DOUBLE (number_value 10 nm) ≡ k → keyword nm [] ≡ None → Accepted o t h k ks E.body → Stepped E s ks
by_double E s o t h v sw k ks i x p found number double is none acc =
    let pt = x.point in
    let f = facts E s o t h v sw k ks i x in
    let m = marks_of (name (text_of_screen s) s.place) [] None none in
    let eight : laid_by k ≡ 8 = subst (λ j. laid_by j ≡ 8) is refl in
    let lead : lead_if (Some k) ≡ false = subst (λ j. lead_if (Some j) ≡ false) is refl in
    let e = subst (λ j. read o t h j ≡ Some (At acc.outer acc.tree acc.half)) (sym is) acc.reads in
    one_step E s o acc.outer t acc.tree h acc.half v sw k ks (next (text_of_screen s) s.place).next x lead acc.reads acc.rest (on_in_body s v sw p m.0 m.1)
    (double_step E.ws E.a E.cur E.ctx E.most E.here E.head E.pf E.n E.m1 E.title o acc.outer t acc.tree h acc.half s.parts s.disk s.values E.below s.screen s.place s.others i.opened pt.ready pt.drafts f.stack x.some found number double e (omega arith))

-- a keyword with a row
pub by_row : (E : Env) (s : Here) (o : Outer) (t : Tree) (h : Half) (v : SourceWord) (sw : List SourceWord) (k : Token) (ks : List Token) (number : ℕ) → IsEnv E → Facing E s o t h v sw k ks → Plainly s v sw
    → row_of k ≡ Some number → keyword (name (text_of_screen s) s.place) [] ≡ Some k → Accepted o t h k ks E.body → Stepped E s ks
by_row E s o t h v sw k ks number i x p has key acc =
    let nm = name (text_of_screen s) s.place in
    let pt = x.point in
    let f = facts E s o t h v sw k ks i x in
    let m = marks_of nm [] (Some k) key in
    let q = (next (text_of_screen s) s.place).next in
    let r = key_row E.n E.cur nm k number has (i.keys.keywords nm [] k key) in
    let none = row_no_lead k number has in
    let free : h ≡ Free = free_row o acc.outer t acc.tree h acc.half k number has pt.loose acc.reads in
    let room = step_room E s o t h v sw k ks x in
    one_step E s o acc.outer t acc.tree h acc.half v sw k ks q x none.0 acc.reads acc.rest (on_in_body s v sw p (m.0 ∙ none.1) (m.1 ∙ none.0))
    (row_step E.ws E.a E.cur E.ctx E.most E.here E.head E.pf number E.n E.m1 E.title nm o acc.outer t acc.tree acc.half k s.parts s.disk s.values E.below s.screen s.place s.others i.opened pt.ready (subst (λ j. Drafts E.limit E.m1 E.pf o t j s.values E.below s.parts.memory) free pt.drafts) f.stack x.some refl r.0 r.1 has (subst (λ j. read o t j k ≡ Some (At acc.outer acc.tree acc.half)) free acc.reads) (subst (λ j. E.pf + open_size o t j + laid_by k ≤ E.limit) free room))
