-- The next word of screens, after comments and the ends of screens.
use Rattle.std.proofs.Common.{◌≡◌, ◌≢◌, ℕ, zero, suc, ◌+◌, ◌-◌, ◌<◌, ◌≤◌, ◌∙◌, List, [], ◌∷◌, length, take, drop, slice_index, true, false, not, arith, refl, ap, sym, inl, inr, Some, None, ◌++◌, Bool}
use Rattle.std.specs.Prelude.{◌==◌, ◌&&◌, nat_lt, All, slice_index_or, ◌||◌, codes}
use Rattle.std.proofs.lemmas.Bool.{cases_lt}
use Rattle.std.proofs.lemmas.List.{drop-drop, drop_all, drop_more}
use Rattle.std.proofs.lemmas.List.Elements.{All-head}
use Rattle.std.specs.List.{list_any}
use Rattle.std.proofs.lemmas.Slice.Eq.{bytes_eq-Decides}
use Rattle.input_source.specs.Words.{next_delimiter, behind, parsed, bytes_of, IsNextWord, parsed_in, IsTaken}
use Rattle.input_source.proofs.WordLaw.{word_law, taken-parsed}
use Rattle.source_words.specs.declared.modes.Mode.{Mode}
use Rattle.source_words.specs.Modes.{is_name_due, is_body, takes_text, begins_comment, mode_after}
use Rattle.source_words.specs.Words.{SourceWord, before, front_word, behind_name, enclosed, enclosing, is_comment, has_text, word_of, size_of, words_at, screen_words, after_words, words_of_screens}
use Rattle.source_words.proofs.Places.{none_at, blank_at, comment_at, word_at as word_there}
use Rattle.block_buffers.specs.Disks.{block_at, Disk, succeeds, called, next_fails}
use Rattle.source_words.proofs.Standings.{words_stand}
use Rattle.block_buffers.specs.declared.entry.Entry.{Entry}
use Rattle.block_buffers.specs.Entries.{is_of, is_updated, holds, has_updated, victim, entry_at, unassigned_slot, assigned, address_of, AreBuffers}
use Rattle.cells.specs.Cell.{wrap}
use Rattle.memory.specs.Bytes.{cell, put_cell, with_page, limit_of}
use Rattle.memory.specs.declared.limit.TheConstants.{GREATEST_LIMIT}
use Rattle.memory.proofs.Kept.{byte_cell, length_cell, cell_here, cell_beside}
use Rattle.memory.proofs.Pages.{byte_below, length-with_page}
use Rattle.block_buffers.proofs.Kept.{are_assigned, length-assigned}
use Rattle.dictionary.specs.Header.{compilation_address, is_immediate}
use Rattle.dictionary.specs.Search.{Found, sought}
use Rattle.machine_parts.specs.Whole.{Whole}
use Rattle.machine_parts.specs.Row.{After, done}
use Rattle.machine_parts.specs.declared.parts.Outcome.TheVariants.{Done}
use Rattle.machine_parts.specs.declared.parts.Request.TheVariants.{Read}
use Rattle.input_source.specs.declared.words.Stream.{Stream}
use Rattle.input_source.specs.declared.words.Word.{Word}
use Rattle.plain_rows.specs.Table.{row_in}
use Rattle.primitives.specs.Table.{row, input}
use Rattle.machine.specs.Tick.{ticked}
use Rattle.metacompiler.specs.ScreenStream.{next, name, Reading}
use Rattle.metacompiler.specs.Turning.{words_left, MovesStream, IsReliable, Ready, Holds, spot, Leads, Met}
use Rattle.metacompiler.specs.Loop.{Words}
use Rattle.metacompiler.specs.Rounds.{rounds, then_screens, entered, at, due, out, Ended}
use Rattle.metacompiler.specs.Meaning.{Keys}
use Rattle.metacompiler.proofs.Turns.{taken_at, taken_due, asked, brought, goes_enter, ask_step, takes_none, takes_executed, reads_here, parsed_here, parsed_within, next_within, length_text, scan_asks, brought_reads, victim_at, reading_at, ready_aside, moves, aside_moved, executed, ended_screen, leads_by, leads_on, leads_none, ready_least}

-- The words of a screen as the machine meets them, from a place on.

delimiter_is : (text : List ℕ) (p c : ℕ) → next_delimiter text p c ≡ p + before c (drop p text)
unfolding next_delimiter before
delimiter_is text p c = refl

-- blanks are passed over
blanks : (m : Mode) (sc p k : ℕ) (text : List ℕ) → p + k ≤ length text → ((j : ℕ) → p ≤ j → j < p + k → slice_index text j ≡ 32) → words_at m sc p text ≡ words_at m sc (p + k) text
blanks m sc p zero text h b = ap (λ q. words_at m sc q text) (omega arith)
blanks m sc p (suc k) text h b =
    blank_at m sc p text (omega arith) (b p (omega arith) (omega arith))
    ∙ blanks m sc (p + 1) k text (omega arith) (λ j x y. b j (omega arith) (omega arith))
    ∙ ap (λ q. words_at m sc q text) (omega arith)

pub skipped : (m : Mode) (sc p : ℕ) (text : List ℕ) → p ≤ length text → words_at m sc p text ≡ words_at m sc (next text p).at text
skipped m sc p text h =
    let w : IsNextWord text p 32 (next text p) = word_law text p 32 h in
    blanks m sc p ((next text p).at - p) text (omega arith) (λ j x y. w.skipped j x (omega arith)) ∙ ap (λ q. words_at m sc q text) (omega arith)

-- places past the end
past : (m : Mode) (sc p q : ℕ) (text : List ℕ) → length text ≤ p → length text ≤ q → words_at m sc p text ≡ words_at m sc q text
past m sc p q text h k = none_at m sc p text h ∙ sym (none_at m sc q text k)

behind_of : (text : List ℕ) (e : ℕ) → e < length text → behind text e ≡ e + 1
behind_of text e h = let t : nat_lt e (length text) ≡ true = grind arith in rw t refl

behind_end : (text : List ℕ) (e : ℕ) → length text ≤ e → behind text e ≡ length text
behind_end text e h = let t : nat_lt e (length text) ≡ false = grind arith in rw t refl

-- the place after what ends at e, or one further
behind_or : (m : Mode) (sc e : ℕ) (text : List ℕ) → words_at m sc (e + 1) text ≡ words_at m sc (behind text e) text
behind_or m sc e text = grind (arith, behind_of, past, behind_end)

-- the word's size
len_is : (text : List ℕ) (p : ℕ) → (next text p).len ≡ before 32 (drop (next text p).at text)
len_is text p = let d = delimiter_is text (next text p).at 32 in omega arith

name_is : (text : List ℕ) (p : ℕ) → front_word (drop (next text p).at text) ≡ name text p
unfolding front_word
name_is text p = ap (λ k. take k (drop (next text p).at text)) (sym (len_is text p))

next_is : (text : List ℕ) (p : ℕ) → (next text p).next ≡ behind text ((next text p).at + (next text p).len)
next_is text p = let d = delimiter_is text (next text p).at 32 in ap (λ e. behind text e) (omega arith)

-- what encloses
enclosing_is : (c : ℕ) (s : List ℕ) → enclosing c s ≡ before 32 s + 1 + before c (behind_name s) + 1
unfolding enclosing
enclosing_is c s = refl

behind_name_is : (text : List ℕ) (a : ℕ) → behind_name (drop a text) ≡ drop (a + before 32 (drop a text) + 1) text
unfolding behind_name
behind_name_is text a = drop-drop (before 32 (drop a text) + 1) a text ∙ ap (λ k. drop k text) (omega arith)

before_nil : (c : ℕ) → before c [] ≡ 0
unfolding before
before_nil c = refl

abbrev Encloses : Mode → (sc c a e q : ℕ) → List ℕ → Type 0
Encloses m sc c a e q text = (words_at m sc (a + enclosing c (drop a text)) text ≡ words_at m sc (parsed text q c).next text) × (enclosed c (drop a text) ≡ bytes_of text (parsed text q c))

encloses_within : (m : Mode) (sc c a e q : ℕ) (text : List ℕ) → e ≡ a + before 32 (drop a text) → e < length text → q ≡ e + 1 → Encloses m sc c a e q text
unfolding enclosed
encloses_within m sc c a e q text x h g =
    let b : behind_name (drop a text) ≡ drop q text = behind_name_is text a ∙ ap (λ k. drop k text) (omega arith) in
    let d : next_delimiter text q c ≡ q + before c (drop q text) = delimiter_is text q c in
    let k : a + enclosing c (drop a text) ≡ next_delimiter text q c + 1 = ap (λ n. a + n) (enclosing_is c (drop a text) ∙ ap (λ r. before 32 (drop a text) + 1 + before c r + 1) b) ∙ omega arith in
    grind (arith, behind_or)

encloses_end : (m : Mode) (sc c a e q : ℕ) (text : List ℕ) → e ≡ a + before 32 (drop a text) → length text ≤ e → q ≡ length text → Encloses m sc c a e q text
unfolding enclosed
encloses_end m sc c a e q text x h g = grind (arith, behind_name_is, drop_all, before_nil, delimiter_is, enclosing_is, behind_end, past)

pub encloses : (m : Mode) (sc c p : ℕ) (text : List ℕ) → p ≤ length text
    → Encloses m sc c (next text p).at ((next text p).at + (next text p).len) (next text p).next text
encloses m sc c p text h =
    let a = (next text p).at in
    let e = a + (next text p).len in
    let l = len_is text p in
    elim (cases_lt e (length text)) [
      | inl x ↦ encloses_within m sc c a e (next text p).next text (omega arith) x (next_is text p ∙ behind_of text e x)
      | inr x ↦ encloses_end m sc c a e (next text p).next text (omega arith) x (next_is text p ∙ behind_end text e x)
    ]

-- the next word exists
record IsMet (text : List ℕ) (p : ℕ) : Type 0 where
  inside : (next text p).at < length text
  letter : slice_index text (next text p).at ≢ 32

met : (text : List ℕ) (p : ℕ) → p ≤ length text → ((next text p).len == 0) ≡ false → IsMet text p
met text p h z = grind (arith, word_law)

-- no word is left
pub none_left : (m : Mode) (sc p : ℕ) (text : List ℕ) → p ≤ length text → ((next text p).len == 0) ≡ true → words_at m sc p text ≡ []
none_left m sc p text h z = grind (arith, word_law, skipped, none_at)

-- a comment is next
pub comment_left : (m : Mode) (sc p : ℕ) (text : List ℕ) → p ≤ length text → ((next text p).len == 0) ≡ false → (not (is_name_due m) && begins_comment (name text p)) ≡ true
    → words_at m sc p text ≡ words_at m sc (parsed text (next text p).next 41).next text
unfolding is_comment
comment_left m sc p text h z c = grind (arith, met, skipped, comment_at, not, name_is, encloses)

-- the end of a word
ends_blank : (m : Mode) (sc p : ℕ) (text : List ℕ) → p ≤ length text → words_at m sc ((next text p).at + (next text p).len) text ≡ words_at m sc (next text p).next text
ends_blank m sc p text h = grind (arith, word_law, blank_at, next_is, behind_of)

abbrev pub plain_spot : (sc p : ℕ) → List ℕ → SourceWord
plain_spot sc p text = record { screen = sc; offset = (next text p).at; name = name text p; text = None }

abbrev pub text_spot : (sc p : ℕ) → List ℕ → SourceWord
text_spot sc p text = record { screen = sc; offset = (next text p).at; name = name text p; text = Some (bytes_of text (parsed text (next text p).next 34)) }

next_word : (m : Mode) (sc p : ℕ) (text : List ℕ) → p ≤ length text → ((next text p).len == 0) ≡ false → (not (is_name_due m) && begins_comment (name text p)) ≡ false
    → words_at m sc p text ≡ word_of m sc (next text p).at (drop (next text p).at text) ∷ words_at (mode_after m (name text p)) sc ((next text p).at + size_of m (drop (next text p).at text)) text
unfolding is_comment
next_word m sc p text h z c = grind (arith, met, skipped, word_there, not, name_is)

-- a word without a text is next
pub word_left : (m : Mode) (sc p : ℕ) (text : List ℕ) → p ≤ length text → ((next text p).len == 0) ≡ false → (not (is_name_due m) && begins_comment (name text p)) ≡ false → (is_body m && takes_text (name text p)) ≡ false
    → words_at m sc p text ≡ plain_spot sc p text ∷ words_at (mode_after m (name text p)) sc (next text p).next text
unfolding word_of size_of has_text
word_left m sc p text h z c x = grind (arith, name_is, next_word, len_is, ends_blank)

-- a word with its text is next
pub text_left : (m : Mode) (sc p : ℕ) (text : List ℕ) → p ≤ length text → ((next text p).len == 0) ≡ false → (not (is_name_due m) && begins_comment (name text p)) ≡ false → (is_body m && takes_text (name text p)) ≡ true
    → words_at m sc p text ≡ text_spot sc p text ∷ words_at (mode_after m (name text p)) sc (parsed text (next text p).next 34).next text
unfolding word_of size_of has_text
text_left m sc p text h z c x = grind (arith, name_is, encloses, next_word)

-- The words that are left, after a word that the machine has met.

-- after a word of a screen
left_behind : (m : Mode) (blocks : List (List ℕ)) (b p q more : ℕ) (v : SourceWord) → words_at m b p (block_at blocks b) ≡ v ∷ words_at (mode_after m v.name) b q (block_at blocks b)
    → words_left m blocks b p more ≡ v ∷ words_left (mode_after m v.name) blocks b q more
unfolding after_words
left_behind m blocks b p q more v e = ap (λ ws. ws ++ words_of_screens (after_words m ws) (b + 1) (take more (drop (b + 1) blocks))) e

pub left_word : (m : Mode) (blocks : List (List ℕ)) (b p more : ℕ) → let text = block_at blocks b in
    length text ≡ 1024 → p ≤ 1024 → ((next text p).len == 0) ≡ false → (not (is_name_due m) && begins_comment (name text p)) ≡ false → (is_body m && takes_text (name text p)) ≡ false
    → words_left m blocks b p more ≡ plain_spot b p text ∷ words_left (mode_after m (name text p)) blocks b (next text p).next more
left_word m blocks b p more l h z c x =
    let text = block_at blocks b in
    left_behind m blocks b p (next text p).next more (plain_spot b p text) (word_left m b p text (omega arith) z c x)

pub left_text : (m : Mode) (blocks : List (List ℕ)) (b p more : ℕ) → let text = block_at blocks b in
    length text ≡ 1024 → p ≤ 1024 → ((next text p).len == 0) ≡ false → (not (is_name_due m) && begins_comment (name text p)) ≡ false → (is_body m && takes_text (name text p)) ≡ true
    → words_left m blocks b p more ≡ text_spot b p text ∷ words_left (mode_after m (name text p)) blocks b (parsed text (next text p).next 34).next more
left_text m blocks b p more l h z c x =
    let text = block_at blocks b in
    left_behind m blocks b p (parsed text (next text p).next 34).next more (text_spot b p text) (text_left m b p text (omega arith) z c x)

-- words of screens have their screens' numbers
first_screen : (j : ℕ) (ws vs rest : List SourceWord) (w : SourceWord) → All (λ v. v.screen ≡ j) ws → (vs ≡ w ∷ rest → j + 1 ≤ w.screen) → ws ++ vs ≡ w ∷ rest → j ≤ w.screen
first_screen j [] vs rest w h f e = let q = f e in omega arith
first_screen j (v ∷ ws) vs rest w h f e = let q : v.screen ≡ j = All-head (λ (x : SourceWord). x.screen ≡ j) v ws h in let r : v ≡ w = cc in let s : w.screen ≡ j = ap (λ (x : SourceWord). x.screen) (sym r) ∙ q in omega arith

screens_from : (m : Mode) (j : ℕ) (xs : List (List ℕ)) (w : SourceWord) (rest : List SourceWord) → words_of_screens m j xs ≡ w ∷ rest → j ≤ w.screen
unfolding words_of_screens
screens_from m j [] w rest e = cc
screens_from m j (x ∷ xs) w rest e =
    first_screen j (screen_words m j x) (words_of_screens (after_words m (screen_words m j x)) (j + 1) xs) rest w
    (λ k d q. (words_stand m j x k d q).screen)
    (λ q. screens_from (after_words m (screen_words m j x)) (j + 1) xs w rest q)
    e

-- a name that is due is on the screen
pub due_here : (m : Mode) (blocks : List (List ℕ)) (b p more : ℕ) (w : SourceWord) (rest : List SourceWord) → let text = block_at blocks b in
    length text ≡ 1024 → p ≤ 1024 → words_left m blocks b p more ≡ w ∷ rest → w.screen ≡ b → ((next text p).len == 0) ≡ false
unfolding after_words
due_here m blocks b p more w rest l h e s = grind (arith, none_left, screens_from)

-- Buffers between screens: clean ones stay clean, and a screen that was in none is in none after the read of another.

or_left : (a b : Bool) → (a || b) ≡ false → a ≡ false
or_left a b h = grind arith

or_right : (a b : Bool) → (a || b) ≡ false → b ≡ false
or_right a b h = grind arith

or_both : (a b : Bool) → a ≡ false → b ≡ false → (a || b) ≡ false
or_both a b h g = rw (h, g) refl

none_taken : (p : Entry → Bool) (k : ℕ) (es : List Entry) → list_any p es ≡ false → list_any p (take k es) ≡ false
none_taken p zero es h = refl
none_taken p (suc k) [] h = refl
none_taken p (suc k) (e ∷ es) h = or_both (p e) (list_any p (take k es)) (or_left (p e) (list_any p es) h) (none_taken p k es (or_right (p e) (list_any p es) h))

pub lacks_assigned : (es : List Entry) (u v : ℕ) → holds es u ≡ false → (v == u) ≡ false → holds (assigned v es) u ≡ false
unfolding holds assigned
lacks_assigned es u v h e = or_both (v == u) (list_any (is_of u) (take (length es - 1) es)) e (none_taken (is_of u) (length es - 1) es h)

pub clean_assigned : (es : List Entry) (v : ℕ) → has_updated es ≡ false → has_updated (assigned v es) ≡ false
unfolding has_updated assigned
clean_assigned es v h = none_taken is_updated (length es - 1) es h

entry_clean : (es : List Entry) (i : ℕ) → list_any is_updated es ≡ false → (slice_index_or es i (unassigned_slot 0)).updated ≡ false
entry_clean [] i h = refl
entry_clean (e ∷ es) zero h = or_left e.updated (list_any is_updated es) h
entry_clean (e ∷ es) (suc i) h = entry_clean es i (or_right e.updated (list_any is_updated es) h)

pub victim_clean : (es : List Entry) → has_updated es ≡ false → (victim es).updated ≡ false
unfolding has_updated entry_at
victim_clean es h = entry_clean es (length es - 1) h

-- From a turn to the next word: comments, and the ends of screens.

wrap_small : (i : ℕ) → i < 65536 → wrap i ≡ i
wrap_small i h = omega arith

-- the bytes of (
is_paren : (nm : List ℕ) → begins_comment nm ≡ true → nm ≡ codes "("
unfolding begins_comment
is_paren nm h = (bytes_eq-Decides nm (codes "(")).0 h

-- the row of (
abbrev passes : Whole → Word → After
passes t w = done (record t { memory = put_cell t.memory 20 w.next })

abbrev passes_on : Whole → Stream → After
passes_on t st = passes t (parsed_in t.memory st 41)

paren_row : (u : Whole) (d : List ℕ) (i b p w : ℕ) (text : List ℕ) → Reading u b p text → row 145 w (at u d i) ≡ (at (record u { memory = put_cell u.memory 20 (parsed text p 41).next }) d i, Done)
unfolding row row_in input
paren_row u d i b p w text r = reads_here (at u d i) b p text passes_on (reading_at u d i b p text r) ∙ ap (λ (x : Word). passes (at u d i) x) (parsed_here u b p 41 text r)

or_true : (a b : Bool) → a ≡ true → (a || b) ≡ true
or_true a b e = rw e refl

-- words that are left, by those of this screen
pub left_by : (m : Mode) (blocks : List (List ℕ)) (b p q more : ℕ) → words_at m b p (block_at blocks b) ≡ words_at m b q (block_at blocks b) → words_left m blocks b p more ≡ words_left m blocks b q more
left_by m blocks b p q more e = ap (λ ws. ws ++ words_of_screens (after_words m ws) (b + 1) (take more (drop (b + 1) blocks))) e

-- a comment
pub record Commented (limit : ℕ) (w a : ℕ) (I : List ℕ → Type 0) (u : Whole) (f : Disk) (d : List ℕ) (b z more : ℕ) : Type 0 where
  pub memory : List ℕ
  pub leads : Leads w (spot (at u d a) f b more) (spot (at (record u { memory = memory }) d a) f b more)
  pub ready : Ready limit f (record u { memory = memory }) b z more
  pub inv : I memory

pub comment : {limit : ℕ} (ws : Words) (a here : ℕ) (n : List ℕ) (voc : ℕ) (I : List ℕ → Type 0) (u : Whole) (f : Disk) (d : List ℕ) (b p more : ℕ) →
    let text = block_at f.blocks b in
    Holds limit ws a here n voc I → Keys n voc → Ready limit f u b p more → I u.memory → length d ≤ 250 → ((next text p).len == 0) ≡ false → begins_comment (name text p) ≡ true
    → Commented limit ws.interpret a I u f d b (parsed text (next text p).next 41).next more
comment {limit} ws a here n voc I u f d b p more h keys r i l z c =
    let text = block_at f.blocks b in
    let read = r.reading in
    let s = h.sees u.memory i in
    let k = keys.paren in
    let e : sought u.memory (name text p) ≡ Found k.link = ap (λ x. sought u.memory x) (is_paren (name text p) c) ∙ s.sought_is (codes "(") ∙ k.found in
    let seen = s.header (codes "(") k.link k.found in
    let q = (next text p).next in
    let lt = length_text u b p text read in
    let hq : q ≤ 1024 = next_within text p lt read.within in
    let m1 = put_cell u.memory 20 q in
    let v : Whole = record u { memory = m1 } in
    let rv : Ready limit f v b q more = ready_aside f u m1 b p q more r (aside_moved u.memory q (ready_least r) read.all hq) in
    let m2 = put_cell m1 20 (parsed text q 41).next in
    let zz : Whole = record u { memory = m2 } in
    let i1 = h.keep u.memory m1 (moves u.memory q read.all) i in
    let i2 = h.keep m1 m2 (moves m1 (parsed text q 41).next rv.reading.all) i1 in
    let t1 = (h.sees m1 i1).thread in
    let t2 = (h.sees m2 i2).thread in
    let took = takes_executed (at u d (a + 2)) (next text p) (name text p) k.link z e (or_true (is_immediate u.memory k.link) (cell u.memory 16 == 0) (seen.immediate ∙ k.bit)) in
    let place : compilation_address u.memory k.link ≡ (compilation_address n k.link) = seen.address in
    let code : cell u.memory (compilation_address u.memory k.link) ≡ 145 = ap (λ y. cell u.memory y) place ∙ seen.code ∙ k.code in
    let made : row 145 (compilation_address u.memory k.link) (at v d (a + 16)) ≡ (at zz d (a + 16), Done) = paren_row v d (a + 16) b q (compilation_address u.memory k.link) text rv.reading in
    record {
      memory = m2;
      leads = leads_by ws.interpret 8 (at u d a) (at zz d a) f f b more (executed ws a here n voc u zz f d d (compilation_address u.memory k.link) 145 b p text s read l took (omega (arith, place)) (omega (arith, place)) code refl t1 t2 made);
      ready = ready_aside f v m2 b q (parsed text q 41).next more rv (aside_moved m1 (parsed text q 41).next (ready_least r) rv.reading.all ((parsed_within text q 41 lt hq).1));
      inv = i2;
    }

-- the token that comes again does what it would have done at its place
same_tick : (v : Whole) (d : List ℕ) (a w : ℕ) → a + 2 < 65536 → cell v.memory a ≡ w → ticked (due v d (a + 2) w) ≡ ticked (at v d a)
unfolding ticked
same_tick v d a w h c = rw (taken_due (due v d (a + 2) w) w refl, taken_at (at v d a) w refl c, wrap_small (a + 2) h) refl

same_rounds : (v : Whole) (d : List ℕ) (a w k : ℕ) (f : Disk) → a + 2 < 65536 → cell v.memory a ≡ w → rounds (suc k) (due v d (a + 2) w) f ≡ rounds (suc k) (at v d a) f
unfolding rounds
same_rounds v d a w k f h c = rw (same_tick v d a w h c) refl

-- a screen that is in no buffer is read first
read_rounds : (ws : Words) (u : Whole) (d : List ℕ) (a b j : ℕ) (f : Disk) → a + 22 ≤ GREATEST_LIMIT → cell u.memory a ≡ ws.scan → cell u.memory ws.scan ≡ 149 → cell (brought u b (block_at f.blocks b)).memory a ≡ ws.scan →
    cell u.memory 22 ≡ b → (b == 0) ≡ false → nat_lt b u.block_count ≡ true → holds u.buffers b ≡ false → (victim u.buffers).updated ≡ false → succeeds f b ≡ true → rounds (suc (suc j)) (at u d a) f ≡ rounds (suc j) (at (brought u b (block_at f.blocks b)) d a) (called f)
read_rounds ws u d a b j f h c r c2 e z v l y s =
    ask_step u d a (a + 2) ws.scan b j f (asked (at u d a) (at u d (a + 2)) ws.scan 149 (Read b) refl c r refl (rw (wrap_small (a + 2) (omega arith)) (scan_asks (at u d (a + 2)) b ws.scan e z v l y))) s (omega arith)
    ∙ same_rounds (brought u b (block_at f.blocks b)) d a ws.scan j (called f) (omega arith) c2

-- a machine that is about to be entered on a screen, which so many follow
pub record Before (limit : ℕ) (f : Disk) (u : Whole) (b more : ℕ) : Type 0 where
  pub all : length u.memory ≡ 65536
  pub buffers : AreBuffers u.buffers
  pub limit_is : limit_of (length u.buffers) ≡ limit
  pub clean : has_updated u.buffers ≡ false
  pub fresh : (j : ℕ) → b ≤ j → holds u.buffers j ≡ false
  pub count : u.block_count ≡ length f.blocks
  pub some : (b == 0) ≡ false
  pub room : b + more < length f.blocks

-- it is entered, the screen is read, and its first word is next
pub record Begun (limit : ℕ) (ws : Words) (a : ℕ) (I : List ℕ → Type 0) (u : Whole) (f : Disk) (d : List ℕ) (b more : ℕ) : Type 0 where
  pub parts : Whole
  pub rounds_are : (k : ℕ) → rounds (2 + suc k) (entered (record (at u d 0) { returns = [] }) ws.interpret b) f ≡ rounds (suc k) (at parts d a) (called f)
  pub ready : Ready limit (called f) parts b 0 more
  pub inv : I parts.memory

pub begin_screen : {limit : ℕ} (ws : Words) (a here : ℕ) (n : List ℕ) (voc : ℕ) (I : List ℕ → Type 0) (u : Whole) (f : Disk) (d : List ℕ) (b more : ℕ) → Holds limit ws a here n voc I → IsReliable f → Before limit f u b more → I u.memory → Begun limit ws a I u f d b more
begin_screen {limit} ws a here n voc I u f d b more h reliable r i =
    let text = block_at f.blocks b in
    let m1 = put_cell u.memory 22 b in
    let m2 = put_cell m1 20 0 in
    let l1 : length m1 ≡ 65536 = length_cell u.memory 22 b ∙ r.all in
    let l2 : length m2 ≡ 65536 = length_cell m1 20 0 ∙ l1 in
    let at_slot = address_of u.buffers (victim u.buffers).slot in
    let vs = (victim_at u.buffers r.buffers).1 in
    let u0 : Whole = record u { memory = m2; returns = [] } in
    let u1 : Whole = record u { memory = m2; returns = 0 ∷ [] } in
    let room = r.room in
    let lt : length text ≡ 1024 = reliable.pages b (omega arith) in
    let moved : MovesStream limit u.memory m2 = record { all = l2; same = λ j x z. byte_cell m1 20 0 j (omega arith) (omega arith) (omega arith) ∙ byte_cell u.memory 22 b j (omega arith) (omega arith) (omega arith) } in
    let ly : length (with_page m2 at_slot text) ≡ 65536 = length-with_page m2 text at_slot l2 vs lt in
    let i1 = h.keep u.memory m2 moved i in
    let i2 = h.keep m2 (with_page m2 at_slot text) (record { all = ly; same = λ j x z. byte_below m2 text at_slot j l2 vs (omega arith) }) i1 in
    let s2 = h.sees (with_page m2 at_slot text) i2 in
    let t1 = (h.sees m2 i1).thread in
    let blk : cell m2 22 ≡ b = cell_beside m1 20 0 22 (omega arith) (omega arith) (omega arith) (omega arith) (omega arith) ∙ cell_here u.memory 22 b r.all (omega arith) in
    let av : nat_lt b u.block_count ≡ true = rw r.count (grind arith) in
    let ok : succeeds f b ≡ true = let c = reliable.never_fails 0 in rw c (grind arith) in
    record {
      parts = brought u1 b text;
      rounds_are = λ k.
          ap (λ j. rounds j (due u0 d 0 ws.interpret) f) (omega arith)
          ∙ goes_enter u0 f d ws.interpret refl (omega arith) t1.entry (suc (suc k))
          ∙ ap (λ x. rounds (suc (suc k)) x f) (ap (λ j. at u1 d j) (sym t1.place))
          ∙ read_rounds ws u1 d a b k f (omega arith) t1.c0 t1.r0 s2.thread.c0 blk r.some av (r.fresh b (omega arith)) (victim_clean u.buffers r.clean) ok;
      ready = record {
        reading = brought_reads u1 b 0 text blk r.some av r.buffers (cell_here m1 20 0 l1 (omega arith)) (omega arith) l2 lt;
        returns = refl;
        buffers = are_assigned b u.buffers r.buffers;
        limit_is = ap (λ (k : ℕ). limit_of k) (length-assigned b u.buffers r.buffers) ∙ r.limit_is;
        clean = clean_assigned u.buffers b r.clean;
        fresh = λ j g. lacks_assigned u.buffers j b (r.fresh j (omega arith)) (grind arith);
        count = r.count;
        room = r.room;
      };
      inv = i2;
    }

pub reliable_called : (f : Disk) → IsReliable f → IsReliable (called f)
reliable_called f c = record {
  never_fails = λ i. ap next_fails (drop-drop i 1 f.coming ∙ ap (λ k. drop k f.coming) (omega arith)) ∙ c.never_fails (1 + i);
  pages = c.pages;
}

-- the end of a screen, and the beginning of the next
pub first_of : (w more b : ℕ) (s : Whole) (f : Disk) (k : ℕ) → then_screens w (suc more) b (out s f k Ended) ≡ then_screens w more (b + 1) (rounds k (entered s w b) f)
unfolding then_screens
first_of w more b s f k = refl

pub record Over (limit : ℕ) (ws : Words) (a : ℕ) (I : List ℕ → Type 0) (u : Whole) (f : Disk) (d : List ℕ) (b more : ℕ) : Type 0 where
  pub parts : Whole
  pub leads : Leads ws.interpret (spot (at u d a) f b (suc more)) (spot (at parts d a) (called f) (b + 1) more)
  pub ready : Ready limit (called f) parts (b + 1) 0 more
  pub inv : I parts.memory

pub over : {limit : ℕ} (ws : Words) (a here : ℕ) (n : List ℕ) (voc : ℕ) (I : List ℕ → Type 0) (u : Whole) (f : Disk) (d : List ℕ) (b p more : ℕ) →
    let text = block_at f.blocks b in
    Holds limit ws a here n voc I → IsReliable f → Ready limit f u b p (suc more) → I u.memory → length d ≤ 250 → ((next text p).len == 0) ≡ true → Over limit ws a I u f d b more
over {limit} ws a here n voc I u f d b p more h reliable r i l z =
    let text = block_at f.blocks b in
    let read = r.reading in
    let s = h.sees u.memory i in
    let q = (next text p).next in
    let m1 = put_cell u.memory 20 q in
    let v : Whole = record u { memory = m1 } in
    let i1 = h.keep u.memory m1 (moves u.memory q read.all) i in
    let t1 = (h.sees m1 i1).thread in
    let ends : (k : ℕ) → rounds (3 + suc k) (at u d a) f ≡ out (record (at v d 0) { returns = [] }) f k Ended = λ k. ended_screen ws a here n voc u f d b p k text s read l (takes_none (at u d (a + 2)) (next text p) (name text p) z) t1 r.returns in
    let room = r.room in
    let before : Before limit f v (b + 1) more = record {
      all = (ready_aside f u m1 b p q (suc more) r (aside_moved u.memory q (ready_least r) read.all (next_within text p (length_text u b p text read) read.within))).reading.all;
      buffers = r.buffers;
      limit_is = r.limit_is;
      clean = r.clean;
      fresh = λ j g. r.fresh j (omega arith);
      count = r.count;
      some = grind arith;
      room = omega arith;
    } in
    let g = begin_screen ws a here n voc I v f d (b + 1) more h reliable before i1 in
    record {
      parts = g.parts;
      leads = record {
        ticks = 6;
        is = λ k.
            ap (λ j. then_screens ws.interpret (suc more) (b + 1) (rounds j (at u d a) f)) (omega arith)
            ∙ ap (λ o. then_screens ws.interpret (suc more) (b + 1) o) (ends (2 + suc k))
            ∙ first_of ws.interpret more (b + 1) (record (at v d 0) { returns = [] }) f (2 + suc k)
            ∙ ap (λ o. then_screens ws.interpret more (b + 1 + 1) o) (g.rounds_are k);
      };
      ready = g.ready;
      inv = g.inv;
    }

-- the words of the screens that follow
pub block_first : (blocks : List (List ℕ)) (j more : ℕ) → j < length blocks → take (suc more) (drop j blocks) ≡ block_at blocks j ∷ take more (drop (j + 1) blocks)
block_first blocks j more h = ap (λ xs. take (suc more) xs) (drop_more blocks j [] h)

pub screens_left : (m : Mode) (blocks : List (List ℕ)) (b more : ℕ) → b < length blocks → words_of_screens m b (take (suc more) (drop b blocks)) ≡ words_left m blocks b 0 more
unfolding words_of_screens screen_words words_at
screens_left m blocks b more h = rw (block_first blocks b more h) refl

pub left_over : (m : Mode) (blocks : List (List ℕ)) (b p more : ℕ) → b + 1 < length blocks → words_at m b p (block_at blocks b) ≡ [] → words_left m blocks b p (suc more) ≡ words_left m blocks (b + 1) 0 more
unfolding after_words
left_over m blocks b p more h e = rw e (screens_left m blocks (b + 1) more h)

pub left_none : (m : Mode) (blocks : List (List ℕ)) (b p : ℕ) → words_at m b p (block_at blocks b) ≡ [] → words_left m blocks b p 0 ≡ []
unfolding after_words words_of_screens
left_none m blocks b p e = rw e refl

-- after a comment the stream is further on
pub further : (text : List ℕ) (p : ℕ) → length text ≡ 1024 → p ≤ 1024 → ((next text p).len == 0) ≡ false → p < (parsed text (next text p).next 41).next
further text p l h z =
    let w : IsNextWord text p 32 (next text p) = word_law text p 32 (omega arith) in
    let q = (next text p).next in
    let one : (next text p).at + (next text p).len ≤ q = grind (arith, w.taken.stopped, w.taken.ended) in
    let hq : q ≤ 1024 = next_within text p l h in
    let t : IsTaken text 41 (parsed text q 41) = taken-parsed text q 41 (omega arith) in
    grind arith

-- what is met after some ticks more
met_on : {limit : ℕ} (w a : ℕ) (I : List ℕ → Type 0) (mode : Mode) (u u1 : Whole) (f f1 : Disk) (d : List ℕ) (b b1 more more1 : ℕ) (left : List SourceWord) → f1.blocks ≡ f.blocks → Leads w (spot (at u d a) f b more) (spot (at u1 d a) f1 b1 more1)
    → Met limit w a I mode u1 f1 d b1 more1 left → Met limit w a I mode u f d b more left
met_on {limit} w a I mode u u1 f f1 d b b1 more more1 left e k x = record {
  parts = x.parts;
  disk = x.disk;
  screen = x.screen;
  place = x.place;
  others = x.others;
  leads = leads_on w (spot (at u d a) f b more) (spot (at u1 d a) f1 b1 more1) (spot (at x.parts d a) x.disk x.screen x.others) k x.leads;
  ready = x.ready;
  reliable = x.reliable;
  blocks = x.blocks ∙ e;
  inv = x.inv;
  some = x.some;
  word = x.word;
  words = x.words;
}

-- what comes on this screen, or else by what comes on the next
within : {limit : ℕ} (ws : Words) (a here : ℕ) (n : List ℕ) (voc : ℕ) (I : List ℕ → Type 0) (mode : Mode) (f : Disk) (d : List ℕ) (b more : ℕ) (v : SourceWord) (rest : List SourceWord) (fuel : ℕ) →
    Holds limit ws a here n voc I → Keys n voc → is_name_due mode ≡ false → length d ≤ 250 →
    ((u : Whole) (p : ℕ) → Ready limit f u b p more → I u.memory → ((next (block_at f.blocks b) p).len == 0) ≡ true → words_left mode f.blocks b p more ≡ v ∷ rest → Met limit ws.interpret a I mode u f d b more (v ∷ rest)) →
    (u : Whole) (p : ℕ) → 1024 ≤ p + fuel → Ready limit f u b p more → IsReliable f → I u.memory → words_left mode f.blocks b p more ≡ v ∷ rest → Met limit ws.interpret a I mode u f d b more (v ∷ rest)
within {limit} ws a here n voc I mode f d b more v rest zero h keys due l end u p g r reliable i e =
    let text = block_at f.blocks b in
    let w : IsNextWord text p 32 (next text p) = word_law text p 32 (let k = r.reading.within in omega arith) in
    end u p r i (grind arith) e
within {limit} ws a here n voc I mode f d b more v rest (suc fuel) h keys due l end u p g r reliable i e =
    by (λ u1 p1 g1 r1 i1 e1. within ws a here n voc I mode f d b more v rest fuel h keys due l end u1 p1 g1 r1 reliable i1 e1) ((next text p).len == 0) refl
  where
    text : List ℕ
    text = block_at f.blocks b

    lt : length text ≡ 1024
    lt = length_text u b p text r.reading

    comments : (go : (u1 : Whole) (p1 : ℕ) → 1024 ≤ p1 + fuel → Ready limit f u1 b p1 more → I u1.memory → words_left mode f.blocks b p1 more ≡ v ∷ rest → Met limit ws.interpret a I mode u1 f d b more (v ∷ rest)) (x : Bool) → begins_comment (name text p) ≡ x → ((next text p).len == 0) ≡ false → Met limit ws.interpret a I mode u f d b more (v ∷ rest)
    comments go true c z =
        let one = comment ws a here n voc I u f d b p more h keys r i l z c in
        let far = further text p lt r.reading.within z in
        let same = comment_left mode b p text (omega arith) z (rw due c) in
        let q = (parsed text (next text p).next 41).next in
        let more_of = go (record u { memory = one.memory }) q (omega arith) one.ready one.inv (sym (left_by mode f.blocks b p q more same) ∙ e) in
        met_on ws.interpret a I mode u (record u { memory = one.memory }) f f d b b more more (v ∷ rest) refl one.leads more_of
    comments go false c z = record {
      parts = u;
      disk = f;
      screen = b;
      place = p;
      others = more;
      leads = leads_none ws.interpret (spot (at u d a) f b more);
      ready = r;
      reliable = reliable;
      blocks = refl;
      inv = i;
      some = z;
      word = c;
      words = e;
    }

    by : (go : (u1 : Whole) (p1 : ℕ) → 1024 ≤ p1 + fuel → Ready limit f u1 b p1 more → I u1.memory → words_left mode f.blocks b p1 more ≡ v ∷ rest → Met limit ws.interpret a I mode u1 f d b more (v ∷ rest)) (x : Bool) → ((next text p).len == 0) ≡ x → Met limit ws.interpret a I mode u f d b more (v ∷ rest)
    by go true z = end u p r i z e
    by go false z = comments go (begins_comment (name text p)) refl z

no_words : (v : SourceWord) (rest : List SourceWord) → [] ≡ v ∷ rest → ⊥
no_words v rest e = cc

pub seek : {limit : ℕ} (ws : Words) (a here : ℕ) (n : List ℕ) (voc : ℕ) (I : List ℕ → Type 0) (mode : Mode) (more : ℕ) (d : List ℕ) (v : SourceWord) (rest : List SourceWord) →
    Holds limit ws a here n voc I → Keys n voc → is_name_due mode ≡ false → length d ≤ 250 →
    (f : Disk) (b : ℕ) (u : Whole) (p : ℕ) → Ready limit f u b p more → IsReliable f → I u.memory → words_left mode f.blocks b p more ≡ v ∷ rest → Met limit ws.interpret a I mode u f d b more (v ∷ rest)
seek {limit} ws a here n voc I mode zero d v rest h keys due l f b u p r reliable i e =
    within ws a here n voc I mode f d b 0 v rest 1024 h keys due l
    (λ u1 p1 r1 i1 z e1.
    absurd (no_words v rest (sym (left_none mode f.blocks b p1 (none_left mode b p1 (block_at f.blocks b) (omega arith) z)) ∙ e1)))
    u p (omega arith) r reliable i e
seek {limit} ws a here n voc I mode (suc more) d v rest h keys due l f b u p r reliable i e =
    within ws a here n voc I mode f d b (suc more) v rest 1024 h keys due l
    (λ u1 p1 r1 i1 z e1.
    let one = over ws a here n voc I u1 f d b p1 more h reliable r1 i1 l z in
    let same = left_over mode f.blocks b p1 more (omega arith) (none_left mode b p1 (block_at f.blocks b) (omega arith) z) in
    let two = seek ws a here n voc I mode more d v rest h keys due l (called f) (b + 1) one.parts 0 one.ready (reliable_called f reliable) one.inv (sym same ∙ e1) in
    met_on ws.interpret a I mode u1 one.parts f (called f) d b (b + 1) (suc more) more (v ∷ rest) refl one.leads two)
    u p (omega arith) r reliable i e
