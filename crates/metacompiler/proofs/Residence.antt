-- How residence is decided.
use Rattle.std.proofs.Common.{◌≡◌, ℕ, suc, ◌+◌, ◌≤◌, ◌<◌, ◌⊎◌, inl, inr, ◌∷◌, List, [], length, Bool, true, false, Some, refl, ap, subst, ◌∙◌, arith, ◌*◌, ◌%◌, ◌++◌, sym, append_assoc, length-append}
use Rattle.std.specs.Prelude.{◌==◌, ◌&&◌, ◌||◌, nat_le, codes, slice_index, Result, IfOk, IsTrue}
use Rattle.std.specs.List.{list_all, list_any, Contains}
use Rattle.std.proofs.lemmas.List.Elements.{All-contains}
use Rattle.std.proofs.lemmas.List.Sums.{AllPass-from_list_all}
use Rattle.std.proofs.lemmas.Bool.{eqb-true}
use Rattle.std.proofs.lemmas.List.{get_or-append-add, get_or_append_left}
use Rattle.memory.specs.Bytes.{cell}
use Rattle.dictionary.specs.Header.{compilation_address}
use Rattle.dictionary.specs.Search.{Sought, Found, sought_from, sought, by_address, head_of}
use Rattle.colon_bodies.specs.Tokens.{Token, TICK, FORCE, COMPILE, IF, ELSE, THEN, BEGIN, UNTIL, AGAIN, WHILE, REPEAT, DO, LOOP, TEXT, DOES, SEMI}
use Rattle.image_builder.specs.Spelled.{keyword, naming, choosing, repeating, counting, saying, ending}
use Rattle.memory.specs.declared.system.TheConstants.{CURRENT, CONTEXT}
use Rattle.cells.specs.Cell.{wrap}
use Rattle.dictionary.specs.Chain.{chain}
use Rattle.metacompiler.specs.Loop.{Words, Thread}
use Rattle.metacompiler.specs.Meaning.{Key, IsKey, Keys}
use Rattle.metacompiler.specs.Residency.{has_keyword, has_colon, has_compile, is_keyword_at, is_colon_at, is_compile_at, has_naming, has_choosing, has_repeating, has_counting, has_saying, has_keys, words_at, has_thread, are_apart, is_apart_from, is_within, is_beside, has_header, HasChains, has_words, is_idle, is_record, are_records_apart, is_thread_beside, are_placed, passes, IsResident, AllIn, Walked, Joined, ChainIn, JoinedAll}
use Rattle.metacompiler.specs.Resident.{fields, IsRead, IsRecord, end_of_header, AreHeadersApart, AreRecordsApart, IsHeaderBeside, IsThreadBeside}
use Rattle.metacompiler.proofs.Folding.{split}

-- What the tests of a resident memory show.

both : (a b : Bool) → (a && b) ≡ true → (a ≡ true) × (b ≡ true)
both a b e = grind arith

first : (a b : Bool) → (a && b) ≡ true → a ≡ true
first a b e = (both a b e).0

second : (a b : Bool) → (a && b) ≡ true → b ≡ true
second a b e = (both a b e).1

ruleset tests = (first, second)

-- a keyword that is found
keyword_at : (m : List ℕ) (voc : ℕ) (name : List ℕ) (number : ℕ) (s : Sought) → sought_from m voc name ≡ s → is_keyword_at m number s ≡ true → Key m voc name number true
keyword_at m voc name number s e h = grind arith

keyword_by : (m : List ℕ) (voc : ℕ) (name : List ℕ) (number : ℕ) → has_keyword m voc name number ≡ true → Key m voc name number true
unfolding has_keyword
keyword_by m voc name number h = keyword_at m voc name number (sought_from m voc name) refl h

colon_at : (m : List ℕ) (voc : ℕ) (s : Sought) → sought_from m voc (codes ":") ≡ s → is_colon_at m s ≡ true → Key m voc (codes ":") 168 false
colon_at m voc s e h = grind arith

colon_by : (m : List ℕ) (voc : ℕ) → has_colon m voc ≡ true → Key m voc (codes ":") 168 false
unfolding has_colon
colon_by m voc h = colon_at m voc (sought_from m voc (codes ":")) refl h

compile_at : (m : List ℕ) (voc : ℕ) (s : Sought) → sought_from m voc (codes "COMPILE") ≡ s → is_compile_at m s ≡ true → IsKey m voc (codes "COMPILE") COMPILE
compile_at m voc s e h = grind arith

compile_by : (m : List ℕ) (voc : ℕ) → has_compile m voc ≡ true → IsKey m voc (codes "COMPILE") COMPILE
unfolding has_compile
compile_by m voc h = compile_at m voc (sought_from m voc (codes "COMPILE")) refl h

-- the keyword that a name is
same_token : (k w : Token) (P : Token → Type 0) → P k → Some k ≡ Some w → P w
same_token k w P x e = let q : k ≡ w = cc in subst P q x

keys_by : (m : List ℕ) (voc : ℕ) → has_colon m voc ≡ true → has_keyword m voc (codes "(") 145 ≡ true → has_naming m voc ≡ true → has_choosing m voc ≡ true → has_repeating m voc ≡ true → has_counting m voc ≡ true → has_saying m voc ≡ true → Keys m voc
unfolding keyword naming choosing repeating counting saying ending
keys_by m voc c p n ch re co sa = record {
  colon = colon_by m voc c;
  paren = keyword_by m voc (codes "(") 145 p;
  keywords = λ name text w e. each name text w e;
}
  where
    each : (name text : List ℕ) (w : Token) → keyword name text ≡ Some w → IsKey m voc name w
    each name text w =
        let P = λ (x : List ℕ). keyword x text ≡ Some w → IsKey m voc x w in
        let at = λ (x : List ℕ) (k : Token) (y : IsKey m voc x k) (e : Some k ≡ Some w). same_token k w (λ j. IsKey m voc x j) y e in
        split name (codes "[']") P (at (codes "[']") TICK (keyword_by m voc (codes "[']") 176 (search tests depth 9))) (λ e1.
        split name (codes "[COMPILE]") P (at (codes "[COMPILE]") FORCE (keyword_by m voc (codes "[COMPILE]") 177 (search tests depth 9))) (λ e2.
        split name (codes "COMPILE") P (at (codes "COMPILE") COMPILE (compile_by m voc (search tests depth 9))) (λ e3.
        split name (codes "IF") P (at (codes "IF") IF (keyword_by m voc (codes "IF") 179 (search tests depth 9))) (λ e4.
        split name (codes "ELSE") P (at (codes "ELSE") ELSE (keyword_by m voc (codes "ELSE") 180 (search tests depth 9))) (λ e5.
        split name (codes "THEN") P (at (codes "THEN") THEN (keyword_by m voc (codes "THEN") 181 (search tests depth 9))) (λ e6.
        split name (codes "BEGIN") P (at (codes "BEGIN") BEGIN (keyword_by m voc (codes "BEGIN") 182 (search tests depth 9))) (λ e7.
        split name (codes "UNTIL") P (at (codes "UNTIL") UNTIL (keyword_by m voc (codes "UNTIL") 183 (search tests depth 9))) (λ e8.
        split name (codes "AGAIN") P (at (codes "AGAIN") AGAIN (keyword_by m voc (codes "AGAIN") 186 (search tests depth 9))) (λ e9.
        split name (codes "WHILE") P (at (codes "WHILE") WHILE (keyword_by m voc (codes "WHILE") 184 (search tests depth 9))) (λ e10.
        split name (codes "REPEAT") P (at (codes "REPEAT") REPEAT (keyword_by m voc (codes "REPEAT") 185 (search tests depth 9))) (λ e11.
        split name (codes "DO") P (at (codes "DO") DO (keyword_by m voc (codes "DO") 187 (search tests depth 9))) (λ e12.
        split name (codes "LOOP") P (at (codes "LOOP") (LOOP false) (keyword_by m voc (codes "LOOP") 188 (search tests depth 9))) (λ e13.
        split name (codes "+LOOP") P (at (codes "+LOOP") (LOOP true) (keyword_by m voc (codes "+LOOP") 189 (search tests depth 9))) (λ e14.
        split name (codes ".\"") P (at (codes ".\"") (TEXT false text) (keyword_by m voc (codes ".\"") 190 (search tests depth 9))) (λ e15.
        split name (codes "ABORT\"") P (at (codes "ABORT\"") (TEXT true text) (keyword_by m voc (codes "ABORT\"") 191 (search tests depth 9))) (λ e16.
        split name (codes "DOES>") P (at (codes "DOES>") DOES (keyword_by m voc (codes "DOES>") 178 (search tests depth 9))) (λ e17.
        split name (codes ";") P (at (codes ";") SEMI (keyword_by m voc (codes ";") 169 (search tests depth 9))) (λ e18.
        rw (e1, e2, e3, e4, e5, e6, e7, e8, e9, e10, e11, e12, e13, e14, e15, e16, e17, e18) (λ e. cc)))))))))))))))))))

pub keys_of : (m : List ℕ) (voc : ℕ) → has_keys m voc ≡ true → Keys m voc
unfolding has_keys
keys_of m voc h = keys_by m voc (search tests depth 9) (search tests depth 9) (search tests depth 9) (search tests depth 9) (search tests depth 9) (search tests depth 9) (search tests depth 9)

le_of : (a b : ℕ) → nat_le a b ≡ true → a ≤ b
le_of a b h = grind arith

-- the thread
pub thread_of : (m : List ℕ) (word : ℕ) → has_thread m word ≡ true → Thread (words_at m word) m (word + 2)
unfolding has_thread
thread_of m word h =
    let ws = words_at m word in
    let far : word ≤ 65511 = le_of word 65511 (search tests depth 9) in
    let at = λ (i j : ℕ) (e : i ≡ j). ap (λ (x : ℕ). cell m x) e in
    record {
      within = omega arith;
      place = refl;
      entry = eqb-true (cell m word) 1 (search tests depth 9);
      c0 = refl;
      c2 = at (word + 2 + 2) (word + 4) (omega arith);
      c4 = at (word + 2 + 4) (word + 6) (omega arith);
      c6 = at (word + 2 + 6) (word + 8) (omega arith) ∙ eqb-true (cell m (word + 8)) (word + 22) (search tests depth 9) ∙ omega arith;
      c8 = at (word + 2 + 8) (word + 10) (omega arith);
      c10 = at (word + 2 + 10) (word + 12) (omega arith) ∙ eqb-true (cell m (word + 12)) (cell m (word + 6)) (search tests depth 9);
      c12 = at (word + 2 + 12) (word + 14) (omega arith) ∙ eqb-true (cell m (word + 14)) (word + 18) (search tests depth 9) ∙ omega arith;
      c14 = at (word + 2 + 14) (word + 16) (omega arith);
      c16 = at (word + 2 + 16) (word + 18) (omega arith);
      c18 = at (word + 2 + 18) (word + 20) (omega arith) ∙ eqb-true (cell m (word + 20)) (word + 2) (search tests depth 9);
      c20 = at (word + 2 + 20) (word + 22) (omega arith);
      r0 = eqb-true (cell m ws.scan) 149 (search tests depth 9);
      r2 = eqb-true (cell m ws.query_dup) 39 (search tests depth 9);
      r4 = eqb-true (cell m ws.zero_branch) 8 (search tests depth 9);
      r8 = eqb-true (cell m ws.zero_greater) 77 (search tests depth 9);
      r14 = eqb-true (cell m ws.execute) 15 (search tests depth 9);
      r16 = eqb-true (cell m ws.branch) 7 (search tests depth 9);
      r20 = eqb-true (cell m ws.exit) 5 (search tests depth 9);
    }

-- lists
contains_more : (x : ℕ) (xs : List ℕ) (l : ℕ) → Contains xs l → Contains (x ∷ xs) l
contains_more x xs l c = (suc c.0, omega (arith, c.1), c.2)

any_found : (p : ℕ → Bool) (xs : List ℕ) → list_any p xs ≡ true → (l : ℕ) × Contains xs l × (p l ≡ true)
any_found p [] h = cc
any_found p (x ∷ xs) h = by (λ q. any_found p xs q) (p x) refl h
  where
    by : (go : list_any p xs ≡ true → (l : ℕ) × Contains xs l × (p l ≡ true)) (b : Bool) → p x ≡ b → (b || list_any p xs) ≡ true → (l : ℕ) × Contains (x ∷ xs) l × (p l ≡ true)
    by go true e q = (x, (0, omega arith, refl), e)
    by go false e q = let r = go q in (r.0, contains_more x xs r.0 r.1, r.2)

all_at : (p : ℕ → Bool) (xs : List ℕ) (l : ℕ) → list_all p xs ≡ true → Contains xs l → p l ≡ true
all_at p xs l h c = All-contains (λ x. p x ≡ true) xs l (AllPass-from_list_all p xs h) c

either : (a b : Bool) → (a || b) ≡ true → (a ≡ true) ⊎ (b ≡ true)
either a b e = grind arith

-- headers
header_of : (m hs : List ℕ) (w : ℕ) → has_header m hs w ≡ true → (l : ℕ) × Contains hs l × (compilation_address m l ≡ w)
unfolding has_header
header_of m hs w h = let r = any_found (λ l. compilation_address m l == w) hs h in (r.0, r.1, eqb-true (compilation_address m r.0) w r.2)

within_of : (m : List ℕ) (l : ℕ) → is_within m l ≡ true → (258 ≤ l) × (end_of_header m l ≤ cell m 28)
unfolding is_within
within_of m l h = grind arith

apart_of : (m : List ℕ) (l k : ℕ) → are_apart m l k ≡ true → AreHeadersApart m l k
unfolding are_apart
apart_of m l k h = grind arith

all_apart_of : (m hs : List ℕ) (l k : ℕ) → list_all (is_apart_from m hs) hs ≡ true → Contains hs l → Contains hs k → AreHeadersApart m l k
unfolding is_apart_from
all_apart_of m hs l k h c d = apart_of m l k (all_at (are_apart m l) hs k (all_at (is_apart_from m hs) hs l h c) d)

beside_of : (m : List ℕ) (voc l : ℕ) → is_beside m voc l ≡ true → IsHeaderBeside m voc l
unfolding is_beside
beside_of m voc l h = grind arith

-- records
record_of : (m : List ℕ) (voc : ℕ) → is_record m voc ≡ true → IsRecord m voc
record_of m voc h = grind arith

records_of : (voc other : ℕ) → are_records_apart voc other ≡ true → AreRecordsApart voc other
records_of voc other h = grind arith

beside_thread : (voc word : ℕ) → is_thread_beside voc word ≡ true → IsThreadBeside voc (word + 2)
beside_thread voc word h = grind arith

-- the words of the thread
named_of : (m hs : List ℕ) (ws : Words) → has_words m hs ws ≡ true → (w : ℕ) → Contains (fields ws) w → (l : ℕ) × Contains hs l × (compilation_address m l ≡ w)
named_of m hs ws h w c = grind (arith, header_of, both)

read_in : (m hs : List ℕ) (l : ℕ) → HasChains m hs → IsRead hs m l → Contains hs l
read_in m hs l c y0 = grind arith

link_of : (m : List ℕ) (word : ℕ) (s : Sought) → by_address m s ≡ Found word → (l : ℕ) × (s ≡ Found l) × (compilation_address m l ≡ word)
link_of m word s e = grind arith

idle_of : (m : List ℕ) (limit : ℕ) → is_idle m limit ≡ true → (cell m 16 ≡ 0) × (cell m 18 ≡ 10) × (cell m 28 ≤ limit) × (256 ≤ cell m 28)
unfolding is_idle
idle_of m limit h = grind arith

record Placed (m : List ℕ) (cur ctx word : ℕ) : Type 0 where
  current_in : IsRecord m cur
  context_in : IsRecord m ctx
  apart : AreRecordsApart cur ctx
  thread_in : (256 ≤ word + 2) × (word + 2 + 22 ≤ cell m 28)
  thread_current : IsThreadBeside cur (word + 2)
  thread_context : IsThreadBeside ctx (word + 2)

placed_of : (m : List ℕ) (cur ctx word : ℕ) → are_placed m cur ctx word ≡ true → Placed m cur ctx word
unfolding are_placed
placed_of m cur ctx word h =
    let lo = le_of 254 word (search tests depth 9) in
    let hi = le_of (word + 24) (cell m 28) (search tests depth 9) in
    record {
      current_in = record_of m cur (search tests depth 9);
      context_in = record_of m ctx (search tests depth 9);
      apart = records_of cur ctx (search tests depth 9);
      thread_in = (omega arith, omega arith);
      thread_current = beside_thread cur word (search tests depth 9);
      thread_context = beside_thread ctx word (search tests depth 9);
    }

-- A memory that passes all tests is resident.
pub resident_of : (m : List ℕ) (limit word : ℕ) (hs : List ℕ) → by_address m (sought m (codes "INTERPRET")) ≡ Found word → HasChains m hs → passes m limit word hs ≡ true → IsResident limit m
resident_of m limit word hs found chains h =
    let cur = cell m 34 in
    let ctx = cell m 32 in
    let ws = words_at m word in
    let link = link_of m word (sought m (codes "INTERPRET")) found in
    let idle = idle_of m limit (search tests depth 12) in
    let placed = placed_of m cur ctx word (search tests depth 12) in (
      ws,
      word + 2,
      record {
        link = link.0;
        interpret = link.1;
        address = link.2;
        thread = thread_of m word (search tests depth 12);
        headers = hs;
        named = named_of m hs ws (search tests depth 12);
        first_keys = keys_of m ctx (search tests depth 12);
        keys = keys_of m cur (search tests depth 12);
        chains = λ g i. (chains g i).short;
        executing = idle.0;
        ten = idle.1;
        high = idle.2;
        low = idle.3;
        headers_in = λ l i. within_of m l (all_at (is_within m) hs l (search tests depth 12) (read_in m hs l chains i));
        headers_apart = λ l k i j. all_apart_of m hs l k (search tests depth 12) (read_in m hs l chains i) (read_in m hs k chains j);
        current_in = placed.current_in;
        context_in = placed.context_in;
        records_apart = placed.apart;
        current_apart = λ l i. beside_of m cur l (all_at (is_beside m cur) hs l (search tests depth 12) (read_in m hs l chains i));
        context_apart = λ l i. beside_of m ctx l (all_at (is_beside m ctx) hs l (search tests depth 12) (read_in m hs l chains i));
        thread_in = placed.thread_in;
        thread_current = placed.thread_current;
        thread_context = placed.thread_context;
      },
    )

-- Chains that join a list of headers.

append_none : (xs : List ℕ) → xs ++ [] ≡ xs
append_none [] = refl
append_none (x ∷ xs) = ap (λ ys. x ∷ ys) (append_none xs)

in_left : (xs ys : List ℕ) → AllIn xs (xs ++ ys)
in_left xs ys l c = (c.0, omega (arith, c.1, length-append xs ys), get_or_append_left xs ys l c.0 c.1 ∙ c.2)

in_right : (xs ys : List ℕ) → AllIn ys (xs ++ ys)
in_right xs ys l c = (length xs + c.0, omega (arith, c.1, length-append xs ys), get_or-append-add xs ys c.0 l ∙ c.2)

pub walked_none : (m : List ℕ) (head : ℕ) (old : List ℕ) → Walked m head old old (cell m head) 32768
walked_none m head old = record { same = refl; count = refl }

chain_one : (m : List ℕ) (k l : ℕ) → (l == 0) ≡ false → chain m (suc k) l ≡ l ∷ chain m k (cell m l)
unfolding chain
chain_one m k l e = rw e refl

pub walked_more : (m : List ℕ) (head : ℕ) (old new : List ℕ) (l left : ℕ) → Walked m head old new l (suc left) → (l == 0) ≡ false → Walked m head old (new ++ (l ∷ [])) (cell m l) left
walked_more m head old new l left w e = search (arith, append_assoc, chain_one, length-append)

pub walked_all : (m : List ℕ) (head : ℕ) (old new : List ℕ) (left : ℕ) → Walked m head old new 0 left → Joined m head old new
unfolding chain
walked_all m head old new left w =
    let e : new ≡ old ++ chain m 32769 (cell m head) = sym (append_none new) ∙ w.same in
    let size = ap (λ (xs : List ℕ). length xs) e ∙ length-append old (chain m 32769 (cell m head)) in
    record {
      kept = subst (λ xs. AllIn old xs) (sym e) (in_left old (chain m 32769 (cell m head)));
      members = subst (λ xs. AllIn (chain m 32769 (cell m head)) xs) (sym e) (in_right old (chain m 32769 (cell m head)));
      short = omega arith;
    }

-- the chains of a vocabulary
in_all : (m : List ℕ) (head : ℕ) (a b c : List ℕ) → Joined m head a b → AllIn b c → ChainIn m head c
in_all m head a b c j k = record { members = λ l x. k l (j.members l x); short = j.short }

all_on : (a b c : List ℕ) → AllIn a b → AllIn b c → AllIn a c
all_on a b c x y = λ l h. y l (x l h)

self : (a : List ℕ) → AllIn a a
self a = λ l h. h

class_of : (P : ℕ → Type 0) (n : ℕ) → n < 4 → P 0 → P 1 → P 2 → P 3 → P n
class_of P n h a b c d = grind arith

class_small : (b : ℕ) → b % 4 < 4
class_small b = omega arith

wrap_twice : (voc : ℕ) → voc < 65536 → wrap (voc + 0) ≡ voc
wrap_twice voc h = omega arith

pub joined_all : (m : List ℕ) (voc : ℕ) (a b c d e : List ℕ) → voc < 65536 → Joined m voc a b → Joined m (wrap (voc + 2)) b c → Joined m (wrap (voc + 4)) c d → Joined m (wrap (voc + 6)) d e → JoinedAll m voc a e
unfolding head_of
joined_all m voc a b c d e small p q r s =
    let de = s.kept in
    let ce = all_on c d e r.kept de in
    let be = all_on b c e q.kept ce in
    record {
      kept = all_on a b e p.kept be;
      chains = λ x. class_of (λ k. ChainIn m (wrap (voc + 2 * k)) e) (slice_index x 0 % 4) (class_small (slice_index x 0))
          (subst (λ (h : ℕ). ChainIn m h e) (sym (wrap_twice voc small)) (in_all m voc a b e p be))
          (in_all m (wrap (voc + 2)) b c e q ce)
          (in_all m (wrap (voc + 4)) c d e r de)
          (in_all m (wrap (voc + 6)) d e e s (self e));
    }

in_more : (m : List ℕ) (h : ℕ) (b c : List ℕ) → ChainIn m h b → AllIn b c → ChainIn m h c
in_more m h b c x k = record { members = λ l y. k l (x.members l y); short = x.short }

pub has_chains : (m : List ℕ) (a b c d : List ℕ) → JoinedAll m (cell m CURRENT) a b → JoinedAll m (cell m CONTEXT) b c → JoinedAll m 42 c d → HasChains m d
has_chains m a b c d p q r h (x, inl e) = subst (λ (j : ℕ). ChainIn m j d) (sym e) (in_more m (head_of (cell m CURRENT) x) b d (p.chains x) (all_on b c d q.kept r.kept))
has_chains m a b c d p q r h (x, inr (inl e)) = subst (λ (j : ℕ). ChainIn m j d) (sym e) (in_more m (head_of (cell m CONTEXT) x) c d (q.chains x) r.kept)
has_chains m a b c d p q r h (x, inr (inr e)) = subst (λ (j : ℕ). ChainIn m j d) (sym e) (r.chains x)

-- what holds if an answer is true
pub where_true : {E : Type 0} (r : Result Bool E) (A B : Type 0) → IfOk r (λ w. IsTrue w → A) → (A → B) → IfOk r (λ w. IsTrue w → B)
where_true r A B x f = grind arith
