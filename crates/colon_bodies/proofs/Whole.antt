-- The loop over the words.
use Rattle.std.proofs.Common.{◌≡◌, false, ℕ, ◌+◌, ◌<◌, ◌≤◌, ◌⊎◌, List, [], ◌∷◌, ◌++◌, length, map, take, drop, get_or, zero, suc, Some, refl, sym, ap, ◌∙◌, subst, arith, append_assoc, append-nil, length-append}
use Rattle.colon_bodies.specs.declared.words.Half.TheVariants.{Free}
use Rattle.colon_bodies.specs.declared.draft.Draft.{Draft}
use Rattle.colon_bodies.specs.declared.fault.BodyCause.{BodyCause}
use Rattle.colon_bodies.specs.declared.fault.BodyCause.TheVariants as r
use Rattle.colon_bodies.specs.Tokens.{Token, SEMI, laid, AreShort}
use Rattle.colon_bodies.specs.Tree.{Empty, Definition, all_words, all_nesting}
use Rattle.memory.specs.Bytes.{cell_bytes}
use Rattle.colon_bodies.specs.Code.{all_code}
use Rattle.colon_bodies.specs.Rules.{AreKnown}
use Rattle.colon_bodies.specs.Faults.{BeginsShallow, IsFront, body_cause, IsFault}
use Rattle.colon_bodies.specs.Open.{Top, open_words}
use Rattle.colon_bodies.specs.Draft.{Goes, Finishes, Progress, Compiled}
use Rattle.colon_bodies.proofs.Reading.{read_words, begins, accept_open, accept_all, accept, whole_words, whole_depth}
use Rattle.colon_bodies.proofs.Laying.{drafted_length, length-all}
use Rattle.colon_bodies.proofs.Cells.{length-cell}
use Rattle.colon_bodies.proofs.Opened.{never_ends}
use Rattle.colon_bodies.proofs.Taking.{laid-open, laid-append, laid-all, short-append, known-append}

-- a list at a place
pub cut : {X : Type 0} (f : X → Token) (ws : List X) (i : ℕ) (d : X) → i < length ws → map f ws ≡ map f (take i ws) ++ (f (get_or ws i d) ∷ map f (drop (suc i) ws))
cut f (x ∷ ws) (suc i) d h = ap (λ l. f x ∷ l) (cut f ws i d (omega arith))
cut f ws i d h = grind arith

pub more : {X : Type 0} (f : X → Token) (ws : List X) (i : ℕ) (d : X) → i < length ws → map f (take (suc i) ws) ≡ map f (take i ws) ++ f (get_or ws i d) ∷ []
more f (x ∷ ws) (suc i) d h = ap (λ l. f x ∷ l) (more f ws i d (omega arith))
more f ws i d h = grind arith

pub done_length : {X : Type 0} (f : X → Token) (ws : List X) (i : ℕ) → i ≤ length ws → length (map f (take i ws)) ≡ i
done_length f (x ∷ ws) (suc i) h = ap suc (done_length f ws i (omega arith))
done_length f ws i h = grind arith

pub all_done : {X : Type 0} (f : X → Token) (ws : List X) (i : ℕ) → length ws ≤ i → map f (take i ws) ≡ map f ws
all_done f [] zero h = refl
all_done f [] (suc i) h = refl
all_done f (x ∷ ws) zero h = absurd (omega arith)
all_done f (x ∷ ws) (suc i) h = ap (λ l. f x ∷ l) (all_done f ws i (omega arith))

pub map_length : {X : Type 0} (f : X → Token) (ws : List X) → length (map f ws) ≡ length ws
map_length f [] = refl
map_length f (x ∷ ws) = ap suc (map_length f ws)

-- the loop's steps
pub starts : (rt : ℕ → ℕ) (at limit : ℕ) (d : Draft) → at ≤ limit → d.image.items ≡ [] → d.marks.items ≡ [] → d.half ≡ Free → d.is_past ≡ false → Progress rt at limit [] d
starts rt at limit d h e k f p =
    let n : length d.image.items ≡ 0 = ap length e in
    record { outer = Top; body = Empty; half = Free; front = refl; is = record { is = record { bytes = e; marked = k }; half_is = f; past_is = p }; shallow = omega arith; known = tt; short = tt; room = omega (arith, n) }

pub goes_on : (rt : ℕ → ℕ) (at limit : ℕ) (done : List Token) (w : Token) (d new : Draft) (p : Progress rt at limit done d) → Goes rt at limit p.outer p.body p.half w new → Progress rt at limit (done ++ w ∷ []) new
goes_on rt at limit done w d new p g = grind (arith, read_words, known-append, short-append)

pub runs_out : (rt : ℕ → ℕ) (at limit : ℕ) (done : List Token) (d : Draft) → Progress rt at limit done d → (t : Definition) → all_words t ++ SEMI ∷ [] ≡ done → ⊥
runs_out rt at limit done d p t e =
    let a : accept p.outer p.body p.half [] ≡ Some t =
    sym (accept_open p.outer p.body p.half []) ∙ ap (accept Top Empty Free) (append-nil (open_words p.outer p.body p.half) ∙ sym p.front ∙ sym e) ∙ accept_all t in
    cc

pub fronts : (rt : ℕ → ℕ) (at limit : ℕ) (done : List Token) (d : Draft) → Progress rt at limit done d → IsFront rt at limit done
fronts rt at limit done d p =
    let n = drafted_length rt at p.outer p.body p.half d.image.items d.marks.items p.is.is in
    let l : laid done ≡ length d.image.items = ap laid p.front ∙ laid-open p.outer p.body p.half ∙ sym n in
    let room' = p.room in
    record {
      open_yet = runs_out rt at limit done d p;
      begins = subst (λ l. BeginsShallow l) (sym p.front) (begins p.outer p.body p.half p.shallow);
      known = p.known;
      short = p.short;
      room = omega (arith, l, room');
    }

pub faults : (rt : ℕ → ℕ) (at limit : ℕ) (source before after : List Token) (w : Token) (place : ℕ) (e : BodyCause) → source ≡ before ++ w ∷ after → place ≡ length before → IsFront rt at limit before → (e ≡ r.Memory) ⊎ (body_cause rt at limit before w ≡ Some e) → IsFault rt at limit source place e
faults rt at limit source before after w place e s n f x12 = grind (arith, never_ends)

pub word_faults : (rt : ℕ → ℕ) (at limit : ℕ) (source done after : List Token) (w : Token) (place : ℕ) (e : BodyCause) (d : Draft) (p : Progress rt at limit done d) → source ≡ done ++ w ∷ after → place ≡ length done → (e ≡ r.Memory) ⊎ (body_cause rt at limit (open_words p.outer p.body p.half) w ≡ Some e) → IsFault rt at limit source place e
word_faults rt at limit source done after w place e d p s n c =
    faults rt at limit source done after w place e s n (fronts rt at limit done d p) (subst (λ l. (e ≡ r.Memory) ⊎ (body_cause rt at limit l w ≡ Some e)) (sym p.front) c)

pub ends : (rt : ℕ → ℕ) (at limit : ℕ) (source done after : List Token) (w : Token) (place : ℕ) (d : Draft) (new : List ℕ) (p : Progress rt at limit done d) → source ≡ done ++ w ∷ after → place ≡ length done → w ≡ SEMI → Finishes rt at limit p.outer p.body p.half new → Compiled rt at limit source new (place + 1)
ends rt at limit source done after w place d new p s n z h =
    let b = h.body in
    let q : done ≡ all_words b = p.front ∙ whole_words p.outer p.body p.half b h.is in
    let x = whole_depth p.outer p.body p.half b h.is in
    let deep : all_nesting b ≤ 64 = subst (λ n. n ≤ 64) x p.shallow in
    let l : laid (all_words b ++ SEMI ∷ []) ≡ length new =
    laid-append (all_words b) (SEMI ∷ []) ∙ omega (arith, ap length h.bytes, length-append (all_code rt b at) (cell_bytes (rt 5)), length-all rt b at, length-cell (rt 5), laid-all b) in
    let m = ap length q in
    let room' = h.room in
    record {
      body = b;
      good = record {
        after = after;
        is = s ∙ ap (λ l. l ++ w ∷ after) q ∙ ap (λ v. all_words b ++ v ∷ after) z ∙ sym (append_assoc (all_words b) (SEMI ∷ []) after);
        used_is = omega (arith, m, length-append (all_words b) (SEMI ∷ []));
        shallow = deep;
        known = known-append rt (all_words b) (SEMI ∷ []) (subst (λ l. AreKnown rt l) q p.known) (h.known, tt);
        short = subst (λ l. AreShort l) q p.short;
        room = omega (arith, l, room');
      };
      is = h.bytes;
    }
