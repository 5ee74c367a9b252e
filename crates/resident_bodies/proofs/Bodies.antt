-- The words of a body, one after another.
use Rattle.std.proofs.Common.{◌≡◌, ℕ, ◌+◌, ◌≤◌, List, [], ◌∷◌, ◌++◌, length, take, drop, Option, Some, None, refl, sym, ap, ◌∙◌, subst, arith, append_assoc}
use Rattle.std.proofs.lemmas.List.{take-append-drop, length-take-le}
use Rattle.memory.specs.Bytes.{cell}
use Rattle.memory.specs.declared.limit.TheConstants.{GREATEST_LIMIT}
use Rattle.memory.proofs.Same.{Stands}
use Rattle.compiling_words.specs.Code.{runtime}
use Rattle.colon_bodies.specs.declared.words.Half.{Half}
use Rattle.colon_bodies.specs.declared.words.Half.TheVariants.{Free}
use Rattle.colon_bodies.specs.Tokens.{Token, SEMI, laid, laid_by}
use Rattle.colon_bodies.specs.Tree.{Body, Empty, Definition, all_words}
use Rattle.colon_bodies.specs.Code.{all_size, all_code}
use Rattle.colon_bodies.specs.Open.{Outer, Top, State, At, read, whole, open_size, open_code}
use Rattle.colon_bodies.proofs.Reading.{accept, finish, next, accept_all}
use Rattle.colon_bodies.proofs.Exact.{finish_end}
use Rattle.colon_bodies.proofs.Taking.{laid-all}
use Rattle.resident_bodies.specs.Words.{lays, lays_all}
use Rattle.resident_bodies.specs.Drafts.{places, Draft, Bodied}
use Rattle.resident_bodies.proofs.Words.{word_is}

-- how much a word writes
pub grows : (o p : Outer) (t u : Body) (h k : Half) (w : Token) → read o t h w ≡ Some (At p u k) → open_size p u k ≡ open_size o t h + laid_by w
grows o p t u h k w e = grind arith

no_semi : (o : Outer) (t : Body) (h : Half) → read o t h SEMI ≡ None
no_semi o t h = grind arith

-- a whole body after all its words
record Read (before : List ℕ) (at : ℕ) (u : Definition) (m d below : List ℕ) : Type 0 where
  outer : Outer
  body : Body
  half : Half
  draft : Draft before at outer body half m d below
  is : whole outer body half ≡ Some u

reads : (ws : List Token) (before : List ℕ) (at : ℕ) (o : Outer) (t : Body) (h : Half) (u : Definition) (m d below : List ℕ) → 256 ≤ at → at + open_size o t h + laid ws ≤ GREATEST_LIMIT → accept o t h (ws ++ SEMI ∷ []) ≡ Some u → Draft before at o t h m d below → Read before at u (lays_all ws m d).0 (lays_all ws m d).1 below
reads [] before at o t h u m d below l r e g = grind arith
reads (w ∷ ws) before at o t h u m d below l r e g = by (read o t h w) refl e
    (λ p v k q f. reads ws before at p v k u (lays w m d).0 (lays w m d).1 below l (let n = grows o p t v h k w q in omega arith) f (word_is before at o p t v h k w m d below l (omega arith) q g))
  where
    empty : (xs : List Token) → xs ++ SEMI ∷ [] ≡ [] → ⊥
    empty [] e = cc
    empty (x ∷ xs) e = cc

    by : (x : Option State) → read o t h w ≡ x → next x (λ p v k. accept p v k (ws ++ SEMI ∷ [])) (finish o t h w (ws ++ SEMI ∷ [])) ≡ Some u
        → ((p : Outer) (v : Body) (k : Half) → read o t h w ≡ Some (At p v k) → accept p v k (ws ++ SEMI ∷ []) ≡ Some u → Read before at u (lays_all ws (lays w m d).0 (lays w m d).1).0 (lays_all ws (lays w m d).0 (lays w m d).1).1 below)
        → Read before at u (lays_all ws (lays w m d).0 (lays w m d).1).0 (lays_all ws (lays w m d).0 (lays w m d).1).1 below
    by None q f go = absurd (empty ws (finish_end o t h u w (ws ++ SEMI ∷ []) f))
    by (Some (At p v k)) q f go = go p v k q f

-- nothing is read yet
pub begins : (m d : List ℕ) (at : ℕ) → length m ≡ 65536 → cell m 28 ≡ at → at ≤ GREATEST_LIMIT → Draft m at Top Empty Free m d d
begins m d at l e h = record {
  stands = record { before = take at m; after = drop at m; is = sym (take-append-drop at m); place = length-take-le at m (omega arith) };
  here = omega arith;
  kept = λ i a b c. refl;
  all = l;
  stack = refl;
}

-- the whole exists
pub whole_code : (rt : ℕ → ℕ) (at : ℕ) (o : Outer) (t : Body) (h : Half) (u : Definition) → whole o t h ≡ Some u → (open_code rt o t h at ≡ all_code rt u at) × (open_size o t h ≡ all_size u) × (places at o ≡ [])
whole_code rt at o t h u e = grind (arith, append_assoc)

all_read : (m d : List ℕ) (at : ℕ) (body : Definition) → length m ≡ 65536 → cell m 28 ≡ at → 256 ≤ at → at + all_size body ≤ GREATEST_LIMIT → Read m at body (lays_all (all_words body) m d).0 (lays_all (all_words body) m d).1 d
all_read m d at body l e g h = reads (all_words body) m at Top Empty Free body m d d g (omega (arith, laid-all body)) (accept_all body) (begins m d at l e (omega arith))

pub body_laid : (m d : List ℕ) (at : ℕ) (body : Definition) → length m ≡ 65536 → cell m 28 ≡ at → 256 ≤ at → at + all_size body ≤ GREATEST_LIMIT → Bodied m at body (lays_all (all_words body) m d).0
body_laid m d at body l e g h =
    let r = all_read m d at body l e g h in
    let c = whole_code (runtime m) at r.outer r.body r.half body r.is in
    record {
      stands = subst (λ bs. Stands (lays_all (all_words body) m d).0 at bs) c.0 r.draft.stands;
      here = r.draft.here ∙ ap (λ x. at + x) c.1;
      kept = r.draft.kept;
      all = r.draft.all;
    }

pub body_stack : (m d : List ℕ) (at : ℕ) (body : Definition) → length m ≡ 65536 → cell m 28 ≡ at → 256 ≤ at → at + all_size body ≤ GREATEST_LIMIT → (lays_all (all_words body) m d).1 ≡ d
body_stack m d at body l e g h =
    let r = all_read m d at body l e g h in
    grind (arith, whole_code)
