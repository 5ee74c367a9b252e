-- What reading makes of words.
use Rattle.std.proofs.Common.{◌≡◌, true, false, ℕ, ◌<◌, ◌≤◌, List, [], ◌∷◌, ◌++◌, Option, Some, None, refl, sym, ap, ◌∙◌, arith, append_assoc, append-nil}
use Rattle.colon_bodies.specs.declared.words.Half.{Half}
use Rattle.colon_bodies.specs.declared.words.Half.TheVariants.{Free, Ticked, Forced, Compiling, Both}
use Rattle.colon_bodies.specs.Tokens.{Token, NAME, THEN, UNTIL, REPEAT, LOOP, SEMI}
use Rattle.colon_bodies.specs.Tree.{Body, Empty, Call, Tick, Pair, IfThen, IfElse, Until, While, Loop, Definition, Simple, Doing, words, all_words, nesting, all_nesting}
use Rattle.colon_bodies.specs.Faults.{BeginsShallow}
use Rattle.colon_bodies.proofs.Causes.{Begins}
use Rattle.colon_bodies.specs.Open.{Outer, Top, Past, InIf, InElse, InBegin, InWhile, InDo, State, At, outer_words, open_words, complete, fit, read, whole, open_depth}
use Rattle.colon_bodies.proofs.Parts.{by_parts, by_frames}

-- the definition, if these words complete it
abbrev pub finish : Outer → Body → Half → Token → List Token → Option Definition
finish o t h SEMI [] = whole o t h
finish _ _ _ _ _ = None

abbrev pub next : Option State → (Outer → Body → Half → Option Definition) → Option Definition → Option Definition
next None go stop = stop
next (Some (At o t h)) go stop = go o t h

abbrev pub accept : Outer → Body → Half → List Token → Option Definition
accept o t h [] = None
accept o t h (w ∷ ws) = next (read o t h w) (λ p u g. accept p u g ws) (finish o t h w ws)

-- A whole body is read into the innermost one.
pub accept_words : (t : Body) (o : Outer) (rest : List Token) → accept o Empty Free (words t ++ rest) ≡ accept o t Free rest
accept_words = by_parts (λ t. (o : Outer) (rest : List Token) → accept o Empty Free (words t ++ rest) ≡ accept o t Free rest) (elim [ Empty ↦ λ ih o rest. refl | t ↦ λ ih o rest. grind (arith, append_assoc, ih) ])

-- The words read so far lead to the open structures.
pub accept_outer : (o : Outer) (rest : List Token) → accept Top Empty Free (outer_words o ++ rest) ≡ accept o Empty Free rest
accept_outer = by_frames (λ o. (rest : List Token) → accept Top Empty Free (outer_words o ++ rest) ≡ accept o Empty Free rest) (elim [ Top ↦ λ ih rest. refl | o ↦ λ ih rest. grind (arith, append_assoc, accept_words, ih) ])

pub accept_open : (o : Outer) (t : Body) (h : Half) (rest : List Token) → accept Top Empty Free (open_words o t h ++ rest) ≡ accept o t h rest
accept_open o t h rest = grind (arith, append_assoc, accept_outer, accept_words)

pub accept_all : (d : Definition) → accept Top Empty Free (all_words d ++ SEMI ∷ []) ≡ Some d
accept_all d = grind (arith, accept_words, append_assoc)

-- One more word
pub state_at : (o p : Outer) (t u : Body) (h g : Half) → Some (At o t h) ≡ Some (At p u g) → (o ≡ p) × (t ≡ u) × (h ≡ g)
state_at o p t u h g e = (cc, cc, cc)

move : (o o' p : Outer) (t t' u : Body) (h h' g : Half) (w : Token) → Some (At o' t' h') ≡ Some (At p u g) → open_words o' t' h' ≡ open_words o t h ++ w ∷ [] → open_words p u g ≡ open_words o t h ++ w ∷ []
move o o' p t t' u h h' g w e k = grind (arith, state_at)

fit_words : (o : Outer) (t : Body) (w : Token) (p : Outer) (u : Body) (g : Half) → fit o t w ≡ Some (At p u g) → open_words p u g ≡ open_words o t Free ++ w ∷ []
fit_words o t w p u g e = grind (arith, move, append_assoc, append-nil)

pub read_words : (o : Outer) (t : Body) (h : Half) (w : Token) (p : Outer) (u : Body) (g : Half) → read o t h w ≡ Some (At p u g) → open_words p u g ≡ open_words o t h ++ w ∷ []
read_words o t h w p u g e = grind (arith, move, fit_words, append_assoc)

-- It makes nothing less deep.
completed_depth : (h : Half) (t : Body) (w : ℕ) → nesting (complete h t w) ≡ nesting t
completed_depth h t w = grind arith

pub completed_open : (o : Outer) (h : Half) (t : Body) (w : ℕ) → open_depth o (complete h t w) ≡ open_depth o t
completed_open o h t w = omega (arith, completed_depth h t w)

fit_depth : (o : Outer) (t : Body) (w : Token) (p : Outer) (u : Body) (g : Half) → fit o t w ≡ Some (At p u g) → open_depth o t ≤ open_depth p u
fit_depth o t w p u g e = grind arith

pub read_depth : (o : Outer) (t : Body) (h : Half) (w : Token) (p : Outer) (u : Body) (g : Half) → read o t h w ≡ Some (At p u g) → open_depth o t ≤ open_depth p u
read_depth o t h w p u g e = grind (arith, completed_open, fit_depth)

-- it goes no further than the depth of what comes out
pub finish_is : (o : Outer) (t : Body) (h : Half) (u : Definition) (w : Token) (ws : List Token) → finish o t h w ws ≡ Some u → (whole o t h ≡ Some u) × (w ≡ SEMI)
finish_is o t h u w ws e = grind arith

pub whole_words : (o : Outer) (t : Body) (h : Half) (u : Definition) → whole o t h ≡ Some u → open_words o t h ≡ all_words u
whole_words o t h u e = grind (arith, append_assoc)

pub whole_depth : (o : Outer) (t : Body) (h : Half) (u : Definition) → whole o t h ≡ Some u → open_depth o t ≡ all_nesting u
whole_depth o t h u e = grind arith

next_depth : (s : Option State) (ws : List Token) (o : Outer) (t : Body) (u : Definition) (stop : Option Definition) → ((p : Outer) (v : Body) (g : Half) → s ≡ Some (At p v g) → open_depth o t ≤ open_depth p v) → ((p : Outer) (v : Body) (g : Half) → accept p v g ws ≡ Some u → open_depth p v ≤ all_nesting u) → (stop ≡ Some u → open_depth o t ≤ all_nesting u) → next s (λ p v g. accept p v g ws) stop ≡ Some u → open_depth o t ≤ all_nesting u
next_depth s ws o t u stop h ih f e = grind arith

pub accept_depth : (ws : List Token) (o : Outer) (t : Body) (h : Half) (u : Definition) → accept o t h ws ≡ Some u → open_depth o t ≤ all_nesting u
accept_depth [] o t h u e = cc
accept_depth (w ∷ ws) o t h u e =
    next_depth (read o t h w) ws o t u (finish o t h w ws) (λ p v g. read_depth o t h w p v g) (λ p v g. accept_depth ws p v g u) (λ f.
    let i = finish_is o t h u w ws f in
    let d = whole_depth o t h u i.0 in
    omega arith) e

-- a definition that goes on from where we are: what is half read is completed, and each structure is closed
abbrev settle : Half → Body → Body
settle Free t = t
settle Ticked t = Tick t 0
settle Forced t = Call t true 0
settle Compiling t = Pair t false 0
settle Both t = Pair t true 0

abbrev settling : Half → List Token
settling Free = []
settling Ticked = NAME 0 ∷ []
settling Forced = NAME 0 ∷ []
settling Compiling = NAME 0 ∷ []
settling Both = NAME 0 ∷ []

abbrev close : Outer → Body → Definition
close Top t = Simple t
close (Past t) a = Doing t a
close (InIf o t) a = close o (IfThen t a)
close (InElse o t a) b = close o (IfElse t a b)
close (InBegin o t) a = close o (Until t a)
close (InWhile o t a) b = close o (While t a b)
close (InDo o t) a = close o (Loop t a false)

abbrev closing : Outer → List Token
closing Top = []
closing (Past t) = []
closing (InIf o t) = THEN ∷ closing o
closing (InElse o t a) = THEN ∷ closing o
closing (InBegin o t) = UNTIL ∷ closing o
closing (InWhile o t a) = REPEAT ∷ closing o
closing (InDo o t) = LOOP false ∷ closing o

closed : (o : Outer) (t : Body) → all_words (close o t) ≡ (outer_words o ++ words t) ++ closing o
closed = by_frames (λ o. (t : Body) → all_words (close o t) ≡ (outer_words o ++ words t) ++ closing o) (elim [ Top ↦ λ ih t. grind (arith, append-nil, append_assoc, ih) | o ↦ λ ih t. grind (arith, append-nil, append_assoc, ih) ])

settled : (o : Outer) (t : Body) (h : Half) → outer_words o ++ words (settle h t) ≡ open_words o t h ++ settling h
settled o t h = grind (arith, append-nil, append_assoc)

close_depth : (o : Outer) (t : Body) → all_nesting (close o t) ≡ open_depth o t
close_depth = by_frames (λ o. (t : Body) → all_nesting (close o t) ≡ open_depth o t) (elim [ Top ↦ λ ih t. omega arith | o ↦ λ ih t. grind (arith, ih) ])

settle_depth : (h : Half) (t : Body) → nesting (settle h t) ≡ nesting t
settle_depth h t = grind arith

goes_on_to : (o : Outer) (t : Body) (h : Half) → all_words (close o (settle h t)) ++ SEMI ∷ [] ≡ open_words o t h ++ (settling h ++ (closing o ++ SEMI ∷ []))
goes_on_to o t h = grind (arith, closed, settled, append_assoc)

-- what was read begins a definition
pub begins : (o : Outer) (t : Body) (h : Half) → open_depth o t ≤ 64 → BeginsShallow (open_words o t h)
begins o t h k = record {
  body = close o (settle h t);
  more = settling h ++ (closing o ++ SEMI ∷ []);
  is = goes_on_to o t h;
  shallow = omega (arith, close_depth o (settle h t), settle_depth h t);
}

pub begins_any : (o : Outer) (t : Body) (h : Half) → Begins (open_words o t h)
begins_any o t h = record {
  body = close o (settle h t);
  more = settling h ++ (closing o ++ SEMI ∷ []);
  is = goes_on_to o t h;
}

-- what the words after those read come to
pub completes : (o : Outer) (t : Body) (h : Half) (body : Definition) (w : Token) (more : List Token) → all_words body ++ SEMI ∷ [] ≡ (open_words o t h ++ w ∷ []) ++ more → accept o t h (w ∷ more) ≡ Some body
completes o t h body w more e =
    sym (accept_open o t h (w ∷ more)) ∙ ap (accept Top Empty Free) (sym (e ∙ append_assoc (open_words o t h) (w ∷ []) more)) ∙ accept_all body

-- a word that doesn't fit
pub unfit : (o : Outer) (t : Body) (h : Half) (w : Token) → read o t h w ≡ None → (w ≡ SEMI → whole o t h ≡ None) → Begins (open_words o t h ++ w ∷ []) → ⊥
unfit o t h w none not_end b = grind (arith, finish_is, completes o t h b.body w b.more b.is)

-- a structure too many
pub too_deep : (o : Outer) (t : Body) (h : Half) (w : Token) (p : Outer) (u : Body) (g : Half) → read o t h w ≡ Some (At p u g) → 64 < open_depth p u → BeginsShallow (open_words o t h ++ w ∷ []) → ⊥
too_deep o t h w p u g some deep b = grind (arith, accept_depth, completes o t h b.body w b.more b.is, b.shallow)

-- A list of words is the words of one definition at most.
pub one_body : (t u : Definition) → all_words t ≡ all_words u → t ≡ u
one_body t u e =
    let h : Some t ≡ Some u = sym (accept_all t) ∙ ap (λ l. accept Top Empty Free (l ++ SEMI ∷ [])) e ∙ accept_all u in
    cc
