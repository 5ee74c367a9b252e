-- What the walks of the logs share: a call that makes a struct of no bytes, at ghost fields that its clause names. Assumes `Logic`.
pub use Rattle.std.proofs.Common.{List, [], ◌∷◌, ◌++◌, refl}
pub use contract.Monad.{fact_i}
pub use base.Logic.{emp}
use mathlib.Core.Path.{◌≡◌}
use lib.Dec.{T}
use Prim.Native.Nat.{ℕ}
use seplogic.Ra.Ura.{Ura}
use mir.Syntax.{Fn, Callee, Sym, Ty, ty_struct, tnil, Local, local, value_local, assign, place, aggregate, seq, return}
use mir.Val.{Val, vstruct, vnil, WT, has_ty}
use base.Logic.{SProp, ent, via}
use base.Fml.{Fml}
use prog.Model.{Model}
use prog.Wp.{Calls, Loops, WpFn, Closed}
use types.Logic.{Logic}
use types.Run.{enter, returns, no_more}
use types.Part.{agg}
use types.ByLocal.{alloc_all, pass_all, free_all, look_at, sets}
use types.Kit.{‵, raw, ◌⊛◌, ◌$◌, ◌∵◌, !, qed, move, keep, split, use0, use1, done, by}
use contract.Lifetimes.{Lfts}
use contract.Running.{Running, MachineTables, tables}
use denote.RattleType.{RattleType, Denots, Valss, owns}
use denote.Laws.{Are, Ises}
use denote.Shadow.{Pure, shadow, pure_i}
use denote.Signature.{Slot, types_at, type_at}
use denote.Triple.End.{Kepts, Fins}
use denote.Triple.Clauses.{Ended, Clauses, Lasts, at_exit, closing}
use denote.Triple.Entry.{Args, Res, alive}
use denote.Triple.Spec.{Meets}
use denote.Triple.Walked.{Stays, stay_dropped, Silent, AllGo, Goes-dropped, fits_of, has_of, walk_of}
use Rattle.std.proofs.raw_atomic.Walks.{proved_at, leaves}

abbrev pub none : Val
none = vstruct vnil

abbrev pub held : Ty → Local
held τ = local τ value_local

-- a function that makes a struct of no bytes, with k parameters
abbrev pub making : ℕ → List (ℕ × ℕ) → Sym → ℕ → List Local → Fn
making n o ν k ls = record {
  lifetimes = n;
  outlives = o;
  ty_params = [];
  givens = 0;
  params = k;
  locals = held (ty_struct ν tnil) ∷ ls;
  body = seq (assign (place 0 []) (aggregate [])) return;
}

-- Nothing is had of a parameter at the return.
abbrev pub dropped : {n : ℕ} (ss : List (Slot n)) (ks : Kepts ss) → Stays ss ks
dropped [] ks = tt
dropped (s ∷ ss) ks = (stay_dropped s ks.0, dropped ss ks.1)

module _ {n : ℕ} (κs : Lfts n) where
  all_fit : (ss : List (Slot n)) (ks : Kepts ss) (a : Denots (types_at ss κs)) (ws : Fins κs ss ks a) → fits_of κs ss ks (dropped ss ks) a ws
  all_fit [] ks a ws = tt
  all_fit (s ∷ ss) ks a ws = (tt, all_fit ss ks.1 a.1 ws.1)

  none_had : (ss : List (Slot n)) (ks : Kepts ss) (a : Denots (types_at ss κs)) (ws : Fins κs ss ks a) (vss : Valss (types_at ss κs))
      → Pure (has_of κs ss ks (dropped ss ks) a ws vss) × shadow (has_of κs ss ks (dropped ss ks) a ws vss)
  none_had [] ks a ws vss = (tt, tt)
  none_had (s ∷ ss) ks a ws vss = let h = none_had ss ks.1 a.1 ws.1 vss.1 in ((tt, h.0), (tt, h.1))

module _ {M : Type 1} {𝓤 : Ura M} (𝓛 : Logic 𝓤) where
  open 𝓛 use {H}

  -- Nothing is said of what a parameter becomes.
  abbrev pub Silents : {n : ℕ} (ss : List (Slot n)) → Kepts ss → Type 1
  Silents [] ks = Unit {1}
  Silents {n} (s ∷ ss) ks = Silent 𝓛 n s ks.0 × Silents ss ks.1

  all_go : {n : ℕ} (ss : List (Slot n)) (ks : Kepts ss) → Silents ss ks → AllGo 𝓛 n ss ks (dropped ss ks)
  all_go [] ks qs = tt
  all_go {n} (s ∷ ss) ks qs = (Goes-dropped 𝓛 n s ks.0 qs.0, all_go ss ks.1 qs.1)

  module _ (C : Calls 𝓤 H) (Λ : Loops 𝓤 H) (P : Val → SProp 𝓤) {e : Fn} {n : ℕ} {o : List (ℕ × ℕ)} {ν : Sym} where
    pub run_none : e ≡ making n o ν 0 [] → ent 𝓤 (P none) (WpFn 𝓤 H C Λ e [] P)
    run_none w = rw w (qed 𝓛 (raw (P none) ∷ []) ∵ enter ! C Λ _ _ P $ alloc_all ! (λ l. pass_all ! refl tt $
        sets ! (agg ! (no_more !)) refl (tt, tt) $ returns ! (look_at ! 0 refl) $ free_all ! refl $ done !))

    pub run_one : {τ : Ty} {u : Val} {us : List Val} → e ≡ making n o ν 1 (held τ ∷ []) → us ≡ u ∷ [] → T (has_ty τ u) × WT u
        → ent 𝓤 (P none) (WpFn 𝓤 H C Λ e (us ++ []) P)
    run_one w p t = rw (w, p) (qed 𝓛 (raw (P none) ∷ []) ∵ enter ! C Λ _ _ P $ alloc_all ! (λ l. pass_all ! refl (t, tt) $
        sets ! (agg ! (no_more !)) refl (tt, tt) $ returns ! (look_at ! 0 refl) $ free_all ! refl $ done !))

    pub run_two : {τ₀ τ₁ : Ty} {u v : Val} {us vs : List Val} → e ≡ making n o ν 2 (held τ₀ ∷ held τ₁ ∷ []) → us ≡ u ∷ [] → vs ≡ v ∷ []
        → T (has_ty τ₀ u) × WT u → T (has_ty τ₁ v) × WT v → ent 𝓤 (P none) (WpFn 𝓤 H C Λ e (us ++ (vs ++ [])) P)
    run_two w p q t r = rw (w, p, q) (qed 𝓛 (raw (P none) ∷ []) ∵ enter ! C Λ _ _ P $ alloc_all ! (λ l. pass_all ! refl (t, (r, tt)) $
        sets ! (agg ! (no_more !)) refl (tt, tt) $ returns ! (look_at ! 0 refl) $ free_all ! refl $ done !))

  module _ (T : Ended) (c : Clauses 𝓤 T) (𝓜 : Model 𝓤 H) (𝓡 : Running 𝓤 H 𝓜) where
    abbrev hs : Stays T.signature.params T.kept
    hs = dropped T.signature.params T.kept

    abbrev 𝓣 : MachineTables 𝓤 H 𝓜
    𝓣 = tables 𝓤 H 𝓜 𝓡 𝓡.env

    abbrev owned_as : (κs : Lfts T.signature.lifetimes) → Res T.signature κs → Fml
    owned_as κs r = (type_at T.signature.result κs).own_val r (none ∷ [])

    pub made : Silents T.signature.params T.kept → (k : Callee) (e : Fn) → Closed 𝓤 H 𝓣.C 𝓣.Λ k e
        → (r : (κs : Lfts T.signature.lifetimes) (a : Args T.signature κs) → Res T.signature κs)
        → (ws : (κs : Lfts T.signature.lifetimes) (a : Args T.signature κs) → Lasts T κs a)
        → ((κs : Lfts T.signature.lifetimes) (a : Args T.signature κs) → Pure (owned_as κs (r κs a)) × shadow (owned_as κs (r κs a)))
        → ((y : (walk_of 𝓛 T hs c).Ghost) → ent 𝓤 (emp 𝓤) ((c y.0.0 y.0.3).ensures y.1 (r y.0.0 y.0.3) (at_exit T y.0.0 y.0.3 (ws y.0.0 y.0.3))))
        → ((y : (walk_of 𝓛 T hs c).Ghost) → Are (types_at T.signature.params y.0.0) (Ises (types_at T.signature.params y.0.0)) y.0.3 y.0.4 → (P : Val → SProp 𝓤)
        → ent 𝓤 (P none) (WpFn 𝓤 H 𝓣.C 𝓣.Λ e ((walk_of 𝓛 T hs c).args y) P))
        → Meets 𝓛 T.signature (𝓣.C k) (closing 𝓛 T c)
    made silents k e closed r ws owned holds runs = proved_at 𝓛 T hs c 𝓜 𝓡 (all_go T.signature.params T.kept silents) k e closed (λ y are.
        let κs = y.0.0 in let a = y.0.3 in let S = T.signature in
        let had = none_had κs S.params T.kept a (ws κs a) y.0.4 in let E : SProp 𝓤 = (c κs a).ensures y.1 (r κs a) (at_exit T κs a (ws κs a)) in
        qed 𝓛 ((raw (alive 𝓛 S κs y.0.1) ⊛ ‵ (owns (types_at S.params κs) a y.0.4)) ∷ raw ((c κs a).requires y.1) ∷ []) ∵ split ! $ keep ! (0 ∷ []) $
        use0 𝓛 (raw E) (holds y) $ pure_i ! (owned_as κs (r κs a)) (owned κs a).0 (owned κs a).1 $
        pure_i ! (has_of κs S.params T.kept hs a (ws κs a) y.0.4) had.0 had.1 $ move ! (3 ∷ 0 ∷ 1 ∷ 2 ∷ []) $
        by ! (via 𝓤 _ (leaves 𝓛 T hs c y none (r κs a) (ws κs a) (all_fit κs S.params T.kept a (ws κs a))) (runs y are _)))
