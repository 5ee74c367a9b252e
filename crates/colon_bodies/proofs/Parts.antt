-- Induction on what a body, or the open structures around one, is made of.
use Rattle.std.proofs.Common.{ℕ, ◌<◌, suc, zero, arith}
use Rattle.colon_bodies.specs.Tree.{Body}
use Rattle.colon_bodies.specs.Code.{size}
use Rattle.colon_bodies.specs.Open.{Outer, frames}

by_size : (P : Body → Type 0) → ((t : Body) → ((u : Body) → size u < size t → P u) → P t) → (n : ℕ) (t : Body) → size t < n → P t
by_size P f zero t h = absurd (omega arith)
by_size P f (suc n) t h = f t (λ u k. by_size P f n u (omega arith))

pub by_parts : (P : Body → Type 0) → ((t : Body) → ((u : Body) → size u < size t → P u) → P t) → (t : Body) → P t
by_parts P f t = by_size P f (suc (size t)) t (omega arith)

by_count : (P : Outer → Type 0) → ((o : Outer) → ((p : Outer) → frames p < frames o → P p) → P o) → (n : ℕ) (o : Outer) → frames o < n → P o
by_count P f zero o h = absurd (omega arith)
by_count P f (suc n) o h = f o (λ p k. by_count P f n p (omega arith))

pub by_frames : (P : Outer → Type 0) → ((o : Outer) → ((p : Outer) → frames p < frames o → P p) → P o) → (o : Outer) → P o
by_frames P f o = by_count P f (suc (frames o)) o (omega arith)
