-- Definitions that can be found again in their thread.
use Rattle.std.specs.Prelude.{ℕ, Bool, false, List, [], ◌∷◌, ◌++◌, ◌≡◌, ◌≢◌, ◌<◌, ◌≤◌, ◌⊎◌}
use Rattle.memory.specs.Controls.{number_of}
use Rattle.memory.specs.declared.controls.Control.{Control}
use Rattle.memory.specs.declared.controls.Control.TheVariants as ctl
use Rattle.colon_bodies.specs.Tokens.{Token, text_control, loop_control, NAME}
use Rattle.colon_bodies.specs.Tree.{Body, Definition, named, Empty, Call, Literal, Double, Tick, Pair, IfThen, IfElse, Until, Again, While, Loop, Text, Simple, Doing}

-- no two runtime cells are equal and not 0
pub record AreApart (rt : ℕ → ℕ) : Type 0 where
  pub apart : (i j : ℕ) → 5 ≤ i → i < 28 → 5 ≤ j → j < 28 → rt i ≢ 0 → rt i ≡ rt j → i ≡ j

-- not the cell of a control that writes more than itself
abbrev pub IsPlainCell : (ℕ → ℕ) → ℕ → Type 0
IsPlainCell rt w = (k : ℕ) → 6 ≤ k → k < 20 → (k < 12) ⊎ (16 ≤ k) → rt k ≢ 0 → w ≢ rt k

-- a control primitive has a runtime cell
abbrev pub Has : (ℕ → ℕ) → Control → Type 0
Has rt control = rt (number_of control) ≢ 0

-- Numbers are single, there is no ['], no name is forced, and each control that is written has a cell.
abbrev pub IsPlainBody : (ℕ → ℕ) → Body → Type 0
IsPlainBody rt Empty = Unit {0}
IsPlainBody rt (Call t f w) = IsPlainBody rt t × (f ≡ false) × IsPlainCell rt w
IsPlainBody rt (Literal t n) = IsPlainBody rt t × Has rt ctl.Literal
IsPlainBody rt (Double t n) = ⊥
IsPlainBody rt (Tick t w) = ⊥
IsPlainBody rt (Pair t f w) = IsPlainBody rt t × (f ≡ false) × Has rt ctl.Compile
IsPlainBody rt (IfThen t a) = IsPlainBody rt t × Has rt ctl.ZeroBranch × IsPlainBody rt a
IsPlainBody rt (IfElse t a b) = IsPlainBody rt t × Has rt ctl.ZeroBranch × IsPlainBody rt a × Has rt ctl.Branch × IsPlainBody rt b
IsPlainBody rt (Until t a) = IsPlainBody rt t × IsPlainBody rt a × Has rt ctl.ZeroBranch
IsPlainBody rt (Again t a) = IsPlainBody rt t × IsPlainBody rt a × Has rt ctl.Branch
IsPlainBody rt (While t a b) = IsPlainBody rt t × IsPlainBody rt a × Has rt ctl.ZeroBranch × IsPlainBody rt b × Has rt ctl.Branch
IsPlainBody rt (Loop t a k) = IsPlainBody rt t × Has rt ctl.Do × IsPlainBody rt a × (rt (loop_control k) ≢ 0)
IsPlainBody rt (Text t k bs) = IsPlainBody rt t × (rt (text_control k) ≢ 0)

abbrev pub IsPlainDefinition : (ℕ → ℕ) → Definition → Type 0
IsPlainDefinition rt (Simple t) = IsPlainBody rt t
IsPlainDefinition rt (Doing t a) = IsPlainBody rt t × Has rt ctl.Does × IsPlainBody rt a

-- the same body, with the names forced that a test picks
abbrev pub spelled : (ℕ → Bool) → Body → Body
spelled f Empty = Empty
spelled f (Call t b w) = Call (spelled f t) (f w) w
spelled f (Literal t n) = Literal (spelled f t) n
spelled f (Double t n) = Double (spelled f t) n
spelled f (Tick t w) = Tick (spelled f t) w
spelled f (Pair t b w) = Pair (spelled f t) (f w) w
spelled f (IfThen t a) = IfThen (spelled f t) (spelled f a)
spelled f (IfElse t a b) = IfElse (spelled f t) (spelled f a) (spelled f b)
spelled f (Until t a) = Until (spelled f t) (spelled f a)
spelled f (Again t a) = Again (spelled f t) (spelled f a)
spelled f (While t a b) = While (spelled f t) (spelled f a) (spelled f b)
spelled f (Loop t a k) = Loop (spelled f t) (spelled f a) k
spelled f (Text t k bs) = Text (spelled f t) k bs

abbrev pub all_spelled : (ℕ → Bool) → Definition → Definition
all_spelled f (Simple t) = Simple (spelled f t)
all_spelled f (Doing t a) = Doing (spelled f t) (spelled f a)

-- words, with FORCE before the names that a test picks
abbrev pub respelled : (ℕ → Bool) → List Token → List Token
respelled f [] = []
respelled f (NAME w ∷ ws) = named (f w) w ++ respelled f ws
respelled f (w ∷ ws) = w ∷ respelled f ws
