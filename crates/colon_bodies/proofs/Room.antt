-- Room for the addresses, the bytes and the marks that are written.
use Rattle.std.proofs.Common.{◌≡◌, ℕ, ◌+◌, ◌<◌, ◌≤◌, ◌⊎◌, List, ◌∷◌, ◌++◌, length, sym, ap, ◌∙◌, arith, length-append}
use Rattle.colon_bodies.specs.declared.draft.Draft.{Draft}
use Rattle.colon_bodies.specs.Tokens.{Token, laid, laid_by}
use Rattle.colon_bodies.specs.Tree.{words}
use Rattle.colon_bodies.specs.declared.words.Half.{Half}
use Rattle.colon_bodies.specs.Open.{Outer, Top, outer_words, half_words, frames}
use Rattle.colon_bodies.specs.Draft.{Progress, jump_by}
use Rattle.colon_bodies.proofs.Parts.{by_frames}
use Rattle.colon_bodies.proofs.Laying.{drafted_length}
use Rattle.colon_bodies.proofs.Taking.{laid-open, laid-append, drafted_marks}

jump_laid : (w : Token) → jump_by w ≤ laid_by w
jump_laid w = grind arith

pub progress_length : (rt : ℕ → ℕ) (at limit : ℕ) (done : List Token) (d : Draft) → Progress rt at limit done d → length d.image.items ≡ laid done
progress_length rt at limit done d p = drafted_length rt at p.outer p.body p.half _ _ p.is.is ∙ sym (laid-open p.outer p.body p.half) ∙ ap laid (sym p.front)

pub jump_room : (at limit : ℕ) (all done after : List Token) (w : Token) (n : ℕ) → (limit ≤ 65530) ⊎ (at + laid all < 65536) → at + n ≤ limit → n ≡ laid done → all ≡ done ++ (w ∷ after) → at + n + jump_by w < 65536
jump_room at limit all done after w n x7 room l e = grind (arith, laid-append, jump_laid)

-- the next word's bytes are among those of all words
pub bytes_fit : (rt : ℕ → ℕ) (at limit : ℕ) (all done after : List Token) (w : Token) (d : Draft) (room : ℕ) → Progress rt at limit done d → all ≡ done ++ (w ∷ after) → laid all ≤ room → length d.image.items + laid_by w ≤ room
bytes_fit rt at limit all done after w d room p e h =
    omega (arith, h, progress_length rt at limit done d p, ap laid e, laid-append done (w ∷ after))

-- a word opens one structure at most
open_few : (o : Outer) → frames o ≤ length (outer_words o)
open_few = by_frames (λ o. frames o ≤ length (outer_words o)) (elim [ Top ↦ λ ih. omega arith | o ↦ λ ih. grind (arith, length-append, ih) ])

half_more : (h : Half) (ws : List Token) → length ws ≤ length (half_words h ws)
half_more h ws = grind (arith, length-append)

pub marks_fit : (rt : ℕ → ℕ) (at limit : ℕ) (done : List Token) (d : Draft) (room : ℕ) → Progress rt at limit done d → length done < room → length d.marks.items < room
marks_fit rt at limit done d room p h =
    omega (arith, h, drafted_marks rt at p.outer p.body p.half _ _ p.is.is, open_few p.outer, ap length p.front, half_more p.half (outer_words p.outer ++ words p.body), length-append (outer_words p.outer) (words p.body))
