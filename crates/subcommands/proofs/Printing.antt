-- What `text` prints, by what it read.
use Rattle.std.proofs.Common.{◌≡◌, ◌≢◌, ℕ, ◌⊎◌, List, Option, Result, Ok, inl, inr, refl, sym, subst}
use Rattle.device_text.specs.Pages.{IsWhy}
use Rattle.device_text.specs.declared.pages.PageCause.{PageCause}
use Rattle.device_text.specs.declared.pages.PageCause.TheVariants as page
use Rattle.device_text.specs.declared.pages.Unprinted.{Unprinted}
use Rattle.subcommands.specs.Lines.{Prints, PrintsOutOfMemory}
use Rattle.subcommands.specs.Texts.{PrintsText, page_cause, screen_line}

pub text_printed : (r : Result (List ℕ) Unprinted) (text : List ℕ) (status : ℕ) (old new : Option (List ℕ)) → r ≡ Ok text → Prints text 0 status old new → PrintsText r status old new ⊎ PrintsOutOfMemory status old new
text_printed r text status old new e h = inl (subst (λ x. PrintsText x status old new) (sym e) h)

pub text_refused : (r : Result (List ℕ) Unprinted) (why : Unprinted) (status : ℕ) (old new : Option (List ℕ)) → IsWhy r why
    → (why.cause ≢ page.OutOfMemory → Prints (screen_line why.screen why.line (page_cause why.cause)) 1 status old new) → (why.cause ≡ page.OutOfMemory → PrintsOutOfMemory status old new)
    → PrintsText r status old new ⊎ PrintsOutOfMemory status old new
text_refused r why status old new (inr wanting) f g = inr (g wanting)
text_refused r why status old new (inl e) f g = by_cause why.cause refl where
  by_cause : (c : PageCause) → why.cause ≡ c → PrintsText r status old new ⊎ PrintsOutOfMemory status old new
  by_cause page.OutOfMemory q = inr (g q)
  by_cause page.Device q = inl (subst (λ x. PrintsText x status old new) (sym e) (f (λ z. cc)))
