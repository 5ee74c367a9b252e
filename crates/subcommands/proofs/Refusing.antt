-- What is printed if a container isn't read or written.
use Rattle.std.proofs.Common.{◌≡◌, ◌≢◌, ℕ, List, Option, Some, codes, unwrap_or, refl, sym, subst}
use Rattle.containers.specs.declared.cause.Cause.{Cause}
use Rattle.containers.specs.declared.cause.Cause.TheVariants as container
use Rattle.subcommands.specs.Disks.{PrintsCause, PrintsUnread, container_cause}
use Rattle.subcommands.specs.Lines.{PrintsOutOfMemory, PrintsRefusal}

-- a cause is printed by its name, unless memory ran out
pub cause_printed : (why : Cause) (status : ℕ) (old new : Option (List ℕ)) → why ≢ container.OutOfMemory
    → PrintsRefusal (codes "container") (container_cause why) status old new → PrintsCause why status old new
cause_printed container.BadSector status old new k h = h
cause_printed container.BadSkew status old new k h = h
cause_printed container.CutShort status old new k h = h
cause_printed container.TooLarge status old new k h = h
cause_printed (container.NoEnding at) status old new k h = h
cause_printed container.CutBlock status old new k h = h
cause_printed container.NoRoom status old new k h = h
cause_printed container.OutOfMemory status old new k h = absurd (k refl)

pub memory_printed : (why : Cause) (status : ℕ) (old new : Option (List ℕ)) → why ≡ container.OutOfMemory
    → PrintsOutOfMemory status old new → PrintsCause why status old new
memory_printed why status old new e h = subst (λ w. PrintsCause w status old new) (sym e) h

pub unread_printed : (u : Option Cause) (why : Cause) (status : ℕ) (old new : Option (List ℕ)) → why ≡ unwrap_or u container.OutOfMemory
    → PrintsCause why status old new → PrintsUnread u status old new
unread_printed u why status old new e h = subst (λ w. PrintsCause w status old new) e h

pub unwritten_printed : (u : Option Cause) (why : Cause) (status : ℕ) (old new : Option (List ℕ)) → u ≡ Some why
    → PrintsCause why status old new → PrintsUnread u status old new
unwritten_printed u why status old new e h = subst (λ v. PrintsUnread v status old new) (sym e) h
