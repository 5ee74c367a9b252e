-- Causes from a body's refusals.
use Rattle.colon_bodies.specs.declared.fault.BodyCause.{BodyCause}
use Rattle.colon_bodies.specs.declared.fault.BodyCause.TheVariants as r
use Rattle.image_builder.specs.declared.cause.Cause.{Cause}
use Rattle.image_builder.specs.declared.cause.Cause.TheVariants as c

abbrev pub cause_of : BodyCause → Cause
cause_of r.Memory = c.OutOfMemory
cause_of r.Misplaced = c.Misplaced
cause_of r.Unbalanced = c.Unbalanced
cause_of r.Unknown = c.Unknown
cause_of r.BadName = c.BadName
cause_of r.Full = c.Full
cause_of r.EndsInside = c.EndsInside
