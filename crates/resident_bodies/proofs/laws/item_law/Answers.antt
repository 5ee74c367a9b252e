use Rattle.std.proofs.Common.{◌≡◌, sym, subst}
use Rattle.memory.specs.Bytes.{put_cell}
use Rattle.image_builder.specs.Items.{Items, end_of}
use Rattle.image_builder.specs.Grammar.{AreSound}
use Rattle.image_builder.specs.Headers.{memory_of}
use Rattle.resident_bodies.specs.Definitions.{with_definition}
use Rattle.resident_bodies.proofs.Items.{item_is}
use Rattle.resident_bodies.proofs.laws.item_law.Goals as goal

pub returns : goal.returns
returns c = λ limit few u h t name body e.
    subst (λ (x : Items). memory_of x ≡ put_cell (with_definition t name body) 54 (end_of x)) (sym e.1)
    (item_is limit few t e.0 name body (subst (AreSound limit) e.1 h))
