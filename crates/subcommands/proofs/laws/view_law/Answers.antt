use Rattle.std.proofs.Common.{ap, ◌∙◌, ℕ, arith}
use Rattle.std.specs.Prelude.{Ok}
use Rattle.memory.specs.Bytes.{IsCount, limit_of, front_put}
use Rattle.memory.proofs.Limits.{limit_least, limit_most}
use Rattle.image_builder.specs.Grammar.{IsLimit}
use Rattle.memory.specs.Bytes as memory
use Rattle.dictionary.specs.Search.{sought}
use Rattle.image_builder.specs.Headers.{memory_of}
use Rattle.image_builder.proofs.Chained.{image_view, image_no_view}
use Rattle.see.specs.View.{viewed}
use Rattle.subcommands.proofs.laws.view_law.Goals as goal

limited : (count : ℕ) → IsCount count → IsLimit (limit_of count)
limited count h = (omega (arith, limit_least count h), limit_most count h)

pub returns-clause-there : goal.returns-clause-there
returns-clause-there c buffers few d from to count built done b name p l e =
    let v = image_view (limit_of buffers) (limited buffers few) b.items name p b.good.sound l e in
    ap (λ bs. viewed (front_put bs memory.zeros) (sought (front_put bs memory.zeros) name)) b.is
    ∙ ap (λ x. viewed (memory_of b.items) x) v.1 ∙ ap (λ x. Ok x) v.2

pub returns-clause-nowhere : goal.returns-clause-nowhere
returns-clause-nowhere c buffers few d from to count built done b name l e =
    ap (λ bs. viewed (front_put bs memory.zeros) (sought (front_put bs memory.zeros) name)) b.is
    ∙ ap (λ x. viewed (memory_of b.items) x) (image_no_view (limit_of buffers) (limited buffers few) b.items name b.good.sound l e)
