use Rattle.std.proofs.Common.{ap, sym, ◌∙◌, ◌+◌, List, ℕ}
use Rattle.std.specs.Prelude.{false}
use Rattle.image_builder.specs.Names.{Name, class_of}
use Rattle.image_builder.proofs.Making.{within_image, headed_laid, headed_named}
use Rattle.image_builder.proofs.header.make_header.Goals as goal

pub set_head-requires-clause-within : goal.set_head-requires-clause-within
set_head-requires-clause-within c = within_image c.args.b.now c.requires.building

pub returns-clause-headed : goal.returns-clause-headed
returns-clause-headed c = λ limit t p n b s.
    record {
      limit_is = b.limit_is;
      limited = b.limited;
      laid = headed_laid c.args.b.now t p c.args.sign c.args.code c.here-link.result c.head_of-older.result c.class_of_name-class.result c.as_slice.result.now c.set_head.new.image.items _ b s c.here-link.ensures.address (c.class_of_name-class.ensures ∙ ap class_of (sym n.1)) c.as_slice.ensures.value c.head_of-older.ensures c.set_head.ensures.forth c.set_head.ensures.set (c.in_ok-lay_head.ensures.bytes p n);
      named = headed_named c.args.b.now t p c.args.sign c.here-link.result _ _ b c.here-link.ensures.address c.in_ok-push.ensures.items (let N : List ℕ → Name = λ x. record { name = x; vocabulary = c.args.b.now.current; link = c.here-link.result + 2; immediate = false; sign = c.args.sign } in ap N (c.in_ok-own.ensures.bytes ∙ sym n.1));
      runtime = b.runtime;
      all = b.all;
      current_is = b.current_is;
      record_is = b.record_is;
      boot_is = b.boot_is;
    }
