use Rattle.std.proofs.Common.{arith}
use Rattle.see.proofs.seeing.see_colon.Goals as goal

pub returns-then-not-thread_words-clause-room : goal.returns-then-not-thread_words-clause-room
returns-then-not-thread_words-clause-room c =
    record {
      controls = omega (arith, c.list_controls.ensures.room, c.requires.room.controls);
      bytes = omega (arith, c.copy_extent.ensures.room, c.requires.room.bytes);
      thread = c.thread_words.ensures.kept _ c.requires.room.thread;
      name = c.requires.room.name;
      text = c.requires.room.text;
    }

pub show-requires-clause-room : goal.show-requires-clause-room
show-requires-clause-room c =
    record {
      controls = omega (arith, c.list_controls.ensures.room, c.requires.room.controls);
      bytes = omega (arith, c.copy_extent.ensures.room, c.requires.room.bytes);
      thread = c.thread_words.ensures.kept _ c.requires.room.thread;
      name = c.requires.room.name;
      text = c.requires.room.text;
    }
