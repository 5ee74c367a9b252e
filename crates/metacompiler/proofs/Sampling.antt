-- The words of a screen with one definition.
use Rattle.std.proofs.Common.{◌≡◌, ◌≤◌, ◌+◌, ℕ, List, [], ◌∷◌, codes, Some, None, refl, arith, false, if◌then◌else◌}
use Rattle.memory.specs.Bytes.{cell}
use Rattle.memory.specs.declared.system.TheConstants.{CURRENT, DP}
use Rattle.colon_bodies.specs.Tokens.{NAME, SEMI}
use Rattle.colon_bodies.specs.declared.words.Half.TheVariants.{Free}
use Rattle.source_words.specs.Modes.{begins_body, begins_comment, ends_body, names_in_body, names_outside, takes_text}
use Rattle.source_words.specs.Words.{SourceWord, source_words, words_of_screens, screen_words, words_from, is_comment, has_text, size_of, word_of, front_word, before}
use Rattle.image_builder.specs.Spelled.{choosing, counting, ending, figure_of, keyword, naming, repeating, saying, sense_of_word}
use Rattle.metacompiler.specs.Meaning.{token_of}
use Rattle.metacompiler.specs.Sample.{IsCalled, square, square_screen}
use Rattle.metacompiler.specs.Sources.{AreDefined}

plain : (screen offset : ℕ) (name : List ℕ) → SourceWord
plain screen offset name = record { screen = screen; offset = offset; name = name; text = None }

-- the screen's words
read : (screen : ℕ) → source_words screen (square_screen ∷ []) ≡
    plain screen 0 (codes ":") ∷ plain screen 2 (codes "SQ") ∷ plain screen 5 (codes "DUP") ∷ plain screen 9 (codes "*") ∷ plain screen 11 (codes ";") ∷ []
unfolding plain square_screen words_of_screens screen_words words_from is_comment has_text size_of word_of front_word before begins_body begins_comment ends_body names_in_body names_outside takes_text
read screen = refl

-- a word that is no keyword is what its name is found as

called : (m : List ℕ) (screen offset : ℕ) (name : List ℕ) (address : ℕ) → begins_comment name ≡ false → keyword name [] ≡ None → IsCalled m name address
    → token_of m (cell m CURRENT) Free (plain screen offset name) ≡ Some (NAME address)
unfolding plain sense_of_word figure_of
called m screen offset name address remark none c = grind arith

none_of : (text : List ℕ) → keyword (codes "SQ") text ≡ None
unfolding keyword naming choosing repeating counting saying ending
none_of text = refl

dup_none : keyword (codes "DUP") [] ≡ None
unfolding keyword naming choosing repeating counting saying ending
dup_none = refl

times_none : keyword (codes "*") [] ≡ None
unfolding keyword naming choosing repeating counting saying ending
times_none = refl

ends_so : (m : List ℕ) (voc screen : ℕ) → token_of m voc Free (plain screen 11 (codes ";")) ≡ Some SEMI
unfolding plain sense_of_word begins_comment keyword naming choosing repeating counting saying ending
ends_so m voc screen = refl

pub sample : (limit screen : ℕ) (m : List ℕ) (dup times : ℕ) → IsCalled m (codes "DUP") dup → IsCalled m (codes "*") times → cell m DP + 15 ≤ limit
    → AreDefined limit m (source_words screen (square_screen ∷ [])) (square screen dup times ∷ [])
unfolding plain begins_body begins_comment
sample limit screen m dup times d t room = (
  [],
  record {
    colon = plain screen 0 (codes ":");
    name = plain screen 2 (codes "SQ");
    inner = plain screen 5 (codes "DUP") ∷ plain screen 9 (codes "*") ∷ plain screen 11 (codes ";") ∷ [];
    is = read screen;
    begins = refl;
    beside = refl;
    screen = refl;
    title = refl;
    short = omega arith;
    free = record { colon = refl; comment = refl; keyword_none = none_of };
    means = (
      called m screen 5 (codes "DUP") dup refl dup_none d,
      tt,
      (called m screen 9 (codes "*") times refl times_none t, tt, (ends_so m (cell m CURRENT) screen, tt, refl)),
    );
    shallow = omega arith;
    texts = (tt, (tt, tt));
    room = omega (arith, room);
  },
  refl,
)
