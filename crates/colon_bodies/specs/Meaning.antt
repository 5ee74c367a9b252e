-- What a word of a body is: by its name, if that stands for something, else by how it is spelled.
use Rattle.std.specs.Prelude.{ℕ, Bool, false, ◌||◌}
use Rattle.colon_bodies.specs.Tokens.{Token, NUMBER, DOUBLE}
use Rattle.colon_bodies.specs.declared.words.Half.{Half}
use Rattle.colon_bodies.specs.declared.words.Half.TheVariants.{Free, Compiling}

-- how a word is spelled: as none of the others, a keyword, a number, a double, or what begins a comment
pub data Sense : Type 0 where
  Plain : Sense
  Keyword : Token → Sense
  Figure : (n : ℕ) → Sense
  Wide : (n : ℕ) → Sense
  Remark : Sense

-- a name that can't come after what is half read: an immediate one comes after ['] and [COMPILE] alone, and that of a
-- control which only keywords and numbers write does so after COMPILE, too
abbrev pub is_barred : Half → (inner immediate : Bool) → Bool
is_barred Free inner immediate = inner || immediate
is_barred Compiling inner immediate = immediate
is_barred _ inner immediate = false

-- what a word is whose name stands for nothing
abbrev pub by_spelling : {A : Type 0} → (is : Token → A) → (misplaced unknown : A) → Sense → A
by_spelling is misplaced unknown (Keyword w) = is w
by_spelling is misplaced unknown (Figure n) = is (NUMBER n)
by_spelling is misplaced unknown (Wide n) = is (DOUBLE n)
by_spelling is misplaced unknown Remark = misplaced
by_spelling is misplaced unknown Plain = unknown

-- after ['] and [COMPILE] a word is a name first, elsewhere a keyword
abbrev pub keyword_first : {A : Type 0} → (is : Token → A) → Half → Sense → (name_first : A) → A
keyword_first is Free (Keyword w) name_first = is w
keyword_first is Compiling (Keyword w) name_first = is w
keyword_first is h s name_first = name_first
