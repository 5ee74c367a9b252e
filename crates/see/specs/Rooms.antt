-- Room in which a word is shown.
use Rattle.std.specs.Prelude.{◌≡◌, ℕ, ◌+◌, ◌*◌, ◌≤◌, List, length, vec_capacity}
use Rattle.dictionary.specs.Search.{Found, sought}
use Rattle.see.specs.Extent.{parameter_field, extent}
use Rattle.see.specs.declared.thread_room.ThreadRoom.{ThreadRoom}
use Rattle.see.specs.declared.word_room.WordRoom.{WordRoom}

-- room for the words of a thread of so many bytes
pub record IsRoomFor (most : ℕ) (room : ThreadRoom) : Type 0 where
  pub words : most + 2 ≤ vec_capacity room.words
  pub begins : most ≤ vec_capacity room.begins
  pub frames : most + 1 ≤ vec_capacity room.frames
  pub whole : most + 1 ≤ vec_capacity room.whole
  pub image : most ≤ vec_capacity room.draft.image
  pub marks : 64 ≤ vec_capacity room.draft.marks

-- room for such a thread, its words, and their text: 42 bytes for each word, beside what lies in the thread
pub record IsWordRoom (room : WordRoom) : Type 0 where
  pub controls : 28 ≤ vec_capacity room.controls
  pub bytes : room.most ≤ vec_capacity room.bytes
  pub thread : IsRoomFor room.most room.thread
  pub name : 31 ≤ vec_capacity room.name
  pub text : 43 * room.most + 75 ≤ vec_capacity room.text

-- the word that a name means has no thread of more bytes
abbrev pub HasWithin : List ℕ → List ℕ → ℕ → Type 0
HasWithin m name most = (l : ℕ) → sought m name ≡ Found l → length (extent m (parameter_field m l)) ≤ most

-- what a room is for, and the text that it has
pub record Showing : Type 0 where
  pub most : ℕ
  pub text : List ℕ
