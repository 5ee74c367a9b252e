-- Images, and the bytes of their files.
use Rattle.std.specs.Prelude.{◌≡◌, ◌⊎◌, ◌+◌, ◌≤◌, ◌<◌, ℕ, List, ◌∷◌, ◌++◌, length, take, drop, All, codes}
use Rattle.byteorder.specs.Endian.{little_bytes, little_number}
use Rattle.memory.specs.Bytes.{IsCount, limit_of}

-- what an image has: how many block buffers there are, the compilation address of the word that it starts with, and the
-- bytes of memory from address 0 on
pub record Contents : Type 0 where
  pub buffers : ℕ
  pub entry : ℕ
  pub bytes : List ℕ

-- how many bytes an image with so many buffers may have: the buffers come after them
abbrev pub IsSize : ℕ → ℕ → Type 0
IsSize buffers n = (256 ≤ n) × (n ≤ limit_of buffers)

-- there are 2 to 16 buffers, the entry is an address, and the bytes are bytes, as many as an image may have
pub record IsImage (image : Contents) : Type 0 where
  pub buffers : IsCount image.buffers
  pub entry : image.entry < 65536
  pub size : IsSize image.buffers (length image.bytes)
  pub bytes : All (λ b. b < 256) image.bytes

-- each file begins with the magic
abbrev pub magic : List ℕ
magic = codes "FTH83IMG"

-- each other field has two bytes, the lower one first
abbrev pub field : ℕ → List ℕ
field x = little_bytes 2 x

-- the number that the field at a place stands for
abbrev pub field_at : ℕ → List ℕ → ℕ
field_at place bytes = little_number 2 (drop place bytes)

-- then comes the version, and in version 2 how many buffers there are
abbrev pub version : ℕ → List ℕ
version n = magic ++ field n

abbrev pub opening : ℕ → List ℕ
opening buffers = version 2 ++ field buffers

-- so begins a file of an image with so many buffers: in version 1 there are four
abbrev pub Opens : List ℕ → ℕ → Type 0
Opens start buffers = ((start ≡ opening buffers) × IsCount buffers) ⊎ ((start ≡ version 1) × (buffers ≡ 4))

-- then come the entry, the size, and the bytes; nothing follows
abbrev pub tail : Contents → List ℕ
tail image = field image.entry ++ field (length image.bytes) ++ image.bytes

-- these bytes are a file of this image
pub record IsFile (bytes : List ℕ) (image : Contents) : Type 0 where
  pub start : List ℕ
  pub opens : Opens start image.buffers
  pub spelled : bytes ≡ start ++ tail image
  pub is_image : IsImage image

-- and this is the one that is written: version 2
abbrev pub file : Contents → List ℕ
file image = opening image.buffers ++ tail image

pub record IsWritten (bytes : List ℕ) (image : Contents) : Type 0 where
  pub spelled : bytes ≡ file image
  pub is_image : IsImage image

-- these bytes are a file except its end, of which at least a byte is lacking
pub record IsCutShort (bytes : List ℕ) : Type 0 where
  pub image : Contents
  pub next : ℕ
  pub rest : List ℕ
  pub whole : IsFile (bytes ++ next ∷ rest) image

-- these bytes are a file and at least a byte after it
pub record IsFollowed (bytes : List ℕ) : Type 0 where
  pub whole : List ℕ
  pub image : Contents
  pub next : ℕ
  pub rest : List ℕ
  pub is_file : IsFile whole image
  pub spelled : bytes ≡ whole ++ next ∷ rest

-- the two lists are equal as far as both go
abbrev pub Agree : List ℕ → List ℕ → Type 0
Agree xs ys = take (length ys) xs ≡ take (length xs) ys

-- the first bytes, as far as they go, are no beginning of the magic
abbrev pub HasBadMagic : List ℕ → Type 0
HasBadMagic bytes = ¬ Agree bytes magic

-- the magic fits, and the next bytes, as far as they go, are no beginning of a version
pub record HasBadVersion (bytes : List ℕ) : Type 0 where
  pub magic_fits : Agree bytes magic
  pub one_misfits : ¬ Agree bytes (version 1)
  pub two_misfits : ¬ Agree bytes (version 2)

-- version 2 fits, and the next bytes, as far as they go, are no beginning of a number of buffers
pub record HasBadBuffers (bytes : List ℕ) : Type 0 where
  pub version_fits : Agree bytes (version 2)
  pub buffers_misfit : (buffers : ℕ) → IsCount buffers → ¬ Agree bytes (opening buffers)

-- all before the entry fits, and both bytes of the size exist and stand for no size
pub record HasBadSize (bytes : List ℕ) : Type 0 where
  pub start : List ℕ
  pub buffers : ℕ
  pub opens : Opens start buffers
  pub opening_fits : Agree bytes start
  pub size_stands : length start + 4 ≤ length bytes
  pub size_misfits : ¬ IsSize buffers (field_at (length start + 2) bytes)
