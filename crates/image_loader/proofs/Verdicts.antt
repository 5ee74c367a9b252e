-- What reading gives of each sort of bytes, and of which sort bytes are if reading gives something.
use Rattle.std.proofs.Common.{◌≡◌, ℕ, List, Result, Ok, Err, IfOk, IsOk, refl, sym, ◌∙◌, subst, arith}
use Rattle.image_loader.specs.declared.fault.ImageFault.{ImageFault}
use Rattle.image_loader.specs.declared.fault.ImageFault.TheVariants as fault
use Rattle.image_loader.specs.Files.{Contents, IsFile, IsCutShort, IsFollowed, HasBadMagic, HasBadVersion, HasBadBuffers, HasBadSize}
use Rattle.image_loader.specs.Checks.{read_of}
use Rattle.image_loader.proofs.Tails.{AreBytes}
use Rattle.image_loader.proofs.Sorts.{Kind, kind_of, is_file, is_cut_short, is_followed, has_bad_magic, has_bad_version, has_bad_buffers, has_bad_size, file_reads, cut_short_reads, followed_reads, bad_magic_reads, bad_version_reads, bad_buffers_reads, bad_size_reads}

-- the answer for each sort
abbrev given : {bytes : List ℕ} → Kind bytes → Result Contents ImageFault
given (is_file image f) = Ok image
given (is_cut_short f) = Err fault.Truncated
given (is_followed f) = Err fault.TrailingBytes
given (has_bad_magic bad) = Err fault.BadMagic
given (has_bad_version bad) = Err fault.BadVersion
given (has_bad_buffers bad) = Err fault.BadBuffers
given (has_bad_size bad) = Err fault.BadSize

reads : (bytes : List ℕ) (k : Kind bytes) → read_of bytes ≡ given k
reads bytes (is_file image f) = file_reads bytes image f
reads bytes (is_cut_short f) = cut_short_reads bytes f
reads bytes (is_followed f) = followed_reads bytes f
reads bytes (has_bad_magic bad) = bad_magic_reads bytes bad
reads bytes (has_bad_version bad) = bad_version_reads bytes bad
reads bytes (has_bad_buffers bad) = bad_buffers_reads bytes bad
reads bytes (has_bad_size bad) = bad_size_reads bytes bad

cut_short_given : {bytes : List ℕ} (k : Kind bytes) → given k ≡ Err fault.Truncated → IsCutShort bytes
cut_short_given k e = grind (arith, is_cut_short, is_file, is_followed, has_bad_magic, has_bad_version, has_bad_buffers, has_bad_size)

followed_given : {bytes : List ℕ} (k : Kind bytes) → given k ≡ Err fault.TrailingBytes → IsFollowed bytes
followed_given k e = grind (arith, is_followed, is_file, is_cut_short, has_bad_magic, has_bad_version, has_bad_buffers, has_bad_size)

bad_magic_given : {bytes : List ℕ} (k : Kind bytes) → given k ≡ Err fault.BadMagic → HasBadMagic bytes
bad_magic_given k e = grind (arith, has_bad_magic, is_file, is_cut_short, is_followed, has_bad_version, has_bad_buffers, has_bad_size)

bad_version_given : {bytes : List ℕ} (k : Kind bytes) → given k ≡ Err fault.BadVersion → HasBadVersion bytes
bad_version_given k e = grind (arith, has_bad_version, has_bad_buffers, is_file, is_cut_short, is_followed, has_bad_magic, has_bad_size)

bad_buffers_given : {bytes : List ℕ} (k : Kind bytes) → given k ≡ Err fault.BadBuffers → HasBadBuffers bytes
bad_buffers_given k e = grind (arith, has_bad_buffers, is_file, is_cut_short, is_followed, has_bad_magic, has_bad_version, has_bad_size)

bad_size_given : {bytes : List ℕ} (k : Kind bytes) → given k ≡ Err fault.BadSize → HasBadSize bytes
bad_size_given k e = grind (arith, has_bad_size, is_file, is_cut_short, is_followed, has_bad_magic, has_bad_version, has_bad_buffers)

file_given : {bytes : List ℕ} (k : Kind bytes) → IsOk (given k) → (image : Contents) × (IsFile bytes image × (given k ≡ Ok image))
file_given k e = grind (arith, is_file, is_cut_short, is_followed, has_bad_magic, has_bad_version, has_bad_buffers, has_bad_size)

known_given : {bytes : List ℕ} (k : Kind bytes) → ¬ (given k ≡ Err fault.OutOfMemory)
known_given k e = grind (arith, is_file, is_cut_short, is_followed, has_bad_magic, has_bad_version, has_bad_buffers, has_bad_size)

-- what is given for the sort of these bytes is what a function that reads them gives
sorted : (bytes : List ℕ) (r : Result Contents ImageFault) (fit : AreBytes bytes) → r ≡ read_of bytes → given (kind_of bytes fit) ≡ r
sorted bytes r fit h = sym (reads bytes (kind_of bytes fit)) ∙ sym h

pub truncated : (bytes : List ℕ) (r : Result Contents ImageFault) → AreBytes bytes → r ≡ read_of bytes → (r ≡ Err fault.Truncated → IsCutShort bytes) × (IsCutShort bytes → r ≡ Err fault.Truncated)
truncated bytes r fit h = (λ e. cut_short_given (kind_of bytes fit) (sorted bytes r fit h ∙ e), λ f. h ∙ cut_short_reads bytes f)

pub trailing : (bytes : List ℕ) (r : Result Contents ImageFault) → AreBytes bytes → r ≡ read_of bytes → (r ≡ Err fault.TrailingBytes → IsFollowed bytes) × (IsFollowed bytes → r ≡ Err fault.TrailingBytes)
trailing bytes r fit h = (λ e. followed_given (kind_of bytes fit) (sorted bytes r fit h ∙ e), λ f. h ∙ followed_reads bytes f)

pub bad_magic : (bytes : List ℕ) (r : Result Contents ImageFault) → AreBytes bytes → r ≡ read_of bytes → (r ≡ Err fault.BadMagic → HasBadMagic bytes) × (HasBadMagic bytes → r ≡ Err fault.BadMagic)
bad_magic bytes r fit h = (λ e. bad_magic_given (kind_of bytes fit) (sorted bytes r fit h ∙ e), λ f. h ∙ bad_magic_reads bytes f)

pub bad_version : (bytes : List ℕ) (r : Result Contents ImageFault) → AreBytes bytes → r ≡ read_of bytes → (r ≡ Err fault.BadVersion → HasBadVersion bytes) × (HasBadVersion bytes → r ≡ Err fault.BadVersion)
bad_version bytes r fit h = (λ e. bad_version_given (kind_of bytes fit) (sorted bytes r fit h ∙ e), λ f. h ∙ bad_version_reads bytes f)

pub bad_buffers : (bytes : List ℕ) (r : Result Contents ImageFault) → AreBytes bytes → r ≡ read_of bytes → (r ≡ Err fault.BadBuffers → HasBadBuffers bytes) × (HasBadBuffers bytes → r ≡ Err fault.BadBuffers)
bad_buffers bytes r fit h = (λ e. bad_buffers_given (kind_of bytes fit) (sorted bytes r fit h ∙ e), λ f. h ∙ bad_buffers_reads bytes f)

pub bad_size : (bytes : List ℕ) (r : Result Contents ImageFault) → AreBytes bytes → r ≡ read_of bytes → (r ≡ Err fault.BadSize → HasBadSize bytes) × (HasBadSize bytes → r ≡ Err fault.BadSize)
bad_size bytes r fit h = (λ e. bad_size_given (kind_of bytes fit) (sorted bytes r fit h ∙ e), λ f. h ∙ bad_size_reads bytes f)

pub known : (bytes : List ℕ) (r : Result Contents ImageFault) → AreBytes bytes → r ≡ read_of bytes → ¬ (r ≡ Err fault.OutOfMemory)
known bytes r fit h e = known_given (kind_of bytes fit) (sorted bytes r fit h ∙ e)

same_image : (r : Result Contents ImageFault) (first second : Contents) → r ≡ Ok first → r ≡ Ok second → first ≡ second
same_image r first second e f = cc

pub found : (bytes : List ℕ) (r : Result Contents ImageFault) → AreBytes bytes → r ≡ read_of bytes → IfOk r (λ image. IsFile bytes image)
found bytes (Err e) fit h = tt
found bytes (Ok image) fit h =
    let e : given (kind_of bytes fit) ≡ Ok image = sorted bytes (Ok image) fit h in
    let ok : IsOk (given (kind_of bytes fit)) = (let P : Result Contents ImageFault → Type 0 = λ x. IsOk x in subst P (sym e) refl) in
    let file = file_given (kind_of bytes fit) ok in
    let P : Contents → Type 0 = λ x. IsFile bytes x in
    subst P (same_image (given (kind_of bytes fit)) file.0 image file.1.1 e) file.1.0

pub accepted : (bytes : List ℕ) (r : Result Contents ImageFault) (image : Contents) → r ≡ read_of bytes → IsFile bytes image → r ≡ Ok image
accepted bytes r image h f = h ∙ file_reads bytes image f
