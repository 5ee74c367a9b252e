-- How the reader's private functions go, check by check. No public clause speaks of it.
use Rattle.std.specs.Prelude.{◌≡◌, ℕ, Bool, not, List, length, take, drop, Result, Ok, Err, nat_lt, ◌⊎◌, ◌||◌, if◌then◌else◌}
use Rattle.std.specs.Str.{bytes_eq}
use Rattle.memory.specs.Bytes.{limit_of}
use Rattle.image_loader.specs.Files.{Contents, magic, version, field_at}
use Rattle.image_loader.specs.declared.fault.ImageFault.{ImageFault}
use Rattle.image_loader.specs.declared.fault.ImageFault.TheVariants as fault

-- the two lists are equal as far as both go
abbrev pub agree : List ℕ → List ℕ → Bool
agree xs ys = bytes_eq (take (length ys) xs) (take (length xs) ys)

abbrev pub is_bad_count : ℕ → Bool
is_bad_count n = nat_lt n 2 || nat_lt 16 n

abbrev pub is_bad_size : ℕ → ℕ → Bool
is_bad_size buffers n = nat_lt n 256 || nat_lt (limit_of buffers) n

-- how many buffers version 2 says, by one byte of the field or by both
abbrev pub buffers_of : List ℕ → Result (ℕ × ℕ) ImageFault
buffers_of bytes =
    if nat_lt (length bytes) 11 then Err fault.Truncated
    else if is_bad_count (field_at 10 bytes) then Err fault.BadBuffers
    else if nat_lt (length bytes) 12 then Err fault.Truncated
    else Ok (field_at 10 bytes, 12)

-- how many buffers there are, and where the entry is
abbrev pub opening_of : List ℕ → Result (ℕ × ℕ) ImageFault
opening_of bytes =
    if not (agree bytes magic) then Err fault.BadMagic
    else if agree bytes (version 1) then (if nat_lt (length bytes) 10 then Err fault.Truncated else Ok (4, 10))
    else if not (agree bytes (version 2)) then Err fault.BadVersion
    else buffers_of bytes

-- the image, if as many bytes come after the size as it says
abbrev pub body_by : Bool → Bool → Contents → Result Contents ImageFault
body_by is_short is_long found =
    if is_short then Err fault.Truncated
    else if is_long then Err fault.TrailingBytes
    else Ok found

-- what is from the entry on
abbrev pub tail_of : ℕ → List ℕ → Result Contents ImageFault
tail_of buffers bytes =
    if nat_lt (length bytes) 4 then Err fault.Truncated
    else if is_bad_size buffers (field_at 2 bytes) then Err fault.BadSize
    else body_by (nat_lt (length (drop 4 bytes)) (field_at 2 bytes)) (nat_lt (field_at 2 bytes) (length (drop 4 bytes)))
    (record { buffers = buffers; entry = field_at 0 bytes; bytes = drop 4 bytes })

abbrev pub and_then : {A B : Type 0} → Result A ImageFault → (A → Result B ImageFault) → Result B ImageFault
and_then (Ok x) f = f x
and_then (Err e) f = Err e

abbrev pub read_of : List ℕ → Result Contents ImageFault
read_of bytes = and_then (opening_of bytes) (λ found. tail_of found.0 (drop found.1 bytes))

-- an image that was found is copied, unless memory runs out; a fault stays
abbrev pub IsCopied : (found copy : Result Contents ImageFault) → Type 0
IsCopied (Ok image) copy = (copy ≡ Ok image) ⊎ (copy ≡ Err fault.OutOfMemory)
IsCopied (Err e) copy = copy ≡ Err e
