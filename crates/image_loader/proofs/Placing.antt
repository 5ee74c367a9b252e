-- A header and bytes that are put at the front of a room.
use Rattle.std.proofs.Common.{◌≡◌, ℕ, ◌+◌, List, ◌++◌, length, take, drop, refl, sym, ap, ◌∙◌, arith, append_assoc}
use Rattle.std.proofs.lemmas.List.{length-append, take_at, drop_at, drop-drop}
use Rattle.image_loader.specs.Files.{Contents, IsImage, IsWritten, opening, field, file}

-- they are the first ones of the room
in_front : (header bytes rest : List ℕ) (size : ℕ) → size ≡ length header + length bytes → take size (header ++ (bytes ++ rest)) ≡ header ++ bytes
in_front header bytes rest size e = ap (take size) (sym (append_assoc header bytes rest)) ∙ take_at (header ++ bytes) rest size (length-append header bytes ∙ sym e)

-- the header, put together in another order
same_file : (image : Contents) → (opening image.buffers ++ field image.entry ++ field (length image.bytes)) ++ image.bytes ≡ file image
same_file image = simp append_assoc refl

pub written : (image : Contents) (header bytes rest : List ℕ) (n : ℕ) → IsImage image → length header ≡ 16 → n ≡ length bytes
    → header ≡ opening image.buffers ++ field image.entry ++ field (length image.bytes) → bytes ≡ image.bytes
    → IsWritten (take (16 + n) (header ++ (bytes ++ rest))) image
written image header bytes rest n is_image sixteen long h b = grind (arith, in_front, same_file)

-- what is after them is the room's as it was
pub beyond : (header bytes room : List ℕ) (n : ℕ) → length header ≡ 16 → n ≡ length bytes → drop (16 + n) (header ++ (bytes ++ drop n (drop 16 room))) ≡ drop (16 + n) room
beyond header bytes room n sixteen long =
    ap (drop (16 + n)) (sym (append_assoc header bytes (drop n (drop 16 room))))
    ∙ drop_at (header ++ bytes) (drop n (drop 16 room)) (16 + n) (omega (arith, sixteen, long, length-append header bytes))
    ∙ drop-drop n 16 room
