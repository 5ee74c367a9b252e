-- What the compiler's steps do to the bytes and the marks.
use Rattle.std.proofs.Common.{◌≡◌, Bool, ℕ, ◌+◌, ◌<◌, List, [], ◌∷◌, ◌++◌, length, Some, Ok, refl, sym, ap, ◌∙◌, arith, append_assoc, append-nil, length-append}
use Rattle.colon_bodies.specs.declared.draft.Mark.{Mark}
use Rattle.colon_bodies.specs.declared.draft.Mark.TheVariants as m
use Rattle.colon_bodies.specs.declared.words.Half.{Half}
use Rattle.colon_bodies.specs.declared.words.Half.TheVariants.{Free}
use Rattle.colon_bodies.specs.Tokens.{ELSE, THEN, WHILE, REPEAT, LOOP, loop_control}
use Rattle.colon_bodies.specs.Tree.{Body, Empty, Definition}
use Rattle.colon_bodies.specs.Code.{size, all_size, code, all_code}
use Rattle.memory.specs.Bytes.{cell_bytes}
use Rattle.colon_bodies.specs.Open.{Outer, Top, Past, InIf, InElse, InBegin, InWhile, InDo, complete, read, outer_size, outer_code, half_size, half_code, open_size, open_code}
use Rattle.colon_bodies.specs.Draft.{marks_of, top_mark, outside, Drafted, After, Patches}
use Rattle.colon_bodies.proofs.Cells.{length-cell}
use Rattle.colon_bodies.proofs.Parts.{by_parts, by_frames}

-- lengths
pub length-code : (rt : ℕ → ℕ) (t : Body) (at : ℕ) → length (code rt t at) ≡ size t
length-code rt = by_parts (λ t. (at : ℕ) → length (code rt t at) ≡ size t) (elim [ Empty ↦ λ ih at. refl | t ↦ λ ih at. grind (arith, length-append, length-cell, ih) ])

pub length-outer : (rt : ℕ → ℕ) (o : Outer) (at : ℕ) → length (outer_code rt o at) ≡ outer_size o
length-outer rt = by_frames (λ o. (at : ℕ) → length (outer_code rt o at) ≡ outer_size o) (elim [ Top ↦ λ ih at. refl | o ↦ λ ih at. grind (arith, length-append, length-cell, length-code, ih) ])

pub length-all : (rt : ℕ → ℕ) (d : Definition) (at : ℕ) → length (all_code rt d at) ≡ all_size d
length-all rt d at = grind (arith, length-code, length-append, length-cell)

length-half : (rt : ℕ → ℕ) (h : Half) (bs : List ℕ) → length (half_code rt h bs) ≡ length bs + half_size h
length-half rt h bs = grind (arith, length-append, length-cell)

pub length-open : (rt : ℕ → ℕ) (o : Outer) (t : Body) (h : Half) (at : ℕ) → length (open_code rt o t h at) ≡ open_size o t h
length-open rt o t h at = length-half rt h (outer_code rt o at ++ code rt t (at + outer_size o)) ∙ simp (length-append, length-outer, length-code)

pub drafted_length : (rt : ℕ → ℕ) (at : ℕ) (o : Outer) (t : Body) (h : Half) (image : List ℕ) (marks : List Mark) → Drafted rt at o t h image marks → length image ≡ open_size o t h
drafted_length rt at o t h image marks d = ap length d.bytes ∙ length-open rt o t h at

-- a name after what is half read
pub called : (rt : ℕ → ℕ) (at : ℕ) (o : Outer) (t : Body) (h : Half) (w : ℕ) (image new : List ℕ) (marks : List Mark) → new ≡ image ++ cell_bytes w → Drafted rt at o t h image marks → Drafted rt at o (complete h t w) Free new marks
called rt at o t h w image new marks e d = grind (arith, append_assoc)

-- DOES>
pub done : (rt : ℕ → ℕ) (at : ℕ) (t : Body) (image new : List ℕ) (marks : List Mark) (control : ℕ) → rt 18 ≡ control → new ≡ image ++ cell_bytes control → Drafted rt at Top t Free image marks → Drafted rt at (Past t) Empty Free new marks
done rt at t image new marks control r e d = grind (arith, append-nil)

-- a cell that waits is within the image
pub if_within : (at place : ℕ) (image : List ℕ) (marks : List Mark) (rt : ℕ → ℕ) (o : Outer) (t : Body) (h : Half) → Drafted rt at o t h image marks → top_mark at o ≡ Some (m.If place) → place + 1 < length image
if_within at place image marks rt (InIf o t) a h d e =
    let p : outer_size o + size t + 2 ≡ place = cc in omega (arith, drafted_length rt at (InIf o t) a h image marks d)
if_within at place image marks rt _ a h d e = cc

pub else_within : (at place : ℕ) (image : List ℕ) (marks : List Mark) (rt : ℕ → ℕ) (o : Outer) (t : Body) (h : Half) → Drafted rt at o t h image marks → top_mark at o ≡ Some (m.Else place) → place + 1 < length image
else_within at place image marks rt (InElse o t a) b h d e =
    let p : outer_size o + size t + (4 + size a) + 2 ≡ place = cc in omega (arith, drafted_length rt at (InElse o t a) b h image marks d)
else_within at place image marks rt _ a h d e = cc

pub while_within : (at target place : ℕ) (image : List ℕ) (marks : List Mark) (rt : ℕ → ℕ) (o : Outer) (t : Body) (h : Half) → Drafted rt at o t h image marks → top_mark at o ≡ Some (m.While target place) → place + 1 < length image
while_within at target place image marks rt (InWhile o t a) b h d e =
    let p : outer_size o + size t + size a + 2 ≡ place = cc in omega (arith, drafted_length rt at (InWhile o t a) b h image marks d)
while_within at target place image marks rt _ a h d e = cc

pub do_within : (at place : ℕ) (image : List ℕ) (marks : List Mark) (rt : ℕ → ℕ) (o : Outer) (t : Body) (h : Half) → Drafted rt at o t h image marks → top_mark at o ≡ Some (m.Do place) → place + 1 < length image
do_within at place image marks rt (InDo o t) a h d e =
    let p : outer_size o + size t + 2 ≡ place = cc in omega (arith, drafted_length rt at (InDo o t) a h image marks d)
do_within at place image marks rt _ a h d e = cc

-- THEN
pub then_if : (rt : ℕ → ℕ) (at : ℕ) (o : Outer) (t : Body) (image new : List ℕ) (marks marks' : List Mark) (place x : ℕ) → top_mark at o ≡ Some (m.If place) → marks' ≡ marks_of at (outside o) → x ≡ at + length image → Drafted rt at o t Free image marks → Patches image new place x → After rt at (read o t Free THEN) (Ok tt) new marks'
then_if rt at (InIf o t) a image new marks marks' place x e k h d w =
    let p : outer_size o + size t + 2 ≡ place = cc in
    let n = drafted_length rt at (InIf o t) a Free image marks d in
    let A = outer_code rt o at in
    let C = code rt t (at + outer_size o) in
    let R = cell_bytes (rt 8) in
    let q : at + (outer_size o + (size t + 4)) ≡ at + outer_size o + size t + 4 = omega arith in
    let z : x ≡ at + outer_size o + size t + (4 + size a) = omega arith in
    let B = λ (i : ℕ). code rt a i in
    let split : image ≡ (A ++ (C ++ R)) ++ (cell_bytes 0 ++ B (at + (outer_size o + (size t + 4)))) = d.bytes ∙ simp append_assoc in
    grind (arith, length-append, length-outer, length-code, length-cell, append_assoc)
then_if rt at _ a image new marks marks' place x e k h d w = cc

pub then_else : (rt : ℕ → ℕ) (at : ℕ) (o : Outer) (t : Body) (image new : List ℕ) (marks marks' : List Mark) (place x : ℕ) → top_mark at o ≡ Some (m.Else place) → marks' ≡ marks_of at (outside o) → x ≡ at + length image → Drafted rt at o t Free image marks → Patches image new place x → After rt at (read o t Free THEN) (Ok tt) new marks'
then_else rt at (InElse o t a) b image new marks marks' place x e k h d w =
    let pl : outer_size o + size t + (4 + size a) + 2 ≡ place = cc in
    let n = drafted_length rt at (InElse o t a) b Free image marks d in
    let A = outer_code rt o at in
    let C = code rt t (at + outer_size o) in
    let p = at + outer_size o + size t in
    let Y = cell_bytes (p + (8 + size a)) in
    let Ba = code rt a (p + 4) in
    let B = λ (i : ℕ). code rt b i in
    let q : at + (outer_size o + (size t + (8 + size a))) ≡ p + (8 + size a) = omega arith in
    let z : x ≡ p + (8 + size a + size b) = omega arith in
    let front = A ++ (C ++ (cell_bytes (rt 8) ++ (Y ++ (Ba ++ cell_bytes (rt 7))))) in
    let back = B (at + (outer_size o + (size t + (8 + size a)))) in
    let split : image ≡ front ++ (cell_bytes 0 ++ back) = d.bytes ∙ simp append_assoc in
    grind (arith, length-append, length-outer, length-code, length-cell, append_assoc)
then_else rt at _ a image new marks marks' place x e k h d w = cc

-- IF, DO and BEGIN
pub opened_if : (rt : ℕ → ℕ) (at : ℕ) (o : Outer) (t : Body) (image one new : List ℕ) (marks marks' : List Mark) (control place : ℕ) → rt 8 ≡ control → one ≡ image ++ cell_bytes control → place ≡ length one → new ≡ one ++ cell_bytes 0 → marks' ≡ marks ++ m.If place ∷ [] → Drafted rt at o t Free image marks → Drafted rt at (InIf o t) Empty Free new marks'
opened_if rt at o t image one new marks marks' control place r e1 l e2 k d = grind (arith, length-append, length-cell, append_assoc, append-nil, drafted_length rt at o t Free image marks d)

pub opened_do : (rt : ℕ → ℕ) (at : ℕ) (o : Outer) (t : Body) (image one new : List ℕ) (marks marks' : List Mark) (control place : ℕ) → rt 9 ≡ control → one ≡ image ++ cell_bytes control → place ≡ length one → new ≡ one ++ cell_bytes 0 → marks' ≡ marks ++ m.Do place ∷ [] → Drafted rt at o t Free image marks → Drafted rt at (InDo o t) Empty Free new marks'
opened_do rt at o t image one new marks marks' control place r e1 l e2 k d = grind (arith, length-append, length-cell, append_assoc, append-nil, drafted_length rt at o t Free image marks d)

pub opened_begin : (rt : ℕ → ℕ) (at : ℕ) (o : Outer) (t : Body) (image : List ℕ) (marks marks' : List Mark) (target : ℕ) → target ≡ at + length image → marks' ≡ marks ++ m.Begin target ∷ [] → Drafted rt at o t Free image marks → Drafted rt at (InBegin o t) Empty Free image marks'
opened_begin rt at o t image marks marks' target h k d = grind (arith, append-nil, drafted_length rt at o t Free image marks d)

-- ELSE
pub switched : (rt : ℕ → ℕ) (at : ℕ) (o : Outer) (t : Body) (image one two new : List ℕ) (marks marks1 marks2 : List Mark) (place place2 control x : ℕ) → rt 7 ≡ control → top_mark at o ≡ Some (m.If place) → marks1 ≡ marks_of at (outside o) → one ≡ image ++ cell_bytes control → place2 ≡ length one → two ≡ one ++ cell_bytes 0 → marks2 ≡ marks1 ++ m.Else place2 ∷ [] → x ≡ at + length two → Drafted rt at o t Free image marks → Patches two new place x → After rt at (read o t Free ELSE) (Ok tt) new marks2
switched rt at (InIf o t) a image one two new marks marks1 marks2 place place2 control x r e k1 e1 l2 e2 k2 h d w =
    let pl : outer_size o + size t + 2 ≡ place = cc in
    let n = drafted_length rt at (InIf o t) a Free image marks d in
    let n1 : length one ≡ length image + 2 = omega (arith, ap length e1, length-append image (cell_bytes control), length-cell control) in
    let n2 : length two ≡ length image + 4 = omega (arith, ap length e2, length-append one (cell_bytes 0), length-cell 0) in
    let A = outer_code rt o at in
    let C = code rt t (at + outer_size o) in
    let p = at + outer_size o + size t in
    let B = λ (i : ℕ). code rt a i in
    let Q = at + (outer_size o + (size t + 4)) in
    let q : Q ≡ p + 4 = omega arith in
    let z : x ≡ p + (8 + size a) = omega arith in
    let p2 : place2 ≡ outer_size o + size t + (4 + size a) + 2 = omega arith in
    let front = A ++ (C ++ cell_bytes (rt 8)) in
    let back = B Q ++ (cell_bytes (rt 7) ++ cell_bytes 0) in
    let all : two ≡ (open_code rt (InIf o t) a Free at ++ cell_bytes (rt 7)) ++ cell_bytes 0 = e2 ∙ ap (λ l. l ++ cell_bytes 0) (e1 ∙ ap (λ v. image ++ cell_bytes v) (sym r) ∙ ap (λ l. l ++ cell_bytes (rt 7)) d.bytes) in
    let split : two ≡ front ++ (cell_bytes 0 ++ back) = all ∙ simp append_assoc in
    grind (arith, length-append, length-outer, length-code, length-cell, append_assoc, append-nil)
switched rt at _ a image one two new marks marks1 marks2 place place2 control x r e k1 e1 l2 e2 k2 h d w = cc

-- WHILE
pub tested : (rt : ℕ → ℕ) (at : ℕ) (o : Outer) (t : Body) (image one new : List ℕ) (marks marks1 marks2 : List Mark) (target place control : ℕ) → rt 8 ≡ control → top_mark at o ≡ Some (m.Begin target) → marks1 ≡ marks_of at (outside o) → one ≡ image ++ cell_bytes control → place ≡ length one → new ≡ one ++ cell_bytes 0 → marks2 ≡ marks1 ++ m.While target place ∷ [] → Drafted rt at o t Free image marks → After rt at (read o t Free WHILE) (Ok tt) new marks2
tested rt at (InBegin o t) a image one new marks marks1 marks2 target place control r e k1 e1 l2 e2 k2 d = grind (arith, length-append, length-cell, append_assoc, append-nil, drafted_length rt at (InBegin o t) a Free image marks d)
tested rt at _ a image one new marks marks1 marks2 target place control r e k1 e1 l2 e2 k2 d = cc

-- REPEAT
pub repeated : (rt : ℕ → ℕ) (at : ℕ) (o : Outer) (t : Body) (image one two new : List ℕ) (marks marks' : List Mark) (target place control x : ℕ) → rt 7 ≡ control → top_mark at o ≡ Some (m.While target place) → marks' ≡ marks_of at (outside o) → one ≡ image ++ cell_bytes control → two ≡ one ++ cell_bytes target → x ≡ at + length two → Drafted rt at o t Free image marks → Patches two new place x → After rt at (read o t Free REPEAT) (Ok tt) new marks'
repeated rt at (InWhile o t a) b image one two new marks marks' target place control x r e k e1 e2 h d w =
    let pl : outer_size o + size t + size a + 2 ≡ place = cc in
    let ta : at + (outer_size o + size t) ≡ target = cc in
    let n = drafted_length rt at (InWhile o t a) b Free image marks d in
    let n1 : length one ≡ length image + 2 = omega (arith, ap length e1, length-append image (cell_bytes control), length-cell control) in
    let n2 : length two ≡ length image + 4 = omega (arith, ap length e2, length-append one (cell_bytes target), length-cell target) in
    let A = outer_code rt o at in
    let C = code rt t (at + outer_size o) in
    let p = at + outer_size o + size t in
    let Ba = code rt a p in
    let B = λ (i : ℕ). code rt b i in
    let Q = at + (outer_size o + (size t + (size a + 4))) in
    let q : Q ≡ p + (size a + 4) = omega arith in
    let z : x ≡ p + (8 + size a + size b) = omega arith in
    let tp : target ≡ p = omega arith in
    let front = A ++ (C ++ (Ba ++ cell_bytes (rt 8))) in
    let back = B Q ++ (cell_bytes (rt 7) ++ cell_bytes target) in
    let all : two ≡ (open_code rt (InWhile o t a) b Free at ++ cell_bytes (rt 7)) ++ cell_bytes target = e2 ∙ ap (λ l. l ++ cell_bytes target) (e1 ∙ ap (λ v. image ++ cell_bytes v) (sym r) ∙ ap (λ l. l ++ cell_bytes (rt 7)) d.bytes) in
    let split : two ≡ front ++ (cell_bytes 0 ++ back) = all ∙ simp append_assoc in
    grind (arith, length-append, length-outer, length-code, length-cell, append_assoc)
repeated rt at _ a image one two new marks marks' target place control x r e k e1 e2 h d w = cc

-- LOOP
pub looped : (rt : ℕ → ℕ) (k2 : Bool) (at : ℕ) (o : Outer) (t : Body) (image one two new : List ℕ) (marks marks' : List Mark) (target place control x : ℕ) → rt (loop_control k2) ≡ control → top_mark at o ≡ Some (m.Do place) → marks' ≡ marks_of at (outside o) → target ≡ at + place + 2 → one ≡ image ++ cell_bytes control → two ≡ one ++ cell_bytes target → x ≡ at + length two → Drafted rt at o t Free image marks → Patches two new place x → After rt at (read o t Free (LOOP k2)) (Ok tt) new marks'
looped rt k2 at (InDo o t) a image one two new marks marks' target place control x r e k g e1 e2 h d w =
    let pl : outer_size o + size t + 2 ≡ place = cc in
    let n = drafted_length rt at (InDo o t) a Free image marks d in
    let n1 : length one ≡ length image + 2 = omega (arith, ap length e1, length-append image (cell_bytes control), length-cell control) in
    let n2 : length two ≡ length image + 4 = omega (arith, ap length e2, length-append one (cell_bytes target), length-cell target) in
    let A = outer_code rt o at in
    let C = code rt t (at + outer_size o) in
    let p = at + outer_size o + size t in
    let B = λ (i : ℕ). code rt a i in
    let Q = at + (outer_size o + (size t + 4)) in
    let q : Q ≡ p + 4 = omega arith in
    let z : x ≡ p + (8 + size a) = omega arith in
    let tp : target ≡ p + 4 = omega arith in
    let front = A ++ (C ++ cell_bytes (rt 9)) in
    let back = B Q ++ (cell_bytes (rt (loop_control k2)) ++ cell_bytes target) in
    let all : two ≡ (open_code rt (InDo o t) a Free at ++ cell_bytes (rt (loop_control k2))) ++ cell_bytes target = e2 ∙ ap (λ l. l ++ cell_bytes target) (e1 ∙ ap (λ v. image ++ cell_bytes v) (sym r) ∙ ap (λ l. l ++ cell_bytes (rt (loop_control k2))) d.bytes) in
    let split : two ≡ front ++ (cell_bytes 0 ++ back) = all ∙ simp append_assoc in
    grind (arith, length-append, length-outer, length-code, length-cell, append_assoc)
looped rt k2 at _ a image one two new marks marks' target place control x r e k g e1 e2 h d w = cc
