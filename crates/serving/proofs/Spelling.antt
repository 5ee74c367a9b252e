-- Requests and the frames that spell them.
use Rattle.std.proofs.Common.{◌≡◌, ℕ, ◌+◌, ◌*◌, ◌/◌, ◌%◌, ◌<◌, ◌==◌, ◌++◌, List, [], ◌∷◌, Bool, true, false, All, refl, sym, ap, ◌∙◌, arith, length, eq-eqb, if◌then◌else◌}
use Rattle.std.specs.Prelude.{slice_index}
use Rattle.std.proofs.lemmas.List.{take_all}
use Rattle.memory.specs.Bytes.{cell_bytes}
use Rattle.machine.specs.Answer.{Reply, Key, Line, InputEnd, InputFault, ReadOk, ReadFault, WriteOk, WriteFault, IsSpelled}
use Rattle.serving.specs.Replies.{long_bytes}
use Rattle.serving.specs.Requests.{Wish, Run, Answer, Enter, SetCell, SetBytes, Look, Registers, PutBack, Memory, Find, View, See, Listed, Extent, Image, Save, Quit, Version, Unknown, framed, wish_frame, wished, cell_in, long_in, line_wish, page_wish, page_in, is_page, bytes_wish, sized, CanBeSpelled, is_known}
use Rattle.serving.specs.declared.requests.Listing.TheVariants.{Headers, Words, TraceLine}

long_read : (n : ℕ) → n % 256 + 256 * (n / 256 % 256) + 65536 * (n / 65536 % 256 + 256 * (n / 16777216)) ≡ n
long_read n = omega arith

cell_read : (x : ℕ) → x % 256 + 256 * (x / 256) ≡ x
cell_read x = omega arith

run_spelled : (n : ℕ) → sized (long_bytes n) 4 (Run (long_in (long_bytes n))) ≡ Run n
unfolding sized
run_spelled n = ap Run (long_read n)

word_spelled : (of : ℕ → Wish) (w : ℕ) → sized (cell_bytes w) 2 (of (cell_in (cell_bytes w) 0)) ≡ of w
unfolding sized cell_bytes
word_spelled of w = ap of (cell_read w)

pair_spelled : (of : ℕ → ℕ → Wish) (a x : ℕ) → sized (cell_bytes a ++ cell_bytes x) 4 (of (cell_in (cell_bytes a ++ cell_bytes x) 0) (cell_in (cell_bytes a ++ cell_bytes x) 2)) ≡ of a x
unfolding sized cell_bytes
pair_spelled of a x = ap (λ v. of v (x % 256 + 256 * (x / 256))) (cell_read a) ∙ ap (of a) (cell_read x)

bytes_spelled : (a : ℕ) (bytes : List ℕ) → bytes_wish (cell_bytes a ++ bytes) ≡ SetBytes a bytes
unfolding bytes_wish cell_bytes
bytes_spelled a bytes = ap (λ v. SetBytes v bytes) (cell_read a)

none_spelled : (w : Wish) → sized [] 0 w ≡ w
unfolding sized
none_spelled w = refl

is_whole : (page : List ℕ) → length page ≡ 1024 → is_page page ≡ true
unfolding is_page
is_whole page h = eq-eqb (length page) 1024 h

whole_page : (page : List ℕ) → length page ≡ 1024 → page_in page ≡ page
unfolding page_in
whole_page page h = take_all 1024 page (omega (arith, h))

page_spelled : (page : List ℕ) → length page ≡ 1024 → page_wish page ≡ Answer (ReadOk page)
unfolding page_wish
page_spelled page h = rw (is_whole page h) (ap (λ p. Answer (ReadOk p)) (whole_page page h))

reply_spelled : (reply : Reply) → IsSpelled reply → wished (wish_frame (Answer reply)).kind (wish_frame (Answer reply)).body ≡ Answer reply
unfolding wished line_wish sized
reply_spelled (Key c) h = refl
reply_spelled (Line bytes true) h = refl
reply_spelled (Line bytes false) h = refl
reply_spelled InputEnd h = refl
reply_spelled InputFault h = refl
reply_spelled (ReadOk page) h = page_spelled page h.0
reply_spelled ReadFault h = refl
reply_spelled WriteOk h = refl
reply_spelled WriteFault h = refl

-- each request that a frame can spell is read from the frame that spells it
pub spelled : (w : Wish) → CanBeSpelled w → wished (wish_frame w).kind (wish_frame w).body ≡ w
unfolding wished
spelled (Run n) h = run_spelled n
spelled (Answer reply) h = reply_spelled reply h
spelled (Enter w) h = word_spelled Enter w
spelled (SetCell a x) h = pair_spelled SetCell a x
spelled (SetBytes a bytes) h = bytes_spelled a bytes
spelled (Memory a x) h = pair_spelled Memory a x
spelled Look h = none_spelled Look
spelled Registers h = none_spelled Registers
spelled (PutBack body) h = refl
spelled (Image w) h = word_spelled Image w
spelled Save h = none_spelled Save
spelled Quit h = none_spelled Quit
spelled Version h = none_spelled Version
spelled (Find name) h = refl
spelled (View name) h = refl
spelled (See name) h = refl
spelled (Listed Headers) h = none_spelled (Listed Headers)
spelled (Listed Words) h = none_spelled (Listed Words)
spelled (Listed TraceLine) h = none_spelled (Listed TraceLine)
spelled (Extent name) h = refl
spelled Unknown h = absurd h

-- the other way
abbrev pub IsRead : ℕ → List ℕ → Wish → Type 0
IsRead k body w = is_known w ≡ true → framed k body ≡ wish_frame w

pub two : (a b : ℕ) → a < 256 → a ∷ b ∷ [] ≡ cell_bytes (a + 256 * b)
unfolding cell_bytes
two a b h =
    let low : (a + 256 * b) % 256 ≡ a = omega (arith, h) in
    let high : (a + 256 * b) / 256 ≡ b = omega (arith, h) in
    rw (low, high) refl

four : (a b c d : ℕ) → a < 256 → b < 256 → c < 256 → a ∷ b ∷ c ∷ d ∷ [] ≡ long_bytes (a + 256 * b + 65536 * (c + 256 * d))
four a b c d h i j =
    let n : ℕ = a + 256 * b + 65536 * (c + 256 * d) in
    let x : n % 256 ≡ a = omega (arith, h, i, j) in
    let y : n / 256 % 256 ≡ b = omega (arith, h, i, j) in
    let z : n / 65536 % 256 ≡ c = omega (arith, h, i, j) in
    let u : n / 16777216 ≡ d = omega (arith, h, i, j) in
    rw (x, y, z, u) refl

equal_by : (k c : ℕ) → (k == c) ≡ true → k ≡ c
equal_by k c q = grind arith

has_length : (page : List ℕ) → is_page page ≡ true → length page ≡ 1024
unfolding is_page
has_length page h = equal_by (length page) 1024 h

step : (k c : ℕ) (body : List ℕ) (x y w : Wish) → (k ≡ c → x ≡ w → IsRead k body w) → (y ≡ w → IsRead k body w) → (b : Bool) → (k == c) ≡ b → (if b then x else y) ≡ w → IsRead k body w
step k c body x y w f g true q e = f (equal_by k c q) e
step k c body x y w f g false q e = g e

empty_back : (k : ℕ) (body : List ℕ) (x w : Wish) → framed k [] ≡ wish_frame x → sized body 0 x ≡ w → IsRead k body w
unfolding sized
empty_back k [] x w f e n = f ∙ ap wish_frame e
empty_back k (a ∷ body) x w f e n = grind arith

run_back : (body : List ℕ) (w : Wish) → All (λ v. v < 256) body → sized body 4 (Run (long_in body)) ≡ w → IsRead 114 body w
unfolding sized
run_back [] w h e n = grind arith
run_back (a ∷ []) w h e n = grind arith
run_back (a ∷ b ∷ []) w h e n = grind arith
run_back (a ∷ b ∷ c ∷ []) w h e n = grind arith
run_back (a ∷ b ∷ c ∷ d ∷ []) w h e n = ap (framed 114) (four a b c d (h 0 0 (omega arith)) (h 1 0 (omega arith)) (h 2 0 (omega arith))) ∙ ap wish_frame e
run_back (a ∷ b ∷ c ∷ d ∷ x ∷ body) w h e n = grind arith

key_back : (body : List ℕ) (w : Wish) → sized body 1 (Answer (Key (slice_index body 0))) ≡ w → IsRead 107 body w
unfolding sized
key_back [] w e n = grind arith
key_back (a ∷ []) w e n = ap wish_frame e
key_back (a ∷ b ∷ body) w e n = grind arith

line_back : (body : List ℕ) (w : Wish) → line_wish body ≡ w → IsRead 108 body w
unfolding line_wish
line_back [] w e n = grind arith
line_back (r ∷ bytes) w e n = grind arith

page_at : (body : List ℕ) (w : Wish) (b : Bool) → is_page body ≡ b → page_wish body ≡ w → IsRead 112 body w
unfolding page_wish
page_at body w false q e n = let no : Unknown ≡ w = sym (rw q refl) ∙ e in grind (arith, no)
page_at body w true q e n = let same : Answer (ReadOk (page_in body)) ≡ w = sym (rw q refl) ∙ e in ap (framed 112) (sym (whole_page body (has_length body q))) ∙ ap wish_frame same

page_back : (body : List ℕ) (w : Wish) → page_wish body ≡ w → IsRead 112 body w
page_back body w e n = page_at body w (is_page body) refl e n

never : false ≡ true → ⊥
never e = grind arith

nothing : (w : Wish) {F : Type 0} → Unknown ≡ w → is_known w ≡ true → F
nothing w e n = let no : is_known Unknown ≡ true = ap is_known e ∙ n in absurd (never no)

-- a body of so many bytes
sized_at : (k n : ℕ) (body : List ℕ) (x w : Wish) (b : Bool) → (length body == n) ≡ b → (length body ≡ n → framed k body ≡ wish_frame x) → sized body n x ≡ w → IsRead k body w
unfolding sized
sized_at k n body x w true q f e m = let same : x ≡ w = sym (rw q refl) ∙ e in f (equal_by (length body) n q) ∙ ap wish_frame same
sized_at k n body x w false q f e m = let no : Unknown ≡ w = sym (rw q refl) ∙ e in nothing w no m

word_is : (body : List ℕ) → All (λ v. v < 256) body → length body ≡ 2 → body ≡ cell_bytes (cell_in body 0)
word_is [] h n = absurd (omega (arith, n))
word_is (a ∷ []) h n = absurd (omega (arith, n))
word_is (a ∷ b ∷ []) h n = two a b (h 0 0 (omega arith))
word_is (a ∷ b ∷ c ∷ body) h n = absurd (omega (arith, n))

pair_is : (body : List ℕ) → All (λ v. v < 256) body → length body ≡ 4 → body ≡ cell_bytes (cell_in body 0) ++ cell_bytes (cell_in body 2)
pair_is [] h n = absurd (omega (arith, n))
pair_is (a ∷ []) h n = absurd (omega (arith, n))
pair_is (a ∷ b ∷ []) h n = absurd (omega (arith, n))
pair_is (a ∷ b ∷ c ∷ []) h n = absurd (omega (arith, n))
pair_is (a ∷ b ∷ c ∷ d ∷ []) h n = ap (λ v. v ++ c ∷ d ∷ []) (two a b (h 0 0 (omega arith))) ∙ ap (λ v. cell_bytes (a + 256 * b) ++ v) (two c d (h 2 0 (omega arith)))
pair_is (a ∷ b ∷ c ∷ d ∷ x ∷ body) h n = absurd (omega (arith, n))

word_back : (k : ℕ) (of : ℕ → Wish) (body : List ℕ) (w : Wish) → ((x : ℕ) → framed k (cell_bytes x) ≡ wish_frame (of x)) → All (λ v. v < 256) body → sized body 2 (of (cell_in body 0)) ≡ w → IsRead k body w
word_back k of body w f h e n = sized_at k 2 body (of (cell_in body 0)) w (length body == 2) refl (λ m. ap (framed k) (word_is body h m) ∙ f (cell_in body 0)) e n

pair_back : (k : ℕ) (of : ℕ → ℕ → Wish) (body : List ℕ) (w : Wish) → ((x y : ℕ) → framed k (cell_bytes x ++ cell_bytes y) ≡ wish_frame (of x y)) → All (λ v. v < 256) body → sized body 4 (of (cell_in body 0) (cell_in body 2)) ≡ w → IsRead k body w
pair_back k of body w f h e n = sized_at k 4 body (of (cell_in body 0) (cell_in body 2)) w (length body == 4) refl (λ m. ap (framed k) (pair_is body h m) ∙ f (cell_in body 0) (cell_in body 2)) e n

bytes_back : (body : List ℕ) (w : Wish) → All (λ v. v < 256) body → bytes_wish body ≡ w → IsRead 77 body w
unfolding bytes_wish
bytes_back [] w h e n = grind arith
bytes_back (a ∷ []) w h e n = grind arith
bytes_back (a ∷ b ∷ bytes) w h e n = ap (λ v. framed 77 (v ++ bytes)) (two a b (h 0 0 (omega arith))) ∙ ap wish_frame e

-- bytes that are read as a request are those of the frame that spells it
pub read_back : (k : ℕ) (body : List ℕ) (w : Wish) → All (λ v. v < 256) body → wished k body ≡ w → IsRead k body w
unfolding wished
read_back k body w h e =
    step k 114 body _ _ w (λ q x n. ap (λ i. framed i body) q ∙ run_back body w h x n) (λ e0.
    step k 107 body _ _ w (λ q x n. ap (λ i. framed i body) q ∙ key_back body w x n) (λ e1.
    step k 108 body _ _ w (λ q x n. ap (λ i. framed i body) q ∙ line_back body w x n) (λ e2.
    step k 120 body _ _ w (λ q x n. ap (λ i. framed i body) q ∙ empty_back 120 body (Answer InputEnd) w refl x n) (λ e3.
    step k 117 body _ _ w (λ q x n. ap (λ i. framed i body) q ∙ empty_back 117 body (Answer InputFault) w refl x n) (λ e4.
    step k 112 body _ _ w (λ q x n. ap (λ i. framed i body) q ∙ page_back body w x n) (λ e5.
    step k 102 body _ _ w (λ q x n. ap (λ i. framed i body) q ∙ empty_back 102 body (Answer ReadFault) w refl x n) (λ e6.
    step k 119 body _ _ w (λ q x n. ap (λ i. framed i body) q ∙ empty_back 119 body (Answer WriteOk) w refl x n) (λ e7.
    step k 103 body _ _ w (λ q x n. ap (λ i. framed i body) q ∙ empty_back 103 body (Answer WriteFault) w refl x n) (λ e8.
    step k 110 body _ _ w (λ q x n. ap (λ i. framed i body) q ∙ word_back 110 Enter body w (λ x. refl) h x n) (λ e9.
    step k 99 body _ _ w (λ q x n. ap (λ i. framed i body) q ∙ pair_back 99 SetCell body w (λ x y. refl) h x n) (λ e10.
    step k 77 body _ _ w (λ q x n. ap (λ i. framed i body) q ∙ bytes_back body w h x n) (λ e11.
    step k 118 body _ _ w (λ q x n. ap (λ i. framed i body) q ∙ empty_back 118 body Look w refl x n) (λ e12.
    step k 71 body _ _ w (λ q x n. ap (λ i. framed i body) q ∙ empty_back 71 body Registers w refl x n) (λ e13.
    step k 80 body _ _ w (λ q x n. ap (λ i. framed i body) q ∙ ap wish_frame x) (λ e14.
    step k 109 body _ _ w (λ q x n. ap (λ i. framed i body) q ∙ pair_back 109 Memory body w (λ x y. refl) h x n) (λ e15.
    step k 121 body _ _ w (λ q x n. ap (λ i. framed i body) q ∙ ap wish_frame x) (λ e16.
    step k 105 body _ _ w (λ q x n. ap (λ i. framed i body) q ∙ ap wish_frame x) (λ e17.
    step k 122 body _ _ w (λ q x n. ap (λ i. framed i body) q ∙ ap wish_frame x) (λ e18.
    step k 104 body _ _ w (λ q x n. ap (λ i. framed i body) q ∙ empty_back 104 body (Listed Headers) w refl x n) (λ e19.
    step k 97 body _ _ w (λ q x n. ap (λ i. framed i body) q ∙ empty_back 97 body (Listed Words) w refl x n) (λ e20.
    step k 106 body _ _ w (λ q x n. ap (λ i. framed i body) q ∙ ap wish_frame x) (λ e21.
    step k 100 body _ _ w (λ q x n. ap (λ i. framed i body) q ∙ empty_back 100 body (Listed TraceLine) w refl x n) (λ e22.
    step k 116 body _ _ w (λ q x n. ap (λ i. framed i body) q ∙ word_back 116 Image body w (λ x. refl) h x n) (λ e23.
    step k 98 body _ _ w (λ q x n. ap (λ i. framed i body) q ∙ empty_back 98 body Save w refl x n) (λ e24.
    step k 113 body _ _ w (λ q x n. ap (λ i. framed i body) q ∙ empty_back 113 body Quit w refl x n) (λ e25.
    step k 86 body _ _ w (λ q x n. ap (λ i. framed i body) q ∙ empty_back 86 body Version w refl x n) (λ e26.
    (λ n. nothing w e26 n)
    ) (k == 86) refl e25
    ) (k == 113) refl e24
    ) (k == 98) refl e23
    ) (k == 116) refl e22
    ) (k == 100) refl e21
    ) (k == 106) refl e20
    ) (k == 97) refl e19
    ) (k == 104) refl e18
    ) (k == 122) refl e17
    ) (k == 105) refl e16
    ) (k == 121) refl e15
    ) (k == 109) refl e14
    ) (k == 80) refl e13
    ) (k == 71) refl e12
    ) (k == 118) refl e11
    ) (k == 77) refl e10
    ) (k == 99) refl e9
    ) (k == 110) refl e8
    ) (k == 103) refl e7
    ) (k == 119) refl e6
    ) (k == 102) refl e5
    ) (k == 112) refl e4
    ) (k == 117) refl e3
    ) (k == 120) refl e2
    ) (k == 108) refl e1
    ) (k == 107) refl e0
    ) (k == 114) refl e
