-- An index that holds for one memory, and for another.
use Rattle.std.proofs.Common.{◌≡◌, ℕ, ◌+◌, ◌-◌, ◌%◌, ◌<◌, ◌≤◌, List, true, false, arith, ◌∙◌, slice_index, replicate, inl, inr, subst, sym, None}
use Rattle.std.proofs.lemmas.List.{get_or-replicate}
use Rattle.std.proofs.lemmas.Bool.{cases_lt}
use Rattle.std.proofs.lemmas.Grind.{common_steps}
use Rattle.cells.specs.Cell.{wrap}
use Rattle.name_index.specs.declared.index.NameIndex.{NameIndex}
use Rattle.name_index.specs.Ranges.{is_met}
use Rattle.name_index.specs.Watch.{is_watched, Agree, AgreeBelow, AgreeBeside, IsBeside, IsUnwatched}
use Rattle.name_index.specs.Index.{Serves, Holds, slots_of}
use Rattle.name_index.proofs.Tabled.{slots_none}
use Rattle.name_index.proofs.Walks.{same_none, same_by}

watched_none : (top a : ℕ) → top ≤ 256 → is_watched top a ≡ true → ⊥
unfolding is_watched
watched_none top a h w = grind (arith, common_steps)

-- an index that keeps nothing
none_case : (m : List ℕ) (k : ℕ) → k < 8192 → Serves 256 m k (slice_index (replicate 4 0) (k % 4)) (slice_index (replicate 8192 0) k)
none_case m k b =
    let s : slice_index (replicate 8192 0) k ≡ 0 = get_or-replicate 8192 k 0 0 b in
    let h : slice_index (replicate 4 0) (k % 4) ≡ 0 = get_or-replicate 4 (k % 4) 0 0 (omega arith) in
    rw (s, h) (record { older = omega arith; same = same_none 256 k m })

pub holds_none : (index : NameIndex) (limit : ℕ) (m : List ℕ) → index.table ≡ None → index.heads ≡ replicate 4 0 → index.top ≡ 256 → Holds limit index m
unfolding Holds
holds_none index limit m table heads top = record {
  bound = λ h. absurd (omega (arith, h, top));
  slots = λ k b. rw (slots_none index.table table, heads, top) (none_case m k b);
}

-- an index holds as another does with the same table, heads and top
pub holds_same : (limit : ℕ) (index other : NameIndex) (m : List ℕ) → slots_of other.table ≡ slots_of index.table → other.heads ≡ index.heads → other.top ≡ index.top
    → Holds limit index m → Holds limit other m
unfolding Holds
holds_same limit index other m table heads top holds = grind arith

-- what holds for one memory holds for each that agrees with it
serves_by : (top k known e : ℕ) (m other : List ℕ) → Agree top m other → Serves top m k known e → Serves top other k known e
serves_by top k known e m other t is = grind (arith, same_by)

pub holds_by : (limit : ℕ) (index : NameIndex) (m other : List ℕ) → (256 < index.top → index.top ≤ limit → Agree index.top m other) → Holds limit index m → Holds limit index other
unfolding Holds
holds_by limit index m other s holds = grind (arith, serves_by, cases_lt, watched_none)

-- memories that are the same below an address, and below the limit
watched_below : (top floor a : ℕ) → top ≤ floor → is_watched top a ≡ true → a < floor
unfolding is_watched
watched_below top floor a k w = grind (arith, common_steps)

pub holds_above : (limit floor : ℕ) (index : NameIndex) (m other : List ℕ) → (256 < index.top → index.top ≤ floor) → AgreeBelow floor m other → Holds limit index m → Holds limit index other
holds_above limit floor index m other t s holds = search (arith, holds_by, watched_below)

pub holds_below_limit : (limit : ℕ) (index : NameIndex) (m other : List ℕ) → AgreeBelow limit m other → Holds limit index m → Holds limit index other
holds_below_limit limit index m other s holds = holds_by limit index m other (λ r b a w. s a (watched_below index.top limit a b w)) holds

-- a range that meets nothing watched
apart : (top start end a : ℕ) → is_met top start end ≡ false → is_watched top a ≡ true → start ≤ a → a < end → true ≡ false
unfolding is_met is_watched
apart top start end a f w h k = grind (arith, common_steps)

pub beside : (top at n : ℕ) → at < 65536 → n < 65536 → is_met top at (at + n) ≡ false → is_met top 0 (at + n - 65536) ≡ false → (a : ℕ) → is_watched top a ≡ true → IsBeside at n a
beside top at n h k f g a w i lt e = grind (arith, cases_lt, apart)

-- a range that meets something has a watched address
watched_header : (top a : ℕ) → 256 ≤ a → a < top → is_watched top a ≡ true
unfolding is_watched
watched_header top a h k = grind (arith, common_steps)

pub unmet : (top start end : ℕ) → start < end → ((a : ℕ) → start ≤ a → a < end → is_watched top a ≡ false) → is_met top start end ≡ false
unfolding is_met
unmet top start end some f = elim (cases_lt 256 top) [
  | inr t ↦ grind (arith, common_steps)
  | inl t ↦ elim (cases_lt start top) [
    | inr h ↦ grind (arith, common_steps)
    | inl h ↦ elim (cases_lt 256 end) [
      | inr k ↦ grind (arith, common_steps)
      | inl k ↦ elim (cases_lt start 256) [
        | inl g ↦ let p : true ≡ false = sym (watched_header top 256 (omega arith) t) ∙ f 256 (omega (arith, g)) k in cc
        | inr g ↦ let p : true ≡ false = sym (watched_header top start g h) ∙ f start (omega arith) some in cc
      ]
    ]
  ]
]

pub unmet_none : (top end : ℕ) → end ≤ 0 → is_met top 0 end ≡ false
unfolding is_met
unmet_none top end h = grind (arith, common_steps)

behind_memory : (top a : ℕ) → top < 65536 → 65536 ≤ a → is_watched top a ≡ false
unfolding is_watched
behind_memory top a h k = grind (arith, common_steps)

-- the n addresses from at on, if none is watched: up to memory's end, and from its beginning on
pub unmet_first : (top at n : ℕ) → top < 65536 → at < 65536 → 0 < n → IsUnwatched top at n → is_met top at (at + n) ≡ false
unmet_first top at n t h some f =
    unmet top at (at + n) (omega (arith, some)) (λ a x y. elim (cases_lt a 65536) [
      | inr high ↦ behind_memory top a t high
      | inl low ↦
          let e : wrap (at + (a - at)) ≡ a = omega (arith, low, x) in
          subst (λ (b : ℕ). is_watched top b ≡ false) e (f (a - at) (omega (arith, x, y)))
    ])

pub unmet_second : (top at n : ℕ) → at < 65536 → n < 65536 → IsUnwatched top at n → is_met top 0 (at + n - 65536) ≡ false
unmet_second top at n h k f =
    elim (cases_lt 65536 (at + n)) [
      | inr none ↦ unmet_none top (at + n - 65536) (omega (arith, none))
      | inl some ↦ unmet top 0 (at + n - 65536) (omega (arith, some)) (λ a x y.
          let e : wrap (at + (a + 65536 - at)) ≡ a = omega (arith, h, k, y) in
          subst (λ (b : ℕ). is_watched top b ≡ false) e (f (a + 65536 - at) (omega (arith, h, y))))
    ]

-- a write beside all that is watched
pub holds_beside : (limit at n : ℕ) (index : NameIndex) (m other : List ℕ) → ((a : ℕ) → is_watched index.top a ≡ true → IsBeside at n a) → AgreeBeside at n m other → Holds limit index m → Holds limit index other
holds_beside limit at n index m other b s holds = holds_by limit index m other (λ r t a w. s a (b a w)) holds
