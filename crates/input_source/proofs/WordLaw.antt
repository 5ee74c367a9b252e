use Rattle.std.proofs.Common.{◌≡◌, ◌≢◌, ℕ, ◌+◌, ◌-◌, ◌<◌, ◌≤◌, List, length, drop, length-drop, slice_index, get_or, arith, refl, ◌∙◌, ap, Bool, true, false, not, ◌==◌, nat_lt}
use Rattle.std.proofs.lemmas.List.{get_or-drop}
use Rattle.std.proofs.lemmas.List.Sums.{prefix_len-le-length, prefix_len_passes, prefix_len_stops}
use Rattle.std.specs.List.{prefix_len}
use Rattle.input_source.specs.Words.{word_start, next_delimiter, behind, parsed, word_at, IsTaken, IsNextWord}
use Rattle.input_source.proofs.Scans.{delimiter_later}

-- a run of bytes that pass a test, from p on: it ends at a byte that doesn't, or with the list
run_within : (test : ℕ → Bool) (s : List ℕ) (p : ℕ) → p ≤ length s → p + prefix_len test (drop p s) ≤ length s
run_within test s p h =
    let k : prefix_len test (drop p s) ≤ length (drop p s) = prefix_len-le-length test (drop p s) in omega (arith, length-drop p s)

run_passes : (test : ℕ → Bool) (s : List ℕ) (p k : ℕ) → p ≤ k → k < p + prefix_len test (drop p s) → test (slice_index s k) ≡ true
run_passes test s p k h q =
    let e : get_or (drop p s) (k - p) 0 ≡ get_or s k 0 = get_or-drop p s (k - p) 0 ∙ ap (λ (j : ℕ). get_or s j 0) (omega arith) in
    rw e at (prefix_len_passes test (drop p s) (k - p) 0 (omega arith))

run_stops : (test : ℕ → Bool) (s : List ℕ) (p : ℕ) → p ≤ length s → p + prefix_len test (drop p s) < length s → test (slice_index s (p + prefix_len test (drop p s))) ≡ false
run_stops test s p h q =
    let e : get_or (drop p s) (prefix_len test (drop p s)) 0 ≡ get_or s (p + prefix_len test (drop p s)) 0 = get_or-drop p s (prefix_len test (drop p s)) 0 in
    rw e at (prefix_len_stops test (drop p s) 0 (omega (arith, length-drop p s)))

is_same : (x c : ℕ) → (x == c) ≡ true → x ≡ c
is_same x c h = grind arith

is_other : (x c : ℕ) → not (x == c) ≡ true → x ≢ c
is_other x c h = grind arith

is_delimiter : (x c : ℕ) → not (x == c) ≡ false → x ≡ c
is_delimiter x c h = grind arith

is_no_delimiter : (x c : ℕ) → (x == c) ≡ false → x ≢ c
is_no_delimiter x c h = grind arith

delimiter_within : (s : List ℕ) (p c : ℕ) → p ≤ length s → (p ≤ next_delimiter s p c) × (next_delimiter s p c ≤ length s)
unfolding next_delimiter
delimiter_within s p c h = let k : p + prefix_len (λ x. not (x == c)) (drop p s) ≤ length s = run_within (λ x. not (x == c)) s p h in (omega arith, k)

delimiter_others : (s : List ℕ) (p c k : ℕ) → p ≤ k → k < next_delimiter s p c → slice_index s k ≢ c
unfolding next_delimiter
delimiter_others s p c k h q = is_other (slice_index s k) c (run_passes (λ x. not (x == c)) s p k h q)

delimiter_stops : (s : List ℕ) (p c : ℕ) → p ≤ length s → next_delimiter s p c < length s → slice_index s (next_delimiter s p c) ≡ c
unfolding next_delimiter
delimiter_stops s p c h q = is_delimiter (slice_index s (next_delimiter s p c)) c (run_stops (λ x. not (x == c)) s p h q)

start_within : (s : List ℕ) (p c : ℕ) → p ≤ length s → (p ≤ word_start s p c) × (word_start s p c ≤ length s)
unfolding word_start
start_within s p c h = let k : p + prefix_len (λ x. x == c) (drop p s) ≤ length s = run_within (λ x. x == c) s p h in (omega arith, k)

start_skips : (s : List ℕ) (p c k : ℕ) → p ≤ k → k < word_start s p c → slice_index s k ≡ c
unfolding word_start
start_skips s p c k h q = is_same (slice_index s k) c (run_passes (λ x. x == c) s p k h q)

start_stops : (s : List ℕ) (p c : ℕ) → p ≤ length s → word_start s p c < length s → slice_index s (word_start s p c) ≢ c
unfolding word_start
start_stops s p c h q = is_no_delimiter (slice_index s (word_start s p c)) c (run_stops (λ x. x == c) s p h q)

behind-delimiter : (s : List ℕ) (e : ℕ) → e < length s → behind s e ≡ e + 1
behind-delimiter s e h = let t : nat_lt e (length s) ≡ true = grind arith in rw t refl

behind-end : (s : List ℕ) (e : ℕ) → length s ≤ e → behind s e ≡ length s
behind-end s e h = let t : nat_lt e (length s) ≡ false = grind arith in rw t refl

pub taken-parsed : (s : List ℕ) (p c : ℕ) → p ≤ length s → IsTaken s c (parsed s p c)
taken-parsed s p c h =
    let e : ℕ = next_delimiter s p c in
    let within : (p ≤ e) × (e ≤ length s) = delimiter_within s p c h in
    let back : p + (e - p) ≡ e = omega arith in
    record {
      within = omega arith;
      others = λ k q r. delimiter_others s p c k q (omega arith);
      stopped = λ q. rw back (delimiter_stops s p c h (omega arith), behind-delimiter s e (omega arith));
      ended = λ q. behind-end s e (omega arith);
    }

pub word_law : (s : List ℕ) (p c : ℕ) → p ≤ length s → IsNextWord s p c (word_at s p c)
word_law s p c h =
    let from : ℕ = word_start s p c in
    let start : (p ≤ from) × (from ≤ length s) = start_within s p c h in
    let e : ℕ = next_delimiter s from c in
    let within : (from ≤ e) × (e ≤ length s) = delimiter_within s from c (omega arith) in
    record {
      taken = taken-parsed s from c (omega arith);
      behind_p = omega arith;
      skipped = λ k q r. start_skips s p c k q r;
      some = λ q.
          let later : next_delimiter s from c ≡ next_delimiter s (from + 1) c = delimiter_later s from c q (start_stops s p c h q) in
          let more : (from + 1 ≤ next_delimiter s (from + 1) c) × (next_delimiter s (from + 1) c ≤ length s) = delimiter_within s (from + 1) c (omega arith) in
          omega arith;
    }

pub ruleset word_laws = (taken-parsed, word_law)
