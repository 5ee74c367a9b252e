-- A word is called, and what was before it comes back.
use Rattle.std.proofs.Common.{◌≡◌, ℕ, ◌≤◌, ◌==◌, ◌++◌, List, [], refl, sym, ap, ◌∙◌, arith, take, drop, if◌then◌else◌}
use Rattle.std.specs.Prelude.{◌≢◌, slice_range}
use Rattle.machine.specs.Answer.{asked_by}
use Rattle.forth83_c.specs.declared.record.Forth83.{Forth83}
use Rattle.forth83_c.specs.declared.record.Forth83Aside.{Forth83Aside}
use Rattle.forth83_c.specs.Calls.{HasCalled, HasResumed, line_cells, needs}
use Rattle.machine.specs.Registers.{marked, wait_of}
use Rattle.forth83_c.specs.Kept.{IsRecord}
use Rattle.forth83_c.proofs.Same.{kept_state, kept_kept}

needs_are : (asks asked token : ℕ) → line_cells (asked_by (wait_of asks asked token)) ≡ needs asks
needs_are asks asked token = grind arith

-- what a record keeps aside of the machine in it, with these cells of a line
abbrev put_aside : Forth83 → (line : List ℕ) → Forth83Aside
put_aside k line = record {
  ip = k.ip;
  has_pending = k.has_pending;
  pending = k.pending;
  asks = k.asks;
  asked = k.asked;
  token = k.token;
  line = line;
  returns_top = k.returns_top;
  returns = k.returns;
}

pub called_kept : (k : Forth83) (word : ℕ) (line : List ℕ) (top : ℕ) → IsRecord k → k.asks ≤ 2
    → slice_range k.values top 256 ≡ drop (needs k.asks) (slice_range k.values k.values_top 256)
    → (if k.asks == 2 then line else []) ≡ take (needs k.asks) (slice_range k.values k.values_top 256) → top ≤ 256
    → HasCalled k (record k { aside = put_aside k line; is_called = 1; values_top = top; returns_top = 256; ip = 0; has_pending = 1; pending = word; asks = 0 }) word
unfolding kept_state
called_kept k word line top h few off cells most = record {
  before = kept_state k;
  was_kept = kept_kept k h;
  is_kept = record {
    machine = record {
      numbers = record {
        abi = h.numbers.abi;
        values = most;
        returns = omega arith;
        pending = omega arith;
        asks = omega arith;
        halts = h.numbers.halts;
        count = h.numbers.count;
        called = omega arith;
        aside = record { pending = h.numbers.pending; asks = few; returns = h.numbers.returns };
      };
      marks = h.marks;
      buffers = h.buffers;
    };
    memory = refl;
    values = ap (λ n. drop n (slice_range k.values k.values_top 256)) (needs_are k.asks k.asked k.token) ∙ sym off;
    returns = refl;
    ip = refl;
    pending = refl;
    buffers = refl;
    block_count = refl;
    place = refl;
    wait = refl;
    halt = refl;
  };
  aside = record {
    is_called = refl;
    ip = refl;
    pending = refl;
    wait = refl;
    line = ap (λ n. take n (slice_range k.values k.values_top 256)) (needs_are k.asks k.asked k.token) ∙ sym cells;
    returns = refl;
  };
  faults = refl;
}

pub resumed_kept : (k : Forth83) (values : List ℕ) (top : ℕ) → IsRecord k → k.is_called ≢ 0
    → slice_range values top 256 ≡ (if k.aside.asks == 2 then k.aside.line else []) ++ drop (needs k.asks) (slice_range k.values k.values_top 256)
    → top ≤ 256
    → HasResumed k (record k { values = values; values_top = top; returns_top = k.aside.returns_top; returns = k.aside.returns; ip = k.aside.ip; has_pending = k.aside.has_pending; pending = k.aside.pending; asks = k.aside.asks; asked = k.aside.asked; token = k.aside.token; is_called = 0 })
unfolding kept_state
resumed_kept k values top h some on most = record {
  before = kept_state k;
  aside = record {
    ip = k.aside.ip;
    pending = marked k.aside.has_pending k.aside.pending;
    wait = wait_of k.aside.asks k.aside.asked k.aside.token;
    line = (if k.aside.asks == 2 then k.aside.line else []);
    returns = slice_range k.aside.returns k.aside.returns_top 256;
  };
  was_kept = kept_kept k h;
  was_aside = record { is_called = omega (arith, h.numbers.called, some); ip = refl; pending = refl; wait = refl; line = refl; returns = refl };
  is_kept = record {
    machine = record {
      numbers = record {
        abi = h.numbers.abi;
        values = most;
        returns = h.numbers.aside.returns;
        pending = h.numbers.aside.pending;
        asks = omega (arith, h.numbers.aside.asks);
        halts = h.numbers.halts;
        count = h.numbers.count;
        called = omega arith;
        aside = h.numbers.aside;
      };
      marks = h.marks;
      buffers = h.buffers;
    };
    memory = refl;
    values =
        ap (λ n. (if k.aside.asks == 2 then k.aside.line else []) ++ drop n (slice_range k.values k.values_top 256)) (needs_are k.asks k.asked k.token)
        ∙ sym on;
    returns = refl;
    ip = refl;
    pending = refl;
    buffers = refl;
    block_count = refl;
    place = refl;
    wait = refl;
    halt = refl;
  };
  no_call = refl;
  faults = refl;
}
