-- Calls that came to what they come to on a disk.
use Rattle.std.proofs.Common.{rules, arith, ◌≡◌, ◌∙◌, ℕ, List, [], ◌∷◌, ◌++◌, Option, Some, Result, length, refl, sym, subst, ap, append_assoc, append-nil}
use Rattle.std.specs.Prelude.{IfSome}
use Rattle.std.proofs.lemmas.List.{append_cancel_left, length-set}
use Rattle.block_buffers.specs.declared.devices.DeviceFault.{DeviceFault}
use Rattle.block_buffers.specs.Calls.{Reads, read_call}
use Rattle.block_buffers.specs.DeviceCalls.{DeviceCall}
use Rattle.block_buffers.specs.Disks.{Disk}
use Rattle.block_buffers.specs.Likeness.{CameTo, AllCameTo, DidAs, IsLike}
use Rattle.std.proofs.lemmas.Grind.{common_steps}

one_length : (d e : Disk) (c : DeviceCall) → CameTo d c e → length e.blocks ≡ length d.blocks
one_length d e c h = search (rules, length-set)

pub all_length : (cs : List DeviceCall) (d e : Disk) → AllCameTo d cs e → length e.blocks ≡ length d.blocks
unfolding AllCameTo
all_length [] d e h = ap (λ (x : Disk). length x.blocks) h
all_length (c ∷ cs) d e h = all_length cs h.0 e h.2 ∙ one_length d h.0 c h.1

-- calls in two parts
pub parts_of : (xs ys : List DeviceCall) (d e : Disk) → AllCameTo d (xs ++ ys) e → (m : Disk) × AllCameTo d xs m × AllCameTo m ys e
unfolding AllCameTo
parts_of [] ys d e h = (d, refl, h)
parts_of (x ∷ xs) ys d e h = let r = parts_of xs ys h.0 e h.2 in (r.0, (h.0, h.1, r.1), r.2)

-- no call
pub none_made : (d e : Disk) (count : ℕ) (cs : List DeviceCall) → DidAs d e count cs cs → e ≡ d
unfolding AllCameTo
none_made d e count cs h = by_made h.made (append_cancel_left cs h.made [] (sym h.calls_are ∙ sym (append-nil cs))) h.came where
  by_made : (made : List DeviceCall) → made ≡ [] → AllCameTo d made e → e ≡ d
  by_made [] q x = x
  by_made (c ∷ more) q x = absurd (cc)

-- a device did so in one call for a block, and before that, in others
pub record DidBoth (d e : Disk) (count : ℕ) (a b c : List DeviceCall) : Type 0 where
  pub mid : Disk
  pub first : DidAs d mid count a b
  pub second : DidAs mid e count b c

pub both_of : (d e : Disk) (count : ℕ) (a b c xs ys : List DeviceCall) → b ≡ a ++ xs → c ≡ b ++ ys → DidAs d e count a c → DidBoth d e count a b c
both_of d e count a b c xs ys p q h = grind (arith, common_steps, append_cancel_left, parts_of, all_length)

-- of a read: what a telling device says of it
pub read_told : (d e : Disk) (count block : ℕ) (page : List ℕ) (r : Result Unit DeviceFault) (a b : List DeviceCall) → b ≡ a ++ read_call block page r ∷ [] → DidAs d e count a b → Reads d block (Some e) page r
unfolding AllCameTo
read_told d e count block page r a b q h = search (rules, append_cancel_left)

-- a device that reports its disk did as that disk in a read
pub read_like : (d : Disk) (new : Option Disk) (count block : ℕ) (page : List ℕ) (r : Result Unit DeviceFault) (a b : List DeviceCall) → count ≡ length d.blocks → b ≡ a ++ read_call block page r ∷ [] → Reads d block new page r
    → IsLike d new count a b
unfolding AllCameTo
read_like d new count block page r a b n q h = search rules

-- no call was made
pub none_like : (d : Disk) (new : Option Disk) (count : ℕ) (a : List DeviceCall) → count ≡ length d.blocks → new ≡ Some d → IsLike d new count a a
unfolding AllCameTo
none_like d new count a n e = record { after = d; told = e; did = record { count_is = n; made = []; calls_are = sym (append-nil a); came = refl } }

all_both : (xs ys : List DeviceCall) (d m e : Disk) → AllCameTo d xs m → AllCameTo m ys e → AllCameTo d (xs ++ ys) e
unfolding AllCameTo
all_both [] ys d m e h k = subst (λ v. AllCameTo v ys e) h k
all_both (x ∷ xs) ys d m e h k = (h.0, h.1, all_both xs ys h.0 m e h.2 k)

-- some calls, and others after them
pub both_like : (d : Disk) (mid new : Option Disk) (count : ℕ) (a b c : List DeviceCall) → IsLike d mid count a b → ((m : Disk) → mid ≡ Some m → IsLike m new count b c) → IsLike d new count a c
both_like d mid new count a b c h k =
    let l = k h.after h.told in
    let x = h.did in
    let y = l.did in
    record {
      after = l.after;
      told = l.told;
      did = record {
        count_is = x.count_is;
        made = x.made ++ y.made;
        calls_are = y.calls_are ∙ ap (λ v. v ++ y.made) x.calls_are ∙ append_assoc a x.made y.made;
        came = all_both x.made y.made d h.after l.after x.came y.came;
      };
    }

-- the same, if the device is known to have as many blocks as before
pub like_so_far : (d : Disk) (mid new : Option Disk) (count count' : ℕ) (a b c : List DeviceCall) → count' ≡ count → IsLike d mid count a b → ((m : Disk) → mid ≡ Some m → IsLike m new count' b c) → IsLike d new count a c
like_so_far d mid new count count' a b c q h k = both_like d mid new count a b c h (λ m e. subst (λ n. IsLike m new n b c) q (k m e))

-- before the first call
pub like_none : (d : Disk) (told : Option Disk) (count known : ℕ) (calls : List DeviceCall) → known ≡ count → IfSome told (λ x. known ≡ length x.blocks) → told ≡ Some d → IsLike d told count calls calls
like_none d told count known calls q n e = none_like d told count calls (sym q ∙ subst (λ o. IfSome o (λ x. known ≡ length x.blocks)) e n) e

-- a read of a device that reports its disk and how many blocks it has
pub told_like : (d : Disk) (told new : Option Disk) (count known block : ℕ) (page : List ℕ) (r : Result Unit DeviceFault) (a b : List DeviceCall) → known ≡ count → IfSome told (λ x. known ≡ length x.blocks) → told ≡ Some d
    → b ≡ a ++ read_call block page r ∷ [] → IfSome told (λ x. Reads x block new page r) → IsLike d new count a b
told_like d told new count known block page r a b q n e logged h = search (rules, read_like)
