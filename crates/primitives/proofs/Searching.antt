-- How rows go on with what a search, or FORGET's, comes to.
use Rattle.std.proofs.Common.{◌≡◌, ℕ, refl, sym}
use Rattle.std.specs.Prelude.{Result, Ok, Err}
use Rattle.dictionary.specs.declared.fault.ForgetFault.{ForgetFault}
use Rattle.dictionary.specs.declared.fault.ForgetFault.TheVariants.{NameLength, NotFound, ChainTooLong}
use Rattle.dictionary.specs.Search.{Sought, Found, Nowhere, TooLong}
use Rattle.machine_parts.specs.Whole.{Whole}
use Rattle.machine_parts.specs.Row.{After, fault}
use Rattle.primitives.specs.Names.{searches, forgets}

pub searches_found : (s : Whole) (x : Sought) (l : ℕ) (nowhere : After) (found : ℕ → After) → x ≡ Found l → searches s x nowhere found ≡ found l
unfolding searches
searches_found s x l nowhere found e = rw e refl

pub searches_nowhere : (s : Whole) (x : Sought) (nowhere : After) (found : ℕ → After) → x ≡ Nowhere → searches s x nowhere found ≡ nowhere
unfolding searches
searches_nowhere s x nowhere found e = rw e refl

pub searches_long : (s : Whole) (x : Sought) (nowhere : After) (found : ℕ → After) → x ≡ TooLong → searches s x nowhere found ≡ fault s 11
unfolding searches
searches_long s x nowhere found e = rw e refl

pub forgets_there : (s : Whole) (x : Result ℕ ForgetFault) (t : ℕ) (after : ℕ → After) → Ok t ≡ x → forgets s x after ≡ after t
unfolding forgets
forgets_there s x t after e = rw (sym e) refl

pub forgets_nameless : (s : Whole) (x : Result ℕ ForgetFault) (after : ℕ → After) → Err NameLength ≡ x → forgets s x after ≡ fault s 15
unfolding forgets
forgets_nameless s x after e = rw (sym e) refl

pub forgets_missing : (s : Whole) (x : Result ℕ ForgetFault) (after : ℕ → After) → Err NotFound ≡ x → forgets s x after ≡ fault s 13
unfolding forgets
forgets_missing s x after e = rw (sym e) refl

pub forgets_long : (s : Whole) (x : Result ℕ ForgetFault) (after : ℕ → After) → Err ChainTooLong ≡ x → forgets s x after ≡ fault s 11
unfolding forgets
forgets_long s x after e = rw (sym e) refl

pub ruleset searching = (searches_found, searches_nowhere, searches_long, forgets_there, forgets_nameless, forgets_missing, forgets_long)
