-- An object some of whose calls fail by their number.
use Rattle.std.specs.Prelude.{◌≡◌, ℕ, ◌+◌, ◌-◌, ◌^◌, ◌⊎◌, List, min, Contains}

-- the object inside, the numbers of the calls that fail, the calls so far, and how often it failed
pub record WithFailures (T : Type 0) : Type 0 where
  pub inner : T
  pub fail_at : List ℕ
  pub calls : ℕ
  pub faults : ℕ

-- the object inside before the first call
abbrev pub uncalled : {T : Type 0} → T → List ℕ → WithFailures T
uncalled inner fail_at = record { inner = inner; fail_at = fail_at; calls = 0; faults = 0 }

-- the number of the next call, counted from 1; past 2^64 - 1 calls it stays there
abbrev pub next_call : {T : Type 0} → WithFailures T → ℕ
next_call failing = min (failing.calls + 1) (2 ^ 64 - 1)

-- the call is counted; where its number is listed it fails, and else only where the object inside did; where it doesn't fail the count of faults stays
pub record FailsAsListed {T : Type 0} (old new : WithFailures T) (fails fails_inside : Type 0) : Type 0 where
  pub fail_at : new.fail_at ≡ old.fail_at
  pub calls : new.calls ≡ next_call old
  pub listed : Contains old.fail_at (next_call old) → fails
  pub unlisted : fails → Contains old.fail_at (next_call old) ⊎ fails_inside
  pub spared : (new.faults ≡ old.faults) ⊎ fails

-- a listed call leaves the object inside as it was
abbrev pub SparesInside : {T : Type 0} → WithFailures T → WithFailures T → Type 0
SparesInside old new = Contains old.fail_at (next_call old) → new.inner ≡ old.inner
