-- What a read does to a source's count of bytes and to its mark of the end.
use Rattle.std.specs.Prelude.{◌≡◌, ℕ, ◌+◌, ◌<◌, Bool, true, List, length, Result, MatchResult}

-- the count grows by the bytes that the read gave, and a failed read gave none
abbrev pub CountsGiven : {E : Type 0} → ℕ → ℕ → Result ℕ E → Type 0
CountsGiven old new result = MatchResult result (λ n. new ≡ old + n) (λ _. new ≡ old)

-- a read of n bytes gave the end where it gave none though there was room for some, and any other leaves the mark as it was
pub record MarksAt (old new : Bool) (n room : ℕ) : Type 0 where
  pub at_end : n ≡ 0 → 0 < room → new ≡ true
  pub at_bytes : 0 < n → new ≡ old
  pub at_no_room : room ≡ 0 → new ≡ old

-- the mark stands from the read on that gave the end, and a failed read didn't
abbrev pub MarksEnd : {E : Type 0} → Bool → Bool → Result ℕ E → List ℕ → Type 0
MarksEnd old new result buf = MatchResult result (λ n. MarksAt old new n (length buf)) (λ _. new ≡ old)
