-- What a write takes.
use Rattle.std.specs.Prelude.{ℕ, ◌≤◌, ◌<◌, List, length, Result, IfOk}

-- a write takes a front of the bytes, and of some bytes at least one
abbrev pub TakesSome : {E : Type 0} → Result ℕ E → List ℕ → Type 0
TakesSome result bytes = IfOk result (λ n. (n ≤ length bytes) × (0 < length bytes → 0 < n))
