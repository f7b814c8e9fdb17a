-- What the calls of a disk do to its file, and what a crash does to what isn't synced.
use Rattle.std.specs.Prelude.{◌≡◌, ◌⊎◌, ℕ, ◌+◌, max, List, ◌++◌, length, take, drop}

-- the file with these bytes at this offset, over what is there and past the end
abbrev pub written : ℕ → List ℕ → List ℕ → List ℕ
written at bytes file = take at file ++ (bytes ++ drop (at + length bytes) file)

-- a crash after a write of n bytes at this offset: any bytes in the range and past the old end, the same elsewhere, the old length or the new
pub record IsTorn (at n : ℕ) (old new : List ℕ) : Type 0 where
  pub before : take at new ≡ take at old
  pub after : drop (at + n) new ≡ drop (at + n) old
  pub size : (length new ≡ length old) ⊎ (length new ≡ max (length old) (at + n))

-- a crash after a cut: the whole file or the cut one
abbrev pub IsCutOrWhole : ℕ → List ℕ → List ℕ → Type 0
IsCutOrWhole len old new = (new ≡ old) ⊎ (new ≡ take len old)
