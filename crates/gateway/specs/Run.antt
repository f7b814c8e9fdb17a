-- What a run takes from its source and writes to its sink.
use Rattle.std.specs.Prelude.{◌≡◌, ℕ, ◌+◌, ◌++◌, List, length, Option, ◌⊎◌}
use Rattle.std.specs.Io.KnownBytes.{Appends, Consumes}

-- the exit statuses
abbrev pub IsStatus : ℕ → Type 0
IsStatus status = (status ≡ 0) ⊎ ((status ≡ 2) ⊎ ((status ≡ 3) ⊎ ((status ≡ 4) ⊎ ((status ≡ 5) ⊎ ((status ≡ 7) ⊎ (status ≡ 10))))))

-- These bytes were taken from a source: the next of those left, where it tells them, and as many as it
-- counted.
pub record Takes {S : Type 0} (left : S → Option (List ℕ)) (given : S → ℕ) (old new : S) (bytes : List ℕ) : Type 0 where
  pub read : Consumes (left old) (left new) bytes
  pub counted : given new ≡ given old + length bytes

-- a front of this text was written to a sink, where it tells what it holds
pub record WritesFront (held_old held_new : Option (List ℕ)) (text : List ℕ) : Type 0 where
  pub front : List ℕ
  pub rest : List ℕ
  pub parts : text ≡ front ++ rest
  pub written : Appends held_old held_new front

-- the text of a front of these bytes was written
pub record WroteSome (held_old held_new : Option (List ℕ)) (text : List ℕ → List ℕ) (bytes : List ℕ) : Type 0 where
  pub run : List ℕ
  pub left : List ℕ
  pub parts : bytes ≡ run ++ left
  pub written : Appends held_old held_new (text run)

module _ {S K : Type 0} (left : S → Option (List ℕ)) (given : S → ℕ) (input input_new : S) (held : K → Option (List ℕ)) (out out_new : K) (text : List ℕ → List ℕ) where
  -- some bytes were taken, and this text of them was written
  pub record Ran : Type 0 where
    pub taken : List ℕ
    pub took : Takes left given input input_new taken
    pub written : Appends (held out) (held out_new) (text taken)

  -- some bytes were taken, and a front of this text of them was written
  pub record RanFront : Type 0 where
    pub taken : List ℕ
    pub took : Takes left given input input_new taken
    pub written : WritesFront (held out) (held out_new) (text taken)
