-- What the forms in memory hold, and how much one call moves.
use Rattle.std.specs.Prelude.{◌≡◌, ℕ, ◌+◌, ◌<◌, List, [], length, min, Bool, false, Option, find, option_map, bytes_eq, Result, Ok, MatchResult}

-- a source: the bytes left, how many were given, whether the end was, and the most that one read gives
pub record SourceInMemory : Type 0 where
  pub left : List ℕ
  pub given : ℕ
  pub ended : Bool
  pub piece : ℕ

-- a source before its first read
abbrev pub unread : List ℕ → ℕ → SourceInMemory
unread bytes piece = record { left = bytes; given = 0; ended = false; piece = piece }

-- a sink: the bytes held, how often it failed, the most that it holds, and the most that one write takes
pub record SinkInMemory : Type 0 where
  pub held : List ℕ
  pub faults : ℕ
  pub room : ℕ
  pub piece : ℕ

-- a sink before its first write
abbrev pub unwritten : ℕ → ℕ → SinkInMemory
unwritten room piece = record { held = []; faults = 0; room = room; piece = piece }

-- a shelf: its files by name, and how often a name was missing
pub record ShelfInMemory : Type 0 where
  pub files : List (List ℕ × List ℕ)
  pub missing : ℕ

-- a shelf before its first look
abbrev pub unvisited : List (List ℕ × List ℕ) → ShelfInMemory
unvisited files = record { files = files; missing = 0 }

-- a read never fails, and gives a whole piece, or what is left or what fits where that is less
pub record GivesPiece {E : Type 0} (old new : SourceInMemory) (result : Result ℕ E) (buf : List ℕ) : Type 0 where
  pub gives : result ≡ Ok (min old.piece (min (length old.left) (length buf)))
  pub piece : new.piece ≡ old.piece

-- the bytes that a write is to take: a whole piece, or all where they are fewer
abbrev pub piece_of : SinkInMemory → List ℕ → ℕ
piece_of sink bytes = min sink.piece (length bytes)

-- a write takes its piece and leaves the count of faults as it was, and it fails only where the piece would pass the room
pub record TakesPiece {E : Type 0} (old new : SinkInMemory) (result : Result ℕ E) (bytes : List ℕ) : Type 0 where
  pub taken : MatchResult result (λ n. (n ≡ piece_of old bytes) × (new.faults ≡ old.faults))
      (λ _. old.room < length old.held + piece_of old bytes)
  pub room : new.room ≡ old.room
  pub piece : new.piece ≡ old.piece

-- the bytes under a name
abbrev pub file_under : List (List ℕ × List ℕ) → List ℕ → Option (List ℕ)
file_under files name = option_map (λ file. file.1) (find (λ file. bytes_eq file.0 name) files)
