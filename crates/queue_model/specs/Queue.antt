-- The queue of mutations: rows in order, the end of what they take, a limit to it, and the greatest number used.
use Rattle.std.specs.Prelude.{ℕ, ◌+◌, ◌<◌, ◌≤◌, ◌^◌, List, [], ◌∷◌, ◌++◌, length, map, Contains, if◌then◌else◌, ◌==◌}
use Rattle.queue_model.specs.declared.row.Row.{Row}

-- the rows that are held, the place where the next record goes, the most that it may reach, and the greatest number used
pub record MutationQueue : Type 0 where
  pub rows : List Row
  pub end : ℕ
  pub limit : ℕ
  pub greatest : ℕ

-- a queue before its first row: the file's magic and one commit byte take 9 bytes
abbrev pub empty_queue : ℕ → MutationQueue
empty_queue limit = record { rows = []; end = 9; limit = limit; greatest = 0 }

-- the bytes that a row takes: its record and the commit byte that follows it
abbrev pub need_of : List ℕ → List ℕ → List ℕ → ℕ
need_of document operation variables = 22 + length document + length operation + length variables

-- some number is left for a row
abbrev pub HasNumber : MutationQueue → Type 0
HasNumber queue = queue.greatest + 1 < 2 ^ 63

-- a row of this need fits below the limit
abbrev pub HasRoom : MutationQueue → ℕ → Type 0
HasRoom queue need = queue.end + need ≤ queue.limit

-- the row of these texts, with the next number
abbrev pub next_row : MutationQueue → List ℕ → List ℕ → List ℕ → Row
next_row queue document operation variables =
    record { seq = queue.greatest + 1; document = document; operation = operation; variables = variables }

-- a put adds the row at the end, and its number becomes the greatest
abbrev pub queued : MutationQueue → List ℕ → List ℕ → List ℕ → MutationQueue
queued queue document operation variables = record {
  rows = queue.rows ++ next_row queue document operation variables ∷ [];
  end = queue.end + need_of document operation variables;
  limit = queue.limit;
  greatest = queue.greatest + 1;
}

-- the numbers of rows, in order
abbrev pub numbers_of : List Row → List ℕ
numbers_of rows = map (λ row. row.seq) rows

-- a row with this number is held
abbrev pub IsHeld : ℕ → List Row → Type 0
IsHeld seq rows = Contains (numbers_of rows) seq

-- the rows but the one with this number
abbrev pub without : ℕ → List Row → List Row
without seq [] = []
without seq (row ∷ rows) = if row.seq == seq then rows else row ∷ without seq rows

-- the end goes back to 9 where no row is held
abbrev pub end_with : List Row → ℕ → ℕ
end_with [] end = 9
end_with (row ∷ rows) end = end

-- a done takes the row of its number out
abbrev pub completed : MutationQueue → ℕ → MutationQueue
completed queue seq = let rest = without seq queue.rows in record {
  rows = rest;
  end = end_with rest queue.end;
  limit = queue.limit;
  greatest = queue.greatest;
}

-- the numbers of the rows rise, above low and up to high
abbrev pub RiseBetween : ℕ → ℕ → List Row → Type 0
RiseBetween low high [] = low ≤ high
RiseBetween low high (row ∷ rows) = (low < row.seq) × RiseBetween row.seq high rows

-- the numbers of the rows rise
abbrev pub AreRising : List Row → Type 0
AreRising rows = (high : ℕ) × RiseBetween 0 high rows
