-- What a search keeps: the nodes found so far, in the order in which they were found, and a mark for each node of the graph.
use Rattle.std.specs.Prelude.{◌≡◌, ℕ, Bool, true, false, ◌&&◌, not, List, [], ◌∷◌, ◌++◌, length, get_or, cond, nat_lt, ◌+◌, ◌<◌}
use Rattle.std.specs.List.{count_by}
use Rattle.digraph.specs.Walks.{is_among}

-- whether a node of a graph of `n` nodes wasn't found yet
abbrev pub is_new : ℕ → List ℕ → ℕ → Bool
is_new n found b = nat_lt b n && not (is_among b found)

-- one node more
abbrev pub noted : ℕ → List ℕ → ℕ → List ℕ
noted n found b = cond (is_new n found b) (found ++ b ∷ []) found

-- the marks are those of the nodes found, which are nodes of the graph and differ from each other
pub record IsMarked (marks : List Bool) (found : List ℕ) : Type 0 where
  pub told : (b : ℕ) → b < length marks → get_or marks b false ≡ is_among b found
  pub within : (b : ℕ) → is_among b found ≡ true → b < length marks
  pub count : count_by not marks + length found ≡ length marks
