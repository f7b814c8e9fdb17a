-- The test agrees with the walks.
use Rattle.std.specs.Prelude.{◌≡◌, ℕ, true, ◌↔◌}
use Rattle.digraph.specs.Walks.{Graph, Reaches, reaches}

-- in each graph, `reaches` is true of two nodes exactly where a walk leads from the first to the second
abbrev pub WalksAreDecided : Type 0
WalksAreDecided = (graph : Graph) (a b : ℕ) → (reaches graph a b ≡ true) ↔ Reaches graph a b
