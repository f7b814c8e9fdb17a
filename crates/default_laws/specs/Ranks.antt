-- Ranks of nodes, which fall along all walks in a graph without circles.
use Rattle.std.specs.Prelude.{◌≡◌, ℕ, ◌<◌, true, length}
use Rattle.std.specs.List.{count_by, range_with_len}
use Rattle.digraph.specs.Walks.{Graph, leads, reaches, Reaches}

-- how many nodes a node reaches
abbrev pub rank : Graph → ℕ → ℕ
rank graph a = count_by (reaches graph a) (range_with_len 0 (length graph))

-- no node is on a circle
abbrev pub HasNoCircle : Graph → Type 0
HasNoCircle graph = (a : ℕ) → Reaches graph a a → ⊥

-- ranks fall along each step to a node
abbrev pub FallsAlongSteps : Graph → Type 0
FallsAlongSteps graph = (a b : ℕ) → leads graph a b ≡ true → b < length graph → rank graph b < rank graph a

-- the rank of each node is below the number of nodes
abbrev pub IsBelowNodes : Graph → Type 0
IsBelowNodes graph = (a : ℕ) → a < length graph → rank graph a < length graph

-- in a graph without circles ranks fall along each step, and are below the number of nodes
abbrev pub RanksFall : Type 0
RanksFall = (graph : Graph) → HasNoCircle graph → FallsAlongSteps graph × IsBelowNodes graph
