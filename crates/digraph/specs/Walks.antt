-- Walks in a directed graph, which is the list of its nodes' successors. Nodes are numbered from 0.
use Rattle.std.specs.Prelude.{ℕ, zero, suc, Bool, ◌&&◌, ◌||◌, List, [], ◌∷◌, length, get_or, map, nat_eq, ◌≡◌, true}
use Rattle.std.specs.List.{list_any, range_with_len}

-- of each node, by its number, the nodes that it leads to in one step
abbrev pub Graph : Type 0
Graph = List (List ℕ)

-- whether a node is in a list
abbrev pub is_among : ℕ → List ℕ → Bool
is_among b nodes = list_any (nat_eq b) nodes

-- the nodes that a node leads to in one step; what is no node leads nowhere
abbrev pub successors : Graph → ℕ → List ℕ
successors graph a = get_or graph a []

-- whether one step leads from a node to another
abbrev pub leads : Graph → ℕ → ℕ → Bool
leads graph a b = is_among b (successors graph a)

-- a walk of one step or more, by the nodes between its ends
abbrev pub IsWalk : Graph → ℕ → List ℕ → ℕ → Type 0
IsWalk graph a [] b = leads graph a b ≡ true
IsWalk graph a (c ∷ between) b = (leads graph a c ≡ true) × IsWalk graph c between b

-- a node reaches another where a walk leads there
abbrev pub Reaches : Graph → ℕ → ℕ → Type 0
Reaches graph a b = (between : List ℕ) × IsWalk graph a between b

-- whether a walk leads there whose nodes between are all below `k` (S. Warshall, A Theorem on Boolean Matrices, 1962)
unfoldable pub reaches_below : Graph → ℕ → ℕ → ℕ → Bool
reaches_below graph zero a b = leads graph a b
reaches_below graph (suc k) a b = reaches_below graph k a b || (reaches_below graph k a k && reaches_below graph k k b)

-- whether a node reaches another
abbrev pub reaches : Graph → ℕ → ℕ → Bool
reaches graph a b = reaches_below graph (length graph) a b

-- of each node, whether a node reaches it
abbrev pub reached_from : Graph → ℕ → List Bool
reached_from graph a = map (reaches graph a) (range_with_len 0 (length graph))

-- of each node, whether it reaches itself, so that it is on a circle
abbrev pub circled : Graph → List Bool
circled graph = map (λ a. reaches graph a a) (range_with_len 0 (length graph))

-- whether some node reaches itself
abbrev pub has_circle : Graph → Bool
has_circle graph = list_any (λ a. reaches graph a a) (range_with_len 0 (length graph))
