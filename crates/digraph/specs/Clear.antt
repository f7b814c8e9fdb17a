-- Nodes that are known to be on no circle, before any is searched from.
use Rattle.std.specs.Prelude.{◌≡◌, ℕ, Bool, true, false, List, length, get_or, set, cond, ◌<◌}
use Rattle.std.specs.List.{list_all}
use Rattle.digraph.specs.Walks.{Graph, leads, successors, Reaches}

-- whether a node leads to marked nodes alone; what is no node counts as marked
abbrev pub leads_to_marked : Graph → List Bool → ℕ → Bool
leads_to_marked graph marks a = list_all (λ b. get_or marks b true) (successors graph a)

-- a node more, where it leads to marked nodes alone
abbrev pub marked_more : Graph → List Bool → ℕ → List Bool
marked_more graph marks a = cond (leads_to_marked graph marks a) (set marks a true) marks

-- marked nodes lead to marked nodes alone, and none of them is on a circle
pub record IsClear (graph : Graph) (marks : List Bool) : Type 0 where
  pub size : length marks ≡ length graph
  pub closed : (a : ℕ) → get_or marks a false ≡ true → (b : ℕ) → leads graph a b ≡ true → b < length graph → get_or marks b false ≡ true
  pub no_circle : (a : ℕ) → get_or marks a false ≡ true → Reaches graph a a → ⊥
