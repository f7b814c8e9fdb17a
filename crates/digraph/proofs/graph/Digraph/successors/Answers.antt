use Rattle.std.proofs.Common.{◌≡◌, [], List, ℕ, None, slice_get, sym, subst}
use Rattle.digraph.proofs.ListLaws.{past}
use Rattle.digraph.proofs.graph.Digraph.successors.Goals as goal

pub returns-in-None : goal.returns-in-None
returns-in-None c =
    sym (past c.args.self.now c.args.node []
    (subst (λ (graph : List (List ℕ)). slice_get graph c.args.node ≡ None) c.self.view_is (sym c.in-None.ensures.value)))
