use Rattle.std.proofs.Common.{◌∙◌, ap, get_or, false, List, Bool}
use Rattle.digraph.proofs.CircleLaws.{on_itself}
use Rattle.digraph.proofs.graph.Digraph.is_on_circle.Goals as goal

pub returns : goal.returns
returns c =
    c.is_set.ensures
    ∙ ap (λ (marks : List Bool). get_or marks c.args.node false) (c.as_slice.ensures ∙ c.in_ok-marks.ensures)
    ∙ on_itself c.args.self.now c.args.node
