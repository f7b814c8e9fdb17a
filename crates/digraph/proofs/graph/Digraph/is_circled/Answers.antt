use Rattle.std.proofs.Common.{◌∙◌, sym}
use Rattle.digraph.proofs.CircleLaws.{clear_node}
use Rattle.digraph.proofs.graph.Digraph.is_circled.Goals as goal

pub returns-then-is_set : goal.returns-then-is_set
returns-then-is_set c = clear_node c.args.self.now c.args.clear.now c.args.node c.requires (sym c.is_set.ensures ∙ c.if-is_set.true)
