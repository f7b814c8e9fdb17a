use Rattle.digraph.proofs.CircleLaws.{one_circle, none_more}
use Rattle.digraph.proofs.graph.Digraph.has_circle.Goals as goal

pub returns-then-branch : goal.returns-then-branch
returns-then-branch c = one_circle c.args.self.now c.in_ok-suspect.suspect c.in_ok-is_on_circle.field-0 c.in_ok-is_on_circle.ensures c.if-branch.true

pub returns-then-branch-2 : goal.returns-then-branch-2
returns-then-branch-2 c = one_circle c.args.self.now c.nodes.node c.in_ok-is_circled.field-0 c.in_ok-is_circled.ensures c.if-branch-2.true

pub nodes-preserved : goal.nodes-preserved
nodes-preserved c = none_more c.args.self.now c.nodes.node c.in_ok-is_circled.field-0 c.nodes.invariant c.in_ok-is_circled.ensures c.if-branch-2.false
