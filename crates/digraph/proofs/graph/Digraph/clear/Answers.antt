use Rattle.std.proofs.Common.{sym, subst, ◌∙◌, ap, replicate, false, ℕ}
use Rattle.digraph.specs.Clear.{IsClear}
use Rattle.digraph.proofs.CircleLaws.{clear_none, clear_more}
use Rattle.digraph.proofs.graph.Digraph.clear.Goals as goal

pub order-init : goal.order-init
order-init c =
    subst (IsClear c.args.self.now) (sym (c.in_ok-marks.ensures ∙ ap (λ (n : ℕ). replicate n false) c.len.ensures)) (clear_none c.args.self.now)

pub order-preserved : goal.order-preserved
order-preserved c = rw c.mark_clear.ensures (clear_more c.args.self.now c.order.marks.items _ c.order.invariant)
