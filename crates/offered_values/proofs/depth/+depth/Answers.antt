use Rattle.std.proofs.Common.{◌∙◌, ◌-◌, sym, map, arith}
use Rattle.execution_model.specs.Values.{depth}
use Rattle.offered_values.proofs.DepthLaws.{deeper}
use Rattle.offered_values.proofs.depth.+depth.Goals as goal

pub is_list_deeper-returns : goal.is_list_deeper-returns
is_list_deeper-returns t c =
    c.is_item_deeper.ensures ∙ sym (deeper c.args.limit (c.args.limit - 1) (map depth c.args.items.now) (omega arith))

pub is_object_deeper-returns : goal.is_object_deeper-returns
is_object_deeper-returns t c =
    c.is_member_deeper.ensures ∙ sym (deeper c.args.limit (c.args.limit - 1) (map (λ m. depth m.1) c.args.members.now) (omega arith))
