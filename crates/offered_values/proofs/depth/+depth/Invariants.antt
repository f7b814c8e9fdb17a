use Rattle.std.proofs.Common.{◌≡◌, map, drop}
use Rattle.std.specs.Prelude.{nat_lt}
use Rattle.std.specs.List.{list_any}
use Rattle.execution_model.specs.Values.{depth}
use Rattle.offered_values.proofs.depth.+depth.Given as goal

abbrev pub invariant-is_item_deeper-items : goal.invariant-is_item_deeper-items
invariant-is_item_deeper-items l =
    list_any (nat_lt l.limit) (map depth l.items) ≡ list_any (nat_lt l.limit) (map depth (drop l.item-index l.items))

abbrev pub invariant-is_member_deeper-members : goal.invariant-is_member_deeper-members
invariant-is_member_deeper-members l =
    list_any (nat_lt l.limit) (map (λ m. depth m.1) l.member-items) ≡ list_any (nat_lt l.limit) (map (λ m. depth m.1) (drop l.member-index l.member-items))
