use Rattle.std.proofs.Common.{◌≡◌, ◌++◌, List, take, drop}
use Rattle.serde_json.specs.View.{items_view, members_view}
use Rattle.serde_json.proofs.Views.{Entry}
use Rattle.gql_value.specs.Json.{not_whole_from, not_whole_in}
use Rattle.gql_value.proofs.Conversion.{SameItems, SameMembers}
use Rattle.gql_value.proofs.json.+convert.Given as goal

abbrev pub invariant-convert_items-loop-at : goal.invariant-convert_items-loop-at
invariant-convert_items-loop-at l =
    SameItems l.values (take l.at l.item-items)
    × (not_whole_from l.at (items_view (drop l.at l.item-items)) ≡ not_whole_from 0 (items_view l.item-items))

abbrev pub invariant-convert_members-loop-name : goal.invariant-convert_members-loop-name
invariant-convert_members-loop-name l = record {
  done : List Entry;
  split : l.members.entries ≡ done ++ l.name-iterator;
  same : SameMembers l.named done;
  left : not_whole_in (members_view l.name-iterator) ≡ not_whole_in (members_view l.members.entries);
}
