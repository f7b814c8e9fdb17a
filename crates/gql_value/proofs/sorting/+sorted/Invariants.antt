use Rattle.std.proofs.Common.{◌≡◌, ◌++◌, take, map}
use Rattle.gql_value.specs.Text.{joined}
use Rattle.gql_value.specs.Sorted.{by_name, sorted_text_of}
use Rattle.gql_value.proofs.NameOrder.{named}
use Rattle.gql_value.proofs.sorting.+sorted.Given as goal

abbrev pub invariant-push_sorted_list-loop-at : goal.invariant-push_sorted_list-loop-at
invariant-push_sorted_list-loop-at l = l.out ≡ l.initial.out ++ joined (take l.at (map sorted_text_of l.item-items))

abbrev pub invariant-sorted_members-loop-name : goal.invariant-sorted_members-loop-name
invariant-sorted_members-loop-name l =
    map named l.sorted.entries ≡ by_name (take l.name-index (map (λ m. (m.0, sorted_text_of m.1)) l.name-items))
