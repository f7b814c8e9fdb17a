use Rattle.std.proofs.Common.{ℕ, List, map, arith, append_assoc, sym}
use Rattle.std.proofs.lemmas.List.{length-map}
use Rattle.gql_value.specs.declared.value.Value.{Value}
use Rattle.gql_value.specs.Sorted.{sorted_text_of}
use Rattle.gql_value.proofs.Joining.{join_with_byte-take, at_map}
use Rattle.gql_value.proofs.NameOrder.{map-named-insert_entry, by_name-take}
use Rattle.gql_value.proofs.sorting.+sorted.Goals as goal

pub push_sorted_list-loop-at-preserved : goal.push_sorted_list-loop-at-preserved
push_sorted_list-loop-at-preserved t c =
    let items = c.as_slice-item-items.result.now in
    let i = c.loop-at.at in
    let item = c.item-item.result in
    let more = join_with_byte-take 44 (map sorted_text_of items) i (sorted_text_of item) (omega (arith, length-map items sorted_text_of)) (at_map sorted_text_of items i item c.item-item.is) in
    rw (c.in_ok-push_sorted.ensures, c.in_ok-push_comma.ensures, c.loop-at.invariant, more) (simp append_assoc)

pub sorted_members-loop-name-preserved : goal.sorted_members-loop-name-preserved
sorted_members-loop-name-preserved t c =
    let members = c.as_slice-name-items.result.now in
    let i = c.loop-name.name-index in
    let member = c.loop-name-item.result in
    let inside : List ℕ × Value → List ℕ × List ℕ = λ m. (m.0, sorted_text_of m.1) in
    let at = at_map inside members i member c.loop-name-item.is in
    let more = by_name-take (map inside members) i (inside member) (omega (arith, length-map members inside)) at in
    rw (c.in_ok-insert.ensures.entries, map-named-insert_entry, c.loop-name.invariant, c.in_ok-push_sorted.ensures, c.new-text.ensures) (sym more)
