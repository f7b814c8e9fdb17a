use Rattle.std.proofs.Common.{ℕ, List, map, arith, append_assoc}
use Rattle.std.proofs.lemmas.List.{length-map}
use Rattle.gql_value.specs.declared.value.Value.{Value}
use Rattle.gql_value.specs.Text.{text_of, member_text}
use Rattle.gql_value.proofs.Joining.{join_with_byte-take, at_map}
use Rattle.gql_value.proofs.writing.+write.Goals as goal

pub append_list-loop-at-preserved : goal.append_list-loop-at-preserved
append_list-loop-at-preserved t c =
    let items = c.as_slice-item-items.result.now in
    let i = c.loop-at.at in
    let item = c.item-item.result in
    let more = join_with_byte-take 44 (map text_of items) i (text_of item) (omega (arith, length-map items text_of)) (at_map text_of items i item c.item-item.is) in
    rw (c.in_ok-append_value.ensures.ok, c.in_ok-append_comma.ensures.ok, c.loop-at.invariant, more) (simp append_assoc)

pub append_object-loop-at-preserved : goal.append_object-loop-at-preserved
append_object-loop-at-preserved t c =
    let members = c.as_slice-member-items.result.now in
    let i = c.loop-at.at in
    let member = c.member-item.result in
    let inside : List ℕ × Value → List ℕ × List ℕ = λ m. (m.0, text_of m.1) in
    let written = map inside members in
    let at = at_map member_text written i (inside member) (at_map inside members i member c.member-item.is) in
    let more = join_with_byte-take 44 (map member_text written) i (member_text (inside member)) (omega (arith, length-map written member_text, length-map members inside)) at in
    rw (c.in_ok-append_value.ensures.ok, c.in_ok-push-2.ensures.ok, c.in_ok-append_quoted.ensures.ok, c.in_ok-append_comma.ensures.ok, c.loop-at.invariant, more) (simp append_assoc)
