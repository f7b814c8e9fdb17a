use Rattle.std.proofs.Common.{◌≡◌, ◌++◌, take, map}
use Rattle.gql_value.specs.Text.{text_of, joined, member_text}
use Rattle.gql_value.proofs.writing.+write.Given as goal

abbrev pub invariant-append_list-loop-at : goal.invariant-append_list-loop-at
invariant-append_list-loop-at l = l.out ≡ l.initial.out ++ joined (take l.at (map text_of l.item-items))

abbrev pub invariant-append_object-loop-at : goal.invariant-append_object-loop-at
invariant-append_object-loop-at l =
    l.out ≡ l.initial.out ++ joined (take l.at (map member_text (map (λ m. (m.0, text_of m.1)) l.member-items)))
