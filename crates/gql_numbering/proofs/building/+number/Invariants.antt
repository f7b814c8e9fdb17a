use Rattle.std.proofs.Common.{◌≡◌, [], map, drop}
use Rattle.gql_numbering.specs.Numbered as spec
use Rattle.gql_numbering.proofs.building.+number.Given as goal

-- the selections that are left take it to where all of them take it
abbrev pub invariant-number_set-selections : goal.invariant-number_set-selections
invariant-number_set-selections l =
    spec.through (map spec.numbered_selection (drop l.at l.selection-items)) l.number l.at (record { marks = l.marks; numbering = l.numbering })
    ≡ spec.through (map spec.numbered_selection l.selection-items) l.number 0 (record { marks = []; numbering = l.initial.numbering })
