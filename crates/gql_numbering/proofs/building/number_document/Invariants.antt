use Rattle.std.proofs.Common.{◌≡◌, drop}
use Rattle.gql_numbering.specs.Numbered as spec
use Rattle.gql_numbering.proofs.building.number_document.Given as goal

-- the definitions that are left take it to where all of them take it
abbrev pub invariant-definitions : goal.invariant-definitions
invariant-definitions l =
    spec.numbered_definitions (drop l.at l.definition-items) l.at l.numbering ≡ spec.numbered_definitions l.definition-items 0 spec.empty
