use Rattle.std.proofs.Common.{◌≡◌, true, drop}
use Rattle.gql_printing.specs.Documents.{definitions_tokens}
use Rattle.gql_printing.specs.Progress.{written}
use Rattle.gql_printing.proofs.documents.print_definitions.Given as goal

abbrev pub invariant-definitions : goal.invariant-definitions
invariant-definitions l =
    written l.initial.printer (definitions_tokens true l.definitions)
    ≡ written l.printer (definitions_tokens l.short (drop l.definition-index l.definitions))
