use Rattle.std.proofs.Common.{◌≡◌, map, drop}
use Rattle.gql_printing.specs.Tokens.{joined}
use Rattle.gql_printing.specs.Progress.{written}
use Rattle.gql_printing.specs.Selections.{selection_tokens}
use Rattle.gql_printing.proofs.selections.+selections.Given as goal

abbrev pub invariant-print_selections-selections : goal.invariant-print_selections-selections
invariant-print_selections-selections l =
    written l.initial.printer (joined (map selection_tokens l.selection-items))
    ≡ written l.printer (joined (map selection_tokens (drop l.selection-index l.selection-items)))
