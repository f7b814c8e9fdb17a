use Rattle.std.proofs.Common.{◌≡◌, map, drop}
use Rattle.gql_printing.specs.Tokens.{joined}
use Rattle.gql_printing.specs.Progress.{written}
use Rattle.gql_printing.specs.Tokens.{behind}
use Rattle.gql_printing.proofs.print.print_others.Given as goal

abbrev pub invariant-names : goal.invariant-names
invariant-names l =
    written l.initial.printer (joined (map (behind l.fn.separator) l.names))
    ≡ written l.printer (joined (map (behind l.fn.separator) (drop l.name-index l.names)))
