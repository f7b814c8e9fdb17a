use Rattle.std.proofs.Common.{◌≡◌, map, drop}
use Rattle.gql_printing.specs.Tokens.{joined}
use Rattle.gql_printing.specs.Progress.{written}
use Rattle.gql_printing.proofs.print.print_all.Given as goal

abbrev pub invariant-items : goal.invariant-items
invariant-items g l =
    written l.initial.printer (joined (map g.T.Print.tokens l.items))
    ≡ written l.printer (joined (map g.T.Print.tokens (drop l.item-index l.items)))
