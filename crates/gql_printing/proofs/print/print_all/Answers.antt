use Rattle.std.proofs.Common.{◌+◌, map, drop, ap}
use Rattle.gql_printing.specs.Tokens.{joined}
use Rattle.gql_printing.proofs.Writing.{drop_turn, turn}
use Rattle.gql_printing.proofs.print.print_all.Goals as goal

pub items-preserved : goal.items-preserved
items-preserved g c =
    let items = c.args.items.now in
    let i = c.items.item-index in
    let item = c.item-item.result in
    let f = g.T.Print.tokens in
    turn _ c.items.printer _ (f item) (joined (map f (drop (i + 1) items))) _
    (ap (λ (rest : _). joined (map f rest)) (drop_turn items i item c.items-test.true c.item-item.is))
    c.items.invariant c.in_ok-print.ensures
