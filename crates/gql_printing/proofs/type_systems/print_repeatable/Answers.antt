use Rattle.gql_printing.proofs.type_systems.print_repeatable.Goals as goal

pub returns-then-repeatable : goal.returns-then-repeatable
returns-then-repeatable c = rw c.if-repeatable.true c.keyword.ensures
