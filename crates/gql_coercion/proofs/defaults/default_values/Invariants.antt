use Rattle.std.proofs.Common.{◌≡◌}
use Rattle.gql_coercion.specs.Settled.{rounds}
use Rattle.gql_coercion.proofs.defaults.default_values.Given as goal

abbrev pub invariant-rounds : goal.invariant-rounds
invariant-rounds l = l.values ≡ rounds l._round l.schema
