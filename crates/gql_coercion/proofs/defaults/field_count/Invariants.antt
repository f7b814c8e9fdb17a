use Rattle.std.proofs.Common.{◌≡◌, ◌+◌, drop}
use Rattle.gql_coercion.specs.Settled.{field_count}
use Rattle.gql_coercion.proofs.defaults.field_count.Given as goal

abbrev pub invariant-types : goal.invariant-types
invariant-types l = field_count l.types ≡ l.count + field_count (drop l.named-index l.types)
