use Rattle.std.proofs.Common.{◌≡◌}
use Rattle.gql_schema.specs.Meaning.{roots_of}
use Rattle.gql_schema.proofs.roots.named_roots.Given as goal

abbrev pub invariant-roots : goal.invariant-roots
invariant-roots l = l.names ≡ roots_of l.yielded
