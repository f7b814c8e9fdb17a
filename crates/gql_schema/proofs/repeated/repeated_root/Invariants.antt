use Rattle.std.proofs.Common.{map, take}
use Rattle.gql_schema.specs.Repeated.{root_mark}
use Rattle.schema_defaults.specs.Seen.{Saw}
use Rattle.gql_schema.proofs.repeated.repeated_root.Given as goal

abbrev pub invariant-roots : goal.invariant-roots
invariant-roots l = Saw l.seen (map root_mark (take l.root-index l.roots))
