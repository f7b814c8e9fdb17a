use Rattle.std.proofs.Common.{map, take}
use Rattle.gql_schema.specs.Marks.{mark_of}
use Rattle.schema_defaults.specs.Seen.{Saw}
use Rattle.gql_schema.proofs.repeated.repeated_name.Given as goal

abbrev pub invariant-items : goal.invariant-items
invariant-items g l = Saw l.seen (map (λ x. mark_of (g.T.Listed.listed x)) (take l.item-index l.items))
