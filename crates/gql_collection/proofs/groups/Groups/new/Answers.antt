use Rattle.std.proofs.Common.{rules}
use Rattle.gql_collection.proofs.GroupLaws.{no_keys}
use Rattle.gql_collection.proofs.groups.Groups.new.Goals as goal

pub invariant_of-result : goal.invariant_of-result
invariant_of-result c = record { placed = search rules; distinct = rw c.new.ensures no_keys }
