use Rattle.std.proofs.Common.{◌*◌, ◌+◌, length}
use Rattle.gql_documents.proofs.names.+types.Given as goal

abbrev pub decreases-type_node : goal.decreases-type_node
decreases-type_node l = 2 * length l.tokens.now + 1

abbrev pub decreases-bracketed : goal.decreases-bracketed
decreases-bracketed l = 2 * length l.tokens.now
