use Rattle.std.proofs.Common.{◌≡◌, ◌≤◌, length}
use Rattle.gql_tokens.specs.Tokens.{tokens_of}
use Rattle.schema_text.specs.Depth.{deep_line}
use Rattle.schema_text.proofs.depth.deep_line.Given as goal

abbrev pub invariant-tokens : goal.invariant-tokens
invariant-tokens l = (deep_line l.unclosed l.lexer ≡ deep_line 0 (tokens_of l.text)) × (l.unclosed ≤ 64)

abbrev pub decreases-tokens : goal.decreases-tokens
decreases-tokens l = length l.lexer
