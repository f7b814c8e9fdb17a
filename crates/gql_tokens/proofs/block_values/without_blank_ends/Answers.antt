use Rattle.std.proofs.Common.{ap, ◌∙◌}
use Rattle.gql_tokens.specs.Readings.{texts}
use Rattle.gql_tokens.proofs.BlockLaws.{kept_ends}
use Rattle.gql_tokens.proofs.block_values.without_blank_ends.Goals as goal

pub returns : goal.returns
returns c =
    ap texts c.split_at-2.ensures.front
    ∙ kept_ends c.args.lines.now c.split_at.result.1.now c.leading_blanks.result c.trailing_blanks.result c.leading_blanks.ensures.value c.split_at.ensures.back c.trailing_blanks.ensures.value
