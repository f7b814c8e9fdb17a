use Rattle.std.proofs.Common.{sym, ◌∙◌}
use Rattle.gql_tokens.proofs.StringLaws.{whole_unit}
use Rattle.gql_tokens.proofs.strings.unicode_escape.Goals as goal

pub returns-in_err-character-clause-value : goal.returns-in_err-character-clause-value
returns-in_err-character-clause-value c =
    absurd (c.in_err-character.ensures.value
    (whole_unit c.in_ok-unit.unit c.in_ok-unit.ensures.below
    (sym c.is_leading_surrogate.ensures ∙ c.if-is_leading_surrogate.false)
    (sym c.is_trailing_surrogate.ensures ∙ c.if-is_trailing_surrogate.false)))
