use Rattle.std.proofs.Common.{ap, ◌∙◌}
use Rattle.std.proofs.lemmas.Option.{get_or_from_slice_get}
use Rattle.merge_rules.specs.Kept.{at_odds_with}
use Rattle.merge_rules.proofs.ConflictLaws.{passes, goes_on, none_passes}
use Rattle.merge_rules.proofs.conflicts.is_at_odds_with_some.Goals as goal

pub others-preserved : goal.others-preserved
others-preserved c = λ fields x stands x_is.
    goes_on (at_odds_with c.args.scope.now.schema.now fields x) c.args.others.now c.others.other-index c.is_at_odds_with.result _ c.others-test.true
    (λ o o_is. c.is_at_odds_with.ensures fields x stands x_is
    ∙ ap (at_odds_with c.args.scope.now.schema.now fields x) (get_or_from_slice_get c.args.others.now c.others.other-index o 0 o_is))
    c.if-is_at_odds_with.false (c.others.invariant fields x stands x_is)

pub returns-then-is_at_odds_with : goal.returns-then-is_at_odds_with
returns-then-is_at_odds_with c = λ fields x stands x_is.
    passes (at_odds_with c.args.scope.now.schema.now fields x) c.args.others.now c.others.other-index c.is_at_odds_with.result _ c.others-test.true
    (λ o o_is. c.is_at_odds_with.ensures fields x stands x_is
    ∙ ap (at_odds_with c.args.scope.now.schema.now fields x) (get_or_from_slice_get c.args.others.now c.others.other-index o 0 o_is))
    c.if-is_at_odds_with.true (c.others.invariant fields x stands x_is)

pub returns : goal.returns
returns c = λ fields x stands x_is.
    none_passes (at_odds_with c.args.scope.now.schema.now fields x) c.args.others.now c.others.other-index _ c.others-test.false (c.others.invariant fields x stands x_is)
