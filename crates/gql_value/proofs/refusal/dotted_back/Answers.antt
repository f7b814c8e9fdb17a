use Rattle.std.proofs.Common.{◌∙◌, sym, arith}
use Rattle.std.proofs.lemmas.List.{length-reverse, get_or-reverse}
use Rattle.std.specs.Prelude.{reverse}
use Rattle.gql_value.proofs.Joining.{join_with_byte-take}
use Rattle.gql_value.proofs.refusal.dotted_back.Goals as goal

pub loop-before-preserved : goal.loop-before-preserved
loop-before-preserved c =
    let steps = c.as_slice-steps.result.now in
    let i = c.loop-before.before in
    let step = c.index-steps-steps.result in
    let at = c.index-steps-steps.is ∙ sym (get_or-reverse steps i step (omega arith)) in
    let more = join_with_byte-take 46 (reverse steps) i step (omega (arith, length-reverse steps)) at in
    rw (c.in_ok-push_step.ensures, c.loop-before.invariant, more)
