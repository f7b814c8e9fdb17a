use Rattle.std.proofs.Common.{◌∙◌, ap, min, ◌+◌, ◌*◌, arith}
use Rattle.fetch_link.proofs.Numbers.{digits_value-take}
use Rattle.fetch_link.proofs.framing.capped_value.Goals as goal

pub loop-digit-preserved : goal.loop-digit-preserved
loop-digit-preserved c =
    c.min-value.ensures
    ∙ ap (λ d. min (c.loop-digit.value * 10 + d) 8388609) c.from.ensures
    ∙ digits_value-take c.args.digits.now c.loop-digit.digit-index 8388609 c.loop-digit.value c.requires (omega arith) c.loop-digit.invariant
