use Rattle.std.proofs.Common.{ap, ◌∙◌}
use Rattle.std.specs.FinMap as map
use Rattle.stream_core.specs.NumberMaps.{removed}
use Rattle.send_rules.proofs.in_flight.InFlight.forget.Goals as goal

pub returns : goal.returns
returns c =
    removed _ _ c.args.key c.remove.ensures.updates.0
    ∙ ap (λ m. map.remove m c.args.key) c.self.view_is
