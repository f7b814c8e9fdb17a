use Rattle.std.proofs.Common.{ap, ◌∙◌}
use Rattle.std.specs.FinMap as map
use Rattle.stream_core.specs.NumberMaps.{inserted}
use Rattle.send_rules.proofs.in_flight.InFlight.begin.Goals as goal

pub returns-clause-ok : goal.returns-clause-ok
returns-clause-ok c =
    inserted _ _ c.args.key c.args.fetch c.in_ok-insert.ensures.updates.0
    ∙ ap (λ m. map.insert m c.args.key c.args.fetch) c.self.view_is
