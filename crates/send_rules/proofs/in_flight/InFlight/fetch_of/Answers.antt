use Rattle.std.proofs.Common.{ap, sym, ◌∙◌}
use Rattle.std.specs.FinMap as map
use Rattle.stream_core.specs.NumberMaps.{get_is_found}
use Rattle.send_rules.proofs.in_flight.InFlight.fetch_of.Goals as goal

pub returns : goal.returns
returns c =
    c.copied.ensures ∙ c.get.ensures.value ∙ sym (get_is_found _ _)
    ∙ ap (λ m. map.get m c.args.key) c.self.view_is
