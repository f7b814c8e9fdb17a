use Rattle.std.proofs.Common.{ap, sym, ◌∙◌}
use Rattle.std.specs.FinMap as map
use Rattle.stream_core.specs.NumberMaps.{get_is_found}
use Rattle.stream_core.proofs.pending.Pending.get.Goals as goal

pub returns : goal.returns
returns g c =
    c.get.ensures.value ∙ sym (get_is_found _ _)
    ∙ ap (λ m. map.get m c.args.id) c.self.view_is
