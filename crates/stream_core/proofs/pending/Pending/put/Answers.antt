use Rattle.std.proofs.Common.{ap, ◌∙◌}
use Rattle.std.specs.FinMap as map
use Rattle.stream_core.specs.NumberMaps.{inserted}
use Rattle.stream_core.proofs.pending.Pending.put.Goals as goal

pub returns-clause-ok : goal.returns-clause-ok
returns-clause-ok g c =
    inserted _ _ c.args.id c.args.value c.in_ok-insert.ensures.updates.0
    ∙ ap (λ m. map.insert m c.args.id c.args.value) c.self.view_is
