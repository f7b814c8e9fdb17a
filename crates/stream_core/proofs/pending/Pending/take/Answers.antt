use Rattle.std.proofs.Common.{ap, sym, ◌∙◌}
use Rattle.std.specs.FinMap as map
use Rattle.stream_core.specs.NumberMaps.{get_is_found, removed}
use Rattle.stream_core.proofs.pending.Pending.take.Goals as goal

pub returns-clause-gone : goal.returns-clause-gone
returns-clause-gone g c =
    removed _ _ c.args.id c.remove.ensures.updates.0
    ∙ ap (λ m. map.remove m c.args.id) c.self.view_is

pub returns-clause-was : goal.returns-clause-was
returns-clause-was g c =
    c.remove.ensures.value ∙ sym (get_is_found _ _)
    ∙ ap (λ m. map.get m c.args.id) c.self.view_is
