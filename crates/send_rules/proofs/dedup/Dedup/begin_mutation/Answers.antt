use Rattle.std.proofs.Common.{None, ap, ◌∙◌}
use Rattle.std.specs.FinMap as finite
use Rattle.stream_core.specs.NumberMaps.{none_left, put_afresh}
use Rattle.send_rules.proofs.Agreement.{agree_put_unkeyed}
use Rattle.send_rules.proofs.dedup.Dedup.begin_mutation.Goals as goal

pub invariant_of-self-2 : goal.invariant_of-self-2
invariant_of-self-2 c =
    rw c.in_ok-put.ensures.ok
    (agree_put_unkeyed c.self.inside.in_flight c.self.inside.down c.args.fetch c.self.invariant
    (none_left c.self.inside.down c.args.self.now c.args.fetch (c.self.view_is ∙ c.end.ensures.gone)))

pub returns : goal.returns
returns c =
    c.in_ok-put.ensures.ok
    ∙ ap (λ m. finite.insert m c.args.fetch None) (c.self.view_is ∙ c.end.ensures.gone)
    ∙ put_afresh c.args.self.now c.args.fetch None
