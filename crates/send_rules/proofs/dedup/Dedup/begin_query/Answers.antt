use Rattle.std.proofs.Common.{◌≡◌, None, Some, ap, ◌∙◌}
use Rattle.std.specs.FinMap as finite
use Rattle.stream_core.specs.NumberMaps.{none_left, put_afresh, put_and_removed}
use Rattle.send_rules.proofs.Agreement.{agree_put_keyed, not_in_flight, free_without}
use Rattle.send_rules.proofs.dedup.Dedup.begin_query.Goals as goal

pub begin-requires : goal.begin-requires
begin-requires c =
    not_in_flight c.self.inside.in_flight c.self.inside.down c.args.key c.self.invariant
    (rw (c.self.view_is ∙ c.end.ensures.gone) (free_without c.args.self.now c.args.fetch c.args.key c.requires))

pub invariant_of-self-in-Err : goal.invariant_of-self-in-Err
invariant_of-self-in-Err c =
    let none = none_left c.self.inside.down c.args.self.now c.args.fetch (c.self.view_is ∙ c.end.ensures.gone) in
    let back : c.take.new.self ≡ c.self.inside.down = c.take.ensures.gone ∙ ap (λ m. finite.remove m c.args.fetch) c.in_ok-put.ensures.ok ∙ put_and_removed c.self.inside.down c.args.fetch (Some c.args.key) none in
    rw (back, c.in-Err.ensures.err) c.self.invariant

pub invariant_of-self-in_default : goal.invariant_of-self-in_default
invariant_of-self-in_default c =
    let none = none_left c.self.inside.down c.args.self.now c.args.fetch (c.self.view_is ∙ c.end.ensures.gone) in
    let unheld : finite.get c.self.inside.in_flight c.args.key ≡ None =
    not_in_flight c.self.inside.in_flight c.self.inside.down c.args.key c.self.invariant
    (rw (c.self.view_is ∙ c.end.ensures.gone) (free_without c.args.self.now c.args.fetch c.args.key c.requires)) in
    rw (c.in_ok-put.ensures.ok, c.in_default.ensures.ok)
    (agree_put_keyed c.self.inside.in_flight c.self.inside.down c.args.fetch c.args.key c.self.invariant none unheld)

pub returns : goal.returns
returns c =
    c.in_ok-put.ensures.ok
    ∙ ap (λ m. finite.insert m c.args.fetch (Some c.args.key)) (c.self.view_is ∙ c.end.ensures.gone)
    ∙ put_afresh c.args.self.now c.args.fetch (Some c.args.key)
