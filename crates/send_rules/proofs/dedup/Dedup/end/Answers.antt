use Rattle.std.proofs.Common.{◌≡◌, Some, None, sym, ap, ◌∙◌}
use Rattle.std.specs.FinMap as finite
use Rattle.send_rules.proofs.Agreement.{agree_unkeyed, agree_keyed}
use Rattle.send_rules.proofs.dedup.Dedup.end.Goals as goal

pub invariant_of-self : goal.invariant_of-self
invariant_of-self c =
    rw (c.forget.ensures, c.take.ensures.gone)
    (agree_keyed c.self.inside.in_flight c.self.inside.down c.args.fetch c.in-Some-Some.key c.self.invariant
    (sym c.take.ensures.was ∙ c.in-Some-Some.is ∙ ap Some c.in-Some-Some.field-0-is))

pub invariant_of-self-in-Some-None : goal.invariant_of-self-in-Some-None
invariant_of-self-in-Some-None c =
    let was : finite.get c.self.inside.down c.args.fetch ≡ Some None = sym c.take.ensures.was ∙ c.in-Some-None.is ∙ ap Some c.in-Some-None.field-0-is in
    rw c.take.ensures.gone (agree_unkeyed c.self.inside.in_flight c.self.inside.down c.args.fetch c.self.invariant (λ k e. cc (e, was)))

pub invariant_of-self-in-None : goal.invariant_of-self-in-None
invariant_of-self-in-None c =
    let was : finite.get c.self.inside.down c.args.fetch ≡ None = sym c.take.ensures.was ∙ c.in-None.is in
    rw c.take.ensures.gone (agree_unkeyed c.self.inside.in_flight c.self.inside.down c.args.fetch c.self.invariant (λ k e. cc (e, was)))
