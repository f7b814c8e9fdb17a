use Rattle.std.proofs.Common.{ap, sym, ◌∙◌}
use Rattle.std.specs.Prelude.{is_some}
use Rattle.std.proofs.lemmas.Result.{IfOk-weaker}
use Rattle.offered_values.proofs.NameLaws.{place_by_names, put_old, put_fresh}
use Rattle.offered_values.proofs.object.ObjectBuilder.put.Goals as goal

pub returns-then-has : goal.returns-then-has
returns-then-has c =
    put_old c.args.self.members (c.args.name.now, c.args.value)
    (ap is_some (place_by_names c.args.self.members c.args.self.names c.args.name.now c.args.self.tied) ∙ sym c.has.ensures ∙ c.if-has.true)

pub returns : goal.returns
returns c =
    let none = ap is_some (place_by_names c.args.self.members c.args.self.names c.args.name.now c.args.self.tied) ∙ sym c.has.ensures ∙ c.if-has.false in
    IfOk-weaker c.with.result _ _ (λ r is. is ∙ put_fresh c.args.self.members (c.args.name.now, c.args.value) none) c.with.ensures
