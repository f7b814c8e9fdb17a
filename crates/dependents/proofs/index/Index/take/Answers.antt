use Rattle.std.proofs.Common.{sym, ap, ◌∙◌, ◌&&◌, not, nat_cmp}
use Rattle.std.specs.BTreeMap as tree
use Rattle.std.specs.FinMap as map
use Rattle.dependents.specs.Places.{is_current, is_placed}
use Rattle.dependents.proofs.ReadingLaws.{removed, gone}
use Rattle.dependents.proofs.index.Index.take.Goals as goal

pub invariant_of-self : goal.invariant_of-self
invariant_of-self c = λ place.
    let last = c.in-Some.field-0 in
    c.remove_places.ensures place
    ∙ ap (λ b. b && not (is_placed c.args.sub last.turn last.cells place)) (c.self.invariant place)
    ∙ gone c.args.sub last (tree.get nat_cmp c.self.inside.readings place.sub) place
    (λ same. ap (tree.get nat_cmp c.self.inside.readings) (sym same) ∙ sym c.in-Some.ensures.value)
    ∙ ap (λ o. is_current o place) (sym (c.in-Some.ensures.updates.0 place.sub))

pub returns-in-Some : goal.returns-in-Some
returns-in-Some c = removed c.self.inside.readings c.remove.new.self c.args.sub c.in-Some.ensures.updates.0 ∙ ap (λ m. map.remove m c.args.sub) c.self.view_is

pub returns-in_default : goal.returns-in_default
returns-in_default c = removed c.self.inside.readings c.remove.new.self c.args.sub c.remove.ensures.updates.0 ∙ ap (λ m. map.remove m c.args.sub) c.self.view_is
