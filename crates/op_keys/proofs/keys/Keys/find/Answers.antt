use Rattle.std.proofs.Common.{◌≡◌, ◌∙◌, sym, true, false, subst, arith, rules, Some}
use Rattle.op_keys.specs.Identities.{Identities, is_same, holds, number_of, most}
use Rattle.op_keys.specs.KeyParts.{of_key}
use Rattle.op_keys.proofs.Numbers.{any_map, found_as}
use Rattle.op_keys.proofs.keys.Keys.find.Goals as goal

pub overflow_cast-result : goal.overflow_cast-result
unfolding most
overflow_cast-result c = omega (arith, c.self.invariant, c.in-Some.ensures.within)

pub returns-in-Some-clause-number : goal.returns-in-Some-clause-number
returns-in-Some-clause-number c =
    let key = c.args.key.now in
    subst (λ (held : Identities). number_of held (of_key key) ≡ Some c.in-Some.place) c.self.view_is
    (found_as of_key key _ (λ x. search rules) c.self.inside.keys.keys c.in-Some.place (sym c.in-Some.ensures.index))

pub returns-in-Some-clause-ok : goal.returns-in-Some-clause-ok
returns-in-Some-clause-ok c =
    let key = c.args.key.now in
    subst (λ (held : Identities). holds held (of_key key) ≡ true) c.self.view_is
    (any_map of_key (is_same (of_key key)) _ (λ x. search rules) c.self.inside.keys.keys ∙ sym c.in-Some.ensures.found)

pub returns-in-None-clause-err : goal.returns-in-None-clause-err
returns-in-None-clause-err c =
    let key = c.args.key.now in
    subst (λ (held : Identities). holds held (of_key key) ≡ false) c.self.view_is
    (any_map of_key (is_same (of_key key)) _ (λ x. search rules) c.self.inside.keys.keys ∙ sym c.in-None.ensures.found)
