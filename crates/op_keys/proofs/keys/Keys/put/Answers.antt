use Rattle.std.proofs.Common.{◌≡◌, ◌∙◌, List, map, ap, arith, rules}
use Rattle.op_keys.specs.declared.keys.Key.{Key}
use Rattle.op_keys.specs.Identities.{Identities, interned, most}
use Rattle.op_keys.specs.KeyParts.{of_key}
use Rattle.op_keys.proofs.Numbers.{interned_as, number_in, fits_after, same_self}
use Rattle.op_keys.proofs.keys.Keys.put.Goals as goal

pub overflow_cast-result : goal.overflow_cast-result
unfolding most
overflow_cast-result c =
    let place = c.in_ok-place in
    let h = fits_after place.field-0-1 place.place _ _ place.ensures.within place.ensures.len c.self.invariant in
    omega (arith, h)

pub returns-clause-number : goal.returns-clause-number
returns-clause-number c =
    let key = c.args.key in
    let place = c.in_ok-place in
    number_in of_key key _ (λ x. search rules) (search (rules, same_self (of_key key))) c.self.inside.keys.keys place.place c.insert_full.new.self.keys
    place.ensures.index place.ensures.keys place.ensures.within

pub returns-clause-ok : goal.returns-clause-ok
returns-clause-ok c =
    let key = c.args.key in
    ap (λ (all : List Key). map of_key all) c.in_ok-place.ensures.keys
    ∙ interned_as of_key key _ (λ x. search rules) c.self.inside.keys.keys
    ∙ ap (λ (held : Identities). interned held (of_key key)) c.self.view_is
