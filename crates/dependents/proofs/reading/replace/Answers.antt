use Rattle.std.proofs.Common.{◌≡◌, sym, ap, ◌∙◌, ◌&&◌, not, nat_cmp}
use Rattle.std.specs.BTreeMap as tree
use Rattle.std.specs.BTreeMap.{is_at}
use Rattle.std.specs.BTreeSet as sorted
use Rattle.std.specs.Map.{lookup}
use Rattle.dependents.specs.declared.reading.Reading.{Reading}
use Rattle.dependents.specs.Places.{place_cmp, is_current, is_placed, next_turn}
use Rattle.dependents.proofs.ReadingLaws.{inserted, replaced, added, undone}
use Rattle.dependents.proofs.reading.replace.Goals as goal

pub returns-in-Ok-Some-clause-indexed : goal.returns-in-Ok-Some-clause-indexed
returns-in-Ok-Some-clause-indexed c = λ place.
    let last = c.in-Ok-Some.field-0-0 in
    c.remove_places.ensures place
    ∙ ap (λ b. b && not (is_placed c.args.sub last.turn last.cells place)) (c.requires.placed place)
    ∙ replaced c.args.sub last c.args.reading (tree.get nat_cmp c.args.readings.now place.sub) place
    (λ same. ap (tree.get nat_cmp c.args.readings.now) (sym same) ∙ sym c.in-Ok-Some.ensures.old ∙ c.in-Ok-Some.field-0-is)
    (λ same. c.requires.turn ∙ ap (λ s. next_turn (tree.get nat_cmp c.args.readings.now s)) same)
    ∙ ap (λ o. is_current o place) (sym (c.in-Ok-Some.ensures.updates.0 place.sub))

pub returns-in-Ok-Some-clause-ok : goal.returns-in-Ok-Some-clause-ok
returns-in-Ok-Some-clause-ok c = inserted c.args.readings.now c.insert.new.self c.args.sub c.args.reading c.in-Ok-Some.ensures.updates.0

pub returns-in-Ok-None-clause-indexed : goal.returns-in-Ok-None-clause-indexed
returns-in-Ok-None-clause-indexed c = λ place.
    c.requires.placed place
    ∙ added c.args.sub c.args.reading (tree.get nat_cmp c.args.readings.now place.sub) place
    (λ same. ap (tree.get nat_cmp c.args.readings.now) (sym same) ∙ sym c.in-Ok-None.ensures.old ∙ c.in-Ok-None.field-0-is)
    ∙ ap (λ o. is_current o place) (sym (c.in-Ok-None.ensures.updates.0 place.sub))

pub returns-in-Ok-None-clause-ok : goal.returns-in-Ok-None-clause-ok
returns-in-Ok-None-clause-ok c = inserted c.args.readings.now c.insert.new.self c.args.sub c.args.reading c.in-Ok-None.ensures.updates.0

pub returns-in-Err-clause-indexed : goal.returns-in-Err-clause-indexed
returns-in-Err-clause-indexed c = λ place.
    let back : c.in-Err.refused.value.1 ≡ c.args.reading = ap (λ v. v.1) c.in-Err.ensures.value_returned in
    let placed = is_placed c.args.sub c.args.reading.turn c.args.reading.cells place in
    c.remove_places-in-Err.ensures place
    ∙ ap (λ (r : Reading). sorted.contains place_cmp c.args.places.now place && not (is_placed c.args.sub r.turn r.cells place)) back
    ∙ ap (λ b. b && not placed) (c.requires.placed place)
    ∙ undone c.args.sub c.args.reading.turn c.args.reading.cells (tree.get nat_cmp c.args.readings.now place.sub) place
    (λ same. c.requires.turn ∙ ap (λ s. next_turn (tree.get nat_cmp c.args.readings.now s)) same)
    ∙ ap (λ o. is_current o place) (sym (ap (lookup (is_at (nat_cmp place.sub))) c.in-Err.ensures.err))
