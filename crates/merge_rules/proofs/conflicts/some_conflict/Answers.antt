use Rattle.std.proofs.Common.{◌≡◌, List, ℕ, Option, length, ap, sym, subst, arith}
use Rattle.std.proofs.lemmas.Option.{slice_get-get_or}
use Rattle.merge_rules.specs.Kept.{Kept, TakenIn}
use Rattle.merge_rules.specs.Paths.{AreNumbered}
use Rattle.merge_rules.proofs.KeptLaws.{nothing_taken, nothing_kept, all_taken}
use Rattle.merge_rules.proofs.conflicts.some_conflict.Goals as goal

pub rows-init : goal.rows-init
rows-init c = λ fields stands numbered.
    nothing_taken c.args.scope.now.schema.now fields _ c.new-kept.result (nothing_kept c.new-kept.result c.new-kept.ensures.empty)

pub rows-preserved : goal.rows-preserved
rows-preserved c = λ fields stands numbered.
    subst (λ (o : Option Kept). TakenIn c.args.scope.now.schema.now fields c.as_slice-number-items.result.now c.rows.place o) c.in-Some.is
    (c.in_ok-more.ensures fields c.as_slice-number-items.result.now stands numbered
    (slice_get-get_or c.as_slice-number-items.result.now c.rows.place 0 c.rows-test.true) (c.rows.invariant fields stands numbered))

pub returns-in-None : goal.returns-in-None
returns-in-None c = λ fields stands.
    let numbered : AreNumbered fields c.as_slice-number-items.result.now =
    subst (λ (ns : List ℕ). AreNumbered fields ns) (sym c.as_slice-number-items.ensures.value) (c.in_ok-numbers.ensures.numbered c.args.scope.now.schema.now fields stands) in
    sym (subst (λ (o : Option Kept). TakenIn c.args.scope.now.schema.now fields c.as_slice-number-items.result.now c.rows.place o) c.in-None.is
    (c.in_ok-more.ensures fields c.as_slice-number-items.result.now stands numbered
    (slice_get-get_or c.as_slice-number-items.result.now c.rows.place 0 c.rows-test.true) (c.rows.invariant fields stands numbered)))

pub returns : goal.returns
returns c = λ fields stands.
    let numbered : AreNumbered fields c.as_slice-number-items.result.now =
    subst (λ (ns : List ℕ). AreNumbered fields ns) (sym c.as_slice-number-items.ensures.value) (c.in_ok-numbers.ensures.numbered c.args.scope.now.schema.now fields stands) in
    let size : length c.as_slice-number-items.result.now ≡ length c.in_ok-numbers.numbers.items = ap length c.as_slice-number-items.ensures.value in
    all_taken c.args.scope.now.schema.now fields c.as_slice-number-items.result.now c.rows.kept c.rows.place (c.rows.invariant fields stands numbered)
    (omega (arith, stands.long, size, c.in_ok-numbers.ensures.long, c.rows-test.false))
