use Rattle.std.proofs.Common.{ap, sym, ◌∙◌}
use Rattle.std.specs.List.{list_any}
use Rattle.std.specs.BTreeMap.{is_at}
use Rattle.dependents.specs.Places.{place_cmp}
use Rattle.dependents.proofs.PlacingLaws.{front_none, one_more_placed}
use Rattle.dependents.proofs.placing.add_places.Goals as goal

pub returns-in_err-copy-clause-others : goal.returns-in_err-copy-clause-others
returns-in_err-copy-clause-others c = λ place none.
    front_none c.args.sub c.args.turn c.args.cells.now c.as_slice-cell-items.result.now c.loop-cell.cell-index place _ _ c.as_slice-cell-items.ensures none (c.loop-cell.invariant place)

pub returns-in_err-copy-2-clause-others : goal.returns-in_err-copy-2-clause-others
returns-in_err-copy-2-clause-others c = λ place none.
    front_none c.args.sub c.args.turn c.args.cells.now c.as_slice-cell-items.result.now c.loop-cell.cell-index place _ _ c.as_slice-cell-items.ensures none (c.loop-cell.invariant place)

pub returns-in_err-insert-clause-others : goal.returns-in_err-insert-clause-others
returns-in_err-insert-clause-others c = λ place none.
    ap (list_any (is_at (place_cmp place))) c.in_err-insert.ensures.err
    ∙ front_none c.args.sub c.args.turn c.args.cells.now c.as_slice-cell-items.result.now c.loop-cell.cell-index place _ _ c.as_slice-cell-items.ensures none (c.loop-cell.invariant place)

pub loop-cell-preserved : goal.loop-cell-preserved
loop-cell-preserved c = λ place.
    one_more_placed c.args.sub c.args.turn c.as_slice-cell-items.result.now c.loop-cell.cell-index c.cell-item.result _ place _ _ _
    c.loop-cell-test.true (sym c.cell-item.is)
    (λ i. record { entity = c.in_ok-copy.ensures i; field = c.in_ok-copy-2.ensures i; sub = c.args.sub; turn = c.args.turn })
    (c.in_ok-insert.ensures.updates.0 place) (c.loop-cell.invariant place)
