use Rattle.std.proofs.Common.{sym, ap, ◌∙◌, ◌+◌, ◌∷◌, arith, drop}
use Rattle.std.specs.List.{enumerate_from}
use Rattle.std.specs.Result.{result_map_both}
use Rattle.std.specs.declared.result.Result.TheVariants.{Err}
use Rattle.execution_model.specs.Values.{list_value}
use Rattle.answer_model.specs.Fits.{fitted, item_fit}
use Rattle.answer_model.specs.Paths.{each}
use Rattle.answer_parts.proofs.EachLaws.{after, each_next, each_stop, next_item}
use Rattle.answer_parts.proofs.fits.+fits.Goals as goal

pub items_fit-items-preserved : goal.items_fit-items-preserved
items_fit-items-preserved t c =
    let fit = item_fit (fitted c.args.schema.now c.args.wanted.now) in
    let items = c.args.items.now in
    let at = c.items.at in
    let more = enumerate_from (at + 1) (drop (at + 1) items) in
    each_next fit (at, c.index-items-at.result) (enumerate_from at (drop at items)) more c.items.values c.in-Ok.value _
    (next_item items at c.index-items-at.result (omega arith) c.index-items-at.is)
    (ap (result_map_both (λ v. v) (λ places. at ∷ places)) (sym c.in_ok-value.ensures ∙ c.in-Ok.is))
    c.items.invariant
    ∙ ap (λ values. after values (each fit more)) (sym c.in_ok-push-in-Ok.ensures.ok)

pub items_fit-returns-in-Err : goal.items_fit-returns-in-Err
items_fit-returns-in-Err t c =
    let fit = item_fit (fitted c.args.schema.now c.args.wanted.now) in
    let items = c.args.items.now in
    let at = c.items.at in
    let more = enumerate_from (at + 1) (drop (at + 1) items) in
    ap Err c.in_ok-inside-in-Err.ensures
    ∙ sym (ap (result_map_both list_value (λ places. places))
    (each_stop fit (at, c.index-items-at.result) (enumerate_from at (drop at items)) more c.items.values (at ∷ c.in-Err.places) _
    (next_item items at c.index-items-at.result (omega arith) c.index-items-at.is)
    (ap (result_map_both (λ v. v) (λ places. at ∷ places)) (sym c.in_ok-value.ensures ∙ c.in-Err.is))
    c.items.invariant))
