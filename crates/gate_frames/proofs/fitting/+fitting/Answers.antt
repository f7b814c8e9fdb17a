use Rattle.std.proofs.Common.{codes, arith, sym, ap, ◌∙◌}
use Rattle.serde_json.specs.Data.{items_depth}
use Rattle.serde_json.specs.View.{view, items_view}
use Rattle.gate_frames.specs.Members.{absent_or}
use Rattle.gate_frames.specs.Dispatches.{list_fits}
use Rattle.gate_frames.proofs.DepthLaws.{found_below, item_within}
use Rattle.gate_frames.proofs.FollowUpLaws.{fits_at_then}
use Rattle.gate_frames.proofs.fitting.+fitting.Goals as goal

pub all_fit-follow_up_fits-requires : goal.all_fit-follow_up_fits-requires
all_fit-follow_up_fits-requires t c =
    let within = item_within c.deref-frame-items.result.now c.loop-frame.frame-index c.frame-item.result (omega arith) c.frame-item.is in
    let same = ap (λ xs. items_depth (items_view xs)) c.deref-frame-items.ensures.value in
    (omega (arith, within, same, c.decreases), tt)

pub follow_ups_fit-list_fits-requires : goal.follow_ups_fit-list_fits-requires
follow_ups_fit-list_fits-requires t c =
    let below = found_below (codes "then") (view c.args.frame.now) (view c.in-Some.list.now) c.in-Some.ensures in
    (omega (arith, below, c.decreases), tt)

pub follow_ups_fit-returns-in-None : goal.follow_ups_fit-returns-in-None
follow_ups_fit-returns-in-None t c = sym (fits_at_then (view c.args.frame.now) ∙ ap (absent_or list_fits) (sym c.in-None.ensures))

pub follow_ups_fit-returns-in-Some : goal.follow_ups_fit-returns-in-Some
follow_ups_fit-returns-in-Some t c = c.list_fits.ensures ∙ sym (fits_at_then (view c.args.frame.now) ∙ ap (absent_or list_fits) (sym c.in-Some.ensures))
