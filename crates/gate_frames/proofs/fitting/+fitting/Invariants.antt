use Rattle.std.proofs.Common.{◌≡◌, ◌+◌, ◌*◌, drop}
use Rattle.serde_json.specs.Data.{depth, items_depth}
use Rattle.serde_json.specs.View.{view, items_view}
use Rattle.gate_frames.specs.Dispatches.{all_fit}
use Rattle.gate_frames.proofs.fitting.+fitting.Given as goal

abbrev pub decreases-follow_up_fits : goal.decreases-follow_up_fits
decreases-follow_up_fits l = 5 * depth (view l.frame.now) + 3

abbrev pub decreases-dispatch_misfit : goal.decreases-dispatch_misfit
decreases-dispatch_misfit l = 5 * depth (view l.frame.now) + 2

abbrev pub decreases-follow_ups_fit : goal.decreases-follow_ups_fit
decreases-follow_ups_fit l = 5 * depth (view l.frame.now) + 1

abbrev pub decreases-list_fits : goal.decreases-list_fits
decreases-list_fits l = 5 * depth (view l.list.now)

abbrev pub decreases-all_fit : goal.decreases-all_fit
decreases-all_fit l = 5 * items_depth (items_view l.frames.now.items) + 4

abbrev pub invariant-all_fit-loop-frame : goal.invariant-all_fit-loop-frame
invariant-all_fit-loop-frame l = all_fit (items_view l.frame-items) ≡ all_fit (items_view (drop l.frame-index l.frame-items))
