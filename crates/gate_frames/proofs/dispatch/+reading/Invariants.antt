use Rattle.std.proofs.Common.{◌≡◌, ◌+◌, ◌*◌, drop}
use Rattle.serde_json.specs.Data.{depth, items_depth}
use Rattle.serde_json.specs.View.{view, items_view}
use Rattle.gate_frames.specs.Dispatches.{all_read}
use Rattle.gate_frames.proofs.FollowUpLaws.{behind}
use Rattle.gate_frames.proofs.dispatch.+reading.Given as goal

abbrev pub decreases-read_follow_up : goal.decreases-read_follow_up
decreases-read_follow_up l = 5 * depth (view l.frame.now) + 3

abbrev pub decreases-read_dispatch : goal.decreases-read_dispatch
decreases-read_dispatch l = 5 * depth (view l.frame.now) + 2

abbrev pub decreases-read_follow_ups : goal.decreases-read_follow_ups
decreases-read_follow_ups l = 5 * depth (view l.frame.now) + 1

abbrev pub decreases-read_list : goal.decreases-read_list
decreases-read_list l = 5 * depth (view l.list.now)

abbrev pub decreases-read_all : goal.decreases-read_all
decreases-read_all l = 5 * items_depth (items_view l.frames.now.items) + 4

abbrev pub invariant-read_all-frames : goal.invariant-read_all-frames
invariant-read_all-frames l =
    all_read l.peer l.line 0 (items_view l.frame-items) ≡ behind l.commands (all_read l.peer l.line l.at (items_view (drop l.at l.frame-items)))
