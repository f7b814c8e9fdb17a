use Rattle.std.proofs.Common.{◌≡◌, ◌+◌, List, codes, drop, arith, sym, ap, ◌∙◌, Ok}
use Rattle.std.proofs.lemmas.Result.{IfOk-weaker}
use Rattle.serde_json.specs.Data.{items_depth}
use Rattle.serde_json.specs.View.{view, items_view}
use Rattle.machine_model.specs.declared.command.Command.{Command}
use Rattle.gate_frames.specs.Dispatches.{list_read, follow_ups_read, all_read, one_more}
use Rattle.gate_frames.proofs.DepthLaws.{found_below, item_within}
use Rattle.gate_frames.proofs.FollowUpLaws.{reads_at_then, list_if_any, entry_read, behind, behind-more, rest_read, told_behind, all_behind}
use Rattle.gate_frames.proofs.dispatch.+reading.Goals as goal

pub read_all-read_follow_up-requires : goal.read_all-read_follow_up-requires
read_all-read_follow_up-requires t c =
    let within = item_within c.deref-frame-items.result.now c.frames.at c.frame-item.result (omega arith) c.frame-item.is in
    let same = ap (λ xs. items_depth (items_view xs)) c.deref-frame-items.ensures.value in
    (omega (arith, within, same, c.decreases), tt)

pub read_follow_ups-read_list-requires : goal.read_follow_ups-read_list-requires
read_follow_ups-read_list-requires t c =
    let below = found_below (codes "then") (view c.args.frame.now) (view c.in-Some.list.now) c.in-Some.ensures in
    (omega (arith, below, c.decreases), tt)

pub read_follow_ups-returns-in-None-clause-ok : goal.read_follow_ups-returns-in-None-clause-ok
read_follow_ups-returns-in-None-clause-ok t c =
    reads_at_then c.args.peer c.args.line (view c.args.frame.now)
    ∙ ap (list_if_any c.args.peer c.args.line) (sym c.in-None.ensures)
    ∙ ap Ok (sym c.new.ensures)

pub read_follow_ups-returns-in-Some-clause-ok : goal.read_follow_ups-returns-in-Some-clause-ok
read_follow_ups-returns-in-Some-clause-ok t c =
    let list = view c.in-Some.list.now in
    let same = reads_at_then c.args.peer c.args.line (view c.args.frame.now) ∙ ap (list_if_any c.args.peer c.args.line) (sym c.in-Some.ensures) in
    IfOk-weaker c.read_list.result
    (λ (commands : List Command). list_read c.args.peer c.args.line list ≡ Ok commands)
    (λ (commands : List Command). follow_ups_read c.args.peer c.args.line (view c.args.frame.now) ≡ Ok commands)
    (λ commands is. same ∙ is)
    c.read_list.ensures.ok

pub read_follow_ups-returns-in-Some-clause-unread : goal.read_follow_ups-returns-in-Some-clause-unread
read_follow_ups-returns-in-Some-clause-unread t c =
    let list = view c.in-Some.list.now in
    let same = reads_at_then c.args.peer c.args.line (view c.args.frame.now) ∙ ap (list_if_any c.args.peer c.args.line) (sym c.in-Some.ensures) in
    rw same c.read_list.ensures.unread

pub read_all-returns-in-Err-clause-unread : goal.read_all-returns-in-Err-clause-unread
read_all-returns-in-Err-clause-unread t c =
    let frames = c.deref-frame-items.result.now in
    let i = c.frames.at in
    let read = entry_read c.args.peer c.args.line (view c.frame-item.result) in
    let rest = all_read c.args.peer c.args.line (i + 1) (items_view (drop (i + 1) frames)) in
    let told = told_behind c.frames.commands (one_more i read rest) c.behind_index.result (c.behind_index.ensures read rest c.in-Err.ensures.unread) in
    let whole = ap (λ xs. all_read c.args.peer c.args.line 0 (items_view xs)) (sym c.deref-frame-items.ensures.value)
    ∙ c.frames.invariant
    ∙ rest_read c.args.peer c.args.line i frames c.frame-item.result c.frames.commands (omega arith) c.frame-item.is in
    rw whole told

pub read_all-returns-clause-ok : goal.read_all-returns-clause-ok
read_all-returns-clause-ok t c =
    let frames = c.deref-frame-items.result.now in
    ap (λ xs. all_read c.args.peer c.args.line 0 (items_view xs)) (sym c.deref-frame-items.ensures.value)
    ∙ c.frames.invariant
    ∙ all_behind c.args.peer c.args.line c.frames.at frames c.frames.commands (omega arith)

pub read_all-frames-preserved : goal.read_all-frames-preserved
read_all-frames-preserved t c =
    let frames = c.deref-frame-items.result.now in
    let i = c.frames.at in
    c.frames.invariant
    ∙ behind-more c.args.peer c.args.line i frames c.frame-item.result c.frames.commands c.in-Ok.command (omega arith) c.frame-item.is c.in-Ok.ensures.ok
    ∙ ap (λ commands. behind commands (all_read c.args.peer c.args.line (i + 1) (items_view (drop (i + 1) frames)))) (sym c.in_ok-push-in-Ok.ensures.ok)
