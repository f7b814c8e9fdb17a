use Rattle.std.proofs.Common.{◌+◌, ◌-◌, length, drop, ◌∙◌, sym, arith, length-drop}
use Rattle.std.proofs.lemmas.List.{take_all}
use Rattle.gateway.proofs.Feeds.{no_feed, first_feed}
use Rattle.gateway.proofs.split.split_line.Goals as goal

pub returns-in_err-at : goal.returns-in_err-at
returns-in_err-at c = rw c.from_residual.ensures (no_feed c.args.bytes.now (sym c.first_line_feed.ensures ∙ c.in_err-at.was))

pub returns : goal.returns
returns c =
    let bs = c.args.bytes.now in
    let at = c.in_ok-at.at in
    let cut = first_feed bs at (sym c.first_line_feed.ensures ∙ c.in_ok-at.was) in
    (cut.0, rw (take_all (length bs - (at + 1)) (drop (at + 1) bs) (omega (arith, length-drop (at + 1) bs))) cut.1)
