use Rattle.std.proofs.Common.{◌++◌, [], ◌∷◌, subst, sym, ap, ◌∙◌}
use Rattle.httparse.specs.Grammar.{ReadsRequest}
use Rattle.head_scan.specs.Scans.{IsRequestLine}
use Rattle.head_scan.proofs.RequestHeads.{request_line}
use Rattle.head_scan.proofs.request_line.begins_head.Goals as goal

pub returns : goal.returns
returns c true =
    let front = c.requires.0 in
    let line = c.requires.1 in
    let bare = c.is_bare_head.ensures true in
    let filled = c.in_ok-append.ensures.ok ∙ ap (λ t. t ++ c.args.line.now) c.new-head.ensures ∙ line in
    let text = c.as_slice.ensures ∙ c.in_ok-push.ensures.ok ∙ ap (λ t. t ++ 10 ∷ []) filled in
    subst IsRequestLine (sym line) (request_line front bare.0 (subst (λ t. ReadsRequest t bare.0 []) text bare.1) bare.2)
