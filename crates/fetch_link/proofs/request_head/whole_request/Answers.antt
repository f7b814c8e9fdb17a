use Rattle.std.proofs.Common.{◌<◌, length, inl, inr, arith}
use Rattle.httparse.specs.Grammar.{print_request}
use Rattle.fetch_link.proofs.RequestLaws.{headers-count, IsBad-over}
use Rattle.fetch_link.proofs.request_head.whole_request.Goals as goal
use Rattle.fetch_link.proofs.request_head.whole_request.Goals.{then-spans-gt-HEAD_LIMIT-via-then-spans-gt-HEAD_LIMIT, then-spans-gt-HEAD_LIMIT-via-else-spans-gt-HEAD_LIMIT+then-spans-gt-FIELD_LIMIT}

pub returns-then-spans-gt-HEAD_LIMIT : goal.returns-then-spans-gt-HEAD_LIMIT
returns-then-spans-gt-HEAD_LIMIT c =
    let h = c.requires.head.0 in
    let at = c.requires.head.1 in
    let count = headers-count c.args.bytes.now c.args.headers.now c.args.spans h c.requires.within at in
    elim c.then-spans-gt-HEAD_LIMIT.branch [
      | then-spans-gt-HEAD_LIMIT-via-then-spans-gt-HEAD_LIMIT w ↦ let long : 65536 < length (print_request h) = omega (arith, at.len, w.if-spans-gt-HEAD_LIMIT.true) in IsBad-over _ h _ c.requires.read at.reads (inl long)
      | then-spans-gt-HEAD_LIMIT-via-else-spans-gt-HEAD_LIMIT+then-spans-gt-FIELD_LIMIT w ↦ let many : 100 < length h.fields = omega (arith, count, w.if-spans-gt-FIELD_LIMIT.true) in IsBad-over _ h _ c.requires.read at.reads (inr many)
    ]
