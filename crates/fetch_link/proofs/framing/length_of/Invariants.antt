use Rattle.std.proofs.Common.{◌≡◌, drop, fold, map}
use Rattle.httparse.specs.Spans.{header_bytes}
use Rattle.http_model.specs.Framing.{length_of, length_after}
use Rattle.fetch_link.specs.Framing.{length_shown}
use Rattle.fetch_link.proofs.framing.length_of.Given as goal

abbrev pub invariant-loop-header : goal.invariant-loop-header
invariant-loop-header l = fold length_after (length_shown l.length) (map (header_bytes l.bytes) (drop l.header-index l.headers)) ≡ length_of (map (header_bytes l.bytes) l.headers)
