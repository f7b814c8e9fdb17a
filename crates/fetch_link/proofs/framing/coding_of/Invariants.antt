use Rattle.std.proofs.Common.{◌≡◌, drop, fold, map}
use Rattle.httparse.specs.Spans.{header_bytes}
use Rattle.http_model.specs.Framing.{coding_of, coding_after}
use Rattle.fetch_link.proofs.framing.coding_of.Given as goal

abbrev pub invariant-loop-header : goal.invariant-loop-header
invariant-loop-header l = fold coding_after l.coding (map (header_bytes l.bytes) (drop l.header-index l.headers)) ≡ coding_of (map (header_bytes l.bytes) l.headers)
