use Rattle.std.proofs.Common.{refl, sym, ◌∙◌, arith}
use Rattle.head_scan.proofs.Counting.{Counts-first, Counts-more, Counts-over}
use Rattle.head_scan.proofs.lines.EndedLines.take.Goals as goal

pub returns-then-self : goal.returns-then-self
returns-then-self c seen counts = Counts-over c.args.self.now seen c.args.bytes.now (omega arith) counts

pub returns-then-self-2 : goal.returns-then-self-2
returns-then-self-2 c seen counts = Counts-more c.args.self.now _ seen c.args.bytes.now (omega arith) c.if-self-2.true refl (omega (arith, c.line_feeds.ensures)) counts

pub returns-else-self-2 : goal.returns-else-self-2
returns-else-self-2 c seen counts = Counts-first c.begin.result seen c.args.bytes.now (sym counts.begun ∙ c.if-self-2.false) c.begin.ensures
