use Rattle.std.proofs.Common.{inr, arith}
use Rattle.head_scan.proofs.RequestHeads as heads
use Rattle.head_scan.proofs.request.RequestScan.is_open.Goals as goal

pub returns-in-Within-clause-open : goal.returns-in-Within-clause-open
returns-in-Within-clause-open c seen scans len _ = inr (heads.is_open seen c.args.self.now c.in-Within.field-0 scans c.in-Within.is (omega (arith, len)) (omega arith))
