use Rattle.std.proofs.Common.{sym, ap, ◌∙◌, arith}
use Rattle.std.specs.Option.{is_some}
use Rattle.head_scan.proofs.ResponseHeads as heads
use Rattle.head_scan.proofs.Takes.{open_stands}
use Rattle.head_scan.proofs.response.ResponseScan.is_open.Goals as goal

pub returns-clause-open : goal.returns-clause-open
returns-clause-open c seen scans len some = heads.is_open seen c.args.self.now scans (omega (arith, len)) (omega arith) (sym c.is_some.ensures ∙ some)

pub returns-clause-whole : goal.returns-clause-whole
returns-clause-whole c seen scans len is = c.is_some.ensures ∙ ap is_some scans.place ∙ open_stands seen is
