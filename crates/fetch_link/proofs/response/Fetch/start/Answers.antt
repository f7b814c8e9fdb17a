use Rattle.std.proofs.Common.{[], subst, sym}
use Rattle.http_model.specs.Message.{BehindInterim}
use Rattle.head_scan.specs.Scans.{ScansResponse}
use Rattle.fetch_link.specs.Fetching.{HasNoHead}
use Rattle.fetch_link.proofs.Decoding.{BehindInterim-nil, HasNoHead-nil}
use Rattle.fetch_link.proofs.response.Fetch.start.Goals as goal

pub returns : goal.returns
returns c =
    let none = sym c.no_head.ensures.bytes in record {
      behind = subst (BehindInterim []) none BehindInterim-nil;
      none = subst HasNoHead none HasNoHead-nil;
      scans = subst (ScansResponse c.no_head.result.scan) none c.no_head.ensures.scan;
    }
