use Rattle.std.proofs.Common.{sym, subst}
use Rattle.http_model.specs.Message.{BehindInterim}
use Rattle.fetch_link.proofs.Decoding.{BehindInterim-more}
use Rattle.fetch_link.proofs.fetch.behind_interim.Goals as goal

pub heads-preserved : goal.heads-preserved
heads-preserved c seen behind =
    subst (BehindInterim seen) (sym c.split_at.ensures.back) (BehindInterim-more seen c.heads.rest.now c.in-Some.len c.in-Some.ensures.interim (c.heads.invariant seen behind))
