use Rattle.schema_order.proofs.VerdictLaws.{verdict_is_free}
use Rattle.schema_order.proofs.verdict_is_free.Goals as goal

pub returns : goal.returns
returns c = verdict_is_free c.walks_are_decided.ensures
