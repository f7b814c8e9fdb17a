use Rattle.schema_order.proofs.TextLaws.{texts_are_free}
use Rattle.schema_order.proofs.texts_are_free.Goals as goal

pub returns : goal.returns
returns c = texts_are_free c.walks_are_decided.ensures
