use Rattle.schema_order.proofs.BareVerdict.{places_are_free}
use Rattle.schema_order.proofs.places_are_free.Goals as goal

pub returns : goal.returns
returns c = places_are_free c.walks_are_decided.ensures
