use Rattle.schema_order.proofs.OrderLaws.{order_is_free}
use Rattle.schema_order.proofs.order_is_free.Goals as goal

pub returns : goal.returns
returns c = order_is_free
