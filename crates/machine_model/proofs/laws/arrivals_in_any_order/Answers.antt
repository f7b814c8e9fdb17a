use Rattle.machine_model.proofs.MapLaws.{arrivals_in_any_order, arrivals_in_any_order_flattened}
use Rattle.machine_model.proofs.laws.arrivals_in_any_order.Goals as goal

pub returns-clause-history : goal.returns-clause-history
returns-clause-history c = arrivals_in_any_order

pub returns-clause-map : goal.returns-clause-map
returns-clause-map c = arrivals_in_any_order_flattened
