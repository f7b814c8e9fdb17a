use Rattle.layer_store.specs.Bases.{base_at}
use Rattle.layer_store.proofs.StoreLaws.{tickets}
use Rattle.layer_store.proofs.laws.counts_tickets.Goals as goal

pub returns : goal.returns
returns c store h s = tickets (base_at store.base) store.base_len store.layers.items h s
