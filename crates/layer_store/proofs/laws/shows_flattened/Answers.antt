use Rattle.std.proofs.Common.{sym}
use Rattle.layer_store.specs.Bases.{base_at}
use Rattle.layer_store.proofs.StoreLaws.{flattened_at}
use Rattle.layer_store.proofs.laws.shows_flattened.Goals as goal

pub returns : goal.returns
returns c store h s e f = sym (flattened_at (base_at store.base) store.base_len store.layers.items h e f s)
