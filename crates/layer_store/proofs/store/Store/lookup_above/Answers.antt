use Rattle.std.proofs.Common.{◌∙◌, arith}
use Rattle.layer_store.specs.Bases.{base_at}
use Rattle.layer_store.proofs.StoreLaws.{any_above}
use Rattle.layer_store.proofs.store.Store.lookup_above.Goals as goal

pub returns : goal.returns
returns c h s =
    let store = c.args.self.now in
    c.says_from.ensures ∙ any_above (base_at store.base) store.base_len store.layers.items h c.args.ticket c.args.entity.now c.args.field.now s (omega (arith, c.requires.above))
