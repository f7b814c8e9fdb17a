use Rattle.std.proofs.Common.{◌∙◌, sym}
use Rattle.layer_store.specs.Bases.{base_at}
use Rattle.layer_store.proofs.StoreLaws.{flattened_at}
use Rattle.layer_store.proofs.store.StoreLookup.lookup.Goals as goal

pub returns-clause-flattened : goal.returns-clause-flattened
returns-clause-flattened g c h s =
    let store = c.args.self.now in
    c.find.ensures ∙ sym (flattened_at (base_at store.base) store.base_len store.layers.items h c.args.entity.now c.args.field.now s)
