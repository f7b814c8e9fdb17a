use Rattle.std.proofs.Common.{◌∙◌}
use Rattle.layer_store.specs.Bases.{base_at}
use Rattle.layer_store.proofs.StoreLaws.{any_guess}
use Rattle.layer_store.proofs.store.Store.touched.Goals as goal

pub returns : goal.returns
returns c h s =
    let store = c.args.self.now in
    c.any_guesses.ensures ∙ any_guess (base_at store.base) store.base_len store.layers.items h c.args.entity.now c.args.field.now s
