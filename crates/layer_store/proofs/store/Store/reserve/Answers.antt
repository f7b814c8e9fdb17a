use Rattle.cache_model.specs.History.{no_content}
use Rattle.layer_store.specs.Bases.{base_at}
use Rattle.layer_store.proofs.StoreLaws.{stands_push, keeps_effect}
use Rattle.layer_store.proofs.store.Store.reserve.Goals as goal

pub returns-clause-ok : goal.returns-clause-ok
returns-clause-ok c h s =
    let store = c.args.self.now in
    let layer = c.empty.result in
    rw c.in-Ok.ensures.items
    (stands_push (base_at store.base) store.base_len store.layers.items h layer no_content s (keeps_effect layer no_content c.empty.ensures.kind c.empty.ensures.mark c.empty.ensures.nothing) (λ e. absurd cc))
