use Rattle.std.proofs.Common.{◌-◌, false, arith}
use Rattle.cache_model.specs.History.{Content}
use Rattle.layer_store.specs.Bases.{base_at}
use Rattle.layer_store.proofs.StoreLaws.{stands_set, keeps_effect}
use Rattle.layer_store.proofs.store.Store.fill.Goals as goal

pub index_mut-requires : goal.index_mut-requires
index_mut-requires c = omega (arith, c.requires.unfinished.kept.above, c.requires.unfinished.kept.drawn)

pub returns-clause-ok : goal.returns-clause-ok
returns-clause-ok c h s =
    let store = c.args.self.now in
    let content : Content = record { kind = c.args.kind; finished = false; writes = c.args.writes } in
    stands_set (base_at store.base) store.base_len store.layers.items h (c.args.ticket - store.base_len - 1) (c.args.ticket - 1) c.in_ok-layer.layer content s
    (keeps_effect c.in_ok-layer.layer content c.in_ok-layer.ensures.kind c.in_ok-layer.ensures.mark c.in_ok-layer.ensures.said) (λ e. absurd cc) (omega (arith, c.requires.unfinished.kept.above))
