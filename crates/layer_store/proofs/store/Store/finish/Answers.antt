use Rattle.std.proofs.Common.{◌≡◌, ◌-◌, ◌<◌, ◌+◌, ◌∙◌, ap, sym, length, false, arith}
use Rattle.cache_model.specs.History.{content_of, with_mark, is_optimistic}
use Rattle.layer_store.specs.declared.layer.Layer.{Layer}
use Rattle.layer_store.specs.Bases.{base_at}
use Rattle.layer_store.proofs.ListLaws.{at_place}
use Rattle.layer_store.proofs.StoreLaws.{stands_set, keeps_ticket, keeps_mark}
use Rattle.layer_store.proofs.store.Store.finish.Goals as goal

pub index_mut-requires : goal.index_mut-requires
index_mut-requires c = omega (arith, c.requires.still_open.kept.above, c.requires.still_open.kept.drawn)

pub returns-clause-stands : goal.returns-clause-stands
returns-clause-stands c h s =
    let store = c.args.self.now in
    let base = base_at store.base in
    let kept = c.requires.still_open.kept in
    let at = c.args.ticket - store.base_len - 1 in
    let within : at < length store.layers.items = omega (arith, kept.above, kept.drawn) in
    let place : c.args.ticket - 1 ≡ store.base_len + at = omega (arith, kept.above) in
    let layer = c.index_mut.result.now in
    let here = keeps_ticket base store.base_len store.layers.items h at c.args.ticket layer s within place c.index_mut.ensures.value in
    let settled = ap (λ (l : Layer). is_optimistic l.kind) c.index_mut.ensures.value ∙ at_place (λ (l : Layer). is_optimistic l.kind ≡ false) store.layers.items at layer within c.requires.kind in
    stands_set base store.base_len store.layers.items h at (c.args.ticket - 1) _ (with_mark (content_of h c.args.ticket)) s
    (keeps_mark layer (content_of h c.args.ticket) here)
    (λ e. ap is_optimistic (sym here.kind) ∙ settled) place
