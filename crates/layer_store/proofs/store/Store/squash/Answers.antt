use Rattle.std.proofs.Common.{◌∙◌, ap, ℕ, take, arith, Option, unwrap_or}
use Rattle.std.proofs.lemmas.List.{length-drop}
use Rattle.cache_model.specs.declared.cell.Cell.{Cell}
use Rattle.layer_store.specs.Bases.{base_at}
use Rattle.layer_store.specs.Layers.{found_through}
use Rattle.layer_store.proofs.StoreLaws.{stands_squash, begins_unfinished, count_within}
use Rattle.layer_store.proofs.store.Store.squash.Goals as goal

pub merged-requires : goal.merged-requires
merged-requires c = omega (arith, count_within c.args.self.now.layers.items, c.finished_front-count.ensures)

pub drop_front-requires : goal.drop_front-requires
drop_front-requires c = omega (arith, count_within c.args.self.now.layers.items, c.finished_front-count.ensures)

pub overflow_add-self : goal.overflow_add-self
overflow_add-self c = omega (arith, count_within c.args.self.now.layers.items, c.finished_front-count.ensures, c.args.self.now.small)

pub invariant_of-self-2 : goal.invariant_of-self-2
invariant_of-self-2 c = record {
  small = rw c.drop_front.ensures (omega (arith, length-drop c.finished_front-count.result c.args.self.now.layers.items, count_within c.args.self.now.layers.items, c.finished_front-count.ensures, c.args.self.now.small));
}

pub returns-clause-tickets : goal.returns-clause-tickets
returns-clause-tickets c = rw c.drop_front.ensures (omega (arith, length-drop c.finished_front-count.result c.args.self.now.layers.items, count_within c.args.self.now.layers.items, c.finished_front-count.ensures))

pub returns-clause-ok : goal.returns-clause-ok
returns-clause-ok c h s =
    let store = c.args.self.now in
    let layers = store.layers.items in
    rw (c.drop_front.ensures, c.finished_front-count.ensures)
    (stands_squash (base_at store.base) (base_at c.take_in.new.self) store.base_len layers h s (λ e f.
    c.in_ok-take_in.ensures.ok e f
    ∙ ap (λ (o : Option (Option Cell)). unwrap_or o (base_at store.base e f)) (c.in_ok-changes.ensures e f ∙ ap (λ (k : ℕ). found_through (take k layers) e f) c.finished_front-count.ensures)))

pub returns-clause-front : goal.returns-clause-front
returns-clause-front c h s =
    let store = c.args.self.now in
    rw c.finished_front-count.ensures (begins_unfinished (base_at store.base) store.base_len store.layers.items h s)
