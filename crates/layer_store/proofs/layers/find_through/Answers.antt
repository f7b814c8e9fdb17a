use Rattle.std.proofs.Common.{◌-◌, ◌∙◌, sym, ap, take, arith}
use Rattle.cache_model.specs.Maps.{or_else}
use Rattle.layer_store.specs.Layers.{found_through, found_by}
use Rattle.layer_store.proofs.LayerLaws.{last_layer, found_last}
use Rattle.layer_store.proofs.layers.find_through.Goals as goal

pub turn-preserved : goal.turn-preserved
turn-preserved c = record {
  within = omega arith;
  rest =
      sym (last_layer c.args.layers.now.items c.turn.at c.index.result.now c.args.entity.now c.args.field.now (omega arith) (omega arith) c.index.ensures
      ∙ ap (λ o. or_else o (found_through (take (c.turn.at - 1) c.args.layers.now.items) c.args.entity.now c.args.field.now)) c.in-Nothing.ensures)
      ∙ c.turn.invariant.rest;
}

pub returns-in_default : goal.returns-in_default
returns-in_default c =
    found_last c.find.result (found_by c.index.result.now.changes c.args.entity.now c.args.field.now) (found_through (take (c.turn.at - 1) c.args.layers.now.items) c.args.entity.now c.args.field.now) _ c.find.ensures c.in_default.not-Nothing
    (sym c.turn.invariant.rest ∙ last_layer c.args.layers.now.items c.turn.at c.index.result.now c.args.entity.now c.args.field.now (omega arith) (omega arith) c.index.ensures)
