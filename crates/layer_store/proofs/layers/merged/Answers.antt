use Rattle.std.proofs.Common.{◌-◌, ◌∙◌, arith}
use Rattle.layer_store.proofs.LayerLaws.{merge_turn}
use Rattle.layer_store.proofs.layers.merged.Goals as goal

pub turn-preserved : goal.turn-preserved
turn-preserved c = record {
  within = omega arith;
  said = λ e f. merge_turn c.args.layers.now.items c.turn.at c.index.result.now e f _ _ (omega arith) (omega arith) c.index.ensures (c.in_ok-put_changes.ensures e f) ∙ c.turn.invariant.said e f;
}
