use Rattle.std.proofs.Common.{arith}
use Rattle.rule_effects.specs.Effects.{write_if_on}
use Rattle.rule_writes.specs.Views.{running_of}
use Rattle.rule_writes.proofs.ListLaws.{given_behind}
use Rattle.rule_writes.proofs.updating.Updating.write_all.Goals as goal

pub updaters-preserved : goal.updaters-preserved
updaters-preserved c =
    given_behind (write_if_on (running_of c.args.self.now) c.args.root.now c.args.field.now) c.args.updaters.now c.updaters.updater-index c.updater-item.result
    c.args.out c.updaters.out _ _ (omega arith) c.updater-item.is c.updaters.invariant c.in_ok-write.ensures c.in_ok-out.ensures
