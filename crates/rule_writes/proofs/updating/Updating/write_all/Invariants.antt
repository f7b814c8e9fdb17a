use Rattle.std.proofs.Common.{◌≡◌, ◌++◌, take}
use Rattle.std.specs.List.{filter_map}
use Rattle.rule_effects.specs.Effects.{write_if_on}
use Rattle.rule_writes.specs.Views.{running_of}
use Rattle.rule_writes.proofs.updating.Updating.write_all.Given as goal

abbrev pub invariant-updaters : goal.invariant-updaters
invariant-updaters l = l.out ≡ l.fn.out ++ filter_map (write_if_on (running_of l.self) l.root l.field) (take l.updater-index l.updaters)
