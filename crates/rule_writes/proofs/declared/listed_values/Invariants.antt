use Rattle.std.proofs.Common.{◌≡◌, take}
use Rattle.std.specs.List.{filter_map}
use Rattle.rule_effects.specs.Effects.{listed_value}
use Rattle.rule_writes.specs.Views.{pairs_of}
use Rattle.rule_writes.proofs.declared.listed_values.Given as goal

abbrev pub invariant-fields : goal.invariant-fields
invariant-fields l = pairs_of l.members.items ≡ filter_map (listed_value l.arguments) (take l.listed-index l.listed-items)
