use Rattle.std.proofs.Common.{◌≡◌, [], drop}
use Rattle.rule_effects.specs.Effects.{values_onto}
use Rattle.rule_writes.specs.Views.{pairs_of, scope_of}
use Rattle.rule_writes.proofs.scope.Scope.values.Given as goal

abbrev pub invariant-terms : goal.invariant-terms
invariant-terms l =
    values_onto (scope_of l.self) [] l.named-items ≡ values_onto (scope_of l.self) (pairs_of l.values.items) (drop l.named-index l.named-items)
