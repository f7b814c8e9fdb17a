use Rattle.std.proofs.Common.{map, take}
use Rattle.gql_model.specs.declared.executable.VariableDefinition.{VariableDefinition}
use Rattle.variable_rules.specs.Indexes.{IsIndex}
use Rattle.variable_rules.proofs.declared.places.Given as goal

abbrev pub invariant-variables : goal.invariant-variables
invariant-variables l = IsIndex l.places (map (λ (v : VariableDefinition). v.name.text) (take l.place l.variables))
