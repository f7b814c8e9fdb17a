use Rattle.std.proofs.Common.{map, take}
use Rattle.gql_model.specs.declared.executable.VariableDefinition.{VariableDefinition}
use Rattle.schema_defaults.specs.Seen.{Saw}
use Rattle.check_model.specs.Repeated.{at_no_line}
use Rattle.variable_rules.proofs.declarations.names.Given as goal

abbrev pub invariant-variables : goal.invariant-variables
invariant-variables l = Saw l.seen (map at_no_line (map (λ (v : VariableDefinition). v.name.text) (take l.variable-index l.variables)))
