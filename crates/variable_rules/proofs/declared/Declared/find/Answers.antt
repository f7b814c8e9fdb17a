use Rattle.std.proofs.Common.{sym, ◌∙◌}
use Rattle.std.specs.Prelude.{Some, None}
use Rattle.gql_model.specs.declared.executable.VariableDefinition.{VariableDefinition}
use Rattle.variable_rules.proofs.IndexLaws.{found_by_place}
use Rattle.variable_rules.proofs.declared.Declared.find.Goals as goal

pub returns-in-Some : goal.returns-in-Some
returns-in-Some c =
    c.get-in-Some.ensures.value
    ∙ found_by_place (λ (v : VariableDefinition). v.name.text) c.args.name.now c.args.self.now.operation.now.variables (Some c.in-Some.place)
    (sym c.in-Some.is ∙ c.copied.ensures ∙ c.get.ensures.value ∙ c.args.self.now.is c.args.name.now)

pub returns-in-None : goal.returns-in-None
returns-in-None c =
    found_by_place (λ (v : VariableDefinition). v.name.text) c.args.name.now c.args.self.now.operation.now.variables None
    (sym c.in-None.is ∙ c.copied.ensures ∙ c.get.ensures.value ∙ c.args.self.now.is c.args.name.now)
