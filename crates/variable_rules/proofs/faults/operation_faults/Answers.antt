use Rattle.std.proofs.Common.{ap, ◌∙◌, refl, List}
use Rattle.std.specs.Prelude.{not}
use Rattle.std.specs.List.{list_any}
use Rattle.std.specs.FinSet as set
use Rattle.gql_model.specs.declared.executable.VariableDefinition.{VariableDefinition}
use Rattle.variable_rules.proofs.UseLaws.{told}
use Rattle.variable_rules.proofs.faults.operation_faults.Goals as goal

pub returns : goal.returns
returns c =
    told c.args.scope.now.schema.now c.args.scope.now.document.now c.args.operation.now c.args.definition.now c.args.place _ _
    c.in_ok-uses.ensures c.requires.operation c.in_ok-follow.ensures
    c.some_unused.result
    (c.some_unused.ensures
    ∙ ap (λ (vs : List VariableDefinition). list_any (λ v. not (set.contains c.follow.new.uses.used v.name.text)) vs) c.as_slice.ensures)
    _ refl
