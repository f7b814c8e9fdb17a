use Rattle.std.proofs.Common.{ap, ◌∙◌}
use Rattle.std.specs.Prelude.{Option}
use Rattle.std.specs.Option.{option_and_then}
use Rattle.gql_model.specs.declared.document.Definition.{Definition}
use Rattle.check_model.specs.Executables.{is_operation_of}
use Rattle.fragment_rules.specs.Choices.{as_operation}
use Rattle.fragment_rules.proofs.ChoiceLaws.{found_operation}
use Rattle.fragment_rules.proofs.operations.named.Goals as goal

pub returns-in-Some : goal.returns-in-Some
returns-in-Some c =
    c.as_operation.ensures
    ∙ ap (λ (o : Option Definition). option_and_then as_operation o) c.in-Some.ensures
    ∙ found_operation (is_operation_of c.args.name.now) c.args.definitions.now

pub returns-in-None : goal.returns-in-None
returns-in-None c =
    ap (λ (o : Option Definition). option_and_then as_operation o) c.in-None.ensures
    ∙ found_operation (is_operation_of c.args.name.now) c.args.definitions.now
