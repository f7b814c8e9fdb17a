use Rattle.std.proofs.Common.{◌+◌, drop, ap, ◌∙◌, ◌++◌, sym}
use Rattle.std.specs.Prelude.{Bool}
use Rattle.gql_printing.specs.Documents.{definition_tokens, definitions_tokens}
use Rattle.gql_printing.proofs.Writing.{drop_turn, turn}
use Rattle.gql_printing.proofs.documents.print_definitions.Goals as goal

pub definitions-preserved : goal.definitions-preserved
definitions-preserved c =
    let items = c.args.definitions.now in
    let i = c.definitions.definition-index in
    let item = c.definition-item.result in
    let short = c.definitions.short in
    turn _ c.definitions.printer _ (definition_tokens short item) (definitions_tokens c.lets_short_form_follow-short.result (drop (i + 1) items)) _
    (ap (definitions_tokens short) (drop_turn items i item c.definitions-test.true c.definition-item.is)
    ∙ ap (λ (next : Bool). definition_tokens short item ++ definitions_tokens next (drop (i + 1) items)) (sym c.lets_short_form_follow-short.ensures))
    c.definitions.invariant c.in_ok-print_definition.ensures
