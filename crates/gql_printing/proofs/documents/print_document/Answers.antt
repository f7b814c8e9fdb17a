use Rattle.std.proofs.Common.{◌∙◌, List, ap}
use Rattle.std.specs.Prelude.{true}
use Rattle.gql_model.specs.declared.document.Definition.{Definition}
use Rattle.gql_printing.specs.Documents.{definitions_tokens, document_tokens}
use Rattle.gql_printing.specs.Progress.{Progress, begun, written}
use Rattle.gql_printing.proofs.Writing.{spaced_written}
use Rattle.gql_printing.proofs.documents.print_document.Goals as goal

pub returns : goal.returns
returns c =
    let all = definitions_tokens true c.as_slice.result.now in
    c.into_text.ensures
    ∙ ap (λ (p : Progress). p.0) (c.in_ok-print_definitions.ensures ∙ ap (λ (p : Progress). written p all) c.new-printer.ensures)
    ∙ ap (λ (d : List Definition). (written begun (definitions_tokens true d)).0) c.as_slice.ensures
    ∙ spaced_written (document_tokens c.args.document.now)
