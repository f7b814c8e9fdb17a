use Rattle.std.proofs.Common.{◌∙◌}
use Rattle.std.proofs.lemmas.Result.{err_from_is_err_and}
use Rattle.queue_journal.proofs.Fields.{no_operation, no_variables}
use Rattle.queue_journal.proofs.texts.read_texts.Goals as goal

pub returns-in_err-operation-clause-reads : goal.returns-in_err-operation-clause-reads
returns-in_err-operation-clause-reads g c file told long =
    let first = c.in_ok-document.ensures.reads file told long in
    let p = err_from_is_err_and c.from_residual-in_err-operation.result c.from_residual-in_err-operation.ensures.1 in
    rw (p.1, p.2) (no_operation file c.args.at c.in_ok-document.document.end c.in_ok-document.document.text first.0 first.1 c.in_err-operation.field-0.0
    (c.in_err-operation.ensures.reads file (c.read_text.ensures.quiet.file ∙ told) long))

pub returns-in_err-variables-clause-reads : goal.returns-in_err-variables-clause-reads
returns-in_err-variables-clause-reads g c file told long =
    let first = c.in_ok-document.ensures.reads file told long in
    let told' = c.read_text.ensures.quiet.file ∙ told in
    let second = c.in_ok-operation.ensures.reads file told' long in
    let p = err_from_is_err_and c.from_residual-in_err-variables.result c.from_residual-in_err-variables.ensures.1 in
    rw (p.1, p.2) (no_variables file c.args.at c.in_ok-document.document.end c.in_ok-operation.operation.end c.in_ok-document.document.text c.in_ok-operation.operation.text
    first.0 first.1 second.0 second.1 c.in_err-variables.field-0.0
    (c.in_err-variables.ensures.reads file (c.read_text-2.ensures.quiet.file ∙ told') long))
