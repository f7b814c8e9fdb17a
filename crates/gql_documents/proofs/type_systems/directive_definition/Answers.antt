use Rattle.std.proofs.Common.{◌≡◌, ◌∙◌}
use Rattle.std.proofs.lemmas.Result.{err_from_is_err_and}
use Rattle.gql_documents.specs.Parsing.{Done}
use Rattle.gql_documents.proofs.TypeSystemLaws.{directive_read, directive_bad}
use Rattle.gql_documents.proofs.type_systems.directive_definition.Goals as goal

pub returns-in_err-locations-clause-reads : goal.returns-in_err-locations-clause-reads
returns-in_err-locations-clause-reads c =
    let p = err_from_is_err_and c.from_residual-in_err-locations.result c.from_residual-in_err-locations.ensures.1 in
    rw (p.1, p.2) (directive_bad c.args.tokens.now c.word.new.self c.mark.new.self c.name.new.self c.inputs_if_any.new.tokens c.has_word-repeatable.new.self c.locations.new.tokens c.in_ok-name.name c.in_ok-arguments.arguments c.has_word-repeatable.result c.in_err-locations.field-0.0
    c.in_ok-word.ensures.reads c.in_ok-mark.ensures.reads c.in_ok-name.ensures.reads c.in_ok-arguments.ensures.reads c.has_word-repeatable.ensures.reads c.in_err-locations.ensures.reads)

pub returns-clause-reads : goal.returns-clause-reads
returns-clause-reads c =
    directive_read c.args.tokens.now c.word.new.self c.mark.new.self c.name.new.self c.inputs_if_any.new.tokens c.has_word-repeatable.new.self c.in_ok-name.name c.in_ok-arguments.arguments c.has_word-repeatable.result (Done c.in_ok-locations.locations c.locations.new.tokens)
    c.in_ok-word.ensures.reads c.in_ok-mark.ensures.reads c.in_ok-name.ensures.reads c.in_ok-arguments.ensures.reads c.has_word-repeatable.ensures.reads c.in_ok-locations.ensures.reads
