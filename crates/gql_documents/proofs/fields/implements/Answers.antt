use Rattle.std.proofs.Common.{◌≡◌, ◌∙◌}
use Rattle.std.specs.Prelude.{codes}
use Rattle.std.proofs.lemmas.Result.{err_from_is_err_and}
use Rattle.gql_tokens.specs.declared.token.Kind.TheVariants as kind
use Rattle.gql_model.specs.Sorts.{word}
use Rattle.gql_documents.specs.TypeSystems as spec
use Rattle.gql_documents.proofs.Turns.{reads_stopped, reads_behind}
use Rattle.gql_documents.proofs.fields.implements.Goals as goal

pub returns-in_err-word-clause-reads : goal.returns-in_err-word-clause-reads
unfolding spec.implements
returns-in_err-word-clause-reads c =
    let p = err_from_is_err_and c.from_residual.result c.from_residual.ensures.1 in
    rw (p.1, p.2) (reads_stopped (word (codes "implements")) (spec.listed_by kind.Ampersand) c.args.tokens.now c.word.new.self c.in_err-word.field-0.0 c.in_err-word.ensures.reads)

pub returns-clause-reads : goal.returns-clause-reads
unfolding spec.implements
returns-clause-reads c = reads_behind (word (codes "implements")) (spec.listed_by kind.Ampersand) c.args.tokens.now c.word.new.self c.listed_by.result c.listed_by.new.tokens c.in_ok-word.ensures.reads c.listed_by.ensures.reads
