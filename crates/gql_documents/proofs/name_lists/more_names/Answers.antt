use Rattle.std.proofs.Common.{◌≡◌, ◌∙◌, sym, ap, ◌++◌, ◌∷◌, [], arith}
use Rattle.std.proofs.lemmas.Result.{err_from_is_err_and}
use Rattle.gql_documents.specs.Parsing.{onto, many}
use Rattle.gql_documents.specs.TypeSystems as spec
use Rattle.gql_model.specs.Sorts.{mark}
use Rattle.gql_documents.proofs.TypeSystemLaws.{eats_name_behind}
use Rattle.gql_documents.proofs.Turns.{onto_one, onto_none, turn_bad}
use Rattle.gql_documents.proofs.name_lists.more_names.Goals as goal

pub returns-in_err-next-clause-reads : goal.returns-in_err-next-clause-reads
returns-in_err-next-clause-reads c =
    let p = err_from_is_err_and c.from_residual.result c.from_residual.ensures.1 in
    rw (p.1, p.2) (turn_bad (mark c.args.kind) (spec.name_behind c.args.kind) c.turn.all c.turn.tokens c.name_behind.new.tokens _ c.in_err-next.field-0.0 (sym c.at.ensures ∙ c.turn-test.true) c.in_err-next.ensures.reads c.turn.invariant.reads)

pub turn-preserved : goal.turn-preserved
turn-preserved c = record {
  reads = rw c.in_ok-push.ensures.ok (onto_one (mark c.args.kind) (spec.name_behind c.args.kind) (eats_name_behind c.args.kind c.requires) c.turn.all c.turn.tokens c.in_ok-next.next c.name_behind.new.tokens (sym c.at.ensures ∙ c.turn-test.true) c.in_ok-next.ensures.reads ∙ c.turn.invariant.reads);
  shorter = omega (arith, c.in_ok-next.ensures.shorter);
}

pub returns-clause-reads : goal.returns-clause-reads
returns-clause-reads c = sym c.turn.invariant.reads ∙ onto_none (mark c.args.kind) (spec.name_behind c.args.kind) c.turn.all c.turn.tokens (sym c.at.ensures ∙ c.turn-test.false)
