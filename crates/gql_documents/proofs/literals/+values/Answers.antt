use Rattle.std.proofs.Common.{◌≡◌, ◌∙◌, sym, ap, ◌++◌, ◌∷◌, [], arith}
use Rattle.std.proofs.lemmas.Result.{err_from_is_err_and}
use Rattle.gql_documents.specs.Parsing.{onto, many}
use Rattle.gql_documents.specs.Literals as spec
use Rattle.gql_model.specs.Names.{any_name}
use Rattle.gql_documents.proofs.ValueLaws.{eats_value, eats_object_field}
use Rattle.gql_documents.proofs.Turns.{onto_start, onto_one, onto_none, turn_bad}
use Rattle.gql_documents.proofs.literals.+values.Goals as goal

pub values-turn-init : goal.values-turn-init
values-turn-init t c = record { reads = rw c.new-all.ensures (onto_start _); shorter = omega arith }

pub values-returns-in_err-next-clause-reads : goal.values-returns-in_err-next-clause-reads
values-returns-in_err-next-clause-reads t c =
    let p = err_from_is_err_and c.from_residual.result c.from_residual.ensures.1 in
    rw (p.1, p.2) (turn_bad spec.value_start (spec.value c.args.constant) c.turn.all c.turn.tokens c.value.new.tokens _ c.in_err-next.field-0.0 (sym c.at_value.ensures ∙ c.turn-test.true) c.in_err-next.ensures.reads c.turn.invariant.reads)

pub values-turn-preserved : goal.values-turn-preserved
values-turn-preserved t c = record {
  reads = rw c.in_ok-push.ensures.ok (onto_one spec.value_start (spec.value c.args.constant) (eats_value c.args.constant) c.turn.all c.turn.tokens c.in_ok-next.next c.value.new.tokens (sym c.at_value.ensures ∙ c.turn-test.true) c.in_ok-next.ensures.reads ∙ c.turn.invariant.reads);
  shorter = omega (arith, c.in_ok-next.ensures.shorter);
}

pub values-returns-clause-reads : goal.values-returns-clause-reads
values-returns-clause-reads t c = sym c.turn.invariant.reads ∙ onto_none spec.value_start (spec.value c.args.constant) c.turn.all c.turn.tokens (sym c.at_value.ensures ∙ c.turn-test.false)

pub object_fields-turn-init : goal.object_fields-turn-init
object_fields-turn-init t c = record { reads = rw c.new-all.ensures (onto_start _); shorter = omega arith }

pub object_fields-returns-in_err-next-clause-reads : goal.object_fields-returns-in_err-next-clause-reads
object_fields-returns-in_err-next-clause-reads t c =
    let p = err_from_is_err_and c.from_residual.result c.from_residual.ensures.1 in
    rw (p.1, p.2) (turn_bad any_name (spec.object_field (spec.value c.args.constant)) c.turn.all c.turn.tokens c.object_field.new.tokens _ c.in_err-next.field-0.0 (sym c.at.ensures ∙ c.turn-test.true) c.in_err-next.ensures.reads c.turn.invariant.reads)

pub object_fields-turn-preserved : goal.object_fields-turn-preserved
object_fields-turn-preserved t c = record {
  reads = rw c.in_ok-push.ensures.ok (onto_one any_name (spec.object_field (spec.value c.args.constant)) (eats_object_field c.args.constant) c.turn.all c.turn.tokens c.in_ok-next.next c.object_field.new.tokens (sym c.at.ensures ∙ c.turn-test.true) c.in_ok-next.ensures.reads ∙ c.turn.invariant.reads);
  shorter = omega (arith, c.in_ok-next.ensures.shorter);
}

pub object_fields-returns-clause-reads : goal.object_fields-returns-clause-reads
object_fields-returns-clause-reads t c = sym c.turn.invariant.reads ∙ onto_none any_name (spec.object_field (spec.value c.args.constant)) c.turn.all c.turn.tokens (sym c.at.ensures ∙ c.turn-test.false)
