use Rattle.std.proofs.Common.{◌≡◌, ◌∙◌, sym, ap, ◌++◌, ◌∷◌, [], arith}
use Rattle.std.proofs.lemmas.Result.{err_from_is_err_and}
use Rattle.gql_documents.specs.Parsing.{onto, many}
use Rattle.gql_documents.specs.TypeSystems as spec
use Rattle.gql_documents.proofs.TypeSystemLaws.{eats_input}
use Rattle.gql_documents.proofs.Turns.{onto_one, onto_none, turn_bad}
use Rattle.gql_documents.proofs.fields.more_inputs.Goals as goal

pub returns-in_err-next-clause-reads : goal.returns-in_err-next-clause-reads
returns-in_err-next-clause-reads c =
    let p = err_from_is_err_and c.from_residual.result c.from_residual.ensures.1 in
    rw (p.1, p.2) (turn_bad spec.described_start (spec.input) c.turn.all c.turn.tokens c.input.new.tokens _ c.in_err-next.field-0.0 (sym c.at_described.ensures ∙ c.turn-test.true) c.in_err-next.ensures.reads c.turn.invariant.reads)

pub turn-preserved : goal.turn-preserved
turn-preserved c = record {
  reads = rw c.in_ok-push.ensures.ok (onto_one spec.described_start (spec.input) eats_input c.turn.all c.turn.tokens c.in_ok-next.next c.input.new.tokens (sym c.at_described.ensures ∙ c.turn-test.true) c.in_ok-next.ensures.reads ∙ c.turn.invariant.reads);
  shorter = omega (arith, c.in_ok-next.ensures.shorter);
}

pub returns-clause-reads : goal.returns-clause-reads
returns-clause-reads c = sym c.turn.invariant.reads ∙ onto_none spec.described_start (spec.input) c.turn.all c.turn.tokens (sym c.at_described.ensures ∙ c.turn-test.false)
