use Rattle.std.proofs.Common.{◌≡◌, ◌∙◌, sym, ap, ◌++◌, ◌∷◌, [], arith}
use Rattle.std.proofs.lemmas.Result.{err_from_is_err_and}
use Rattle.gql_documents.specs.Parsing.{onto, many}
use Rattle.gql_documents.specs.Documents as spec
use Rattle.gql_documents.proofs.DocumentLaws.{eats_definition}
use Rattle.gql_documents.proofs.Turns.{onto_start, onto_one, onto_none, turn_bad}
use Rattle.gql_documents.proofs.documents.definitions.Goals as goal

pub turn-init : goal.turn-init
turn-init c = record { reads = rw c.new-all.ensures (onto_start _); shorter = omega arith }

pub returns-in_err-next-clause-reads : goal.returns-in_err-next-clause-reads
unfolding spec.definitions
returns-in_err-next-clause-reads c =
    let p = err_from_is_err_and c.from_residual.result c.from_residual.ensures.1 in
    rw (p.1, p.2) (turn_bad spec.definition_start (spec.definition) c.turn.all c.turn.tokens c.definition.new.tokens _ c.in_err-next.field-0.0 (sym c.at_definition.ensures ∙ c.turn-test.true) c.in_err-next.ensures.reads c.turn.invariant.reads)

pub turn-preserved : goal.turn-preserved
turn-preserved c = record {
  reads = rw c.in_ok-push.ensures.ok (onto_one spec.definition_start (spec.definition) eats_definition c.turn.all c.turn.tokens c.in_ok-next.next c.definition.new.tokens (sym c.at_definition.ensures ∙ c.turn-test.true) c.in_ok-next.ensures.reads ∙ c.turn.invariant.reads);
  shorter = omega (arith, c.in_ok-next.ensures.shorter);
}

pub returns-clause-reads : goal.returns-clause-reads
unfolding spec.definitions
returns-clause-reads c = sym c.turn.invariant.reads ∙ onto_none spec.definition_start (spec.definition) c.turn.all c.turn.tokens (sym c.at_definition.ensures ∙ c.turn-test.false)
