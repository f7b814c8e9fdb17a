use Rattle.std.proofs.Common.{◌≡◌, ◌∙◌, sym, ap, ◌++◌, ◌∷◌, [], arith}
use Rattle.std.proofs.lemmas.Result.{err_from_is_err_and}
use Rattle.gql_documents.specs.Parsing.{onto, many}
use Rattle.gql_documents.specs.Selections as spec
use Rattle.gql_documents.proofs.SelectionLaws.{eats_selection}
use Rattle.gql_documents.proofs.Turns.{onto_one, onto_none, turn_bad}
use Rattle.gql_documents.proofs.selections.+sets.Goals as goal

pub more_selections-returns-in_err-next-clause-reads : goal.more_selections-returns-in_err-next-clause-reads
more_selections-returns-in_err-next-clause-reads t c =
    let p = err_from_is_err_and c.from_residual.result c.from_residual.ensures.1 in
    rw (p.1, p.2) (turn_bad spec.selection_start (spec.selection spec.set) c.turn.all c.turn.tokens c.selection.new.tokens _ c.in_err-next.field-0.0 (sym c.at_selection.ensures ∙ c.turn-test.true) c.in_err-next.ensures.reads c.turn.invariant.reads)

pub more_selections-turn-preserved : goal.more_selections-turn-preserved
more_selections-turn-preserved t c = record {
  reads = rw c.in_ok-push.ensures.ok (onto_one spec.selection_start (spec.selection spec.set) eats_selection c.turn.all c.turn.tokens c.in_ok-next.next c.selection.new.tokens (sym c.at_selection.ensures ∙ c.turn-test.true) c.in_ok-next.ensures.reads ∙ c.turn.invariant.reads);
  shorter = omega (arith, c.in_ok-next.ensures.shorter);
}

pub more_selections-returns-clause-reads : goal.more_selections-returns-clause-reads
more_selections-returns-clause-reads t c = sym c.turn.invariant.reads ∙ onto_none spec.selection_start (spec.selection spec.set) c.turn.all c.turn.tokens (sym c.at_selection.ensures ∙ c.turn-test.false)
