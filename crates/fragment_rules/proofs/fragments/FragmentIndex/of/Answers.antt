use Rattle.std.proofs.Common.{◌≤◌, List, length, sym, subst, arith}
use Rattle.std.proofs.lemmas.List.{length-take-le}
use Rattle.gql_model.specs.declared.document.Definition.{Definition}
use Rattle.check_model.proofs.ListLaws.{next_taken}
use Rattle.fragment_rules.specs.Indexes.{Indexes}
use Rattle.fragment_rules.proofs.fragments.FragmentIndex.of.Goals as goal

pub definitions-preserved : goal.definitions-preserved
definitions-preserved c =
    let within : c.definitions.place ≤ length c.as_slice-definition-items.result.now = omega arith in
    subst (λ (ds : List Definition). Indexes c.in_ok-index.index ds)
    (sym (next_taken c.as_slice-definition-items.result.now c.definitions.place c.definition-item.result (omega arith) c.definition-item.is))
    (c.in_ok-index.ensures _ c.definitions.invariant (sym (length-take-le c.definitions.place c.as_slice-definition-items.result.now within)))
