use Rattle.std.proofs.Common.{ap, ◌∙◌, nat_cmp}
use Rattle.std.specs.BTreeMap as tree
use Rattle.dependents.specs.Places.{next_turn}
use Rattle.dependents.proofs.ReadingLaws.{undone_some}
use Rattle.dependents.proofs.index.Index.put.Goals as goal

pub invariant_of-self-in-Err : goal.invariant_of-self-in-Err
invariant_of-self-in-Err c = λ place.
    c.remove_places.ensures place
    ∙ undone_some c.args.sub c.next_turn-turn.result c.in_ok-cells.cells (tree.get nat_cmp c.self.inside.readings place.sub) place _
    (λ same. c.next_turn-turn.ensures ∙ ap (λ s. next_turn (tree.get nat_cmp c.self.inside.readings s)) same)
    (λ none. c.in-Err.ensures.others place none ∙ c.self.invariant place)
