use Rattle.std.proofs.Common.{◌≡◌, ℕ, sym, ap, ◌∙◌, nat_eq, subst}
use Rattle.std.specs.FinMap as map
use Rattle.std.specs.List.{list_any}
use Rattle.std.specs.List.Sorted.{IsStrictlyIncreasing}
use Rattle.std.proofs.lemmas.Map.Keys.{IsStrictlyIncreasing-from_sorted}
use Rattle.std.proofs.lemmas.Result.{IfOk-weaker}
use Rattle.dependents.specs.Waking.{wakes}
use Rattle.dependents.proofs.WakingLaws.{listed_is, woken_is}
use Rattle.dependents.proofs.index.Index.woken.Goals as goal

pub returns-clause-ascending : goal.returns-clause-ascending
returns-clause-ascending c =
    IfOk-weaker c.listed.result (λ list. list ≡ c.in_ok-woken_by.field-0.keys) (λ list. IsStrictlyIncreasing list)
    (λ list same. subst (λ l. IsStrictlyIncreasing l) (sym same) (IsStrictlyIncreasing-from_sorted c.in_ok-woken_by.field-0.keys c.listed.ensures.ordered))
    c.listed.ensures.keys

pub returns-clause-exact : goal.returns-clause-exact
returns-clause-exact c =
    IfOk-weaker c.listed.result (λ list. list ≡ c.in_ok-woken_by.field-0.keys) (λ list. (sub : ℕ) → list_any (nat_eq sub) list ≡ wakes c.args.writes.now (map.get c.args.self.now sub))
    (λ list same sub.
    listed_is list c.in_ok-woken_by.field-0.keys sub same
    ∙ c.in_ok-woken_by.ensures sub
    ∙ woken_is c.self.inside.places c.self.inside.readings c.self.invariant c.args.writes.now sub
    ∙ ap (λ m. wakes c.args.writes.now (map.get m sub)) c.self.view_is)
    c.listed.ensures.keys
