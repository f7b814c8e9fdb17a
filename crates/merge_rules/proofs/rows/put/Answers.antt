use Rattle.std.proofs.Common.{◌≡◌, ℕ, List, [], ◌∷◌, ◌++◌, length, sym, subst, arith, rules}
use Rattle.merge_rules.specs.declared.rows.Row.{Row}
use Rattle.merge_rules.specs.Rows.{field_of_row, Put}
use Rattle.merge_rules.proofs.RowLaws.{pushed}
use Rattle.merge_rules.proofs.rows.put.Goals as goal

pub returns-clause-field : goal.returns-clause-field
returns-clause-field c = λ s fs stands.
    let place_is : c.len-place.result ≡ length c.args.rows.now.items =
    first_of (omega (arith, c.len-place.ensures), search rules, omega (arith, c.len-place.ensures, c.args.rows.now.ok.0)) in
    subst (λ (rs : List Row). Put s rs fs (field_of_row s fs c.args.row) c.len-place.result) (sym c.in_ok-push.ensures.items)
    (subst (λ (n : ℕ). Put s (c.args.rows.now.items ++ c.args.row ∷ []) fs (field_of_row s fs c.args.row) n) (sym place_is)
    (pushed s c.args.rows.now.items fs c.args.row stands c.requires))
