-- A walk that follows spreads goes down: each spread takes one from what is left, and sets are no deeper than the weight.
use Rattle.std.proofs.Common.{◌≡◌, ℕ, ◌+◌, ◌*◌, ◌-◌, ◌<◌, ◌≤◌, max, List, [], ◌∷◌, subst, arith, Bool, true, false, cond, bytes_eq}
use Rattle.std.specs.Prelude.{Some}
use Rattle.std.specs.List.{find}
use Rattle.std.specs.Option.{option_and_then}
use Rattle.gql_model.specs.declared.executable.Fragment.{Fragment}
use Rattle.gql_model.specs.declared.document.Definition.{Definition}
use Rattle.gql_model.specs.declared.document.Definition.TheVariants as definition
use Rattle.gql_model.specs.declared.selection.SelectionSet.{size-SelectionSet}
use Rattle.check_model.specs.Executables.{defines, as_fragment}
use Rattle.merge_rules.specs.Weights.{greatest}

found_case : (name : List ℕ) (g f : Fragment) (ds : List Definition) (b : Bool)
    → option_and_then as_fragment (cond b (Some (definition.Fragment g)) (find (defines name) ds)) ≡ Some f
    → (option_and_then as_fragment (find (defines name) ds) ≡ Some f → size-SelectionSet f.selection_set ≤ greatest ds)
    → size-SelectionSet f.selection_set ≤ max (size-SelectionSet g.selection_set) (greatest ds)
found_case name g f ds true is later =
    let same : g ≡ f = cc in
    let size : size-SelectionSet g.selection_set ≡ size-SelectionSet f.selection_set = cc in
    omega arith
found_case name g f ds false is later =
    let h : size-SelectionSet f.selection_set ≤ greatest ds = later is in
    omega arith

-- no set of a fragment is deeper than the greatest
pub is_light : (name : List ℕ) (ds : List Definition) (f : Fragment) → option_and_then as_fragment (find (defines name) ds) ≡ Some f
    → size-SelectionSet f.selection_set ≤ greatest ds
unfolding greatest
is_light name [] f is = absurd (cc)
is_light name (definition.Operation o ∷ ds) f is =
    let h : size-SelectionSet f.selection_set ≤ greatest ds = is_light name ds f is in
    omega arith
is_light name (definition.Fragment g ∷ ds) f is = found_case name g f ds (bytes_eq name g.name.text) is (is_light name ds f)
is_light name (definition.TypeSystem t ∷ ds) f is =
    let h : size-SelectionSet f.selection_set ≤ greatest ds = is_light name ds f is in
    omega arith

falls_at : (k depth heaviest : ℕ) → depth ≤ heaviest → k * (heaviest + 2) + (depth + 1) < (k + 1) * (heaviest + 2)
falls_at k depth heaviest light = omega arith

pub falls : (fuel depth heaviest : ℕ) → 0 < fuel → depth ≤ heaviest → (fuel - 1) * (heaviest + 2) + (depth + 1) < fuel * (heaviest + 2)
falls fuel depth heaviest some light =
    let e : fuel - 1 + 1 ≡ fuel = omega arith in
    subst (λ (n : ℕ). (fuel - 1) * (heaviest + 2) + (depth + 1) < n * (heaviest + 2)) e (falls_at (fuel - 1) depth heaviest light)
