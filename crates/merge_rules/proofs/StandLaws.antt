-- Rows that stand for fields which no other field tells apart.
use Rattle.std.proofs.Common.{◌≡◌, ℕ, List, [], ◌∷◌, ◌++◌, refl, ap, sym, subst, ◌∙◌, true}
use Rattle.std.specs.Prelude.{Some, slice_get}
use Rattle.schema_model.specs.declared.schema.Schema.{Schema}
use Rattle.check_model.specs.FieldTypes.{selected_type}
use Rattle.check_model.specs.Fields.{Placed, PlacedFields}
use Rattle.check_model.specs.SameValues.{same_arguments}
use Rattle.merge_rules.specs.declared.rows.Row.{Row}
use Rattle.merge_rules.specs.Rows.{above_path, above_parents, field_of_row, Stands}
use Rattle.merge_rules.specs.Kept.{IsAlike}
use Rattle.merge_rules.proofs.PathLaws.{path_of, parents_of}

-- one key and one type below what stands alike
pub rows_stand : (s : Schema) (rows : List Row) (fields : PlacedFields) (i j : ℕ) (x y : Row) → Stands s rows fields → slice_get rows i ≡ Some x → slice_get rows j ≡ Some y
    → x.key.now ≡ y.key.now → x.parent ≡ y.parent
    → (above_path fields x.above ≡ above_path fields y.above) × (above_parents fields x.above ≡ above_parents fields y.above)
    → (above_path fields (Some i) ≡ above_path fields (Some j)) × (above_parents fields (Some i) ≡ above_parents fields (Some j))
rows_stand s rows fields i j x y stands x_is y_is keys parents above = (
  path_of s rows fields i x stands x_is
      ∙ (λ k. above.0 k ++ keys k ∷ [])
      ∙ sym (path_of s rows fields j y stands y_is),
  parents_of s rows fields i x stands x_is
      ∙ (λ k. above.1 k ++ parents k ∷ [])
      ∙ sym (parents_of s rows fields j y stands y_is),
)

abbrev last_or : {X : Type 0} → X → List X → X
last_or x [] = x
last_or x (y ∷ ys) = last_or y ys

last_is : {X : Type 0} (x y : X) (xs : List X) → last_or x (xs ++ y ∷ []) ≡ y
last_is x y [] = refl
last_is x y (z ∷ xs) = last_is z y xs

same_last_of : {X : Type 0} (x y : X) (xs ys : List X) → xs ++ x ∷ [] ≡ ys ++ y ∷ [] → x ≡ y
same_last_of x y xs ys same = sym (last_is x x xs) ∙ ap (last_or x) same ∙ last_is x y ys

pub rows_alike : (s : Schema) (rows : List Row) (fields : PlacedFields) (i j : ℕ) (p q : Row) (x y : Placed) → Stands s rows fields
    → slice_get rows i ≡ Some p → slice_get rows j ≡ Some q → slice_get fields i ≡ Some x → slice_get fields j ≡ Some y
    → p.name.now ≡ q.name.now → same_arguments p.arguments.now q.arguments.now ≡ true → same_arguments q.arguments.now p.arguments.now ≡ true
    → (above_path fields (Some i) ≡ above_path fields (Some j)) × (above_parents fields (Some i) ≡ above_parents fields (Some j))
    → IsAlike x y
rows_alike s rows fields i j p q x y stands p_is q_is x_is y_is names there back above =
    let xp : Some x ≡ Some (field_of_row s fields p) = sym x_is ∙ stands.field i p p_is in
    let yq : Some y ≡ Some (field_of_row s fields q) = sym y_is ∙ stands.field j q q_is in
    let x_of : field_of_row s fields p ≡ x = cc in
    let y_of : field_of_row s fields q ≡ y = cc in
    let parents : above_parents fields p.above ++ p.parent ∷ [] ≡ above_parents fields q.above ++ q.parent ∷ [] =
    sym (parents_of s rows fields i p stands p_is) ∙ above.1 ∙ parents_of s rows fields j q stands q_is in
    let parent : p.parent ≡ q.parent = same_last_of p.parent q.parent (above_parents fields p.above) (above_parents fields q.above) parents in
    let alike : IsAlike (field_of_row s fields p) (field_of_row s fields q) = record {
      path = sym (path_of s rows fields i p stands p_is) ∙ above.0 ∙ path_of s rows fields j q stands q_is;
      parents = parents;
      name = names;
      type = λ k. selected_type s (parent k) (names k);
      there = there;
      back = back;
    } in
    subst (λ (f : Placed). IsAlike f y) x_of (subst (λ (g : Placed). IsAlike (field_of_row s fields p) g) y_of alike)
