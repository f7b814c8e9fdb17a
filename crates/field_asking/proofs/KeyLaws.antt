-- The response keys of the fields that are asked are those of their groups.
use Rattle.std.proofs.Common.{◌≡◌, List, [], ◌∷◌, map, refl, sym, ap, subst, ◌∙◌, bytes_eq}
use Rattle.std.specs.List.{IsDistinct}
use Rattle.schema_model.specs.declared.schema.TypeId.{TypeId}
use Rattle.execution_model.specs.declared.group.Group.{Group}
use Rattle.execution_model.specs.Asked.{Execution, Asked, asked_of}
use Rattle.gql_collection.specs.Keys.{HasDistinctKeys}
use Rattle.field_asking.specs.declared.field.AskedField.{AskedField}
use Rattle.field_asking.specs.Asking.{HasOwnKeys, asked_field}

keys_of_fields : (fields : List AskedField) → map (λ (a : Asked). a.key) (map asked_field fields) ≡ map (λ f. f.key) fields
keys_of_fields [] = refl
keys_of_fields (field ∷ fields) = ap (λ keys. field.key ∷ keys) (keys_of_fields fields)

keys_of_groups : (execution : Execution) (object : TypeId) (groups : List Group) → map (λ (a : Asked). a.key) (map (asked_of execution object) groups) ≡ map (λ g. g.key) groups
keys_of_groups execution object [] = refl
keys_of_groups execution object (group ∷ groups) = ap (λ keys. group.key ∷ keys) (keys_of_groups execution object groups)

pub own_keys : (execution : Execution) (object : TypeId) (groups : List Group) (fields : List AskedField)
    → map asked_field fields ≡ map (asked_of execution object) groups → HasDistinctKeys groups → HasOwnKeys fields
own_keys execution object groups fields are distinct =
    subst (IsDistinct bytes_eq)
    (sym (keys_of_groups execution object groups) ∙ sym (ap (map (λ (a : Asked). a.key)) are) ∙ keys_of_fields fields)
    distinct
