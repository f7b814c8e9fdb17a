-- Equal keys of fields come from equal parts, where the fields' names are names of the language.
use Rattle.std.specs.Prelude.{◌≡◌, ℕ, true, List, [], ◌∷◌}
use Rattle.gql_value.specs.declared.value.Value.{Value}
use Rattle.gql_value.specs.declared.value.Value.TheVariants.{Obj}
use Rattle.gql_value.specs.Sorted.{sorted_text_of}
use Rattle.cache_model.specs.Keys.{IsName}
use Rattle.entity_keys.specs.Fields.{field_key_text}
use Rattle.field_key_laws.specs.Values.{sorted_value, has_numbers}

-- neither field has arguments, or both have some, and these have one sorted text
abbrev pub AreWrittenAlike : List (List ℕ × Value) → List (List ℕ × Value) → Type 0
AreWrittenAlike [] [] = Unit {0}
AreWrittenAlike [] (other ∷ others) = ⊥
AreWrittenAlike (argument ∷ arguments) [] = ⊥
AreWrittenAlike (argument ∷ arguments) (other ∷ others) = sorted_text_of (Obj (argument ∷ arguments)) ≡ sorted_text_of (Obj (other ∷ others))

-- two fields have equal keys only where their names are equal and their arguments are written alike
abbrev pub FieldKeysByParts : Type 0
FieldKeysByParts = (name other : List ℕ) (arguments other_arguments : List (List ℕ × Value)) → IsName name → IsName other
    → field_key_text name arguments ≡ field_key_text other other_arguments
    → (name ≡ other) × AreWrittenAlike arguments other_arguments

-- so only where their names are equal and their arguments too, but for the order of arguments and of members inside
abbrev pub FieldKeysByValues : Type 0
FieldKeysByValues = (name other : List ℕ) (arguments other_arguments : List (List ℕ × Value)) → IsName name → IsName other
    → has_numbers (Obj arguments) ≡ true → has_numbers (Obj other_arguments) ≡ true
    → field_key_text name arguments ≡ field_key_text other other_arguments
    → (name ≡ other) × (sorted_value (Obj arguments) ≡ sorted_value (Obj other_arguments))

-- and two fields of one name have equal keys where their arguments are equal but for such an order
abbrev pub FieldKeysOfValues : Type 0
FieldKeysOfValues = (name : List ℕ) (arguments other_arguments : List (List ℕ × Value))
    → sorted_value (Obj arguments) ≡ sorted_value (Obj other_arguments) → field_key_text name arguments ≡ field_key_text name other_arguments
