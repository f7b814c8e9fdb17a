-- The writes of an answer: each field asked sets a cell of its object, each object a link to it.
use Rattle.std.specs.Prelude.{ℕ, Bool, true, false, if◌then◌else◌, List, [], ◌∷◌, ◌++◌, map, codes, Option, Some, None, is_some, option_map, option_and_then, bytes_eq}
use Rattle.std.specs.List.{list_any}
use Rattle.serde_json.specs.Data.{Data, null, boolean, number, string, array, object}
use Rattle.serde_json.specs.Find.{as_i64, as_str, as_object, get}
use Rattle.gql_value.specs.declared.value.Value.{Value}
use Rattle.gql_value.specs.declared.value.Value.TheOpen.{Value-F}
use Rattle.gql_value.specs.declared.value.Value.TheViews.{roll-Value}
use Rattle.plain_queries.specs.declared.selection.Selection.{Selection, fold-Selection}
use Rattle.plain_queries.specs.declared.selection.Selection.TheOpen.{Selection-F}
use Rattle.gate_machine.specs.declared.key.Owner.TheVariants.{Entity}
use Rattle.gate_machine.specs.declared.key.EntityKey.{EntityKey}
use Rattle.gate_machine.specs.declared.cell.Cell.{Cell}
use Rattle.gate_machine.specs.declared.cell.Cell.TheVariants.{Leaf, Link}
use Rattle.gate_machine.specs.declared.cell.Write.{Write}
use Rattle.gate_machine.specs.Keys.{query_root}
use Rattle.gate_machine.specs.Readings.{null_value}

-- the value of a leaf: null, a truth value, a whole number or a text
abbrev pub leaf_of : Data → Option Value
leaf_of null = Some null_value
leaf_of (boolean b) = Some (roll-Value (Value-F.Bool b))
leaf_of (number n) = option_map (λ whole. roll-Value (Value-F.Int whole)) (as_i64 n)
leaf_of (string s) = Some (roll-Value (Value-F.Text s))
leaf_of (array ds) = None
leaf_of (object ms) = None

-- whether JSON data is null
abbrev pub is_null_data : Data → Bool
is_null_data null = true
is_null_data (boolean b) = false
is_null_data (number n) = false
is_null_data (string s) = false
is_null_data (array ds) = false
is_null_data (object ms) = false

-- sets one cell
abbrev pub write : EntityKey → List ℕ → Cell → Write
write entity field cell = record { entity = entity; field = field; cell = cell }

-- The key of an object: its type and its id where that is a text, and else its place at a field of the
-- object before it.
abbrev pub key_of_object : EntityKey → List ℕ → List ℕ → Option (List ℕ) → EntityKey
key_of_object parent field type_name (Some id) = record { owner = Entity type_name id; places = [] }
key_of_object parent field type_name None = record { owner = parent.owner; places = parent.places ++ record { field = field; type_name = type_name } ∷ [] }

-- the id of an object, where `id` is among the fields asked and is a text
abbrev pub id_asked : {X : Type 0} → List (List ℕ × X) → Data → Option (List ℕ)
id_asked fields answer = if list_any (λ field. bytes_eq field.0 (codes "id")) fields then option_and_then as_str (get (codes "id") answer) else None

-- the writes of a field's value, where it is of the form that was asked
abbrev pub Writing : Type 0
Writing = EntityKey → List ℕ → Data → Option (List Write)

-- the writes of an object's fields, in the order asked
abbrev pub members_written : EntityKey → List (List ℕ × Writing) → Data → Option (List Write)
members_written entity [] answer = Some []
members_written entity (field ∷ fields) answer =
    option_and_then (λ first. option_map (λ more. first ++ more) (members_written entity fields answer)) (option_and_then (field.1 entity field.0) (get field.0 answer))

-- an object of a named type: a link to it, and then its fields
abbrev pub object_written : List (List ℕ × Writing) → EntityKey → List ℕ → Data → List ℕ → Option (List Write)
object_written fields entity field answer type_name =
    let key = key_of_object entity field type_name (id_asked fields answer) in
    option_map (λ writes. write entity field (Link key) ∷ writes) (members_written key fields answer)

-- one level of a selection: a field without a set writes a leaf; a field with one writes null, or an object that tells `__typename`
abbrev pub writing_step : Selection-F Writing → Writing
writing_step Selection-F.Leaf entity field answer = option_map (λ v. write entity field (Leaf v) ∷ []) (leaf_of answer)
writing_step (Selection-F.Set fields) entity field answer =
    if is_null_data answer
    then Some (write entity field (Leaf null_value) ∷ [])
    else option_and_then (object_written fields entity field answer) (option_and_then as_str (get (codes "__typename") answer))

-- what the value of a field with this selection writes
abbrev pub field_writing : Selection → Writing
field_writing = fold-Selection Writing writing_step

-- the fields of a selection, each with what its value writes
abbrev pub writings_of : List (List ℕ × Selection) → List (List ℕ × Writing)
writings_of selection = map (λ field. (field.0, field_writing field.1)) selection

-- What a response's body writes: it has an object `data` of the form that was asked, and no `errors`.
abbrev pub body_written : List (List ℕ × Selection) → Data → Option (List Write)
body_written selection body =
    if is_some (get (codes "errors") body)
    then None
    else option_and_then (λ members. members_written query_root (writings_of selection) (object members)) (option_and_then as_object (get (codes "data") body))
