-- S9: a default whose filling-in needs that same default again (own rule; in later drafts of the GraphQL specification
-- 3.10, Input Object Default Values).
use Rattle.std.specs.Prelude.{ℕ, ◌+◌, Bool, ◌&&◌, not, List, [], ◌∷◌, ◌++◌, Option, is_some, cond, map, length, take, get_or, slice_get}
use Rattle.std.specs.List.{flat_map, range_with_len}
use Rattle.std.specs.Option.{option_map_or}
use Rattle.gql_model.specs.declared.literal.Literal.{Literal}
use Rattle.gql_model.specs.declared.literal.LiteralValue.{LiteralValue}
use Rattle.gql_model.specs.declared.literal.ObjectField.{ObjectField}
use Rattle.gql_model.specs.declared.literal.LiteralValue.TheOpen.{Literal-F, LiteralValue-F, ObjectField-F}
use Rattle.gql_model.specs.declared.literal.LiteralValue.TheFolds.{fold-Literal, fold-LiteralValue, fold-ObjectField}
use Rattle.gql_model.specs.declared.type_ref.TypeRef.{TypeRef, out-TypeRef}
use Rattle.gql_model.specs.declared.type_ref.TypeRef.TheOpen.{TypeRef-F}
use Rattle.schema_model.specs.declared.schema.Schema.{Schema}
use Rattle.schema_model.specs.declared.schema.InputValue.{InputValue}
use Rattle.schema_model.specs.declared.schema.TypeForm.{TypeForm}
use Rattle.schema_model.specs.declared.schema.TypeForm.TheVariants as form
use Rattle.schema_model.specs.Schemas.{NamedType}
use Rattle.schema_model.specs.Tables.{place_of, entry}
use Rattle.schema_rules.specs.Lines.{Mark}
use Rattle.schema_rules.specs.TypeRefs.{named_type}
use Rattle.schema_defaults.specs.Repetitions.{meets}
use Rattle.digraph.specs.Walks.{Graph, circled}
use Rattle.schema_circles.specs.Marked.{least_marked}

-- ---- the numbers of input fields, counted over all input object types in order

-- the fields of an input object type; other types have none
abbrev pub input_fields : TypeForm → List (List ℕ × InputValue)
input_fields (form.Input fields) = fields
input_fields _ = []

-- the lines of a type's input fields, in order
abbrev pub lines_in : NamedType → List ℕ
lines_in t = map (λ f. f.1.line) (input_fields t.1.form)

-- the line of each input field
abbrev pub field_lines : List NamedType → List ℕ
field_lines types = flat_map lines_in types

-- the number of the first field of the type at a place
abbrev pub first_number : List NamedType → ℕ → ℕ
first_number types place = length (field_lines (take place types))

-- for each type the number of its first field: how many input fields the types before it have
abbrev pub first_numbers : List NamedType → List ℕ
first_numbers types = map (first_number types) (range_with_len 0 (length types))

-- ---- what a literal has filled in

-- the numbers of the input fields whose defaults are taken where the literal stands for a value of a type
abbrev pub Filling : Type 0
Filling = TypeRef → List ℕ

-- a field of an object literal
abbrev pub FieldFilling : Type 0
FieldFilling = List ℕ × Filling

-- the names of the fields of an object literal, at no line
abbrev pub given_names : List FieldFilling → List Mark
given_names fields = map (λ f. (f.0, 0)) fields

-- the default of a field is taken where an object literal leaves the field out
abbrev pub takes_default : (List ℕ → Bool) → List ℕ × InputValue → Bool
takes_default is_given d = not (is_given d.0) && is_some d.1.default

-- the numbers of the fields whose defaults are taken, from this number on
abbrev pub left_out : (List ℕ → Bool) → ℕ → List (List ℕ × InputValue) → List ℕ
left_out is_given number [] = []
left_out is_given number (d ∷ declared) = cond (takes_default is_given d) (number ∷ []) [] ++ left_out is_given (number + 1) declared

-- what the value of a field of an object literal has filled in
abbrev pub field_fills : List (List ℕ × InputValue) → FieldFilling → List ℕ
field_fills declared f = option_map_or (λ i. f.1 i.input_type.type_ref) (entry declared f.0) []

-- an object literal has filled in what it leaves out, and what its fields have
abbrev pub form_fills : ℕ → List FieldFilling → TypeForm → List ℕ
form_fills number fields (form.Input declared) =
    flat_map (field_fills declared) fields ++ left_out (λ name. meets name (given_names fields)) number declared
form_fills number fields _ = []

-- the same by the type at a place; `firsts` has the number of each type's first field
abbrev pub place_fills : Schema → List ℕ → List FieldFilling → ℕ → List ℕ
place_fills schema firsts fields place = option_map_or (λ t. form_fills (get_or firsts place 0) fields t.1.form) (slice_get schema.types place) []

-- the same by the type of this name; nothing is filled in where there is none
abbrev pub object_fills : Schema → List ℕ → List FieldFilling → List ℕ → List ℕ
object_fills schema firsts fields name = option_map_or (place_fills schema firsts fields) (place_of schema.types name) []

-- a list literal has filled in what its items have; where no list type is asked, nothing
abbrev pub list_fills : List Filling → TypeRef-F TypeRef → List ℕ
list_fills items (TypeRef-F.Named name required) = []
list_fills items (TypeRef-F.List inner required) = flat_map (λ fills. fills inner) items

-- a literal has filled in what its value has
abbrev pub literal_step : Literal-F Filling Filling FieldFilling → Filling
literal_step l = l.value

-- an object literal that stands for a list is a list of one
abbrev pub value_step : Schema → List ℕ → LiteralValue-F Filling Filling FieldFilling → Filling
value_step schema firsts (LiteralValue-F.List items) t = list_fills items (out-TypeRef t)
value_step schema firsts (LiteralValue-F.Object fields) t = object_fills schema firsts fields (named_type t)
value_step schema firsts _ t = []

-- a field of an object literal, by its name and what its value has filled in
abbrev pub field_step : ObjectField-F Filling Filling FieldFilling → FieldFilling
field_step f = (f.name.text, f.value)

-- the defaults that a literal has filled in, by the first numbers of the types' fields
abbrev pub literal_fills : Schema → List ℕ → Literal → Filling
literal_fills schema firsts = fold-Literal Filling Filling FieldFilling (value_step schema firsts) literal_step field_step

-- the defaults that the value of a literal has filled in
abbrev pub value_fills : Schema → List ℕ → LiteralValue → Filling
value_fills schema firsts = fold-LiteralValue Filling Filling FieldFilling (value_step schema firsts) literal_step field_step

-- the name of a field of an object literal, and the defaults that its value has filled in
abbrev pub object_field_fills : Schema → List ℕ → ObjectField → FieldFilling
object_field_fills schema firsts = fold-ObjectField Filling Filling FieldFilling (value_step schema firsts) literal_step field_step

-- ---- the graph of defaults

-- the defaults that the default of an input field has filled in
abbrev pub default_fills : Schema → List ℕ → InputValue → List ℕ
default_fills schema firsts input = option_map_or (λ l. literal_fills schema firsts l input.input_type.type_ref) input.default []

-- for each of these input fields what its default has filled in
abbrev pub fields_fill : Schema → List ℕ → List (List ℕ × InputValue) → Graph
fields_fill schema firsts fields = map (λ f. default_fills schema firsts f.1) fields

-- for each input field the fields whose defaults its default has filled in
abbrev pub filling_graph : Schema → List ℕ → List NamedType → Graph
filling_graph schema firsts types = flat_map (λ t. fields_fill schema firsts (input_fields t.1.form)) types

-- the least line of an input field whose default has itself filled in
abbrev pub fills_itself_line : Schema → Option ℕ
fills_itself_line schema =
    least_marked (circled (filling_graph schema (first_numbers schema.types) schema.types)) (field_lines schema.types)
