-- Which values of an answer fit a leaf type with its wrappers, and what they become (after GraphQL October 2021,
-- 3.5, 3.9, 3.11 and 3.12, Result Coercion; whole numbers of any size are this project's own).
use Rattle.std.specs.Prelude.{ℕ, Bool, true, false, ◌&&◌, ◌||◌, List, [], ◌∷◌, Option, Some, None, cond, codes, bytes_eq}
use Rattle.std.specs.List.{enumerate_from}
use Rattle.std.specs.Option.{option_map_or, ok_or}
use Rattle.std.specs.Result.{result_map_both}
use Rattle.std.specs.declared.result.Result.{Result}
use Rattle.std.specs.declared.result.Result.TheVariants.{Ok, Err}
use Rattle.gql_model.specs.declared.type_ref.TypeRef.{TypeRef, fold-TypeRef}
use Rattle.gql_model.specs.declared.type_ref.TypeRef.TheOpen.{TypeRef-F}
use Rattle.gql_value.specs.declared.value.Value.{Value, out-Value}
use Rattle.gql_value.specs.declared.value.Value.TheOpen.{Value-F}
use Rattle.schema_model.specs.declared.schema.Schema.{Schema}
use Rattle.schema_model.specs.declared.schema.TypeForm.{TypeForm}
use Rattle.schema_model.specs.declared.schema.TypeForm.TheVariants as form
use Rattle.schema_model.specs.Tables.{entry}
use Rattle.schema_defaults.specs.Fits.{is_custom, names_scalar, takes_string, takes_boolean, takes_any}
use Rattle.execution_model.specs.Values.{null_value, list_value}
use Rattle.execution_model.specs.Scalars.{whole_number}
use Rattle.answer_model.specs.Paths.{each}

-- what a value becomes, or the indexes that lead to the first item that doesn't fit; none where the value itself doesn't
abbrev pub Fitted : Type 0
Fitted = Result Value (List ℕ)

-- how a type takes values: for each value what it becomes there, or which part of it doesn't fit
abbrev pub Fitting : Type 0
Fitting = Value → Fitted

-- whether a type is an enum
abbrev pub is_enum : TypeForm → Bool
is_enum (form.Enum values) = true
is_enum _ = false

-- whether a name is that of an enum
abbrev pub names_enum : Schema → List ℕ → Bool
names_enum schema name = option_map_or (λ t. is_enum t.form) (entry schema.types name) false

-- whether a scalar of this name takes whole numbers: Int, Float, ID, and each scalar that isn't built in
abbrev pub scalar_takes_whole : List ℕ → Bool
scalar_takes_whole name = bytes_eq name (codes "Int") || bytes_eq name (codes "Float") || bytes_eq name (codes "ID") || is_custom name

-- a whole number is an Int, a Float, an ID or a custom scalar
abbrev pub takes_whole : Schema → List ℕ → Bool
takes_whole schema name = names_scalar schema name && scalar_takes_whole name

-- a text is a String, an ID, a custom scalar, or any enum
abbrev pub takes_text : Schema → List ℕ → Bool
takes_text schema name = takes_string schema name || names_enum schema name

-- this value where the type takes it, and nothing otherwise
abbrev pub itself_if : Bool → Value → Option Value
itself_if takes value = cond takes (Some value) None

-- what a value that isn't null becomes at a scalar or an enum; a whole number becomes its decimal text at an ID
abbrev pub leaf_value : Schema → List ℕ → Value → Value-F Value → Option Value
leaf_value schema name value Value-F.Null = None
leaf_value schema name value (Value-F.Bool b) = itself_if (takes_boolean schema name) value
leaf_value schema name value (Value-F.Int n) = itself_if (takes_whole schema name) (whole_number n name)
leaf_value schema name value (Value-F.Text text) = itself_if (takes_text schema name) value
leaf_value schema name value (Value-F.List items) = itself_if (takes_any schema name) value
leaf_value schema name value (Value-F.Obj members) = itself_if (takes_any schema name) value

-- null fits a nullable type alone
abbrev pub fitted_null : Bool → Fitted
fitted_null required = cond required (Err []) (Ok null_value)

-- at a named type null fits where the type is nullable, and any other value as the scalar or the enum takes it
abbrev pub named_fit : Schema → List ℕ → Bool → Value → Value-F Value → Fitted
named_fit schema name required value Value-F.Null = fitted_null required
named_fit schema name required value other = ok_or (leaf_value schema name value other) []

-- an item at its index
abbrev pub item_fit : Fitting → ℕ × Value → Fitted
item_fit fit item = result_map_both (λ value. value) (λ places. item.0 ∷ places) (fit item.1)

-- a list fits a list type item by item; nothing else but null does
abbrev pub list_fit : Fitting → Bool → Value-F Value → Fitted
list_fit fit required Value-F.Null = fitted_null required
list_fit fit required (Value-F.List items) = result_map_both list_value (λ places. places) (each (item_fit fit) (enumerate_from 0 items))
list_fit fit required _ = Err []

-- one level of a type: a named type, or a list type, where it is known how its item type takes values
abbrev pub fit_step : Schema → TypeRef-F Fitting → Fitting
fit_step schema (TypeRef-F.Named name required) value = named_fit schema name required value (out-Value value)
fit_step schema (TypeRef-F.List item required) value = list_fit item required (out-Value value)

-- what a value of an answer becomes at a leaf type with its wrappers
abbrev pub fitted : Schema → TypeRef → Fitting
fitted schema = fold-TypeRef Fitting (fit_step schema)
