-- Input objects (GraphQL October 2021, 3.10, Input Coercion): members in the order of the type's fields.
use Rattle.std.specs.Prelude.{ℕ, List, [], ◌∷◌, Option, Some, None, cond, ◌++◌, map}
use Rattle.std.specs.Option.{option_map, option_map_or, option_and_then}
use Rattle.gql_model.specs.declared.type_ref.TypeRef.{TypeRef}
use Rattle.gql_value.specs.declared.value.Value.{Value}
use Rattle.schema_model.specs.declared.schema.Schema.{Schema}
use Rattle.schema_model.specs.declared.schema.InputValue.{InputValue}
use Rattle.schema_model.specs.Schemas.{input_fields_in}
use Rattle.schema_model.specs.Tables.{entry, put}
use Rattle.schema_rules.specs.TypeRefs.{is_non_null, named_type}
use Rattle.schema_defaults.specs.Fits.{takes_any}
use Rattle.execution_model.specs.Values.{Pairs, null_value, list_value, object_value}
use Rattle.execution_model.specs.Scalars.{Wanted, in_lists}
-- what stands at a place: nothing, something that the place doesn't take, or a value
pub use Rattle.execution_model.specs.declared.given.Given.{Given}
pub use Rattle.execution_model.specs.declared.given.Given.TheVariants.{Absent, Refused, Is}

-- a coerced value, or a refusal where there is none
abbrev pub as_given : Option Value → Given
as_given None = Refused
as_given (Some value) = Is value

-- what something is at a place
abbrev pub Meaning : Type 0
Meaning = Wanted → Given

-- a member of an object
abbrev pub MemberMeaning : Type 0
MemberMeaning = List ℕ × Meaning

-- a nullable type takes null
abbrev pub null_at : Meaning
null_at None = Is null_value
null_at (Some type) = cond (is_non_null type) Refused (Is null_value)

-- ---- lists

-- an item: a variable without value counts as null
abbrev pub item_value : Given → Option Value
item_value Absent = Some null_value
item_value Refused = None
item_value (Is value) = Some value

-- the value of an item at the type that is wanted of it; none where it is refused
abbrev pub item_at : Wanted → Meaning → Option Value
item_at wanted item = item_value (item wanted)

-- the values so far, and those of the items that are left
abbrev pub items_into : Wanted → List Value → List Meaning → Option (List Value)
items_into wanted values [] = Some values
items_into wanted values (item ∷ items) = option_and_then (λ value. items_into wanted (values ++ value ∷ []) items) (item_at wanted item)

-- the values of all items in order; none where one of them is refused
abbrev pub items_at : Wanted → List Meaning → Option (List Value)
items_at wanted items = items_into wanted [] items

-- the list of these items, or a refusal where one of them was refused
abbrev pub as_list : Option (List Value) → Given
as_list items = as_given (option_map list_value items)

-- ---- objects

-- The values of the defaults of input fields: by the name of the type, and then by the name of the field.
abbrev pub Defaults : Type 0
Defaults = List (List ℕ × Pairs)

-- where nothing stands: the default's value, or else nothing, which a Non-Null type doesn't take
abbrev pub default_given : InputValue → Option Value → Given
default_given input (Some value) = Is value
default_given input None = cond (is_non_null input.input_type.type_ref) Refused Absent

-- what is given, or the default
abbrev pub or_default : InputValue → Option Value → Given → Given
or_default input value Absent = default_given input value
or_default input value given = given

-- the members so far with one more, unless it is absent; of two with one name the first counts, though neither JSON nor validation
-- lets a second through
abbrev pub next_members : List ℕ → Given → Pairs → Option Pairs
next_members name Absent members = Some members
next_members name Refused members = None
next_members name (Is value) members = Some (put members (name, value))

-- the members so far, and those that are left
abbrev pub members_into : Pairs → List (List ℕ × Given) → Option Pairs
members_into members [] = Some members
members_into members (m ∷ more) = option_and_then (λ next. members_into next more) (next_members m.0 m.1 members)

-- what is given of an input field
abbrev pub given_of : List MemberMeaning → List ℕ × InputValue → Given
given_of members field = option_map_or (λ meaning. meaning (Some field.1.input_type.type_ref)) (entry members field.0) Absent

-- the value of the default of a field, where the defaults of its type's fields have these values
abbrev pub default_in : Option Pairs → List ℕ → Option Value
default_in values field = option_and_then (λ v. entry v field) values

-- an input field's name with what is given for it, or else with its default
abbrev pub field_member : Option Pairs → List MemberMeaning → List ℕ × InputValue → List ℕ × Given
field_member values members field = (field.0, or_default field.1 (default_in values field.0) (given_of members field))

-- the members of an input object with these fields, whose defaults have these values
abbrev pub input_members : Option Pairs → List MemberMeaning → List (List ℕ × InputValue) → Option Pairs
input_members values members fields = members_into [] (map (field_member values members) fields)

-- a member inside a value for a custom scalar, as it stands
abbrev pub free_member : MemberMeaning → List ℕ × Given
free_member member = (member.0, member.1 None)

-- the members of an object inside a value for a custom scalar, as they stand
abbrev pub members_as_given : List MemberMeaning → Option Pairs
members_as_given members = members_into [] (map free_member members)

-- the object of these members, or a refusal where one of them was refused
abbrev pub as_object : Option Pairs → Given
as_object members = as_given (option_map object_value members)

-- the same, in as many lists of one as the type has lists
abbrev pub as_object_in : TypeRef → Option Pairs → Given
as_object_in type members = as_given (option_map (λ ms. in_lists type (object_value ms)) members)

-- the fields of the input object type of a name; other types have none
abbrev pub input_fields_named : Schema → List ℕ → Option (List (List ℕ × InputValue))
input_fields_named schema name = option_and_then (λ t. input_fields_in t.form) (entry schema.types name)

-- an object where no input object type is wanted: as it stands for a custom scalar, and refused at any other type
abbrev pub free_object : Schema → List MemberMeaning → TypeRef → Given
free_object schema members type = cond (takes_any schema (named_type type)) (as_object_in type (members_as_given members)) Refused
