-- Parts of literals that mean the same under two tables of defaults.
use Rattle.std.proofs.Common.{◌≡◌, ℕ, suc, ◌+◌, Bool, true, false, List, [], ◌∷◌, ◌++◌, map, refl, ap, ap₂, sym, ◌∙◌, subst, arith, inl, inr, ◌⊎◌, cond, bytes_eq, get_or}
use Rattle.std.specs.Prelude.{Option, None, Some, slice_get, not, ◌&&◌, ◌||◌, is_some}
use Rattle.std.specs.List.{AllByRecursion, flat_map}
use Rattle.std.specs.Option.{option_map_or, option_and_then}
use Rattle.std.proofs.lemmas.Slice.Eq.{bytes_eq-Decides}
use Rattle.gql_model.specs.declared.literal.Literal.{Literal}
use Rattle.gql_model.specs.declared.type_ref.TypeRef.{TypeRef, out-TypeRef}
use Rattle.gql_model.specs.declared.type_ref.TypeRef.TheOpen.{TypeRef-F}
use Rattle.gql_value.specs.declared.value.Value.{Value}
use Rattle.schema_model.specs.declared.schema.Schema.{Schema}
use Rattle.schema_model.specs.declared.schema.InputValue.{InputValue}
use Rattle.schema_model.specs.declared.schema.SchemaType.{SchemaType}
use Rattle.schema_model.specs.declared.schema.TypeForm.{TypeForm}
use Rattle.schema_model.specs.declared.schema.TypeForm.TheVariants as form
use Rattle.schema_model.specs.Schemas.{NamedType, input_fields_in}
use Rattle.schema_model.specs.Tables.{place_of, entry}
use Rattle.schema_rules.specs.TypeRefs.{named_type}
use Rattle.schema_defaults.specs.Fits.{takes_any}
use Rattle.schema_defaults.specs.Repetitions.{meets}
use Rattle.schema_circles.specs.Fillings.{Filling, FieldFilling, input_fields, given_names, takes_default, left_out, field_fills, form_fills, place_fills, object_fills, list_fills}
use Rattle.execution_model.specs.Values.{Pairs}
use Rattle.execution_model.specs.Scalars.{Wanted}
use Rattle.execution_model.specs.declared.given.Given.{Given}
use Rattle.execution_model.specs.declared.given.Given.TheVariants.{Absent, Refused, Is}
use Rattle.execution_model.specs.Inputs.{as_given, Meaning, MemberMeaning, item_value, items_into, items_at, as_list, Defaults, default_given, or_default, members_into, given_of, default_in, field_member, input_members, free_member, members_as_given, as_object, as_object_in, input_fields_named, free_object}
use Rattle.execution_model.specs.Literals.{list_in, list_at, object_in, object_at}
use Rattle.default_laws.specs.Settling.{IsFieldAt}
use Rattle.default_laws.proofs.TableLaws.{Found, found_or_not}

-- ---- what holds of each

pub all_front : {X : Type 0} (P : X → Type 0) (xs ys : List X) → AllByRecursion P (xs ++ ys) → AllByRecursion P xs
all_front P [] ys all = tt
all_front P (x ∷ xs) ys (here, more) = (here, all_front P xs ys more)

pub all_back : {X : Type 0} (P : X → Type 0) (xs ys : List X) → AllByRecursion P (xs ++ ys) → AllByRecursion P ys
all_back P [] ys all = all
all_back P (x ∷ xs) ys (here, more) = all_back P xs ys more

-- ---- a part

-- what a part of a literal means under the one table of defaults and under the other, and what it has filled in
pub record Row : Type 0 where
  pub name : List ℕ
  pub one : Meaning
  pub other : Meaning
  pub fills : Filling

-- both mean the same where each default that is filled in fulfils this; something stands there
pub record IsSteady (P : ℕ → Type 0) (one other : Meaning) (fills : Filling) : Type 0 where
  pub free : one None ≡ other None
  pub typed : (type : TypeRef) → AllByRecursion P (fills type) → one (Some type) ≡ other (Some type)
  pub there : (wanted : Wanted) → one wanted ≡ Absent → ⊥

abbrev pub IsSteadyRow : (ℕ → Type 0) → Row → Type 0
IsSteadyRow P row = IsSteady P row.one row.other row.fills

abbrev pub ones : List Row → List Meaning
ones rows = map (λ (r : Row). r.one) rows

abbrev pub others : List Row → List Meaning
others rows = map (λ (r : Row). r.other) rows

abbrev pub filled : List Row → List Filling
filled rows = map (λ (r : Row). r.fills) rows

abbrev pub named_ones : List Row → List MemberMeaning
named_ones rows = map (λ (r : Row). (r.name, r.one)) rows

abbrev pub named_others : List Row → List MemberMeaning
named_others rows = map (λ (r : Row). (r.name, r.other)) rows

abbrev pub named_filled : List Row → List FieldFilling
named_filled rows = map (λ (r : Row). (r.name, r.fills)) rows

pub as_given_there : (value : Option Value) → as_given value ≡ Absent → ⊥
as_given_there None e = absurd (cc)
as_given_there (Some value) e = absurd (cc)

cond_there : (b : Bool) (given : Given) → (given ≡ Absent → ⊥) → cond b given Refused ≡ Absent → ⊥
cond_there true given there e = there e
cond_there false given there e = absurd (cc)

-- ---- lists

then_each : {A B : Type 0} (f g : A → Option B) (o : Option A) → ((x : A) → f x ≡ g x) → option_and_then f o ≡ option_and_then g o
then_each f g None same = refl
then_each f g (Some x) same = same x

abbrev AgreeAt : Wanted → List Row → Type 0
AgreeAt wanted rows = AllByRecursion (λ (r : Row). r.one wanted ≡ r.other wanted) rows

items_same : (wanted : Wanted) (rows : List Row) (values : List Value) → AgreeAt wanted rows → items_into wanted values (ones rows) ≡ items_into wanted values (others rows)
items_same wanted [] values same = refl
items_same wanted (r ∷ rows) values (here, more) =
    ap (λ (given : Given). option_and_then (λ value. items_into wanted (values ++ value ∷ []) (ones rows)) (item_value given)) here
    ∙ then_each (λ value. items_into wanted (values ++ value ∷ []) (ones rows)) (λ value. items_into wanted (values ++ value ∷ []) (others rows)) (item_value (r.other wanted))
    (λ value. items_same wanted rows (values ++ value ∷ []) more)

free_items : (P : ℕ → Type 0) (rows : List Row) → AllByRecursion (IsSteadyRow P) rows → AgreeAt None rows
free_items P [] steady = tt
free_items P (r ∷ rows) (here, more) = (here.free, free_items P rows more)

typed_items : (P : ℕ → Type 0) (type : TypeRef) (rows : List Row) → AllByRecursion (IsSteadyRow P) rows → AllByRecursion P (flat_map (λ (fills : Filling). fills type) (filled rows)) → AgreeAt (Some type) rows
typed_items P type [] steady all = tt
typed_items P type (r ∷ rows) (here, more) all = (
  here.typed type (all_front P (r.fills type) (flat_map (λ (fills : Filling). fills type) (filled rows)) all),
  typed_items P type rows more (all_back P (r.fills type) (flat_map (λ (fills : Filling). fills type) (filled rows)) all),
)

list_typed : (P : ℕ → Type 0) (schema : Schema) (rows : List Row) (type : TypeRef-F TypeRef) → AllByRecursion (IsSteadyRow P) rows
    → AllByRecursion P (list_fills (filled rows) type) → list_in schema (ones rows) type ≡ list_in schema (others rows) type
list_typed P schema rows (TypeRef-F.Named name required) steady all =
    ap (λ (items : Option (List Value)). cond (takes_any schema name) (as_list items) Refused) (items_same None rows [] (free_items P rows steady))
list_typed P schema rows (TypeRef-F.List inner required) steady all =
    ap as_list (items_same (Some inner) rows [] (typed_items P inner rows steady all))

list_in_there : (schema : Schema) (items : List Meaning) (type : TypeRef-F TypeRef) → list_in schema items type ≡ Absent → ⊥
list_in_there schema items (TypeRef-F.Named name required) e = cond_there (takes_any schema name) (as_list (items_at None items)) (as_given_there _) e
list_in_there schema items (TypeRef-F.List inner required) e = as_given_there _ e

list_there : (schema : Schema) (items : List Meaning) (wanted : Wanted) → list_at schema items wanted ≡ Absent → ⊥
list_there schema items None e = as_given_there _ e
list_there schema items (Some type) e = list_in_there schema items (out-TypeRef type) e

pub list_steady : (P : ℕ → Type 0) (schema : Schema) (rows : List Row) → AllByRecursion (IsSteadyRow P) rows
    → IsSteady P (list_at schema (ones rows)) (list_at schema (others rows)) (λ type. list_fills (filled rows) (out-TypeRef type))
list_steady P schema rows steady = record {
  free = ap as_list (items_same None rows [] (free_items P rows steady));
  typed = λ type all. list_typed P schema rows (out-TypeRef type) steady all;
  there = list_there schema (ones rows);
}

-- ---- the members of an object, by the fields of its type

-- a field's default has the same value in both tables, where its number fulfils this or where it has no default; it is the first of its name
pub record IsAlike (P : ℕ → Type 0) (declared : List (List ℕ × InputValue)) (one other : Option Pairs) (number : ℕ) (field : List ℕ × InputValue) : Type 0 where
  pub own : entry declared field.0 ≡ Some field.1
  pub numbered : P number → default_in one field.0 ≡ default_in other field.0
  pub unset : field.1.default ≡ None → default_in one field.0 ≡ default_in other field.0

-- a field is given, and means the same; or it isn't
abbrev IsGivenOrNot : List Row → List ℕ × InputValue → Type 0
IsGivenOrNot rows field =
    ((given_of (named_ones rows) field ≡ given_of (named_others rows) field) × (given_of (named_ones rows) field ≡ Absent → ⊥))
    ⊎ ((meets field.0 (given_names (named_filled rows)) ≡ false) × (given_of (named_ones rows) field ≡ Absent) × (given_of (named_others rows) field ≡ Absent))

abbrev here_or : (List ℕ × InputValue) → Bool → Meaning → Option Meaning → Given
here_or field b meaning rest = option_map_or (λ (m : Meaning). m (Some field.1.input_type.type_ref)) (cond b (Some meaning) rest) Absent

fills_of_first : (P : ℕ → Type 0) (declared : List (List ℕ × InputValue)) (field : List ℕ × InputValue) (r : Row) → entry declared field.0 ≡ Some field.1 → bytes_eq field.0 r.name ≡ true
    → AllByRecursion P (field_fills declared (r.name, r.fills)) → AllByRecursion P (r.fills field.1.input_type.type_ref)
fills_of_first P declared field r own is all =
    subst (λ (o : Option InputValue). AllByRecursion P (option_map_or (λ (i : InputValue). r.fills i.input_type.type_ref) o []))
    (ap (entry declared) (sym ((bytes_eq-Decides field.0 r.name).0 is)) ∙ own) all

given_step : (P : ℕ → Type 0) (declared : List (List ℕ × InputValue)) (field : List ℕ × InputValue) (r : Row) (rows : List Row) → entry declared field.0 ≡ Some field.1
    → IsSteadyRow P r → AllByRecursion P (field_fills declared (r.name, r.fills)) → IsGivenOrNot rows field
    → (b : Bool) → bytes_eq field.0 r.name ≡ b → IsGivenOrNot (r ∷ rows) field
given_step P declared field r rows own steady all later true is =
    let type = field.1.input_type.type_ref in
    let first : given_of (named_ones (r ∷ rows)) field ≡ r.one (Some type) = ap (λ (b : Bool). here_or field b r.one (entry (named_ones rows) field.0)) is in
    let second : given_of (named_others (r ∷ rows)) field ≡ r.other (Some type) = ap (λ (b : Bool). here_or field b r.other (entry (named_others rows) field.0)) is in
    inl (first ∙ steady.typed type (fills_of_first P declared field r own is all) ∙ sym second, λ e. steady.there (Some type) (sym first ∙ e))
given_step P declared field r rows own steady all later false is =
    let first : given_of (named_ones (r ∷ rows)) field ≡ given_of (named_ones rows) field = ap (λ (b : Bool). here_or field b r.one (entry (named_ones rows) field.0)) is in
    let second : given_of (named_others (r ∷ rows)) field ≡ given_of (named_others rows) field = ap (λ (b : Bool). here_or field b r.other (entry (named_others rows) field.0)) is in
    let met : meets field.0 (given_names (named_filled (r ∷ rows))) ≡ meets field.0 (given_names (named_filled rows)) = ap (λ (b : Bool). b || meets field.0 (given_names (named_filled rows))) is in
    elim later [
      | inl g ↦ inl (first ∙ g.0 ∙ sym second, λ e. g.1 (sym first ∙ e))
      | inr n ↦ inr (met ∙ n.0, first ∙ n.1, second ∙ n.2)
    ]

given_or_not : (P : ℕ → Type 0) (declared : List (List ℕ × InputValue)) (field : List ℕ × InputValue) → entry declared field.0 ≡ Some field.1
    → (rows : List Row) → AllByRecursion (IsSteadyRow P) rows → AllByRecursion P (flat_map (field_fills declared) (named_filled rows)) → IsGivenOrNot rows field
given_or_not P declared field own [] steady all = inr (refl, refl, refl)
given_or_not P declared field own (r ∷ rows) (here, more) all =
    given_step P declared field r rows own here
    (all_front P (field_fills declared (r.name, r.fills)) (flat_map (field_fills declared) (named_filled rows)) all)
    (given_or_not P declared field own rows more (all_back P (field_fills declared (r.name, r.fills)) (flat_map (field_fills declared) (named_filled rows)) all))
    (bytes_eq field.0 r.name) refl

or_there : (input : InputValue) (value : Option Value) (given : Given) → (given ≡ Absent → ⊥) → or_default input value given ≡ given
or_there input value Absent there = absurd (there refl)
or_there input value Refused there = refl
or_there input value (Is v) there = refl

left_case : (P : ℕ → Type 0) (declared : List (List ℕ × InputValue)) (one other : Option Pairs) (number : ℕ) (field : List ℕ × InputValue) (is_given : List ℕ → Bool)
    → IsAlike P declared one other number field → is_given field.0 ≡ false → (takes_default is_given field ≡ true → P number)
    → (default : Option Literal) → field.1.default ≡ default → default_in one field.0 ≡ default_in other field.0
left_case P declared one other number field is_given alike absent takes None is = alike.unset is
left_case P declared one other number field is_given alike absent takes (Some literal) is =
    alike.numbered (takes (ap₂ (λ (b : Bool) (o : Option Literal). not b && is_some o) absent is))

member_same : (P : ℕ → Type 0) (declared : List (List ℕ × InputValue)) (one other : Option Pairs) (rows : List Row) (number : ℕ) (field : List ℕ × InputValue)
    → IsAlike P declared one other number field → IsGivenOrNot rows field → (takes_default (λ name. meets name (given_names (named_filled rows))) field ≡ true → P number)
    → field_member one (named_ones rows) field ≡ field_member other (named_others rows) field
member_same P declared one other rows number field alike (inl (same, there)) takes =
    ap (λ (g : Given). (field.0, g))
    (or_there field.1 (default_in one field.0) (given_of (named_ones rows) field) there
    ∙ same
    ∙ sym (or_there field.1 (default_in other field.0) (given_of (named_others rows) field) (λ e. there (same ∙ e))))
member_same P declared one other rows number field alike (inr (unmet, absent, other_absent)) takes =
    ap (λ (g : Given). (field.0, g))
    (ap (or_default field.1 (default_in one field.0)) absent
    ∙ ap (default_given field.1) (left_case P declared one other number field (λ name. meets name (given_names (named_filled rows))) alike unmet takes field.1.default refl)
    ∙ sym (ap (or_default field.1 (default_in other field.0)) other_absent))

taken_now : (P : ℕ → Type 0) (number : ℕ) (b : Bool) → AllByRecursion P (cond b (number ∷ []) []) → b ≡ true → P number
taken_now P number true all e = all.0
taken_now P number false all e = absurd (cc)

fields_same : (P : ℕ → Type 0) (declared : List (List ℕ × InputValue)) (one other : Option Pairs) (rows : List Row)
    → ((field : List ℕ × InputValue) → entry declared field.0 ≡ Some field.1 → IsGivenOrNot rows field)
    → (number : ℕ) (fields : List (List ℕ × InputValue))
    → ((at : ℕ) (field : List ℕ × InputValue) → slice_get fields at ≡ Some field → IsAlike P declared one other (number + at) field)
    → AllByRecursion P (left_out (λ name. meets name (given_names (named_filled rows))) number fields)
    → map (field_member one (named_ones rows)) fields ≡ map (field_member other (named_others rows)) fields
fields_same P declared one other rows given number [] alike all = refl
fields_same P declared one other rows given number (field ∷ fields) alike all =
    let is_given = λ (name : List ℕ). meets name (given_names (named_filled rows)) in
    let none : number + 0 ≡ number = omega arith in
    let here = subst (λ (n : ℕ). IsAlike P declared one other n field) none (alike 0 field refl) in
    ap₂ (λ (m : List ℕ × Given) (ms : List (List ℕ × Given)). m ∷ ms)
    (member_same P declared one other rows number field here (given field here.own)
    (taken_now P number (takes_default is_given field) (all_front P (cond (takes_default is_given field) (number ∷ []) []) (left_out is_given (number + 1) fields) all)))
    (fields_same P declared one other rows given (number + 1) fields
    (λ at next is.
    let further : number + suc at ≡ number + 1 + at = omega arith in
    subst (λ (n : ℕ). IsAlike P declared one other n next) further (alike (suc at) next is))
    (all_back P (cond (takes_default is_given field) (number ∷ []) []) (left_out is_given (number + 1) fields) all))

-- ---- objects

-- the defaults of the fields of all types have the same values in both tables, where their numbers fulfil this or where they have none
pub record AreAlike (P : ℕ → Type 0) (one other : Defaults) (schema : Schema) (firsts : List ℕ) : Type 0 where
  pub alike : (place : ℕ) (type : NamedType) (at : ℕ) (field : List ℕ × InputValue) → IsFieldAt schema place type at field
      → IsAlike P (input_fields type.1.form) (entry one type.0) (entry other type.0) (get_or firsts place 0 + at) field

free_members_same : (P : ℕ → Type 0) (rows : List Row) → AllByRecursion (IsSteadyRow P) rows → map free_member (named_ones rows) ≡ map free_member (named_others rows)
free_members_same P [] steady = refl
free_members_same P (r ∷ rows) (here, more) =
    ap₂ (λ (g : Given) (rest : List (List ℕ × Given)). (r.name, g) ∷ rest) here.free (free_members_same P rows more)

free_object_there : (schema : Schema) (members : List MemberMeaning) (type : TypeRef) → free_object schema members type ≡ Absent → ⊥
free_object_there schema members type e = cond_there (takes_any schema (named_type type)) (as_object_in type (members_as_given members)) (as_given_there _) e

object_case_there : (one : Option Pairs) (schema : Schema) (members : List MemberMeaning) (type : TypeRef) (fields : Option (List (List ℕ × InputValue)))
    → option_map_or (λ fs. as_object_in type (input_members one members fs)) fields (free_object schema members type) ≡ Absent → ⊥
object_case_there one schema members type None e = free_object_there schema members type e
object_case_there one schema members type (Some fields) e = as_given_there _ e

object_there : (one : Defaults) (schema : Schema) (members : List MemberMeaning) (wanted : Wanted) → object_at one schema members wanted ≡ Absent → ⊥
object_there one schema members None e = as_given_there _ e
object_there one schema members (Some type) e = object_case_there (entry one (named_type type)) schema members type (input_fields_named schema (named_type type)) e

-- an object at a type, by its form
abbrev at_form : Option Pairs → Schema → List MemberMeaning → TypeRef → Option (List (List ℕ × InputValue)) → Given
at_form values schema members type fields = option_map_or (λ fs. as_object_in type (input_members values members fs)) fields (free_object schema members type)

free_same : (P : ℕ → Type 0) (schema : Schema) (rows : List Row) (type : TypeRef) → AllByRecursion (IsSteadyRow P) rows → free_object schema (named_ones rows) type ≡ free_object schema (named_others rows) type
free_same P schema rows type steady =
    ap (λ ms. cond (takes_any schema (named_type type)) (as_object_in type (members_into [] ms)) Refused) (free_members_same P rows steady)

in_form : (P : ℕ → Type 0) (one other : Option Pairs) (schema : Schema) (rows : List Row) (type : TypeRef) (number : ℕ) → AllByRecursion (IsSteadyRow P) rows
    → (shape : TypeForm)
    → ((at : ℕ) (field : List ℕ × InputValue) → slice_get (input_fields shape) at ≡ Some field → IsAlike P (input_fields shape) one other (number + at) field)
    → AllByRecursion P (form_fills number (named_filled rows) shape)
    → at_form one schema (named_ones rows) type (input_fields_in shape) ≡ at_form other schema (named_others rows) type (input_fields_in shape)
in_form P one other schema rows type number steady (form.Input declared) alike all =
    let is_given = λ (name : List ℕ). meets name (given_names (named_filled rows)) in
    ap (λ ms. as_object_in type (members_into [] ms))
    (fields_same P declared one other rows
    (λ field own. given_or_not P declared field own rows steady (all_front P (flat_map (field_fills declared) (named_filled rows)) (left_out is_given number declared) all))
    number declared alike
    (all_back P (flat_map (field_fills declared) (named_filled rows)) (left_out is_given number declared) all))
in_form P one other schema rows type number steady _ alike all = free_same P schema rows type steady

object_by_place : (P : ℕ → Type 0) (one other : Defaults) (schema : Schema) (firsts : List ℕ) (rows : List Row) (type : TypeRef) → AreAlike P one other schema firsts → AllByRecursion (IsSteadyRow P) rows
    → AllByRecursion P (object_fills schema firsts (named_filled rows) (named_type type))
    → (Found (named_type type) schema.types ⊎ ((place_of schema.types (named_type type) ≡ None) × (entry schema.types (named_type type) ≡ None)))
    → object_in one schema (named_ones rows) type ≡ object_in other schema (named_others rows) type
object_by_place P one other schema firsts rows type alike steady all (inl found) =
    let name = named_type type in
    let t = found.pair in
    let fields : input_fields_named schema name ≡ input_fields_in t.1.form = ap (option_and_then (λ (s : SchemaType). input_fields_in s.form)) found.value in
    let in_type : object_fills schema firsts (named_filled rows) name ≡ form_fills (get_or firsts found.place 0) (named_filled rows) t.1.form =
    ap (λ (o : Option ℕ). option_map_or (place_fills schema firsts (named_filled rows)) o []) found.placed
    ∙ ap (λ (o : Option NamedType). option_map_or (λ (s : NamedType). form_fills (get_or firsts found.place 0) (named_filled rows) s.1.form) o []) found.there in
    ap (at_form (entry one name) schema (named_ones rows) type) fields
    ∙ in_form P (entry one name) (entry other name) schema rows type (get_or firsts found.place 0) steady t.1.form
    (λ at field is.
    subst (λ (n : List ℕ). IsAlike P (input_fields t.1.form) (entry one n) (entry other n) (get_or firsts found.place 0 + at) field) (sym found.same_name)
    (alike.alike found.place t at field (found.there, is)))
    (subst (AllByRecursion P) in_type all)
    ∙ sym (ap (at_form (entry other name) schema (named_others rows) type) fields)
object_by_place P one other schema firsts rows type alike steady all (inr (unplaced, unfound)) =
    let name = named_type type in
    let fields : input_fields_named schema name ≡ None = ap (option_and_then (λ (s : SchemaType). input_fields_in s.form)) unfound in
    ap (at_form (entry one name) schema (named_ones rows) type) fields
    ∙ free_same P schema rows type steady
    ∙ sym (ap (at_form (entry other name) schema (named_others rows) type) fields)

pub object_steady : (P : ℕ → Type 0) (one other : Defaults) (schema : Schema) (firsts : List ℕ) (rows : List Row) → AreAlike P one other schema firsts → AllByRecursion (IsSteadyRow P) rows
    → IsSteady P (object_at one schema (named_ones rows)) (object_at other schema (named_others rows)) (λ type. object_fills schema firsts (named_filled rows) (named_type type))
object_steady P one other schema firsts rows alike steady = record {
  free = ap (λ ms. as_object (members_into [] ms)) (free_members_same P rows steady);
  typed = λ type all. object_by_place P one other schema firsts rows type alike steady all (found_or_not (named_type type) schema.types);
  there = object_there one schema (named_ones rows);
}
