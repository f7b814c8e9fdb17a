-- The rounds settle: by induction on ranks, each default has its final value after as many rounds as its rank and one more.
use Rattle.std.proofs.Common.{◌≡◌, ℕ, zero, suc, ◌+◌, ◌<◌, true, List, [], ◌∷◌, length, refl, ap, sym, ◌∙◌, subst, arith, nat_eq, eq-eqb}
use Rattle.std.specs.Prelude.{Option, None, Some, slice_get, cond}
use Rattle.std.specs.Option.{option_map, option_and_then}
use Rattle.std.specs.List.{AllByRecursion, filter_map, cons_option}
use Rattle.std.proofs.lemmas.Bool.{or_left, or_right}
use Rattle.std.proofs.lemmas.Option.{same_Some, slice_get_within}
use Rattle.text_types.specs.Names.{HasDistinctNames}
use Rattle.gql_model.specs.declared.literal.Literal.{Literal}
use Rattle.gql_value.specs.declared.value.Value.{Value}
use Rattle.schema_model.specs.declared.schema.Schema.{Schema}
use Rattle.schema_model.specs.declared.schema.InputValue.{InputValue}
use Rattle.schema_model.specs.declared.schema.TypeForm.{TypeForm}
use Rattle.schema_model.specs.declared.schema.TypeForm.TheVariants as form
use Rattle.schema_model.specs.Schemas.{NamedType, input_fields_in}
use Rattle.schema_model.specs.Tables.{entry}
use Rattle.schema_defaults.specs.Empty.{is_empty, empty_type}
use Rattle.schema_circles.specs.Fillings.{input_fields, first_numbers}
use Rattle.digraph.specs.Walks.{is_among, leads, successors}
use Rattle.digraph.specs.Laws.{WalksAreDecided}
use Rattle.execution_model.specs.Values.{Pairs}
use Rattle.execution_model.specs.Inputs.{Defaults, default_in}
use Rattle.execution_model.specs.Defaults.{constant, field_value, fields_values, type_values, values_by, AreDefaults}
use Rattle.gql_coercion.specs.Settled.{rounds, form_fields, field_count}
use Rattle.default_laws.specs.Constants.{is_constant_default}
use Rattle.default_laws.specs.Ranks.{rank, RanksFall}
use Rattle.default_laws.specs.Settling.{IsFieldAt, IsPlain, IsSettling, RoundsSettle, DefaultsAreOne}
use Rattle.default_laws.proofs.TableLaws.{own_entry, kept, same_kept, all_at}
use Rattle.default_laws.proofs.Rows.{AreAlike}
use Rattle.default_laws.proofs.LiteralLaws.{default_steady}
use Rattle.default_laws.proofs.GraphLaws.{graph_of, number_of, first_is, node_is, graph_length, no_circle, no_line}

-- ---- the value of one default

-- what the default of a field becomes, where further defaults have these values
abbrev pub valued : Defaults → Schema → InputValue → Option Value
valued defaults schema input = option_and_then (λ literal. constant defaults schema literal input.input_type.type_ref) input.default

-- what a table says of the default of a field
abbrev said : Defaults → NamedType → List ℕ × InputValue → Option Value
said defaults type field = default_in (entry defaults type.0) field.0

-- a name with a value
abbrev with_value : List ℕ → Value → List ℕ × Value
with_value name value = (name, value)

abbrev with_pairs : List ℕ → Pairs → Option (List ℕ × Pairs)
with_pairs name values = Some (name, values)

-- a name with the values of the defaults of fields
abbrev with_values : Defaults → Schema → List ℕ → List (List ℕ × InputValue) → List ℕ × Pairs
with_values defaults schema name fields = (name, fields_values defaults schema fields)

field_value_is : (defaults : Defaults) (schema : Schema) (name : List ℕ) (input : InputValue) (default : Option Literal)
    → option_and_then (λ literal. option_map (with_value name) (constant defaults schema literal input.input_type.type_ref)) default
    ≡ option_map (with_value name) (option_and_then (λ literal. constant defaults schema literal input.input_type.type_ref) default)
field_value_is defaults schema name input None = refl
field_value_is defaults schema name input (Some literal) = refl

field_is : (defaults : Defaults) (schema : Schema) (field : List ℕ × InputValue) → field_value defaults schema field ≡ option_map (with_value field.0) (valued defaults schema field.1)
field_is defaults schema field = field_value_is defaults schema field.0 field.1 field.1.default

second_of : (name : List ℕ) (value : Option Value) → option_map (λ (q : List ℕ × Value). q.1) (option_map (with_value name) value) ≡ value
second_of name None = refl
second_of name (Some v) = refl

first_of : {X : Type 0} (name : List ℕ) (value : Option X) (q : List ℕ × X) → option_map (λ (v : X). (name, v)) value ≡ Some q → q.0 ≡ name
first_of name None q is = absurd (cc)
first_of {X} name (Some v) q is = ap (λ (r : List ℕ × X). r.0) (sym (same_Some (name, v) q is))

in_fields : (defaults : Defaults) (schema : Schema) (declared : List (List ℕ × InputValue)) (at : ℕ) (field : List ℕ × InputValue)
    → HasDistinctNames declared → slice_get declared at ≡ Some field → entry (fields_values defaults schema declared) field.0 ≡ valued defaults schema field.1
in_fields defaults schema declared at field distinct is =
    kept (field_value defaults schema) (λ p q made. first_of p.0 (valued defaults schema p.1) q (sym (field_is defaults schema p) ∙ made)) declared at field distinct is
    ∙ ap (option_map (λ (q : List ℕ × Value). q.1)) (field_is defaults schema field)
    ∙ second_of field.0 (valued defaults schema field.1)

in_form : (defaults : Defaults) (schema : Schema) (name : List ℕ) (shape : TypeForm) (at : ℕ) (field : List ℕ × InputValue)
    → HasDistinctNames (input_fields shape) → slice_get (input_fields shape) at ≡ Some field
    → default_in (option_map (λ (q : List ℕ × Pairs). q.1) (option_map (with_values defaults schema name) (input_fields_in shape))) field.0 ≡ valued defaults schema field.1
in_form defaults schema name (form.Input declared) at field distinct is = in_fields defaults schema declared at field distinct is
in_form defaults schema name form.Scalar at field distinct is = absurd (cc)
in_form defaults schema name (form.Object parts) at field distinct is = absurd (cc)
in_form defaults schema name (form.Interface parts) at field distinct is = absurd (cc)
in_form defaults schema name (form.Union members) at field distinct is = absurd (cc)
in_form defaults schema name (form.Enum values) at field distinct is = absurd (cc)

type_keeps : (defaults : Defaults) (schema : Schema) (name : List ℕ) (fields : Option (List (List ℕ × InputValue))) (q : List ℕ × Pairs)
    → option_map (with_values defaults schema name) fields ≡ Some q → q.0 ≡ name
type_keeps defaults schema name None q is = absurd (cc)
type_keeps defaults schema name (Some fields) q is = ap (λ (r : List ℕ × Pairs). r.0) (sym (same_Some (name, fields_values defaults schema fields) q is))

-- ---- two tables that say the same give the same

same_fields : (one other : Defaults) (schema : Schema) (fields : List (List ℕ × InputValue))
    → ((at : ℕ) (field : List ℕ × InputValue) → slice_get fields at ≡ Some field → valued one schema field.1 ≡ valued other schema field.1)
    → fields_values one schema fields ≡ fields_values other schema fields
same_fields one other schema fields same =
    same_kept (field_value one schema) (field_value other schema) fields
    (λ at field is. field_is one schema field ∙ ap (option_map (with_value field.0)) (same at field is) ∙ sym (field_is other schema field))

same_form : (one other : Defaults) (schema : Schema) (name : List ℕ) (shape : TypeForm)
    → ((at : ℕ) (field : List ℕ × InputValue) → slice_get (input_fields shape) at ≡ Some field → valued one schema field.1 ≡ valued other schema field.1)
    → option_map (with_values one schema name) (input_fields_in shape) ≡ option_map (with_values other schema name) (input_fields_in shape)
same_form one other schema name (form.Input declared) same = ap (with_pairs name) (same_fields one other schema declared same)
same_form one other schema name form.Scalar same = refl
same_form one other schema name (form.Object parts) same = refl
same_form one other schema name (form.Interface parts) same = refl
same_form one other schema name (form.Union members) same = refl
same_form one other schema name (form.Enum values) same = refl

pub same_values : (one other : Defaults) (schema : Schema)
    → ((place : ℕ) (type : NamedType) (at : ℕ) (field : List ℕ × InputValue) → IsFieldAt schema place type at field → valued one schema field.1 ≡ valued other schema field.1)
    → values_by one schema ≡ values_by other schema
same_values one other schema same =
    same_kept (type_values one schema) (type_values other schema) schema.types
    (λ place type is. same_form one other schema type.0 type.1.form (λ at field here. same place type at field (is, here)))

-- ---- where no type has input fields

no_fields_sum : (a b : ℕ) → a + b ≡ 0 → (a ≡ 0) × (b ≡ 0)
no_fields_sum a b e = (omega (arith, e), omega (arith, e))

no_form : (shape : TypeForm) (line : ℕ) → cond (is_empty shape) (Some line) None ≡ None → form_fields shape ≡ 0 → input_fields_in shape ≡ None
no_form (form.Input []) line filled none = absurd (cc)
no_form (form.Input (f ∷ fields)) line filled none = absurd (omega (arith, none))
no_form form.Scalar line filled none = refl
no_form (form.Object parts) line filled none = refl
no_form (form.Interface parts) line filled none = refl
no_form (form.Union members) line filled none = refl
no_form (form.Enum values) line filled none = refl

no_values : (defaults : Defaults) (schema : Schema) (types : List NamedType) → AllByRecursion (λ t. empty_type t ≡ None) types → field_count types ≡ 0
    → filter_map (type_values defaults schema) types ≡ []
no_values defaults schema [] filled none = refl
no_values defaults schema (t ∷ types) (here, more) none =
    let parts = no_fields_sum (form_fields t.1.form) (field_count types) none in
    ap (λ (o : Option (List (List ℕ × InputValue))). cons_option (option_map (with_values defaults schema t.0) o) (filter_map (type_values defaults schema) types)) (no_form t.1.form t.1.line here parts.0)
    ∙ no_values defaults schema types more parts.1

-- ---- by ranks

all_from : (P : ℕ → Type 0) (xs : List ℕ) → ((b : ℕ) → is_among b xs ≡ true → P b) → AllByRecursion P xs
all_from P [] each = tt
all_from P (x ∷ xs) each =
    (each x (or_left (nat_eq x x) (is_among x xs) (eq-eqb x x refl)), all_from P xs (λ b among. each b (or_right (nat_eq b x) (is_among b xs) among)))

module _ (fall : RanksFall) (decided : WalksAreDecided) (schema : Schema) (settling : IsSettling schema) where
  -- how far a field is from the end of all fillings
  abbrev height : ℕ → ℕ → ℕ
  height place at = rank (graph_of schema) (number_of schema place at)

  plain_at : (place : ℕ) (type : NamedType) → slice_get schema.types place ≡ Some type → IsPlain type
  plain_at place type is = all_at IsPlain schema.types place type settling.plain is

  -- a table of values says what the defaults become
  table_says : (defaults : Defaults) (place : ℕ) (type : NamedType) (at : ℕ) (field : List ℕ × InputValue) → IsFieldAt schema place type at field
      → said (values_by defaults schema) type field ≡ valued defaults schema field.1
  table_says defaults place type at field (type_is, is) =
      ap (λ (o : Option Pairs). default_in o field.0)
      (kept (type_values defaults schema) (λ p q made. type_keeps defaults schema p.0 (input_fields_in p.1.form) q made) schema.types place type settling.types type_is)
      ∙ in_form defaults schema type.0 type.1.form at field (plain_at place type type_is).0 is

  -- it says nothing of fields without defaults
  abbrev SaysNoMore : Defaults → Type 0
  SaysNoMore defaults = (place : ℕ) (type : NamedType) (at : ℕ) (field : List ℕ × InputValue) → IsFieldAt schema place type at field → field.1.default ≡ None → said defaults type field ≡ None

  values_say_no_more : (defaults : Defaults) → SaysNoMore (values_by defaults schema)
  values_say_no_more defaults place type at field is none =
      table_says defaults place type at field is ∙ ap (option_and_then (λ (l : Literal). constant defaults schema l field.1.input_type.type_ref)) none

  -- two tables say the same of the field of a number
  abbrev SaySame : Defaults → Defaults → ℕ → Type 0
  SaySame one other n = (place : ℕ) (type : NamedType) (at : ℕ) (field : List ℕ × InputValue) → IsFieldAt schema place type at field → number_of schema place at ≡ n → said one type field ≡ said other type field

  alike : (one other : Defaults) → SaysNoMore one → SaysNoMore other → AreAlike (SaySame one other) one other schema (first_numbers schema.types)
  alike one other one_none other_none = record {
    alike = λ place type at field is. record {
      own = own_entry (input_fields type.1.form) at field (plain_at place type is.0).0 is.1;
      numbered = λ same. same place type at field is (ap (λ (n : ℕ). n + at) (sym (first_is schema place (slice_get_within schema.types place type is.0))));
      unset = λ none. one_none place type at field is none ∙ sym (other_none place type at field is none);
    };
  }

  -- two tables that say the same of all fields of lower rank
  abbrev SaySameBelow : Defaults → Defaults → ℕ → Type 0
  SaySameBelow one other n =
      (place : ℕ) (type : NamedType) (at : ℕ) (field : List ℕ × InputValue) → IsFieldAt schema place type at field → height place at < n → said one type field ≡ said other type field

  falling : (place : ℕ) (at b : ℕ) → leads (graph_of schema) (number_of schema place at) b ≡ true → b < length (graph_of schema) → rank (graph_of schema) b < height place at
  falling place at b step l = (fall (graph_of schema) (no_circle decided schema settling.circles)).0 (number_of schema place at) b step l

  -- a default becomes the same under tables that say the same of what it has filled in
  valued_same : (one other : Defaults) → SaysNoMore one → SaysNoMore other → (place : ℕ) (type : NamedType) (at : ℕ) (field : List ℕ × InputValue) → IsFieldAt schema place type at field
      → SaySameBelow one other (height place at) → valued one schema field.1 ≡ valued other schema field.1
  valued_same one other one_none other_none place type at field is same =
      let node = node_is schema place type at field is in
      default_steady (SaySame one other) one other schema (first_numbers schema.types) (alike one other one_none other_none) field.1
      (all_at (λ f. is_constant_default f.1.default ≡ true) (input_fields type.1.form) at field (plain_at place type is.0).1 is.1)
      (subst (AllByRecursion (SaySame one other)) node.0
      (all_from (SaySame one other) (successors (graph_of schema) (number_of schema place at))
      (λ b among p t i f there number.
      let next = node_is schema p t i f there in
      let lower = falling place at b among (subst (λ n. n < length (graph_of schema)) number next.1) in
      same p t i f there (subst (λ n. rank (graph_of schema) n < height place at) (sym number) lower))))

  -- ---- the rounds

  rounds_say_no_more : (n : ℕ) → SaysNoMore (rounds n schema)
  rounds_say_no_more zero = λ place type at field is none. refl
  rounds_say_no_more (suc n) = values_say_no_more (rounds n schema)

  -- after as many rounds as its rank and one more, a default keeps its value
  settled : (n : ℕ) (place : ℕ) (type : NamedType) (at : ℕ) (field : List ℕ × InputValue) → IsFieldAt schema place type at field → height place at < suc n
      → valued (rounds n schema) schema field.1 ≡ valued (rounds (suc n) schema) schema field.1
  settled zero place type at field is low =
      valued_same (rounds 0 schema) (rounds 1 schema) (rounds_say_no_more 0) (rounds_say_no_more 1) place type at field is
      (λ p t i f there lower. absurd (omega (arith, low, lower)))
  settled (suc n) place type at field is low =
      valued_same (rounds (suc n) schema) (rounds (suc (suc n)) schema) (rounds_say_no_more (suc n)) (rounds_say_no_more (suc (suc n))) place type at field is
      (λ p t i f there lower.
      table_says (rounds n schema) p t i f there
      ∙ settled n p t i f there (omega (arith, low, lower))
      ∙ sym (table_says (rounds (suc n) schema) p t i f there))

  low_rank : (n : ℕ) → field_count schema.types ≡ n → (place : ℕ) (type : NamedType) (at : ℕ) (field : List ℕ × InputValue) → IsFieldAt schema place type at field → height place at < n
  low_rank n count place type at field is =
      let below = (fall (graph_of schema) (no_circle decided schema settling.circles)).1 (number_of schema place at) (node_is schema place type at field is).1 in
      omega (arith, below, graph_length schema (first_numbers schema.types) schema.types, count)

  by_count : (n : ℕ) → field_count schema.types ≡ n → AreDefaults schema (rounds n schema)
  by_count zero count = sym (no_values [] schema schema.types (no_line empty_type schema.types settling.filled) count)
  by_count (suc n) count =
      same_values (rounds n schema) (rounds (suc n) schema) schema
      (λ place type at field is. settled n place type at field is (low_rank (suc n) count place type at field is))

  -- ---- no other values

  are_one_below : (one other : Defaults) → AreDefaults schema one → AreDefaults schema other → (n : ℕ) → SaySameBelow one other n
  are_one_below one other one_is other_is zero place type at field is low = absurd (omega (arith, low))
  are_one_below one other one_is other_is (suc n) place type at field is low =
      ap (λ (d : Defaults). said d type field) one_is
      ∙ table_says one place type at field is
      ∙ valued_same one other
      (subst SaysNoMore (sym one_is) (values_say_no_more one)) (subst SaysNoMore (sym other_is) (values_say_no_more other)) place type at field is
      (λ p t i f there lower. are_one_below one other one_is other_is n p t i f there (omega (arith, low, lower)))
      ∙ sym (table_says other place type at field is)
      ∙ sym (ap (λ (d : Defaults). said d type field) other_is)

  are_one : (one other : Defaults) → AreDefaults schema one → AreDefaults schema other → one ≡ other
  are_one one other one_is other_is =
      one_is
      ∙ same_values one other schema
      (λ place type at field is.
      sym (table_says one place type at field is)
      ∙ sym (ap (λ (d : Defaults). said d type field) one_is)
      ∙ are_one_below one other one_is other_is (suc (height place at)) place type at field is (omega arith)
      ∙ ap (λ (d : Defaults). said d type field) other_is
      ∙ table_says other place type at field is)
      ∙ sym other_is

pub rounds_settle : RanksFall → WalksAreDecided → RoundsSettle
rounds_settle fall decided schema settling = by_count fall decided schema settling (field_count schema.types) refl

pub defaults_are_one : RanksFall → WalksAreDecided → DefaultsAreOne
defaults_are_one fall decided schema settling one other one_is other_is = are_one fall decided schema settling one other one_is other_is
