-- Literals without variables mean the same under two tables of defaults that agree on what they have filled in.
use Rattle.std.proofs.Common.{◌≡◌, ℕ, Bool, true, false, List, [], ◌∷◌, map, refl, ap, ap₂, sym, ◌∙◌, subst}
use Rattle.std.specs.Prelude.{Option, None, Some, cond}
use Rattle.std.specs.List.{AllByRecursion, list_all}
use Rattle.std.specs.Option.{option_and_then, option_map_or}
use Rattle.std.proofs.lemmas.Bool.{and_parts, false≢true}
use Rattle.gql_model.specs.declared.literal.Literal.{Literal, roll-Literal}
use Rattle.gql_model.specs.declared.literal.LiteralValue.{LiteralValue, roll-LiteralValue}
use Rattle.gql_model.specs.declared.literal.ObjectField.{ObjectField, out-ObjectField}
use Rattle.gql_model.specs.declared.literal.LiteralValue.TheOpen.{Literal-F, LiteralValue-F, ObjectField-F}
use Rattle.gql_model.specs.declared.literal.LiteralValue.TheViews.{out-roll-ObjectField}
use Rattle.gql_model.specs.declared.literal.LiteralValue.TheFolds.{fold-roll-Literal, fold-roll-LiteralValue, fold_out-ObjectField, map-LiteralValue}
use Rattle.gql_model.specs.declared.type_ref.TypeRef.{out-TypeRef}
use Rattle.gql_model.proofs.Literals.{Level, OfParts, literal_induction}
use Rattle.schema_model.specs.declared.schema.Schema.{Schema}
use Rattle.schema_model.specs.declared.schema.InputValue.{InputValue}
use Rattle.schema_rules.specs.TypeRefs.{named_type, is_non_null}
use Rattle.schema_circles.specs.Fillings as fillings
use Rattle.schema_circles.specs.Fillings.{Filling, FieldFilling, literal_fills, value_fills, object_field_fills, list_fills, object_fills, default_fills}
use Rattle.execution_model.specs.Scalars.{Wanted, integer_at, boolean_at, string_at, name_at}
use Rattle.execution_model.specs.declared.given.Given.TheVariants.{Absent, Refused, Is}
use Rattle.execution_model.specs.Values.{null_value}
use Rattle.execution_model.specs.Inputs.{Meaning, MemberMeaning, Defaults, null_at}
use Rattle.execution_model.specs.Literals as meanings
use Rattle.execution_model.specs.Literals.{literal_meaning, value_meaning, object_field_meaning, list_at, object_at}
use Rattle.execution_model.specs.Defaults.{value_given, constant}
use Rattle.default_laws.specs.Constants.{constant_in_value, constant_in_literal, constant_in_field, is_constant, is_constant_value, is_constant_field, is_constant_default}
use Rattle.default_laws.proofs.Rows.{Row, IsSteady, IsSteadyRow, AreAlike, ones, others, filled, named_ones, named_others, named_filled, as_given_there, list_steady, object_steady}

module _ (P : ℕ → Type 0) (one other : Defaults) (schema : Schema) (firsts : List ℕ) (alike : AreAlike P one other schema firsts) where
  -- ---- the claims

  abbrev OfValue : LiteralValue → Type 0
  OfValue v = is_constant_value v ≡ true → IsSteady P (value_meaning one schema [] v) (value_meaning other schema [] v) (value_fills schema firsts v)

  abbrev OfLiteral : Literal → Type 0
  OfLiteral l = is_constant l ≡ true → IsSteady P (literal_meaning one schema [] l) (literal_meaning other schema [] l) (literal_fills schema firsts l)

  abbrev OfField : ObjectField → Type 0
  OfField f = OfLiteral (out-ObjectField f).value

  -- ---- parts as rows

  abbrev item_row : Literal → Row
  item_row l = record { name = []; one = literal_meaning one schema [] l; other = literal_meaning other schema [] l; fills = literal_fills schema firsts l }

  abbrev field_row : ObjectField → Row
  field_row f = record {
    name = (out-ObjectField f).name.text;
    one = literal_meaning one schema [] (out-ObjectField f).value;
    other = literal_meaning other schema [] (out-ObjectField f).value;
    fills = literal_fills schema firsts (out-ObjectField f).value;
  }

  abbrev item_rows : List Literal → List Row
  item_rows ls = map item_row ls

  abbrev field_rows : List ObjectField → List Row
  field_rows fs = map field_row fs

  items_steady : (ls : List Literal) → AllByRecursion OfLiteral ls → list_all (λ c. c) (map is_constant ls) ≡ true → AllByRecursion (IsSteadyRow P) (item_rows ls)
  items_steady [] claims constants = tt
  items_steady (l ∷ ls) (claim, claims) constants =
      let parts = and_parts (is_constant l) (list_all (λ c. c) (map is_constant ls)) constants in
      (claim parts.0, items_steady ls claims parts.1)

  field_constant : (f : ObjectField) → is_constant_field f ≡ is_constant (out-ObjectField f).value
  field_constant f = fold_out-ObjectField Bool Bool Bool constant_in_value constant_in_literal constant_in_field f

  fields_steady : (fs : List ObjectField) → AllByRecursion OfField fs → list_all (λ c. c) (map is_constant_field fs) ≡ true → AllByRecursion (IsSteadyRow P) (field_rows fs)
  fields_steady [] claims constants = tt
  fields_steady (f ∷ fs) (claim, claims) constants =
      let parts = and_parts (is_constant_field f) (list_all (λ c. c) (map is_constant_field fs)) constants in
      (claim (sym (field_constant f) ∙ parts.0), fields_steady fs claims parts.1)

  items_one : (ls : List Literal) → map (literal_meaning one schema []) ls ≡ ones (item_rows ls)
  items_one [] = refl
  items_one (l ∷ ls) = ap (λ (ms : List Meaning). literal_meaning one schema [] l ∷ ms) (items_one ls)

  items_other : (ls : List Literal) → map (literal_meaning other schema []) ls ≡ others (item_rows ls)
  items_other [] = refl
  items_other (l ∷ ls) = ap (λ (ms : List Meaning). literal_meaning other schema [] l ∷ ms) (items_other ls)

  items_filled : (ls : List Literal) → map (literal_fills schema firsts) ls ≡ filled (item_rows ls)
  items_filled [] = refl
  items_filled (l ∷ ls) = ap (λ (ms : List Filling). literal_fills schema firsts l ∷ ms) (items_filled ls)

  meaning_of_field : (defaults : Defaults) (f : ObjectField) → object_field_meaning defaults schema [] f ≡ ((out-ObjectField f).name.text, literal_meaning defaults schema [] (out-ObjectField f).value)
  meaning_of_field defaults f = fold_out-ObjectField Meaning Meaning MemberMeaning (meanings.value_step defaults schema []) meanings.literal_step meanings.field_step f

  fields_one : (fs : List ObjectField) → map (object_field_meaning one schema []) fs ≡ named_ones (field_rows fs)
  fields_one [] = refl
  fields_one (f ∷ fs) = ap₂ (λ (m : MemberMeaning) (ms : List MemberMeaning). m ∷ ms) (meaning_of_field one f) (fields_one fs)

  fields_other : (fs : List ObjectField) → map (object_field_meaning other schema []) fs ≡ named_others (field_rows fs)
  fields_other [] = refl
  fields_other (f ∷ fs) = ap₂ (λ (m : MemberMeaning) (ms : List MemberMeaning). m ∷ ms) (meaning_of_field other f) (fields_other fs)

  fields_filled : (fs : List ObjectField) → map (object_field_fills schema firsts) fs ≡ named_filled (field_rows fs)
  fields_filled [] = refl
  fields_filled (f ∷ fs) =
      ap₂ (λ (m : FieldFilling) (ms : List FieldFilling). m ∷ ms)
      (fold_out-ObjectField Filling Filling FieldFilling (fillings.value_step schema firsts) fillings.literal_step fillings.field_step f) (fields_filled fs)

  -- ---- one level of a value

  null_there : (wanted : Wanted) → null_at wanted ≡ Absent → ⊥
  null_there None e = absurd (cc)
  null_there (Some type) e = by_case (is_non_null type) e
    where
      by_case : (b : Bool) → cond b Refused (Is null_value) ≡ Absent → ⊥
      by_case true e = absurd (cc)
      by_case false e = absurd (cc)

  list_level : (ms ns : List Meaning) (gs : List Filling) (rows : List Row) → ms ≡ ones rows → ns ≡ others rows → gs ≡ filled rows → AllByRecursion (IsSteadyRow P) rows
      → IsSteady P (list_at schema ms) (list_at schema ns) (λ type. list_fills gs (out-TypeRef type))
  list_level ms ns gs rows first second third steady = rw (first, second, third) (list_steady P schema rows steady)

  object_level : (ms ns : List MemberMeaning) (gs : List FieldFilling) (rows : List Row) → ms ≡ named_ones rows → ns ≡ named_others rows → gs ≡ named_filled rows → AllByRecursion (IsSteadyRow P) rows
      → IsSteady P (object_at one schema ms) (object_at other schema ns) (λ type. object_fills schema firsts gs (named_type type))
  object_level ms ns gs rows first second third steady = rw (first, second, third) (object_steady P one other schema firsts rows alike steady)

  abbrev one_level : Level → Meaning
  one_level x = meanings.value_step one schema [] (map-LiteralValue LiteralValue Literal ObjectField Meaning Meaning MemberMeaning (value_meaning one schema []) (literal_meaning one schema []) (object_field_meaning one schema []) x)

  abbrev other_level : Level → Meaning
  other_level x = meanings.value_step other schema [] (map-LiteralValue LiteralValue Literal ObjectField Meaning Meaning MemberMeaning (value_meaning other schema []) (literal_meaning other schema []) (object_field_meaning other schema []) x)

  abbrev fills_level : Level → Filling
  fills_level x = fillings.value_step schema firsts (map-LiteralValue LiteralValue Literal ObjectField Filling Filling FieldFilling (value_fills schema firsts) (literal_fills schema firsts) (object_field_fills schema firsts) x)

  abbrev constant_level : Level → Bool
  constant_level x = constant_in_value (map-LiteralValue LiteralValue Literal ObjectField Bool Bool Bool is_constant_value is_constant is_constant_field x)

  level_steady : (x : Level) → OfParts OfLiteral OfField x → constant_level x ≡ true → IsSteady P (one_level x) (other_level x) (fills_level x)
  level_steady (LiteralValue-F.Variable name) parts constants = absurd (false≢true constants)
  level_steady (LiteralValue-F.Integer text number) parts constants = record { free = refl; typed = λ type all. refl; there = λ wanted e. as_given_there (integer_at schema number wanted) e }
  level_steady (LiteralValue-F.String text) parts constants = record { free = refl; typed = λ type all. refl; there = λ wanted e. as_given_there (string_at schema text wanted) e }
  level_steady (LiteralValue-F.Boolean b) parts constants = record { free = refl; typed = λ type all. refl; there = λ wanted e. as_given_there (boolean_at schema b wanted) e }
  level_steady LiteralValue-F.Null parts constants = record { free = refl; typed = λ type all. refl; there = λ wanted e. null_there wanted e }
  level_steady (LiteralValue-F.Enum word) parts constants = record { free = refl; typed = λ type all. refl; there = λ wanted e. as_given_there (name_at schema word wanted) e }
  level_steady (LiteralValue-F.List items) parts constants =
      let s = list_level (map (literal_meaning one schema []) items) (map (literal_meaning other schema []) items) (map (literal_fills schema firsts) items) (item_rows items)
      (items_one items) (items_other items) (items_filled items) (items_steady items parts constants) in
      record { free = s.free; typed = λ type all. s.typed type all; there = λ wanted e. s.there wanted e }
  level_steady (LiteralValue-F.Object fields) parts constants =
      let s = object_level (map (object_field_meaning one schema []) fields) (map (object_field_meaning other schema []) fields) (map (object_field_fills schema firsts) fields) (field_rows fields)
      (fields_one fields) (fields_other fields) (fields_filled fields) (fields_steady fields parts constants) in
      record { free = s.free; typed = λ type all. s.typed type all; there = λ wanted e. s.there wanted e }

  steady_by : (m m' n n' : Meaning) (g h : Filling) → m ≡ n → m' ≡ n' → g ≡ h → IsSteady P n n' h → IsSteady P m m' g
  steady_by m m' n n' g h first second third steady = rw (first, second, third) steady

  value_steady : (x : Level) → OfParts OfLiteral OfField x → OfValue (roll-LiteralValue x)
  value_steady x parts constants =
      steady_by _ _ (one_level x) (other_level x) _ (fills_level x)
      (fold-roll-LiteralValue Meaning Meaning MemberMeaning (meanings.value_step one schema []) meanings.literal_step meanings.field_step x)
      (fold-roll-LiteralValue Meaning Meaning MemberMeaning (meanings.value_step other schema []) meanings.literal_step meanings.field_step x)
      (fold-roll-LiteralValue Filling Filling FieldFilling (fillings.value_step schema firsts) fillings.literal_step fillings.field_step x)
      (level_steady x parts (sym (fold-roll-LiteralValue Bool Bool Bool constant_in_value constant_in_literal constant_in_field x) ∙ constants))

  literal_as_value : (x : Literal-F LiteralValue Literal ObjectField) → OfValue x.value → OfLiteral (roll-Literal x)
  literal_as_value x claim constants =
      steady_by _ _ (value_meaning one schema [] x.value) (value_meaning other schema [] x.value) _ (value_fills schema firsts x.value)
      (fold-roll-Literal Meaning Meaning MemberMeaning (meanings.value_step one schema []) meanings.literal_step meanings.field_step x)
      (fold-roll-Literal Meaning Meaning MemberMeaning (meanings.value_step other schema []) meanings.literal_step meanings.field_step x)
      (fold-roll-Literal Filling Filling FieldFilling (fillings.value_step schema firsts) fillings.literal_step fillings.field_step x)
      (claim (sym (fold-roll-Literal Bool Bool Bool constant_in_value constant_in_literal constant_in_field x) ∙ constants))

  -- ---- all levels

  pub literal_steady : (l : Literal) → OfLiteral l
  literal_steady = literal_induction OfValue OfLiteral OfField value_steady literal_as_value
      (λ x claim. subst (λ (z : ObjectField-F LiteralValue Literal ObjectField). OfLiteral z.value) (sym (out-roll-ObjectField x)) claim)

  constant_steady : (input : InputValue) (default : Option Literal) → is_constant_default default ≡ true
      → AllByRecursion P (option_map_or (λ l. literal_fills schema firsts l input.input_type.type_ref) default [])
      → option_and_then (λ literal. constant one schema literal input.input_type.type_ref) default ≡ option_and_then (λ literal. constant other schema literal input.input_type.type_ref) default
  constant_steady input None constants all = refl
  constant_steady input (Some literal) constants all = ap value_given ((literal_steady literal constants).typed input.input_type.type_ref all)

  -- the default of a field has the same value
  pub default_steady : (input : InputValue) → is_constant_default input.default ≡ true → AllByRecursion P (default_fills schema firsts input)
      → option_and_then (λ literal. constant one schema literal input.input_type.type_ref) input.default
      ≡ option_and_then (λ literal. constant other schema literal input.input_type.type_ref) input.default
  default_steady input constants all = constant_steady input input.default constants all
