-- The rules ask a schema's types only by name, so schemas with the same parts break the same rules.
use Rattle.std.proofs.Common.{◌≡◌, ℕ, Bool, true, false, cond, not, ◌&&◌, ◌||◌, List, refl, sym, ap, ◌∙◌, Option, Some, None, is_some, option_and_then, bytes_eq}
use mathlib.Core.Path.{fun_ext}
use Rattle.std.specs.List.{list_any, list_all}
use Rattle.std.specs.Option.{option_map_or}
use Rattle.gql_model.specs.declared.type_ref.TypeRef.{TypeRef, out-TypeRef, fold-TypeRef}
use Rattle.gql_model.specs.declared.type_ref.TypeRef.TheOpen.{TypeRef-F}
use Rattle.gql_model.specs.declared.literal.Literal.{Literal}
use Rattle.gql_model.specs.declared.literal.LiteralValue.TheOpen.{LiteralValue-F}
use Rattle.gql_model.specs.declared.literal.LiteralValue.TheFolds.{fold-Literal}
use Rattle.schema_model.specs.declared.schema.Schema.{Schema}
use Rattle.schema_model.specs.declared.schema.SchemaType.{SchemaType}
use Rattle.schema_model.specs.declared.schema.SchemaField.{SchemaField}
use Rattle.schema_model.specs.declared.schema.SchemaDirective.{SchemaDirective}
use Rattle.schema_model.specs.declared.schema.InputValue.{InputValue}
use Rattle.schema_model.specs.declared.schema.Interfaced.{Interfaced}
use Rattle.schema_model.specs.declared.schema.RootName.{RootName}
use Rattle.schema_model.specs.declared.schema.RootNames.{RootNames}
use Rattle.schema_model.specs.declared.schema.TypeForm.{TypeForm}
use Rattle.schema_model.specs.declared.schema.TypeForm.TheVariants as form
use Rattle.schema_model.specs.Schemas.{NamedType, has_value}
use Rattle.schema_model.specs.Tables.{entry}
use Rattle.schema_model.specs.Possible.{implements, has_member, is_object}
use Rattle.schema_rules.specs.Lines.{Mark, earlier, least_by}
use Rattle.schema_rules.specs.TypeRefs.{named_type}
use Rattle.schema_rules.specs.Uses.{Judgement, at_named, at_directive, least_use}
use Rattle.schema_rules.specs.Unknown.{unknown, unknown_type, unknown_locations, unknown_roots, unknown_line}
use Rattle.schema_rules.specs.Misplaced.{suits, misplaced_type, misplaced_line}
use Rattle.schema_rules.specs.Subtypes.{is_named_subtype, may_be, sub_named, sub_step, is_subtype}
use Rattle.schema_rules.specs.Unsatisfied.{has_argument, may_have_argument, does_for, has_interface, has_all, has_all_of, satisfies, unsatisfied_form, unsatisfied_in, unsatisfied_line}
use Rattle.schema_rules.specs.Roots.{no_query, not_object, doubled_roots, root_line}
use Rattle.schema_defaults.specs.Empty.{empty_type, empty_line}
use Rattle.schema_defaults.specs.Doubled.{is_doubled}
use Rattle.schema_defaults.specs.Fits.{is_custom, scalar_takes_integer, scalar_takes_string, scalar_takes_boolean, is_scalar, names_scalar, takes_any, list_fits, form_takes_object, Fit, FieldFit, literal_step, value_step, field_step, literal_fits}
use Rattle.schema_defaults.specs.Defaults.{unfit_input, unfit_inputs, unfit_form, unfit_line}
use Rattle.schema_order.proofs.FaultLaws.{some_earlier, some_least}

-- two schemas find the same by name, have the same roots, and where a part of one passes a test a part of the other does
pub record SameParts (a b : Schema) : Type 0 where
  pub found : (name : List ℕ) → entry a.types name ≡ entry b.types name
  pub roots : a.roots ≡ b.roots
  pub types : (p : NamedType → Bool) → list_any p a.types ≡ list_any p b.types
  pub directives : (p : List ℕ × SchemaDirective → Bool) → list_any p a.directives ≡ list_any p b.directives

-- one of two lines is there in both
pub either_same : (a b c d : Option ℕ) → is_some a ≡ is_some c → is_some b ≡ is_some d → is_some (earlier a b) ≡ is_some (earlier c d)
either_same a b c d x y = some_earlier a b ∙ ap (λ t. t || is_some b) x ∙ ap (λ t. is_some c || t) y ∙ sym (some_earlier c d)

module _ (a b : Schema) (s : SameParts a b) where
  -- ---- a line for each type or directive

  least_type : (line other : NamedType → Option ℕ) → line ≡ other → is_some (least_by line a.types) ≡ is_some (least_by other b.types)
  least_type line other same =
      some_least line a.types
      ∙ s.types (λ t. is_some (line t))
      ∙ sym (some_least line b.types)
      ∙ ap (λ (l : NamedType → Option ℕ). is_some (least_by l b.types)) same

  least_directive : (line other : List ℕ × SchemaDirective → Option ℕ) → line ≡ other → is_some (least_by line a.directives) ≡ is_some (least_by other b.directives)
  least_directive line other same =
      some_least line a.directives
      ∙ s.directives (λ d. is_some (line d))
      ∙ sym (some_least line b.directives)
      ∙ ap (λ (l : List ℕ × SchemaDirective → Option ℕ). is_some (least_by l b.directives)) same

  some_use : (judged other : Judgement) → judged ≡ other → is_some (least_use judged a) ≡ is_some (least_use other b)
  some_use judged other same =
      either_same _ _ _ _
      (least_type (at_named judged) (at_named other) (ap at_named same))
      (least_directive (at_directive judged) (at_directive other) (ap at_directive same))

  -- ---- unknown types

  unknown_same : unknown a ≡ unknown b
  unknown_same = fun_ext (λ name. fun_ext (λ line. ap (λ (o : Option SchemaType). cond (is_some o) None (Some line)) (s.found name)))

  unknown_type_same : unknown_type a ≡ unknown_type b
  unknown_type_same = fun_ext (λ role. fun_ext (λ name. fun_ext (λ line. ap (λ (o : Option SchemaType). cond (is_some o) None (Some line)) (s.found name))))

  abbrev roots_by : (List ℕ → ℕ → Option ℕ) → RootNames → Option ℕ
  roots_by test roots =
      earlier (option_and_then (λ r. test r.text r.line) roots.query)
      (earlier (option_and_then (λ r. test r.text r.line) roots.mutation) (option_and_then (λ r. test r.text r.line) roots.subscription))

  unknown_roots_same : unknown_roots a ≡ unknown_roots b
  unknown_roots_same = ap (λ (t : List ℕ → ℕ → Option ℕ). roots_by t a.roots) unknown_same ∙ ap (roots_by (unknown b)) s.roots

  pub some_unknown : is_some (unknown_line a) ≡ is_some (unknown_line b)
  some_unknown =
      either_same _ _ _ _
      (some_use (unknown_type a) (unknown_type b) unknown_type_same)
      (either_same _ _ _ _ (least_directive unknown_locations unknown_locations refl) (ap is_some unknown_roots_same))

  -- ---- types of the wrong kind

  misplaced_same : misplaced_type a ≡ misplaced_type b
  misplaced_same =
      fun_ext (λ role. fun_ext (λ name. fun_ext (λ line.
      ap (λ (o : Option SchemaType). option_and_then (λ t. cond (suits role t.form) None (Some line)) o) (s.found name))))

  pub some_misplaced : is_some (misplaced_line a) ≡ is_some (misplaced_line b)
  some_misplaced = some_use (misplaced_type a) (misplaced_type b) misplaced_same

  -- ---- interfaces

  subtype_name_same : is_named_subtype a ≡ is_named_subtype b
  subtype_name_same =
      fun_ext (λ x. fun_ext (λ y.
      ap (λ (o : Option SchemaType). bytes_eq x y || option_map_or (λ t. implements t.form y) o false || option_map_or (λ t. has_member t.form x) (entry a.types y) false) (s.found x)
      ∙ ap (λ (o : Option SchemaType). bytes_eq x y || option_map_or (λ t. implements t.form y) (entry b.types x) false || option_map_or (λ t. has_member t.form x) o false) (s.found y)))

  sub_named_same : (name : List ℕ) (required : Bool) (other : TypeRef-F TypeRef) → sub_named a name required other ≡ sub_named b name required other
  sub_named_same name required (TypeRef-F.Named other_name other) =
      ap (λ (test : List ℕ → List ℕ → Bool). may_be required other && test name other_name) subtype_name_same
  sub_named_same name required (TypeRef-F.List inner other) = refl

  sub_step_same : (t : TypeRef-F (TypeRef → Bool)) → sub_step a t ≡ sub_step b t
  sub_step_same (TypeRef-F.Named name required) = fun_ext (λ other. sub_named_same name required (out-TypeRef other))
  sub_step_same (TypeRef-F.List fits required) = refl

  subtype_same : is_subtype a ≡ is_subtype b
  subtype_same = ap (λ (step : TypeRef-F (TypeRef → Bool) → TypeRef → Bool). fold-TypeRef (TypeRef → Bool) step) (fun_ext sub_step_same)

  does_same : does_for a ≡ does_for b
  does_same = ap does_by subtype_same
    where
      does_by : (TypeRef → TypeRef → Bool) → SchemaField → SchemaField → Bool
      does_by sub wanted field =
          sub field.field_type.type_ref wanted.field_type.type_ref
          && list_all (has_argument field) wanted.arguments
          && list_all (may_have_argument wanted) field.arguments

  has_all_same : has_all a ≡ has_all b
  has_all_same = ap has_by does_same
    where
      has_by : (SchemaField → SchemaField → Bool) → Interfaced → Interfaced → Bool
      has_by does parts wanted =
          list_all (λ (w : List ℕ × SchemaField). option_map_or (does w.1) (entry parts.fields w.0) false) wanted.fields
          && list_all (has_interface parts) wanted.interfaces

  has_all_of_same : (parts : Interfaced) (t : TypeForm) → has_all_of a parts t ≡ has_all_of b parts t
  has_all_of_same parts (form.Interface wanted) = ap (λ (has : Interfaced → Interfaced → Bool). has parts wanted) has_all_same
  has_all_of_same parts _ = refl

  satisfies_same : (own : List ℕ) (parts : Interfaced) (name : List ℕ) → satisfies a own parts name ≡ satisfies b own parts name
  satisfies_same own parts name =
      ap (λ (has : TypeForm → Bool). not (bytes_eq own name) && option_map_or (λ t. has t.form) (entry a.types name) true) (fun_ext (has_all_of_same parts))
      ∙ ap (λ (o : Option SchemaType). not (bytes_eq own name) && option_map_or (λ t. has_all_of b parts t.form) o true) (s.found name)

  abbrev interfaces_by : Interfaced → (List ℕ → Bool) → Option ℕ
  interfaces_by parts test = least_by (λ (m : Mark). cond (test m.0) None (Some m.1)) parts.interfaces

  unsatisfied_same : (own : List ℕ) (t : TypeForm) → unsatisfied_form a own t ≡ unsatisfied_form b own t
  unsatisfied_same own (form.Object parts) = ap (interfaces_by parts) (fun_ext (satisfies_same own parts))
  unsatisfied_same own (form.Interface parts) = ap (interfaces_by parts) (fun_ext (satisfies_same own parts))
  unsatisfied_same own _ = refl

  pub some_unsatisfied : is_some (unsatisfied_line a) ≡ is_some (unsatisfied_line b)
  some_unsatisfied = least_type (unsatisfied_in a) (unsatisfied_in b) (fun_ext (λ t. unsatisfied_same t.0 t.1.form))

  -- ---- roots

  abbrev root_by : (RootName → Option ℕ) → RootNames → Option ℕ
  root_by test roots =
      earlier (no_query roots)
      (earlier
      (earlier (option_and_then test roots.query) (earlier (option_and_then test roots.mutation) (option_and_then test roots.subscription)))
      (doubled_roots roots))

  not_object_same : not_object a ≡ not_object b
  not_object_same =
      fun_ext (λ root. ap (λ (o : Option SchemaType). cond (option_map_or (λ t. is_object t.form) o false) None (Some root.line)) (s.found root.text))

  pub some_root : is_some (root_line a) ≡ is_some (root_line b)
  some_root = ap is_some (ap (λ (t : RootName → Option ℕ). root_by t a.roots) not_object_same ∙ ap (root_by (not_object b)) s.roots)

  -- ---- types without parts

  pub some_empty : is_some (empty_line a) ≡ is_some (empty_line b)
  some_empty = least_type empty_type empty_type refl

  -- ---- defaults

  scalar_same : names_scalar a ≡ names_scalar b
  scalar_same = fun_ext (λ name. ap (λ (o : Option SchemaType). option_map_or (λ t. is_scalar t.form) o false) (s.found name))

  any_same : takes_any a ≡ takes_any b
  any_same = ap any_by scalar_same
    where
      any_by : (List ℕ → Bool) → List ℕ → Bool
      any_by test name = test name && is_custom name

  -- a type by name, or a custom scalar
  or_any_same : (test : SchemaType → Bool) (name : List ℕ)
      → (option_map_or test (entry a.types name) false || takes_any a name) ≡ (option_map_or test (entry b.types name) false || takes_any b name)
  or_any_same test name =
      ap (λ (o : Option SchemaType). option_map_or test o false || takes_any a name) (s.found name)
      ∙ ap (λ (any : List ℕ → Bool). option_map_or test (entry b.types name) false || any name) any_same

  list_same : (items : List Fit) (t : TypeRef-F TypeRef) → list_fits a items t ≡ list_fits b items t
  list_same items (TypeRef-F.Named name required) = ap (λ (any : List ℕ → Bool). any name) any_same
  list_same items (TypeRef-F.List inner required) = refl

  value_same : (v : LiteralValue-F Fit Fit FieldFit) → value_step a v ≡ value_step b v
  value_same (LiteralValue-F.Variable name) = refl
  value_same (LiteralValue-F.Integer text number) =
      fun_ext (λ t. ap (λ (test : List ℕ → Bool). test (named_type t) && scalar_takes_integer (named_type t) number) scalar_same)
  value_same (LiteralValue-F.String text) =
      fun_ext (λ t. ap (λ (test : List ℕ → Bool). test (named_type t) && scalar_takes_string (named_type t)) scalar_same)
  value_same (LiteralValue-F.Boolean v) =
      fun_ext (λ t. ap (λ (test : List ℕ → Bool). test (named_type t) && scalar_takes_boolean (named_type t)) scalar_same)
  value_same LiteralValue-F.Null = refl
  value_same (LiteralValue-F.Enum word) = fun_ext (λ t. or_any_same (λ found. has_value found.form word) (named_type t))
  value_same (LiteralValue-F.List items) = fun_ext (λ t. list_same items (out-TypeRef t))
  value_same (LiteralValue-F.Object fields) = fun_ext (λ t. or_any_same (λ found. form_takes_object found.form fields) (named_type t))

  fits_same : literal_fits a ≡ literal_fits b
  fits_same =
      ap (λ (step : LiteralValue-F Fit Fit FieldFit → Fit). fold-Literal Fit Fit FieldFit step literal_step field_step) (fun_ext value_same)

  unfit_input_same : unfit_input a ≡ unfit_input b
  unfit_input_same = ap unfit_by fits_same
    where
      unfit_by : (Literal → TypeRef → Bool) → InputValue → Option ℕ
      unfit_by fits input =
          option_and_then (λ l. cond (fits l input.input_type.type_ref && not (is_doubled l)) None (Some input.line)) input.default

  abbrev inputs_by : (InputValue → Option ℕ) → List (List ℕ × InputValue) → Option ℕ
  inputs_by test inputs = least_by (λ i. test i.1) inputs

  unfit_inputs_same : unfit_inputs a ≡ unfit_inputs b
  unfit_inputs_same = ap inputs_by unfit_input_same

  abbrev fields_by : List (List ℕ × SchemaField) → (List (List ℕ × InputValue) → Option ℕ) → Option ℕ
  fields_by fields test = least_by (λ f. test f.1.arguments) fields

  unfit_form_same : (t : TypeForm) → unfit_form a t ≡ unfit_form b t
  unfit_form_same (form.Object parts) = ap (fields_by parts.fields) unfit_inputs_same
  unfit_form_same (form.Interface parts) = ap (fields_by parts.fields) unfit_inputs_same
  unfit_form_same (form.Input fields) = ap (λ (test : List (List ℕ × InputValue) → Option ℕ). test fields) unfit_inputs_same
  unfit_form_same _ = refl

  pub some_unfit : is_some (unfit_line a) ≡ is_some (unfit_line b)
  some_unfit =
      either_same _ _ _ _
      (least_type _ _ (fun_ext (λ t. unfit_form_same t.1.form)))
      (least_directive _ _ (fun_ext (λ d. ap (λ (test : List (List ℕ × InputValue) → Option ℕ). test d.1.arguments) unfit_inputs_same)))
