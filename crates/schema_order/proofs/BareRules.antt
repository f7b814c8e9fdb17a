-- The rules break in a blank schema exactly where they break in the schema.
use Rattle.std.proofs.Common.{◌≡◌, ℕ, ◌+◌, Bool, true, false, cond, not, ◌&&◌, ◌||◌, ◌==◌, List, [], ◌∷◌, ◌++◌, map, length, get_or, take, slice_get, refl, sym, ap, ap₂, ◌∙◌, Option, Some, None, is_some, option_map, option_and_then, option_to_list, bytes_eq, length-append}
use mathlib.Core.Path.{fun_ext}
use Rattle.std.specs.List.{list_all, flat_map, range_with_len}
use Rattle.std.specs.Option.{option_map_or}
use Rattle.gql_model.specs.declared.name.Name.{Name}
use Rattle.gql_model.specs.declared.type_ref.TypeRef.{TypeRef, out-TypeRef, fold-TypeRef}
use Rattle.gql_model.specs.declared.type_ref.TypeRef.TheOpen.{TypeRef-F}
use Rattle.gql_model.specs.declared.literal.Literal.{Literal}
use Rattle.gql_model.specs.declared.literal.LiteralValue.TheOpen.{LiteralValue-F}
use Rattle.gql_model.specs.declared.literal.LiteralValue.TheFolds.{fold-Literal}
use Rattle.schema_model.specs.declared.schema.Schema.{Schema}
use Rattle.schema_model.specs.declared.schema.SchemaType.{SchemaType}
use Rattle.schema_model.specs.declared.schema.SchemaField.{SchemaField}
use Rattle.schema_model.specs.declared.schema.SchemaDirective.{SchemaDirective}
use Rattle.schema_model.specs.declared.schema.InputValue.{InputValue}
use Rattle.schema_model.specs.declared.schema.Interfaced.{Interfaced}
use Rattle.schema_model.specs.declared.schema.RootName.{RootName}
use Rattle.schema_model.specs.declared.schema.TypeForm.{TypeForm}
use Rattle.schema_model.specs.declared.schema.TypeForm.TheVariants as form
use Rattle.schema_model.specs.Schemas.{NamedType, has_value}
use Rattle.schema_model.specs.Tables.{entry}
use Rattle.schema_model.specs.Possible.{implements, has_member, is_object}
use Rattle.schema_rules.specs.Lines.{Mark, least_by}
use Rattle.schema_rules.specs.TypeRefs.{named_type, is_non_null}
use Rattle.schema_rules.specs.Uses.{at_input, at_field, at_parts, at_form, at_named, at_directive, least_use}
use Rattle.schema_rules.specs.Unknown.{unknown, unknown_type, is_location, unknown_location, unknown_locations, unknown_root, unknown_line}
use Rattle.schema_rules.specs.Misplaced.{is_output, is_input, is_interface, misplaced_type, misplaced_line}
use Rattle.schema_rules.specs.Subtypes.{is_named_subtype, may_be, sub_named, sub_step, is_subtype, is_same_type}
use Rattle.schema_rules.specs.Unsatisfied.{is_required, has_argument, may_have_argument, does_for, has_field, has_interface, has_all, has_all_of, satisfies, unsatisfied, unsatisfied_parts, unsatisfied_form, unsatisfied_in, unsatisfied_line}
use Rattle.schema_rules.specs.Roots.{not_object, root_fault, two_roots, root_line}
use Rattle.schema_defaults.specs.Repetitions.{meets}
use Rattle.schema_defaults.specs.Empty.{is_empty, empty_type, empty_line}
use Rattle.schema_defaults.specs.Doubled as doubled
use Rattle.schema_defaults.specs.Doubled.{is_doubled, FieldDoubled}
use Rattle.schema_defaults.specs.Fits.{is_custom, scalar_takes_integer, scalar_takes_string, scalar_takes_boolean, is_scalar, names_scalar, takes_any, list_fits, field_fits, given_names, is_given, fields_fit, form_takes_object, Fit, FieldFit, literal_step, value_step, field_step, literal_fits}
use Rattle.schema_defaults.specs.Defaults.{is_valid, unfit_input, unfit_inputs, unfit_fields, unfit_form, unfit_line}
use Rattle.schema_circles.specs.Needs.{needed_type, needed_by, needs, needs_graph, needs_itself_line}
use Rattle.schema_circles.specs.Fillings as fillings
use Rattle.schema_circles.specs.Fillings.{input_fields, lines_in, field_lines, first_number, first_numbers, Filling, FieldFilling, takes_default, left_out, field_fills, form_fills, place_fills, object_fills, list_fills, literal_fills, default_fills, fields_fill, filling_graph, fills_itself_line}
use Rattle.digraph.specs.Walks.{Graph, has_circle}
use Rattle.gql_printing.specs.Places.{bare_name, bare_literal}
use Rattle.schema_order.proofs.RuleLaws.{either_same}
use Rattle.schema_order.proofs.NeedsLaws.{some_needs}
use Rattle.schema_order.proofs.FillsLaws.{some_fills}
use Rattle.schema_order.proofs.BareLiterals.{fold_bare}
use Rattle.schema_order.proofs.BareTables.{over, mapped, map_length, place_mapped, entry_mapped, some_map, none_map, map_or_map, slice_map, take_map, all_map, least_map, blank_line, blank_input, blank_field, blank_parts, blank_form, blank_type, blank_directive, blank_root, blank}

-- ---- faults

fault_case : (b : Bool) (l m : ℕ) → is_some (cond b None (Some l)) ≡ is_some (cond b None (Some m))
fault_case true l m = refl
fault_case false l m = refl

fault_same : (b c : Bool) (l m : ℕ) → b ≡ c → is_some (cond b None (Some l)) ≡ is_some (cond c None (Some m))
fault_same b c l m e = ap (λ d. is_some (cond d None (Some l))) e ∙ fault_case c l m

then_same : {X Y : Type 0} (f : X → Y) (g : Y → Option ℕ) (h : X → Option ℕ) → ((x : X) → is_some (g (f x)) ≡ is_some (h x))
    → (o : Option X) → is_some (option_and_then g (option_map f o)) ≡ is_some (option_and_then h o)
then_same f g h each None = refl
then_same f g h each (Some x) = each x

-- ---- forms

object_same : (t : TypeForm) → is_object (blank_form t) ≡ is_object t
object_same form.Scalar = refl
object_same (form.Object parts) = refl
object_same (form.Interface parts) = refl
object_same (form.Union members) = refl
object_same (form.Enum values) = refl
object_same (form.Input fields) = refl

scalar_form_same : (t : TypeForm) → is_scalar (blank_form t) ≡ is_scalar t
scalar_form_same form.Scalar = refl
scalar_form_same (form.Object parts) = refl
scalar_form_same (form.Interface parts) = refl
scalar_form_same (form.Union members) = refl
scalar_form_same (form.Enum values) = refl
scalar_form_same (form.Input fields) = refl

output_same : (t : TypeForm) → is_output (blank_form t) ≡ is_output t
output_same form.Scalar = refl
output_same (form.Object parts) = refl
output_same (form.Interface parts) = refl
output_same (form.Union members) = refl
output_same (form.Enum values) = refl
output_same (form.Input fields) = refl

input_form_same : (t : TypeForm) → is_input (blank_form t) ≡ is_input t
input_form_same form.Scalar = refl
input_form_same (form.Object parts) = refl
input_form_same (form.Interface parts) = refl
input_form_same (form.Union members) = refl
input_form_same (form.Enum values) = refl
input_form_same (form.Input fields) = refl

interface_form_same : (t : TypeForm) → is_interface (blank_form t) ≡ is_interface t
interface_form_same form.Scalar = refl
interface_form_same (form.Object parts) = refl
interface_form_same (form.Interface parts) = refl
interface_form_same (form.Union members) = refl
interface_form_same (form.Enum values) = refl
interface_form_same (form.Input fields) = refl

found_same : {X Y : Type 0} (f : X → Y) (name : List ℕ) (ps : List (List ℕ × X)) → is_some (entry (mapped f ps) name) ≡ is_some (entry ps name)
found_same f name ps = ap is_some (entry_mapped f name ps) ∙ some_map f (entry ps name)

implements_same : (t : TypeForm) (name : List ℕ) → implements (blank_form t) name ≡ implements t name
implements_same form.Scalar name = refl
implements_same (form.Object parts) name = found_same blank_line name parts.interfaces
implements_same (form.Interface parts) name = found_same blank_line name parts.interfaces
implements_same (form.Union members) name = refl
implements_same (form.Enum values) name = refl
implements_same (form.Input fields) name = refl

member_same : (t : TypeForm) (name : List ℕ) → has_member (blank_form t) name ≡ has_member t name
member_same form.Scalar name = refl
member_same (form.Object parts) name = refl
member_same (form.Interface parts) name = refl
member_same (form.Union members) name = found_same blank_line name members
member_same (form.Enum values) name = refl
member_same (form.Input fields) name = refl

value_form_same : (t : TypeForm) (name : List ℕ) → has_value (blank_form t) name ≡ has_value t name
value_form_same form.Scalar name = refl
value_form_same (form.Object parts) name = refl
value_form_same (form.Interface parts) name = refl
value_form_same (form.Union members) name = refl
value_form_same (form.Enum values) name = found_same blank_line name values
value_form_same (form.Input fields) name = refl

required_same : (i : InputValue) → is_required (blank_input i) ≡ is_required i
required_same i = ap (λ (b : Bool). is_non_null i.input_type.type_ref && b) (none_map bare_literal i.default)

-- a value by name, asked
asked : {X Y : Type 0} (f : X → Y) (p : Y → Bool) (q : X → Bool) (d : Bool) → ((x : X) → p (f x) ≡ q x) → (name : List ℕ) (ps : List (List ℕ × X))
    → option_map_or p (entry (mapped f ps) name) d ≡ option_map_or q (entry ps name) d
asked f p q d each name ps = ap (λ (o : Option _). option_map_or p o d) (entry_mapped f name ps) ∙ map_or_map f p q d each (entry ps name)

module _ (s : Schema) where
  -- ---- unknown and misplaced types

  unknown_same : (name : List ℕ) (l m : ℕ) → is_some (unknown (blank s) name l) ≡ is_some (unknown s name m)
  unknown_same name l m = fault_same _ _ l m (found_same blank_type name s.types)

  unknown_input_use : (i : List ℕ × InputValue) → is_some (at_input (unknown_type (blank s)) (over blank_input i)) ≡ is_some (at_input (unknown_type s) i)
  unknown_input_use i = unknown_same (named_type i.1.input_type.type_ref) _ _

  unknown_inputs_use : (is : List (List ℕ × InputValue)) → is_some (least_by (at_input (unknown_type (blank s))) (mapped blank_input is)) ≡ is_some (least_by (at_input (unknown_type s)) is)
  unknown_inputs_use is = least_map (over blank_input) (at_input (unknown_type (blank s))) (at_input (unknown_type s)) unknown_input_use is

  unknown_field_use : (f : List ℕ × SchemaField) → is_some (at_field (unknown_type (blank s)) (over blank_field f)) ≡ is_some (at_field (unknown_type s) f)
  unknown_field_use f = either_same _ _ _ _ (unknown_same (named_type f.1.field_type.type_ref) _ _) (unknown_inputs_use f.1.arguments)

  unknown_parts_use : (parts : Interfaced) → is_some (at_parts (unknown_type (blank s)) (blank_parts parts)) ≡ is_some (at_parts (unknown_type s) parts)
  unknown_parts_use parts =
      either_same _ _ _ _
      (least_map (over blank_line) _ _ (λ (m : Mark). unknown_same m.0 _ _) parts.interfaces)
      (least_map (over blank_field) (at_field (unknown_type (blank s))) (at_field (unknown_type s)) unknown_field_use parts.fields)

  unknown_form_use : (t : TypeForm) → is_some (at_form (unknown_type (blank s)) (blank_form t)) ≡ is_some (at_form (unknown_type s) t)
  unknown_form_use form.Scalar = refl
  unknown_form_use (form.Object parts) = unknown_parts_use parts
  unknown_form_use (form.Interface parts) = unknown_parts_use parts
  unknown_form_use (form.Union members) = least_map (over blank_line) _ _ (λ (m : Mark). unknown_same m.0 _ _) members
  unknown_form_use (form.Enum values) = refl
  unknown_form_use (form.Input fields) = unknown_inputs_use fields

  unknown_use_same : is_some (least_use (unknown_type (blank s)) (blank s)) ≡ is_some (least_use (unknown_type s) s)
  unknown_use_same =
      either_same _ _ _ _
      (least_map (over blank_type) (at_named (unknown_type (blank s))) (at_named (unknown_type s)) (λ (t : NamedType). unknown_form_use t.1.form) s.types)
      (least_map (over blank_directive) (at_directive (unknown_type (blank s))) (at_directive (unknown_type s)) (λ (d : List ℕ × SchemaDirective). unknown_inputs_use d.1.arguments) s.directives)

  location_same : (n : Name) → is_some (unknown_location (bare_name n)) ≡ is_some (unknown_location n)
  location_same n = fault_case (is_location n.text) _ _

  root_unknown : (r : Option RootName) → is_some (unknown_root (blank s) (option_map blank_root r)) ≡ is_some (unknown_root s r)
  root_unknown r = then_same blank_root (λ (x : RootName). unknown (blank s) x.text x.line) (λ (x : RootName). unknown s x.text x.line) (λ x. unknown_same x.text _ _) r

  pub blank_unknown : is_some (unknown_line (blank s)) ≡ is_some (unknown_line s)
  blank_unknown =
      either_same _ _ _ _
      unknown_use_same
      (either_same _ _ _ _
      (least_map (over blank_directive) unknown_locations unknown_locations
      (λ (d : List ℕ × SchemaDirective). least_map bare_name unknown_location unknown_location location_same d.1.locations) s.directives)
      (either_same _ _ _ _ (root_unknown s.roots.query) (either_same _ _ _ _ (root_unknown s.roots.mutation) (root_unknown s.roots.subscription))))

  placed_same : (p : TypeForm → Bool) → ((t : TypeForm) → p (blank_form t) ≡ p t) → (name : List ℕ) (l m : ℕ)
      → is_some (option_and_then (λ (t : SchemaType). cond (p t.form) None (Some l)) (entry (mapped blank_type s.types) name))
      ≡ is_some (option_and_then (λ (t : SchemaType). cond (p t.form) None (Some m)) (entry s.types name))
  placed_same p each name l m =
      ap (λ (o : Option SchemaType). is_some (option_and_then (λ (t : SchemaType). cond (p t.form) None (Some l)) o)) (entry_mapped blank_type name s.types)
      ∙ then_same blank_type (λ (t : SchemaType). cond (p t.form) None (Some l)) (λ (t : SchemaType). cond (p t.form) None (Some m))
      (λ t. fault_same _ _ l m (each t.form)) (entry s.types name)

  misplaced_input_use : (i : List ℕ × InputValue) → is_some (at_input (misplaced_type (blank s)) (over blank_input i)) ≡ is_some (at_input (misplaced_type s) i)
  misplaced_input_use i = (placed_same is_input input_form_same) (named_type i.1.input_type.type_ref) _ _

  misplaced_inputs_use : (is : List (List ℕ × InputValue)) → is_some (least_by (at_input (misplaced_type (blank s))) (mapped blank_input is)) ≡ is_some (least_by (at_input (misplaced_type s)) is)
  misplaced_inputs_use is = least_map (over blank_input) (at_input (misplaced_type (blank s))) (at_input (misplaced_type s)) misplaced_input_use is

  misplaced_field_use : (f : List ℕ × SchemaField) → is_some (at_field (misplaced_type (blank s)) (over blank_field f)) ≡ is_some (at_field (misplaced_type s) f)
  misplaced_field_use f = either_same _ _ _ _ ((placed_same is_output output_same) (named_type f.1.field_type.type_ref) _ _) (misplaced_inputs_use f.1.arguments)

  misplaced_parts_use : (parts : Interfaced) → is_some (at_parts (misplaced_type (blank s)) (blank_parts parts)) ≡ is_some (at_parts (misplaced_type s) parts)
  misplaced_parts_use parts =
      either_same _ _ _ _
      (least_map (over blank_line) _ _ (λ (m : Mark). (placed_same is_interface interface_form_same) m.0 _ _) parts.interfaces)
      (least_map (over blank_field) (at_field (misplaced_type (blank s))) (at_field (misplaced_type s)) misplaced_field_use parts.fields)

  misplaced_form_use : (t : TypeForm) → is_some (at_form (misplaced_type (blank s)) (blank_form t)) ≡ is_some (at_form (misplaced_type s) t)
  misplaced_form_use form.Scalar = refl
  misplaced_form_use (form.Object parts) = misplaced_parts_use parts
  misplaced_form_use (form.Interface parts) = misplaced_parts_use parts
  misplaced_form_use (form.Union members) = least_map (over blank_line) _ _ (λ (m : Mark). (placed_same is_object object_same) m.0 _ _) members
  misplaced_form_use (form.Enum values) = refl
  misplaced_form_use (form.Input fields) = misplaced_inputs_use fields

  misplaced_use_same : is_some (least_use (misplaced_type (blank s)) (blank s)) ≡ is_some (least_use (misplaced_type s) s)
  misplaced_use_same =
      either_same _ _ _ _
      (least_map (over blank_type) (at_named (misplaced_type (blank s))) (at_named (misplaced_type s)) (λ (t : NamedType). misplaced_form_use t.1.form) s.types)
      (least_map (over blank_directive) (at_directive (misplaced_type (blank s))) (at_directive (misplaced_type s)) (λ (d : List ℕ × SchemaDirective). misplaced_inputs_use d.1.arguments) s.directives)

  pub blank_misplaced : is_some (misplaced_line (blank s)) ≡ is_some (misplaced_line s)
  blank_misplaced = misplaced_use_same

  -- ---- interfaces

  subtype_name_same : is_named_subtype (blank s) ≡ is_named_subtype s
  subtype_name_same = fun_ext (λ x. fun_ext (λ y.
      ap₂ (λ (u v : Bool). bytes_eq x y || u || v)
      (asked blank_type (λ (t : SchemaType). implements t.form y) (λ (t : SchemaType). implements t.form y) false (λ t. implements_same t.form y) x s.types)
      (asked blank_type (λ (t : SchemaType). has_member t.form x) (λ (t : SchemaType). has_member t.form x) false (λ t. member_same t.form x) y s.types)))

  sub_named_same : (name : List ℕ) (required : Bool) (other : TypeRef-F TypeRef) → sub_named (blank s) name required other ≡ sub_named s name required other
  sub_named_same name required (TypeRef-F.Named other_name other) =
      ap (λ (test : List ℕ → List ℕ → Bool). may_be required other && test name other_name) subtype_name_same
  sub_named_same name required (TypeRef-F.List inner other) = refl

  sub_step_same : (t : TypeRef-F (TypeRef → Bool)) → sub_step (blank s) t ≡ sub_step s t
  sub_step_same (TypeRef-F.Named name required) = fun_ext (λ other. sub_named_same name required (out-TypeRef other))
  sub_step_same (TypeRef-F.List fits required) = refl

  subtype_same : is_subtype (blank s) ≡ is_subtype s
  subtype_same = ap (λ (step : TypeRef-F (TypeRef → Bool) → TypeRef → Bool). fold-TypeRef (TypeRef → Bool) step) (fun_ext sub_step_same)

  argument_same : (f : SchemaField) (w : List ℕ × InputValue) → has_argument (blank_field f) (over blank_input w) ≡ has_argument f w
  argument_same f w =
      asked blank_input (λ (a : InputValue). is_same_type a.input_type.type_ref w.1.input_type.type_ref) (λ (a : InputValue). is_same_type a.input_type.type_ref w.1.input_type.type_ref)
      false (λ a. refl) w.0 f.arguments

  may_have_same : (w : SchemaField) (i : List ℕ × InputValue) → may_have_argument (blank_field w) (over blank_input i) ≡ may_have_argument w i
  may_have_same w i = ap₂ (λ (u v : Bool). u || not v) (found_same blank_input i.0 w.arguments) (required_same i.1)

  does_same : (w f : SchemaField) → does_for (blank s) (blank_field w) (blank_field f) ≡ does_for s w f
  does_same w f =
      ap₂ (λ (u v : Bool). u && v)
      (ap₂ (λ (u v : Bool). u && v)
      (ap (λ (sub : TypeRef → TypeRef → Bool). sub f.field_type.type_ref w.field_type.type_ref) subtype_same)
      (all_map (over blank_input) (has_argument (blank_field f)) (has_argument f) (argument_same f) w.arguments))
      (all_map (over blank_input) (may_have_argument (blank_field w)) (may_have_argument w) (may_have_same w) f.arguments)

  field_same : (parts : Interfaced) (w : List ℕ × SchemaField) → has_field (blank s) (blank_parts parts) (over blank_field w) ≡ has_field s parts w
  field_same parts w = asked blank_field (does_for (blank s) (blank_field w.1)) (does_for s w.1) false (does_same w.1) w.0 parts.fields

  interface_same : (parts : Interfaced) (w : Mark) → has_interface (blank_parts parts) (over blank_line w) ≡ has_interface parts w
  interface_same parts w = found_same blank_line w.0 parts.interfaces

  has_all_same : (parts wanted : Interfaced) → has_all (blank s) (blank_parts parts) (blank_parts wanted) ≡ has_all s parts wanted
  has_all_same parts wanted =
      ap₂ (λ (u v : Bool). u && v)
      (all_map (over blank_field) (has_field (blank s) (blank_parts parts)) (has_field s parts) (field_same parts) wanted.fields)
      (all_map (over blank_line) (has_interface (blank_parts parts)) (has_interface parts) (interface_same parts) wanted.interfaces)

  has_all_of_same : (parts : Interfaced) (t : TypeForm) → has_all_of (blank s) (blank_parts parts) (blank_form t) ≡ has_all_of s parts t
  has_all_of_same parts form.Scalar = refl
  has_all_of_same parts (form.Object p) = refl
  has_all_of_same parts (form.Interface wanted) = has_all_same parts wanted
  has_all_of_same parts (form.Union members) = refl
  has_all_of_same parts (form.Enum values) = refl
  has_all_of_same parts (form.Input fields) = refl

  satisfies_same : (own : List ℕ) (parts : Interfaced) (name : List ℕ) → satisfies (blank s) own (blank_parts parts) name ≡ satisfies s own parts name
  satisfies_same own parts name =
      ap (λ (u : Bool). not (bytes_eq own name) && u)
      (asked blank_type (λ (t : SchemaType). has_all_of (blank s) (blank_parts parts) t.form) (λ (t : SchemaType). has_all_of s parts t.form) true (λ t. has_all_of_same parts t.form) name s.types)

  unsatisfied_same : (own : List ℕ) (parts : Interfaced) → is_some (unsatisfied_parts (blank s) own (blank_parts parts)) ≡ is_some (unsatisfied_parts s own parts)
  unsatisfied_same own parts =
      least_map (over blank_line) (unsatisfied (blank s) own (blank_parts parts)) (unsatisfied s own parts)
      (λ (m : Mark). fault_same _ _ _ _ (satisfies_same own parts m.0)) parts.interfaces

  unsatisfied_form_same : (own : List ℕ) (t : TypeForm) → is_some (unsatisfied_form (blank s) own (blank_form t)) ≡ is_some (unsatisfied_form s own t)
  unsatisfied_form_same own form.Scalar = refl
  unsatisfied_form_same own (form.Object parts) = unsatisfied_same own parts
  unsatisfied_form_same own (form.Interface parts) = unsatisfied_same own parts
  unsatisfied_form_same own (form.Union members) = refl
  unsatisfied_form_same own (form.Enum values) = refl
  unsatisfied_form_same own (form.Input fields) = refl

  pub blank_unsatisfied : is_some (unsatisfied_line (blank s)) ≡ is_some (unsatisfied_line s)
  blank_unsatisfied = least_map (over blank_type) (unsatisfied_in (blank s)) (unsatisfied_in s) (λ (t : NamedType). unsatisfied_form_same t.0 t.1.form) s.types

  -- ---- roots

  not_object_same : (r : RootName) → is_some (not_object (blank s) (blank_root r)) ≡ is_some (not_object s r)
  not_object_same r =
      fault_same _ _ _ _ (asked blank_type (λ (t : SchemaType). is_object t.form) (λ (t : SchemaType). is_object t.form) false (λ t. object_same t.form) r.text s.types)

  root_same : (r : Option RootName) → is_some (root_fault (blank s) (option_map blank_root r)) ≡ is_some (root_fault s r)
  root_same r = then_same blank_root (not_object (blank s)) (not_object s) not_object_same r

  doubled_case : (b : Bool) (l m : ℕ) → is_some (cond b (Some l) None) ≡ is_some (cond b (Some m) None)
  doubled_case true l m = refl
  doubled_case false l m = refl

  two_same : (a b : Option RootName) → is_some (two_roots (option_map blank_root a) (option_map blank_root b)) ≡ is_some (two_roots a b)
  two_same None b = refl
  two_same (Some x) None = refl
  two_same (Some x) (Some y) = doubled_case (bytes_eq x.text y.text) _ _

  pub blank_root_fault : is_some (root_line (blank s)) ≡ is_some (root_line s)
  blank_root_fault =
      let r = s.roots in
      either_same _ _ _ _ (fault_same _ _ 0 0 (some_map blank_root r.query))
      (either_same _ _ _ _
      (either_same _ _ _ _ (root_same r.query) (either_same _ _ _ _ (root_same r.mutation) (root_same r.subscription)))
      (either_same _ _ _ _ (two_same r.query r.mutation) (either_same _ _ _ _ (two_same r.query r.subscription) (two_same r.mutation r.subscription))))

  -- ---- types without parts

  empty_same : (t : TypeForm) → is_empty (blank_form t) ≡ is_empty t
  empty_same form.Scalar = refl
  empty_same (form.Object parts) = ap (λ (n : ℕ). n == 0) (map_length (over blank_field) parts.fields)
  empty_same (form.Interface parts) = ap (λ (n : ℕ). n == 0) (map_length (over blank_field) parts.fields)
  empty_same (form.Union members) = ap (λ (n : ℕ). n == 0) (map_length (over blank_line) members)
  empty_same (form.Enum values) = ap (λ (n : ℕ). n == 0) (map_length (over blank_line) values)
  empty_same (form.Input fields) = ap (λ (n : ℕ). n == 0) (map_length (over blank_input) fields)

  empty_type_same : (t : NamedType) → is_some (empty_type (over blank_type t)) ≡ is_some (empty_type t)
  empty_type_same t = ap (λ (b : Bool). is_some {T = ℕ} (cond b (Some 0) None)) (empty_same t.1.form) ∙ doubled_case (is_empty t.1.form) _ _

  pub blank_empty : is_some (empty_line (blank s)) ≡ is_some (empty_line s)
  blank_empty = least_map (over blank_type) empty_type empty_type empty_type_same s.types

  -- ---- defaults

  scalar_same : names_scalar (blank s) ≡ names_scalar s
  scalar_same = fun_ext (λ name. asked blank_type (λ (t : SchemaType). is_scalar t.form) (λ (t : SchemaType). is_scalar t.form) false (λ t. scalar_form_same t.form) name s.types)

  any_same : takes_any (blank s) ≡ takes_any s
  any_same = fun_ext (λ name. ap (λ (test : List ℕ → Bool). test name && is_custom name) scalar_same)

  list_same : (items : List Fit) (t : TypeRef-F TypeRef) → list_fits (blank s) items t ≡ list_fits s items t
  list_same items (TypeRef-F.Named name required) = ap (λ (any : List ℕ → Bool). any name) any_same
  list_same items (TypeRef-F.List inner required) = refl

  fits_all : (p q : FieldFit → Bool) → ((f : FieldFit) → p f ≡ q f) → (fs : List FieldFit) → list_all p fs ≡ list_all q fs
  fits_all p q each [] = refl
  fits_all p q each (f ∷ fs) = ap₂ (λ (u v : Bool). u && v) (each f) (fits_all p q each fs)

  fields_same : (declared : List (List ℕ × InputValue)) (fs : List FieldFit) → fields_fit (mapped blank_input declared) fs ≡ fields_fit declared fs
  fields_same declared fs =
      ap₂ (λ (u v : Bool). u && v)
      (fits_all (field_fits (mapped blank_input declared)) (field_fits declared)
      (λ (f : FieldFit). asked blank_input (λ (i : InputValue). f.1 i.input_type.type_ref) (λ (i : InputValue). f.1 i.input_type.type_ref) false (λ i. refl) f.0 declared) fs)
      (all_map (over blank_input) (is_given (given_names fs)) (is_given (given_names fs))
      (λ (d : List ℕ × InputValue). ap (λ (b : Bool). meets d.0 (given_names fs) || not b) (required_same d.1)) declared)

  takes_same : (t : TypeForm) (fs : List FieldFit) → form_takes_object (blank_form t) fs ≡ form_takes_object t fs
  takes_same form.Scalar fs = refl
  takes_same (form.Object parts) fs = refl
  takes_same (form.Interface parts) fs = refl
  takes_same (form.Union members) fs = refl
  takes_same (form.Enum values) fs = refl
  takes_same (form.Input fields) fs = fields_same fields fs

  or_any_same : (p : SchemaType → Bool) → ((t : SchemaType) → p (blank_type t) ≡ p t) → (name : List ℕ)
      → (option_map_or p (entry (mapped blank_type s.types) name) false || takes_any (blank s) name) ≡ (option_map_or p (entry s.types name) false || takes_any s name)
  or_any_same p each name =
      ap₂ (λ (u v : Bool). u || v) (asked blank_type p p false each name s.types) (ap (λ (any : List ℕ → Bool). any name) any_same)

  value_same : (v : LiteralValue-F Fit Fit FieldFit) → value_step (blank s) v ≡ value_step s v
  value_same (LiteralValue-F.Variable name) = refl
  value_same (LiteralValue-F.Integer text number) =
      fun_ext (λ t. ap (λ (test : List ℕ → Bool). test (named_type t) && scalar_takes_integer (named_type t) number) scalar_same)
  value_same (LiteralValue-F.String text) =
      fun_ext (λ t. ap (λ (test : List ℕ → Bool). test (named_type t) && scalar_takes_string (named_type t)) scalar_same)
  value_same (LiteralValue-F.Boolean v) =
      fun_ext (λ t. ap (λ (test : List ℕ → Bool). test (named_type t) && scalar_takes_boolean (named_type t)) scalar_same)
  value_same LiteralValue-F.Null = refl
  value_same (LiteralValue-F.Enum word) = fun_ext (λ t. or_any_same (λ (found : SchemaType). has_value found.form word) (λ found. value_form_same found.form word) (named_type t))
  value_same (LiteralValue-F.List items) = fun_ext (λ t. list_same items (out-TypeRef t))
  value_same (LiteralValue-F.Object fields) = fun_ext (λ t. or_any_same (λ (found : SchemaType). form_takes_object found.form fields) (λ found. takes_same found.form fields) (named_type t))

  fits_same : (l : Literal) → literal_fits (blank s) (bare_literal l) ≡ literal_fits s l
  fits_same l =
      ap (λ (step : LiteralValue-F Fit Fit FieldFit → Fit). fold-Literal Fit Fit FieldFit step literal_step field_step (bare_literal l)) (fun_ext value_same)
      ∙ fold_bare Fit Fit FieldFit (value_step s) literal_step field_step (λ m. refl) (λ f. refl) l

  doubled_same : (l : Literal) → is_doubled (bare_literal l) ≡ is_doubled l
  doubled_same l = fold_bare Bool Bool FieldDoubled doubled.doubled_in_value doubled.doubled_in_literal doubled.doubled_in_field (λ m. refl) (λ f. refl) l

  unfit_same : (i : InputValue) → is_some (unfit_input (blank s) (blank_input i)) ≡ is_some (unfit_input s i)
  unfit_same i =
      then_same bare_literal (λ (l : Literal). cond (is_valid (blank s) (blank_input i) l) None (Some 0)) (λ (l : Literal). cond (is_valid s i l) None (Some i.line))
      (λ l. fault_same _ _ 0 i.line
      (ap₂ (λ (u v : Bool). u && not v) (ap (λ (fits : Fit). fits i.input_type.type_ref) (fits_same l)) (doubled_same l)))
      i.default

  unfit_inputs_same : (is : List (List ℕ × InputValue)) → is_some (unfit_inputs (blank s) (mapped blank_input is)) ≡ is_some (unfit_inputs s is)
  unfit_inputs_same is =
      least_map (over blank_input) (λ (i : List ℕ × InputValue). unfit_input (blank s) i.1) (λ (i : List ℕ × InputValue). unfit_input s i.1) (λ i. unfit_same i.1) is

  unfit_fields_same : (fs : List (List ℕ × SchemaField)) → is_some (unfit_fields (blank s) (mapped blank_field fs)) ≡ is_some (unfit_fields s fs)
  unfit_fields_same fs =
      least_map (over blank_field) (λ (f : List ℕ × SchemaField). unfit_inputs (blank s) f.1.arguments) (λ (f : List ℕ × SchemaField). unfit_inputs s f.1.arguments)
      (λ f. unfit_inputs_same f.1.arguments) fs

  unfit_form_same : (t : TypeForm) → is_some (unfit_form (blank s) (blank_form t)) ≡ is_some (unfit_form s t)
  unfit_form_same form.Scalar = refl
  unfit_form_same (form.Object parts) = unfit_fields_same parts.fields
  unfit_form_same (form.Interface parts) = unfit_fields_same parts.fields
  unfit_form_same (form.Union members) = refl
  unfit_form_same (form.Enum values) = refl
  unfit_form_same (form.Input fields) = unfit_inputs_same fields

  pub blank_unfit : is_some (unfit_line (blank s)) ≡ is_some (unfit_line s)
  blank_unfit =
      either_same _ _ _ _
      (least_map (over blank_type) (λ (t : NamedType). unfit_form (blank s) t.1.form) (λ (t : NamedType). unfit_form s t.1.form) (λ t. unfit_form_same t.1.form) s.types)
      (least_map (over blank_directive) (λ (d : List ℕ × SchemaDirective). unfit_inputs (blank s) d.1.arguments) (λ (d : List ℕ × SchemaDirective). unfit_inputs s d.1.arguments)
      (λ d. unfit_inputs_same d.1.arguments) s.directives)

  -- ---- circles of input objects

  needed_same : (t : TypeRef-F TypeRef) → needed_type (blank s) t ≡ needed_type s t
  needed_same (TypeRef-F.Named name required) = ap (λ (o : Option ℕ). cond required o None) (place_mapped blank_type name s.types)
  needed_same (TypeRef-F.List inner required) = refl

  needed_by_same : (fs : List (List ℕ × InputValue)) → needed_by (blank s) (mapped blank_input fs) ≡ needed_by s fs
  needed_by_same [] = refl
  needed_by_same (f ∷ fs) =
      ap₂ (λ (o : Option ℕ) (l : List ℕ). option_to_list o ++ l) (needed_same (out-TypeRef f.1.input_type.type_ref)) (needed_by_same fs)

  needs_form_same : (t : TypeForm) → needs (blank s) (blank_form t) ≡ needs s t
  needs_form_same form.Scalar = refl
  needs_form_same (form.Object parts) = refl
  needs_form_same (form.Interface parts) = refl
  needs_form_same (form.Union members) = refl
  needs_form_same (form.Enum values) = refl
  needs_form_same (form.Input fields) = needed_by_same fields

  needs_graph_same : (ts : List NamedType) → needs_graph (blank s) (mapped blank_type ts) ≡ needs_graph s ts
  needs_graph_same [] = refl
  needs_graph_same (t ∷ ts) = ap₂ (λ (n : List ℕ) (g : Graph). n ∷ g) (needs_form_same t.1.form) (needs_graph_same ts)

  pub blank_needs : is_some (needs_itself_line (blank s)) ≡ is_some (needs_itself_line s)
  blank_needs = some_needs (blank s) ∙ ap has_circle (needs_graph_same s.types) ∙ sym (some_needs s)

  -- ---- circles of defaults

  input_fields_same : (t : TypeForm) → input_fields (blank_form t) ≡ mapped blank_input (input_fields t)
  input_fields_same form.Scalar = refl
  input_fields_same (form.Object parts) = refl
  input_fields_same (form.Interface parts) = refl
  input_fields_same (form.Union members) = refl
  input_fields_same (form.Enum values) = refl
  input_fields_same (form.Input fields) = refl

  lines_same : (t : NamedType) → length (lines_in (over blank_type t)) ≡ length (lines_in t)
  lines_same t =
      map_length (λ (f : List ℕ × InputValue). f.1.line) (input_fields (blank_form t.1.form))
      ∙ ap (λ (l : List (List ℕ × InputValue)). length l) (input_fields_same t.1.form)
      ∙ map_length (over blank_input) (input_fields t.1.form)
      ∙ sym (map_length (λ (f : List ℕ × InputValue). f.1.line) (input_fields t.1.form))

  field_lines_same : (ts : List NamedType) → length (field_lines (mapped blank_type ts)) ≡ length (field_lines ts)
  field_lines_same [] = refl
  field_lines_same (t ∷ ts) =
      length-append (lines_in (over blank_type t)) (field_lines (mapped blank_type ts))
      ∙ ap₂ (λ (n m : ℕ). n + m) (lines_same t) (field_lines_same ts)
      ∙ sym (length-append (lines_in t) (field_lines ts))

  first_same : (ts : List NamedType) (place : ℕ) → first_number (mapped blank_type ts) place ≡ first_number ts place
  first_same ts place = ap (λ (l : List NamedType). length (field_lines l)) (take_map (over blank_type) place ts) ∙ field_lines_same (take place ts)

  firsts_same : first_numbers (mapped blank_type s.types) ≡ first_numbers s.types
  firsts_same =
      ap (λ (n : ℕ). map (first_number (mapped blank_type s.types)) (range_with_len 0 n)) (map_length (over blank_type) s.types)
      ∙ ap (λ (f : ℕ → ℕ). map f (range_with_len 0 (length s.types))) (fun_ext (first_same s.types))

  module _ (firsts : List ℕ) where
    left_out_same : (given : List ℕ → Bool) (n : ℕ) (declared : List (List ℕ × InputValue)) → left_out given n (mapped blank_input declared) ≡ left_out given n declared
    left_out_same given n [] = refl
    left_out_same given n (d ∷ declared) =
        ap₂ (λ (b : Bool) (l : List ℕ). cond (not (given d.0) && b) (n ∷ []) [] ++ l) (some_map bare_literal d.1.default) (left_out_same given (n + 1) declared)

    field_fills_same : (declared : List (List ℕ × InputValue)) (f : FieldFilling) → field_fills (mapped blank_input declared) f ≡ field_fills declared f
    field_fills_same declared f =
        ap (λ (o : Option InputValue). option_map_or (λ i. f.1 i.input_type.type_ref) o []) (entry_mapped blank_input f.0 declared)
        ∙ map_or_map blank_input (λ (i : InputValue). f.1 i.input_type.type_ref) (λ (i : InputValue). f.1 i.input_type.type_ref) [] (λ i. refl) (entry declared f.0)

    fields_fill_same : (declared : List (List ℕ × InputValue)) (fs : List FieldFilling) → flat_map (field_fills (mapped blank_input declared)) fs ≡ flat_map (field_fills declared) fs
    fields_fill_same declared [] = refl
    fields_fill_same declared (f ∷ fs) = ap₂ (λ (x y : List ℕ). x ++ y) (field_fills_same declared f) (fields_fill_same declared fs)

    form_fills_same : (n : ℕ) (fs : List FieldFilling) (t : TypeForm) → form_fills n fs (blank_form t) ≡ form_fills n fs t
    form_fills_same n fs form.Scalar = refl
    form_fills_same n fs (form.Object parts) = refl
    form_fills_same n fs (form.Interface parts) = refl
    form_fills_same n fs (form.Union members) = refl
    form_fills_same n fs (form.Enum values) = refl
    form_fills_same n fs (form.Input declared) =
        ap₂ (λ (x y : List ℕ). x ++ y) (fields_fill_same declared fs) (left_out_same (λ name. meets name (fillings.given_names fs)) n declared)

    place_fills_same : (fs : List FieldFilling) (place : ℕ) → place_fills (blank s) firsts fs place ≡ place_fills s firsts fs place
    place_fills_same fs place =
        ap (λ (o : Option NamedType). option_map_or (λ t. form_fills (get_or firsts place 0) fs t.1.form) o []) (slice_map (over blank_type) s.types place)
        ∙ map_or_map (over blank_type) (λ (t : NamedType). form_fills (get_or firsts place 0) fs t.1.form) (λ (t : NamedType). form_fills (get_or firsts place 0) fs t.1.form) []
        (λ t. form_fills_same (get_or firsts place 0) fs t.1.form) (slice_get s.types place)

    object_fills_same : (fs : List FieldFilling) (name : List ℕ) → object_fills (blank s) firsts fs name ≡ object_fills s firsts fs name
    object_fills_same fs name =
        ap₂ (λ (f : ℕ → List ℕ) (o : Option ℕ). option_map_or f o []) (fun_ext (place_fills_same fs)) (place_mapped blank_type name s.types)

    filling_step_same : (v : LiteralValue-F Filling Filling FieldFilling) → fillings.value_step (blank s) firsts v ≡ fillings.value_step s firsts v
    filling_step_same (LiteralValue-F.Variable name) = refl
    filling_step_same (LiteralValue-F.Integer text number) = refl
    filling_step_same (LiteralValue-F.String text) = refl
    filling_step_same (LiteralValue-F.Boolean v) = refl
    filling_step_same LiteralValue-F.Null = refl
    filling_step_same (LiteralValue-F.Enum word) = refl
    filling_step_same (LiteralValue-F.List items) = refl
    filling_step_same (LiteralValue-F.Object fields) = fun_ext (λ t. object_fills_same fields (named_type t))

    fills_same : (l : Literal) → literal_fills (blank s) firsts (bare_literal l) ≡ literal_fills s firsts l
    fills_same l =
        ap (λ (step : LiteralValue-F Filling Filling FieldFilling → Filling). fold-Literal Filling Filling FieldFilling step fillings.literal_step fillings.field_step (bare_literal l)) (fun_ext filling_step_same)
        ∙ fold_bare Filling Filling FieldFilling (fillings.value_step s firsts) fillings.literal_step fillings.field_step (λ m. refl) (λ f. refl) l

    default_same : (i : InputValue) → default_fills (blank s) firsts (blank_input i) ≡ default_fills s firsts i
    default_same i =
        map_or_map bare_literal (λ (l : Literal). literal_fills (blank s) firsts l i.input_type.type_ref) (λ (l : Literal). literal_fills s firsts l i.input_type.type_ref) []
        (λ l. ap (λ (f : Filling). f i.input_type.type_ref) (fills_same l)) i.default

    nodes_same : (fs : List (List ℕ × InputValue)) → fields_fill (blank s) firsts (mapped blank_input fs) ≡ fields_fill s firsts fs
    nodes_same [] = refl
    nodes_same (f ∷ fs) = ap₂ (λ (n : List ℕ) (g : Graph). n ∷ g) (default_same f.1) (nodes_same fs)

    graph_same : (ts : List NamedType) → filling_graph (blank s) firsts (mapped blank_type ts) ≡ filling_graph s firsts ts
    graph_same [] = refl
    graph_same (t ∷ ts) =
        ap₂ (λ (x y : Graph). x ++ y)
        (ap (fields_fill (blank s) firsts) (input_fields_same t.1.form) ∙ nodes_same (input_fields t.1.form))
        (graph_same ts)

  pub blank_fills : is_some (fills_itself_line (blank s)) ≡ is_some (fills_itself_line s)
  blank_fills =
      some_fills (blank s)
      ∙ ap has_circle (ap (λ (f : List ℕ). filling_graph (blank s) f (mapped blank_type s.types)) firsts_same ∙ graph_same (first_numbers s.types) s.types)
      ∙ sym (some_fills s)
