-- What stands twice or is reserved among definitions is so without their places.
use Rattle.std.proofs.Common.{◌≡◌, ℕ, ◌+◌, ◌≤◌, Bool, true, false, cond, List, [], ◌∷◌, ◌++◌, map, refl, sym, ap, ap₂, subst, ◌∙◌, Option, Some, None, is_some}
use Rattle.std.specs.List.{flat_map}
use Rattle.std.proofs.lemmas.List.Sums.{sum_by-append}
use Rattle.gql_model.specs.declared.name.Name.{Name}
use Rattle.gql_model.specs.declared.type_system.TypeSystemForm.{TypeSystemForm}
use Rattle.gql_model.specs.declared.type_system.TypeSystemForm.TheVariants as form
use Rattle.gql_model.specs.declared.type_system.ObjectDefinition.{ObjectDefinition}
use Rattle.gql_model.specs.declared.type_system.FieldDefinition.{FieldDefinition}
use Rattle.gql_model.specs.declared.type_system.InputDefinition.{InputDefinition}
use Rattle.gql_model.specs.declared.type_system.EnumValueDefinition.{EnumValueDefinition}
use Rattle.schema_rules.specs.Lines.{Mark, least_by}
use Rattle.schema_defaults.specs.Repetitions.{repeated}
use Rattle.gql_schema.specs.Marks.{mark_of}
use Rattle.gql_schema.specs.Repeated.{root_mark, input_mark, field_mark, value_mark, repeated_arguments, repeated_part, repeated_in, scalar_marks, repeated_line}
use Rattle.gql_schema.specs.Reserved.{is_reserved, reserved, reserved_input, reserved_value, reserved_field, reserved_in, reserved_line}
use Rattle.gql_printing.specs.Places.{bare_name, bare_root, bare_input, bare_field_definition, bare_enum_value, bare_composite, bare_form}
use Rattle.schema_order.proofs.FirstLaws.{tick}
use Rattle.schema_order.proofs.OrderLaws.{has_name, of_name, of_name_cons, at_most_once, type_marks_of, directive_marks_of, schema_marks_of}
use Rattle.schema_order.proofs.RepeatedLaws.{once_each}
use Rattle.schema_order.proofs.RuleLaws.{either_same}
use Rattle.schema_order.proofs.BareTables.{least_map}

-- ---- lists of marks with the same names

none_too : (ms ks : List Mark) → ((name : List ℕ) → of_name name ms ≡ of_name name ks) → repeated ms ≡ None → repeated ks ≡ None
none_too ms ks same e = once_each ks (λ name. subst (λ (n : ℕ). n ≤ 1) (same name) (at_most_once name ms e))

some_too : (a b : Option ℕ) → (a ≡ None → b ≡ None) → (b ≡ None → a ≡ None) → is_some a ≡ is_some b
some_too None b onward back = sym (ap is_some (onward refl))
some_too (Some l) None onward back = ap is_some (back refl)
some_too (Some l) (Some k) onward back = refl

repeated_by : (ms ks : List Mark) → ((name : List ℕ) → of_name name ms ≡ of_name name ks) → is_some (repeated ms) ≡ is_some (repeated ks)
repeated_by ms ks same = some_too (repeated ms) (repeated ks) (none_too ms ks same) (none_too ks ms (λ name. sym (same name)))

listed : {X : Type 0} (mark : X → Mark) (bare : X → X) → ((x : X) → (mark (bare x)).0 ≡ (mark x).0)
    → (name : List ℕ) (xs : List X) → of_name name (map mark (map bare xs)) ≡ of_name name (map mark xs)
listed mark bare each name [] = refl
listed mark bare each name (x ∷ xs) =
    of_name_cons name (mark (bare x)) (map mark (map bare xs))
    ∙ ap₂ (λ (t : List ℕ) (n : ℕ). tick (has_name name (t, 0)) + n) (each x) (listed mark bare each name xs)
    ∙ sym (of_name_cons name (mark x) (map mark xs))

repeated_list : {X : Type 0} (mark : X → Mark) (bare : X → X) → ((x : X) → (mark (bare x)).0 ≡ (mark x).0)
    → (xs : List X) → is_some (repeated (map mark (map bare xs))) ≡ is_some (repeated (map mark xs))
repeated_list mark bare each xs = repeated_by (map mark (map bare xs)) (map mark xs) (λ name. listed mark bare each name xs)

gathered : (marks : TypeSystemForm → List Mark) → ((name : List ℕ) (d : TypeSystemForm) → of_name name (marks (bare_form d)) ≡ of_name name (marks d))
    → (name : List ℕ) (ds : List TypeSystemForm) → of_name name (flat_map marks (map bare_form ds)) ≡ of_name name (flat_map marks ds)
gathered marks each name [] = refl
gathered marks each name (d ∷ ds) =
    sum_by-append (λ (k : Mark). tick (has_name name k)) (marks (bare_form d)) (flat_map marks (map bare_form ds))
    ∙ ap₂ (λ (n m : ℕ). n + m) (each name d) (gathered marks each name ds)
    ∙ sym (sum_by-append (λ (k : Mark). tick (has_name name k)) (marks d) (flat_map marks ds))

repeated_flat : (front : List Mark) (marks : TypeSystemForm → List Mark) → ((name : List ℕ) (d : TypeSystemForm) → of_name name (marks (bare_form d)) ≡ of_name name (marks d))
    → (ds : List TypeSystemForm) → is_some (repeated (front ++ flat_map marks (map bare_form ds))) ≡ is_some (repeated (front ++ flat_map marks ds))
repeated_flat front marks each ds =
    repeated_by (front ++ flat_map marks (map bare_form ds)) (front ++ flat_map marks ds) (λ name.
    sum_by-append (λ (k : Mark). tick (has_name name k)) front (flat_map marks (map bare_form ds))
    ∙ ap (λ (n : ℕ). of_name name front + n) (gathered marks each name ds)
    ∙ sym (sum_by-append (λ (k : Mark). tick (has_name name k)) front (flat_map marks ds)))

type_marks_bare : (name : List ℕ) (d : TypeSystemForm) → of_name name (type_marks_of (bare_form d)) ≡ of_name name (type_marks_of d)
type_marks_bare name (form.Schema d) = refl
type_marks_bare name (form.Scalar d) = refl
type_marks_bare name (form.Object d) = refl
type_marks_bare name (form.Interface d) = refl
type_marks_bare name (form.Union d) = refl
type_marks_bare name (form.Enum d) = refl
type_marks_bare name (form.Input d) = refl
type_marks_bare name (form.Directive d) = refl

directive_marks_bare : (name : List ℕ) (d : TypeSystemForm) → of_name name (directive_marks_of (bare_form d)) ≡ of_name name (directive_marks_of d)
directive_marks_bare name (form.Schema d) = refl
directive_marks_bare name (form.Scalar d) = refl
directive_marks_bare name (form.Object d) = refl
directive_marks_bare name (form.Interface d) = refl
directive_marks_bare name (form.Union d) = refl
directive_marks_bare name (form.Enum d) = refl
directive_marks_bare name (form.Input d) = refl
directive_marks_bare name (form.Directive d) = refl

schema_marks_bare : (name : List ℕ) (d : TypeSystemForm) → of_name name (schema_marks_of (bare_form d)) ≡ of_name name (schema_marks_of d)
schema_marks_bare name (form.Schema d) = refl
schema_marks_bare name (form.Scalar d) = refl
schema_marks_bare name (form.Object d) = refl
schema_marks_bare name (form.Interface d) = refl
schema_marks_bare name (form.Union d) = refl
schema_marks_bare name (form.Enum d) = refl
schema_marks_bare name (form.Input d) = refl
schema_marks_bare name (form.Directive d) = refl

-- ---- the lists of one definition

arguments_bare : (f : FieldDefinition) → is_some (repeated_arguments (bare_field_definition f)) ≡ is_some (repeated_arguments f)
arguments_bare f = repeated_list input_mark bare_input (λ x. refl) f.arguments

part_bare : (d : ObjectDefinition) → is_some (repeated_part (bare_composite d)) ≡ is_some (repeated_part d)
part_bare d =
    either_same _ _ _ _ (repeated_list mark_of bare_name (λ x. refl) d.interfaces)
    (either_same _ _ _ _ (repeated_list field_mark bare_field_definition (λ x. refl) d.fields)
    (least_map bare_field_definition repeated_arguments repeated_arguments arguments_bare d.fields))

repeated_in_bare : (d : TypeSystemForm) → is_some (repeated_in (bare_form d)) ≡ is_some (repeated_in d)
repeated_in_bare (form.Schema d) = repeated_list root_mark bare_root (λ x. refl) d.roots
repeated_in_bare (form.Scalar d) = refl
repeated_in_bare (form.Object d) = part_bare d
repeated_in_bare (form.Interface d) = part_bare d
repeated_in_bare (form.Union d) = repeated_list mark_of bare_name (λ x. refl) d.members
repeated_in_bare (form.Enum d) = repeated_list value_mark bare_enum_value (λ x. refl) d.values
repeated_in_bare (form.Input d) = repeated_list input_mark bare_input (λ x. refl) d.fields
repeated_in_bare (form.Directive d) = repeated_list input_mark bare_input (λ x. refl) d.arguments

pub repeated_bare : (ds : List TypeSystemForm) → is_some (repeated_line (map bare_form ds)) ≡ is_some (repeated_line ds)
repeated_bare ds =
    either_same _ _ _ _
    (either_same _ _ _ _ (repeated_flat scalar_marks type_marks_of type_marks_bare ds) (repeated_flat [] directive_marks_of directive_marks_bare ds))
    (either_same _ _ _ _ (repeated_flat [] schema_marks_of schema_marks_bare ds) (least_map bare_form repeated_in repeated_in repeated_in_bare ds))

-- ---- reserved names

reserved_case : (b : Bool) (l m : ℕ) → is_some (cond b (Some l) None) ≡ is_some (cond b (Some m) None)
reserved_case true l m = refl
reserved_case false l m = refl

name_bare : (n : Name) → is_some (reserved (bare_name n)) ≡ is_some (reserved n)
name_bare n = reserved_case (is_reserved n.text) _ _

inputs_reserved : (ds : List InputDefinition) → is_some (least_by reserved_input (map bare_input ds)) ≡ is_some (least_by reserved_input ds)
inputs_reserved ds = least_map bare_input reserved_input reserved_input (λ (d : InputDefinition). name_bare d.name) ds

field_reserved : (f : FieldDefinition) → is_some (reserved_field (bare_field_definition f)) ≡ is_some (reserved_field f)
field_reserved f = either_same _ _ _ _ (name_bare f.name) (inputs_reserved f.arguments)

fields_reserved : (fs : List FieldDefinition) → is_some (least_by reserved_field (map bare_field_definition fs)) ≡ is_some (least_by reserved_field fs)
fields_reserved fs = least_map bare_field_definition reserved_field reserved_field field_reserved fs

reserved_in_bare : (d : TypeSystemForm) → is_some (reserved_in (bare_form d)) ≡ is_some (reserved_in d)
reserved_in_bare (form.Schema d) = refl
reserved_in_bare (form.Scalar d) = name_bare d.name
reserved_in_bare (form.Object d) = either_same _ _ _ _ (name_bare d.name) (fields_reserved d.fields)
reserved_in_bare (form.Interface d) = either_same _ _ _ _ (name_bare d.name) (fields_reserved d.fields)
reserved_in_bare (form.Union d) = name_bare d.name
reserved_in_bare (form.Enum d) =
    either_same _ _ _ _ (name_bare d.name) (least_map bare_enum_value reserved_value reserved_value (λ (v : EnumValueDefinition). name_bare v.name) d.values)
reserved_in_bare (form.Input d) = either_same _ _ _ _ (name_bare d.name) (inputs_reserved d.fields)
reserved_in_bare (form.Directive d) = either_same _ _ _ _ (name_bare d.name) (inputs_reserved d.arguments)

pub reserved_bare : (ds : List TypeSystemForm) → is_some (reserved_line (map bare_form ds)) ≡ is_some (reserved_line ds)
reserved_bare ds = least_map bare_form reserved_in reserved_in reserved_in_bare ds
