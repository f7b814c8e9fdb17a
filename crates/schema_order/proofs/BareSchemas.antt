-- Definitions without their places make the same blank schema.
use Rattle.std.proofs.Common.{◌≡◌, ℕ, List, [], ◌∷◌, ◌++◌, map, refl, sym, ap, ap₂, ◌∙◌, Option, Some, None, unwrap_or, option_map, codes}
use Rattle.std.specs.List.{fold, flat_map}
use Rattle.std.specs.Option.{option_or}
use Rattle.gql_model.specs.declared.name.Name.{Name}
use Rattle.gql_model.specs.declared.literal.Literal.{Literal}
use Rattle.gql_model.specs.declared.executable.OperationKind.{OperationKind}
use Rattle.gql_model.specs.declared.executable.OperationKind.TheVariants as operation
use Rattle.gql_model.specs.declared.type_system.TypeSystemForm.{TypeSystemForm}
use Rattle.gql_model.specs.declared.type_system.TypeSystemForm.TheVariants as definition
use Rattle.gql_model.specs.declared.type_system.RootOperation.{RootOperation}
use Rattle.gql_model.specs.declared.type_system.FieldDefinition.{FieldDefinition}
use Rattle.gql_model.specs.declared.type_system.InputDefinition.{InputDefinition}
use Rattle.gql_model.specs.declared.type_system.EnumValueDefinition.{EnumValueDefinition}
use Rattle.schema_model.specs.declared.schema.SchemaType.{SchemaType}
use Rattle.schema_model.specs.declared.schema.SchemaField.{SchemaField}
use Rattle.schema_model.specs.declared.schema.InputValue.{InputValue}
use Rattle.schema_model.specs.declared.schema.RootName.{RootName}
use Rattle.schema_model.specs.declared.schema.RootNames.{RootNames}
use Rattle.schema_model.specs.declared.schema.TypeForm.TheVariants as form
use Rattle.schema_model.specs.Schemas.{NamedType}
use Rattle.schema_model.specs.Tables.{entry, tabled}
use Rattle.gql_schema.specs.Marks.{mark_of}
use Rattle.gql_schema.specs.Ignored.{scalars}
use Rattle.gql_schema.specs.Meaning.{input_entry, inputs_of, field_entry, fields_of, value_entry, names_of, type_entries, directive_entries, scalar_entry, types_of, no_roots, root_at, with_root, schema_roots, default_root, default_roots, stated_roots, schema_of}
use Rattle.gql_printing.specs.Places.{bare_name, bare_names, bare_literal, bare_type, bare_root, bare_input, bare_field_definition, bare_enum_value, bare_form}
use Rattle.schema_order.proofs.BareLiterals.{bare_again}
use Rattle.schema_order.proofs.BareTables.{over, mapped, map_append, tabled_mapped, entry_mapped, blank_line, blank_input, blank_field, blank_type, blank_directive, blank_root, blank_roots, blank}

-- a table made of items without places
tabled_bare : {D X Y : Type 0} (f : X → Y) (pair : D → List ℕ × X) (bare : D → D) → ((d : D) → over f (pair (bare d)) ≡ over f (pair d))
    → (ds : List D) → mapped f (tabled (map pair (map bare ds))) ≡ mapped f (tabled (map pair ds))
tabled_bare {D} {X} {Y} f pair bare each ds = sym (tabled_mapped f (map pair (map bare ds))) ∙ ap tabled (all ds) ∙ tabled_mapped f (map pair ds)
  where
    all : (es : List D) → mapped f (map pair (map bare es)) ≡ mapped f (map pair es)
    all [] = refl
    all (e ∷ es) = ap₂ (λ (x : List ℕ × Y) (xs : List (List ℕ × Y)). x ∷ xs) (each e) (all es)

default_again : (o : Option Literal) → option_map bare_literal (option_map bare_literal o) ≡ option_map bare_literal o
default_again None = refl
default_again (Some l) = ap (λ (m : Literal). Some m) (bare_again l)

input_bare : (d : InputDefinition) → over blank_input (input_entry (bare_input d)) ≡ over blank_input (input_entry d)
input_bare d = ap made (default_again d.default)
  where
    made : Option Literal → List ℕ × InputValue
    made o = (d.name.text, record { line = 0; input_type = bare_type d.input_type; default = o })

inputs_bare : (ds : List InputDefinition) → mapped blank_input (inputs_of (map bare_input ds)) ≡ mapped blank_input (inputs_of ds)
inputs_bare ds = tabled_bare blank_input input_entry bare_input input_bare ds

field_bare : (d : FieldDefinition) → over blank_field (field_entry (bare_field_definition d)) ≡ over blank_field (field_entry d)
field_bare d = ap made (inputs_bare d.arguments)
  where
    made : List (List ℕ × InputValue) → List ℕ × SchemaField
    made arguments = (d.name.text, record { line = 0; arguments = arguments; field_type = bare_type d.field_type })

fields_bare : (ds : List FieldDefinition) → mapped blank_field (fields_of (map bare_field_definition ds)) ≡ mapped blank_field (fields_of ds)
fields_bare ds = tabled_bare blank_field field_entry bare_field_definition field_bare ds

names_bare : (ns : List Name) → mapped blank_line (names_of (bare_names ns)) ≡ mapped blank_line (names_of ns)
names_bare ns = tabled_bare blank_line mark_of bare_name (λ n. refl) ns

values_bare : (vs : List EnumValueDefinition) → mapped blank_line (tabled (map value_entry (map bare_enum_value vs))) ≡ mapped blank_line (tabled (map value_entry vs))
values_bare vs = tabled_bare blank_line value_entry bare_enum_value (λ v. refl) vs

-- ---- types and directives

type_bare : (d : TypeSystemForm) → mapped blank_type (type_entries (bare_form d)) ≡ mapped blank_type (type_entries d)
type_bare (definition.Schema d) = refl
type_bare (definition.Scalar d) = refl
type_bare (definition.Object d) =
    λ i. (d.name.text, record { line = 0; form = form.Object (record { interfaces = names_bare d.interfaces i; fields = fields_bare d.fields i }) }) ∷ []
type_bare (definition.Interface d) =
    λ i. (d.name.text, record { line = 0; form = form.Interface (record { interfaces = names_bare d.interfaces i; fields = fields_bare d.fields i }) }) ∷ []
type_bare (definition.Union d) = λ i. (d.name.text, record { line = 0; form = form.Union (names_bare d.members i) }) ∷ []
type_bare (definition.Enum d) = λ i. (d.name.text, record { line = 0; form = form.Enum (values_bare d.values i) }) ∷ []
type_bare (definition.Input d) = λ i. (d.name.text, record { line = 0; form = form.Input (inputs_bare d.fields i) }) ∷ []
type_bare (definition.Directive d) = refl

names_again : (ns : List Name) → bare_names (bare_names ns) ≡ bare_names ns
names_again [] = refl
names_again (n ∷ ns) = ap (λ (ms : List Name). bare_name n ∷ ms) (names_again ns)

directive_bare : (d : TypeSystemForm) → mapped blank_directive (directive_entries (bare_form d)) ≡ mapped blank_directive (directive_entries d)
directive_bare (definition.Schema d) = refl
directive_bare (definition.Scalar d) = refl
directive_bare (definition.Object d) = refl
directive_bare (definition.Interface d) = refl
directive_bare (definition.Union d) = refl
directive_bare (definition.Enum d) = refl
directive_bare (definition.Input d) = refl
directive_bare (definition.Directive d) =
    λ i. (d.name.text, record { line = 0; arguments = inputs_bare d.arguments i; repeatable = d.repeatable; locations = names_again d.locations i }) ∷ []

flat_bare : {X Y : Type 0} (f : X → Y) (entries : TypeSystemForm → List (List ℕ × X))
    → ((d : TypeSystemForm) → mapped f (entries (bare_form d)) ≡ mapped f (entries d))
    → (ds : List TypeSystemForm) → mapped f (flat_map entries (map bare_form ds)) ≡ mapped f (flat_map entries ds)
flat_bare f entries each [] = refl
flat_bare {X} {Y} f entries each (d ∷ ds) =
    map_append (over f) (entries (bare_form d)) (flat_map entries (map bare_form ds))
    ∙ ap₂ (λ (x y : List (List ℕ × Y)). x ++ y) (each d) (flat_bare f entries each ds)
    ∙ sym (map_append (over f) (entries d) (flat_map entries ds))

types_bare : (ds : List TypeSystemForm) → mapped blank_type (types_of (map bare_form ds)) ≡ mapped blank_type (types_of ds)
types_bare ds =
    let front = map scalar_entry scalars in
    sym (tabled_mapped blank_type (front ++ flat_map type_entries (map bare_form ds)))
    ∙ ap tabled
    (map_append (over blank_type) front (flat_map type_entries (map bare_form ds))
    ∙ ap (λ (l : List NamedType). mapped blank_type front ++ l) (flat_bare blank_type type_entries type_bare ds)
    ∙ sym (map_append (over blank_type) front (flat_map type_entries ds)))
    ∙ tabled_mapped blank_type (front ++ flat_map type_entries ds)

directives_bare : (ds : List TypeSystemForm) → mapped blank_directive (schema_of (map bare_form ds)).directives ≡ mapped blank_directive (schema_of ds).directives
directives_bare ds =
    sym (tabled_mapped blank_directive (flat_map directive_entries (map bare_form ds)))
    ∙ ap tabled (flat_bare blank_directive directive_entries directive_bare ds)
    ∙ tabled_mapped blank_directive (flat_map directive_entries ds)

-- ---- roots

or_map : {X Y : Type 0} (f : X → Y) (a b : Option X) → option_map f (option_or a b) ≡ option_or (option_map f a) (option_map f b)
or_map f None b = refl
or_map f (Some x) b = refl

with_blank : (roots : RootNames) (kind : OperationKind) (r : RootName) → blank_roots (with_root roots kind r) ≡ with_root (blank_roots roots) kind (blank_root r)
with_blank roots operation.Query r = λ i. record { query = or_map blank_root roots.query (Some r) i; mutation = option_map blank_root roots.mutation; subscription = option_map blank_root roots.subscription }
with_blank roots operation.Mutation r = λ i. record { query = option_map blank_root roots.query; mutation = or_map blank_root roots.mutation (Some r) i; subscription = option_map blank_root roots.subscription }
with_blank roots operation.Subscription r = λ i. record { query = option_map blank_root roots.query; mutation = option_map blank_root roots.mutation; subscription = or_map blank_root roots.subscription (Some r) i }

abbrev joined : RootNames → List RootOperation → RootNames
joined known rs = fold (λ names r. with_root names r.kind (root_at r.named)) known rs

roots_bare : (one other : RootNames) → blank_roots one ≡ blank_roots other → (rs : List RootOperation) → blank_roots (joined one (map bare_root rs)) ≡ blank_roots (joined other rs)
roots_bare one other same [] = same
roots_bare one other same (r ∷ rs) =
    roots_bare (with_root one r.kind (root_at (bare_name r.named))) (with_root other r.kind (root_at r.named))
    (with_blank one r.kind (root_at (bare_name r.named))
    ∙ ap (λ (k : RootNames). with_root k r.kind (blank_root (root_at r.named))) same
    ∙ sym (with_blank other r.kind (root_at r.named)))
    rs

stated_bare : (d : TypeSystemForm) → option_map blank_roots (schema_roots (bare_form d)) ≡ option_map blank_roots (schema_roots d)
stated_bare (definition.Schema d) = ap (λ (r : RootNames). Some r) (roots_bare no_roots no_roots refl d.roots)
stated_bare (definition.Scalar d) = refl
stated_bare (definition.Object d) = refl
stated_bare (definition.Interface d) = refl
stated_bare (definition.Union d) = refl
stated_bare (definition.Enum d) = refl
stated_bare (definition.Input d) = refl
stated_bare (definition.Directive d) = refl

all_stated_bare : (one other : Option RootNames) → option_map blank_roots one ≡ option_map blank_roots other → (ds : List TypeSystemForm)
    → option_map blank_roots (fold (λ roots d. option_or roots (schema_roots d)) one (map bare_form ds)) ≡ option_map blank_roots (fold (λ roots d. option_or roots (schema_roots d)) other ds)
all_stated_bare one other same [] = same
all_stated_bare one other same (d ∷ ds) =
    all_stated_bare (option_or one (schema_roots (bare_form d))) (option_or other (schema_roots d))
    (or_map blank_roots one (schema_roots (bare_form d))
    ∙ ap₂ (λ (x y : Option RootNames). option_or x y) same (stated_bare d)
    ∙ sym (or_map blank_roots other (schema_roots d)))
    ds

default_case : (name : List ℕ) (o : Option SchemaType)
    → option_map blank_root (option_map (λ (t : SchemaType). record { line = t.line; text = name }) o) ≡ option_map (λ (t : SchemaType). record { line = 0; text = name }) (option_map blank_type o)
default_case name None = refl
default_case name (Some t) = refl

default_blank : (types : List NamedType) (name : List ℕ) → option_map blank_root (default_root types name) ≡ option_map (λ (t : SchemaType). record { line = 0; text = name }) (entry (mapped blank_type types) name)
default_blank types name =
    default_case name (entry types name)
    ∙ ap (λ (o : Option SchemaType). option_map (λ (t : SchemaType). record { line = 0; text = name }) o) (sym (entry_mapped blank_type name types))

default_bare : (ds : List TypeSystemForm) (name : List ℕ) → option_map blank_root (default_root (types_of (map bare_form ds)) name) ≡ option_map blank_root (default_root (types_of ds) name)
default_bare ds name =
    default_blank (types_of (map bare_form ds)) name
    ∙ ap (λ (ts : List NamedType). option_map (λ (t : SchemaType). record { line = 0; text = name }) (entry ts name)) (types_bare ds)
    ∙ sym (default_blank (types_of ds) name)

defaults_bare : (ds : List TypeSystemForm) → blank_roots (default_roots (types_of (map bare_form ds))) ≡ blank_roots (default_roots (types_of ds))
defaults_bare ds = λ i. record { query = default_bare ds (codes "Query") i; mutation = default_bare ds (codes "Mutation") i; subscription = default_bare ds (codes "Subscription") i }

unwrap_map : (o : Option RootNames) (d : RootNames) → blank_roots (unwrap_or o d) ≡ unwrap_or (option_map blank_roots o) (blank_roots d)
unwrap_map None d = refl
unwrap_map (Some r) d = refl

roots_of_bare : (ds : List TypeSystemForm) → blank_roots (schema_of (map bare_form ds)).roots ≡ blank_roots (schema_of ds).roots
roots_of_bare ds =
    unwrap_map (stated_roots (map bare_form ds)) (default_roots (types_of (map bare_form ds)))
    ∙ ap₂ (λ (o : Option RootNames) (d : RootNames). unwrap_or o d) (all_stated_bare None None refl ds) (defaults_bare ds)
    ∙ sym (unwrap_map (stated_roots ds) (default_roots (types_of ds)))

-- the schema of definitions without places differs in lines and places alone
pub blank_same : (ds : List TypeSystemForm) → blank (schema_of (map bare_form ds)) ≡ blank (schema_of ds)
blank_same ds = λ i. record { types = types_bare ds i; directives = directives_bare ds i; roots = roots_of_bare ds i }
