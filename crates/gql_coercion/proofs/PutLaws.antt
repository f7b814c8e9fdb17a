-- Pairs put one after another: where their names are distinct they stand as they are.
use Rattle.std.proofs.Common.{◌≡◌, ℕ, List, [], ◌∷◌, ◌++◌, length, refl, sym, ap, ◌∙◌, append_assoc, append-nil, subst, Bool, true, false, cond, bytes_eq}
use Rattle.std.specs.Prelude.{Option, None, Some}
use Rattle.std.proofs.lemmas.List.Sums.{fold-append}
use Rattle.std.specs.Option.{option_or, option_map, option_and_then, option_to_list}
use Rattle.std.specs.List.{fold, flat_map, filter_map, cons_option, AllByRecursion, IsDistinct}
use Rattle.std.specs.Cmp.Lexicographic.{nat_list_eq_equiv}
use Rattle.std.specs.declared.result.Result.{Result}
use Rattle.std.specs.declared.result.Result.TheVariants.{Ok, Err}
use Rattle.text_types.specs.Names.{names_of, HasDistinctNames}
use Rattle.gql_value.specs.declared.value.Value.{Value}
use Rattle.gql_model.specs.declared.selection.Argument.{Argument}
use Rattle.gql_model.specs.declared.executable.VariableDefinition.{VariableDefinition}
use Rattle.schema_model.specs.declared.schema.Schema.{Schema}
use Rattle.schema_model.specs.declared.schema.InputValue.{InputValue}
use Rattle.schema_model.specs.Schemas.{NamedType, input_fields_in}
use Rattle.schema_model.specs.Tables.{place_of, put}
use Rattle.schema_rules.specs.TypeRefs.{is_non_null}
use Rattle.execution_model.specs.Values.{Pairs, null_value}
use Rattle.execution_model.specs.declared.given.Given.{Given}
use Rattle.execution_model.specs.declared.given.Given.TheVariants.{Absent, Refused, Is}
use Rattle.execution_model.specs.Inputs.{Defaults, or_default}
use Rattle.execution_model.specs.Defaults.{constant, field_value, fields_values, type_values}
use Rattle.execution_model.specs.Arguments.{argument_default, argument_given, argument_member, coerced_argument, coerced_arguments}
use Rattle.execution_model.specs.Variables.{variable_meaning, with_variable, coerced_variables}
use Rattle.check_model.proofs.ListLaws.{position_push}
use Rattle.offered_values.proofs.NameLaws.{put_new}
use Rattle.gql_coercion.specs.Coerced.{with_more, variable_names}

-- ---- one pair

-- no pair has one of these names
abbrev Free : {Y : Type 0} → List (List ℕ × Y) → List (List ℕ) → Type 0
Free ps names = AllByRecursion (λ name. place_of ps name ≡ None) names

place_more : {Y : Type 0} (ps : List (List ℕ × Y)) (q : List ℕ × Y) (name : List ℕ) → bytes_eq q.0 name ≡ false → place_of ps name ≡ None → place_of (ps ++ q ∷ []) name ≡ None
place_more ps q name apart none =
    position_push (λ p. bytes_eq name p.0) ps q
    ∙ ap (λ o. option_or o (cond (bytes_eq name q.0) (Some (length ps)) None)) none
    ∙ ap (λ b. cond b (Some (length ps)) None) (nat_list_eq_equiv.symm name q.0 ∙ apart)

free_more : {Y : Type 0} (ps : List (List ℕ × Y)) (q : List ℕ × Y) (names : List (List ℕ)) → AllByRecursion (λ n. bytes_eq q.0 n ≡ false) names → Free ps names → Free (ps ++ q ∷ []) names
free_more ps q [] apart free = tt
free_more ps q (name ∷ names) (apart, more) (none, free) = (place_more ps q name apart none, free_more ps q names more free)

free_none : (Y : Type 0) (names : List (List ℕ)) → Free {Y = Y} [] names
free_none Y [] = tt
free_none Y (name ∷ names) = (refl, free_none Y names)

-- ---- pairs that are given by name

abbrev pair_of : {Y : Type 0} → List ℕ → Option Y → List (List ℕ × Y)
pair_of name None = []
pair_of name (Some y) = (name, y) ∷ []

free_with : {Y : Type 0} (ps qs : List (List ℕ × Y)) (name : List ℕ) (o : Option Y) (names : List (List ℕ)) → qs ≡ ps ++ pair_of name o
    → AllByRecursion (λ n. bytes_eq name n ≡ false) names → Free ps names → Free qs names
free_with ps qs name None names is apart free = subst (λ rs. Free rs names) (sym (is ∙ append-nil ps)) free
free_with ps qs name (Some y) names is apart free = subst (λ rs. Free rs names) (sym is) (free_more ps (name, y) names apart free)

put_step : {Y : Type 0} (ps rest : List (List ℕ × Y)) (name : List ℕ) (o : Option Y) → place_of ps name ≡ None
    → ((qs : List (List ℕ × Y)) → qs ≡ ps ++ pair_of name o → fold put qs rest ≡ qs ++ rest)
    → fold put (fold put ps (pair_of name o)) rest ≡ ps ++ (pair_of name o ++ rest)
put_step ps rest name None none later = later ps (sym (append-nil ps))
put_step ps rest name (Some y) none later =
    ap (λ qs. fold put qs rest) (put_new ps (name, y) none)
    ∙ later (ps ++ (name, y) ∷ []) refl
    ∙ append_assoc ps ((name, y) ∷ []) rest

put_all : {X Y : Type 0} (f : List ℕ × X → List (List ℕ × Y)) (value_of : List ℕ × X → Option Y) → ((d : List ℕ × X) → f d ≡ pair_of d.0 (value_of d))
    → (ps : List (List ℕ × Y)) (ds : List (List ℕ × X)) → Free ps (names_of ds) → IsDistinct bytes_eq (names_of ds) → fold put ps (flat_map f ds) ≡ ps ++ flat_map f ds
unfolding IsDistinct
put_all f value_of is ps [] free distinct = sym (append-nil ps)
put_all f value_of is ps (d ∷ ds) (none, free) (apart, distinct) =
    fold-append put ps (f d) (flat_map f ds)
    ∙ ap (λ qs. fold put (fold put ps qs) (flat_map f ds)) (is d)
    ∙ put_step ps (flat_map f ds) d.0 (value_of d) none
    (λ qs e. put_all f value_of is qs ds (free_with ps qs d.0 (value_of d) (names_of ds) e apart free) distinct)
    ∙ ap (λ qs. ps ++ (qs ++ flat_map f ds)) (sym (is d))

-- ---- arguments

abbrev argument_option : List ℕ × InputValue → Given → Option Value
argument_option defined (Is value) = Some value
argument_option defined _ = cond (is_non_null defined.1.input_type.type_ref) (Some null_value) None

null_case : (name : List ℕ) (b : Bool) → cond b ((name, null_value) ∷ []) [] ≡ pair_of name (cond b (Some null_value) None)
null_case name true = refl
null_case name false = refl

argument_pair : (defined : List ℕ × InputValue) (given : Given) → argument_member defined given ≡ pair_of defined.0 (argument_option defined given)
argument_pair defined Absent = null_case defined.0 (is_non_null defined.1.input_type.type_ref)
argument_pair defined Refused = null_case defined.0 (is_non_null defined.1.input_type.type_ref)
argument_pair defined (Is value) = refl

-- arguments whose names are distinct
pub arguments_put : (defaults : Defaults) (schema : Schema) (variables : Pairs) (defined : List (List ℕ × InputValue)) (arguments : List Argument)
    → HasDistinctNames defined
    → fold put [] (coerced_arguments defaults schema variables defined arguments) ≡ coerced_arguments defaults schema variables defined arguments
arguments_put defaults schema variables defined arguments distinct =
    put_all (coerced_argument defaults schema variables arguments)
    (λ d. argument_option d (or_default d.1 (argument_default defaults schema d.1) (argument_given defaults schema variables arguments d)))
    (λ d. argument_pair d (or_default d.1 (argument_default defaults schema d.1) (argument_given defaults schema variables arguments d)))
    [] defined (free_none Value (names_of defined)) distinct

-- ---- variables

abbrev behind : Pairs → Result Pairs (List ℕ) → Result Pairs (List ℕ)
behind values (Ok more) = Ok (values ++ more)
behind values (Err name) = Err name

is_put : (values : Pairs) (name : List ℕ) (value : Value) (more : Result Pairs (List ℕ)) → place_of values name ≡ None
    → (with_more (values ++ (name, value) ∷ []) more ≡ behind (values ++ (name, value) ∷ []) more)
    → with_more values (with_variable name (Is value) more) ≡ behind values (with_variable name (Is value) more)
is_put values name value (Err other) none later = refl
is_put values name value (Ok more) none later =
    ap (λ vs. Ok (fold put vs more)) (put_new values (name, value) none)
    ∙ later
    ∙ ap Ok (append_assoc values ((name, value) ∷ []) more)

variable_put : (values : Pairs) (name : List ℕ) (given : Given) (more : Result Pairs (List ℕ)) → place_of values name ≡ None
    → with_more values more ≡ behind values more
    → ((value : Value) → with_more (values ++ (name, value) ∷ []) more ≡ behind (values ++ (name, value) ∷ []) more)
    → with_more values (with_variable name given more) ≡ behind values (with_variable name given more)
variable_put values name Absent more none same later = same
variable_put values name Refused more none same later = refl
variable_put values name (Is value) more none same later = is_put values name value more none (later value)

variables_behind : (defaults : Defaults) (schema : Schema) (given values : Pairs) (declared : List VariableDefinition)
    → Free values (variable_names declared) → IsDistinct bytes_eq (variable_names declared)
    → with_more values (coerced_variables defaults schema given declared) ≡ behind values (coerced_variables defaults schema given declared)
unfolding IsDistinct
variables_behind defaults schema given values [] free distinct = ap Ok (sym (append-nil values))
variables_behind defaults schema given values (d ∷ ds) (none, free) (apart, distinct) =
    variable_put values d.name.text (variable_meaning defaults schema given d) (coerced_variables defaults schema given ds) none
    (variables_behind defaults schema given values ds free distinct)
    (λ value. variables_behind defaults schema given (values ++ (d.name.text, value) ∷ []) ds (free_more values (d.name.text, value) (variable_names ds) apart free) distinct)

behind_none : (more : Result Pairs (List ℕ)) → behind [] more ≡ more
behind_none (Ok more) = refl
behind_none (Err name) = refl

-- variables whose names are distinct
pub variables_put : (defaults : Defaults) (schema : Schema) (given : Pairs) (declared : List VariableDefinition) → IsDistinct bytes_eq (variable_names declared)
    → with_more [] (coerced_variables defaults schema given declared) ≡ coerced_variables defaults schema given declared
variables_put defaults schema given declared distinct =
    variables_behind defaults schema given [] declared (free_none Value (variable_names declared)) distinct
    ∙ behind_none (coerced_variables defaults schema given declared)

-- ---- pairs that may be there

listed_case : {Y : Type 0} (o : Option Y) (ys : List Y) → cons_option o ys ≡ option_to_list o ++ ys
listed_case None ys = refl
listed_case (Some y) ys = refl

listed : {X Y : Type 0} (f : X → Option Y) (xs : List X) → filter_map f xs ≡ flat_map (λ x. option_to_list (f x)) xs
listed f [] = refl
listed f (x ∷ xs) = listed_case (f x) (filter_map f xs) ∙ ap (λ ys. option_to_list (f x) ++ ys) (listed f xs)

listed_pair : {Y : Type 0} (name : List ℕ) (o : Option Y) → option_to_list (option_map (λ y. (name, y)) o) ≡ pair_of name o
listed_pair name None = refl
listed_pair name (Some y) = refl

-- given pairs whose names are distinct
pub given_put : {X Y : Type 0} (f : List ℕ × X → Option (List ℕ × Y)) (value_of : List ℕ × X → Option Y) (ds : List (List ℕ × X))
    → ((d : List ℕ × X) → f d ≡ option_map (λ y. (d.0, y)) (value_of d)) → HasDistinctNames ds
    → fold put [] (filter_map f ds) ≡ filter_map f ds
given_put {X} {Y} f value_of ds is distinct =
    ap (fold put []) (listed f ds)
    ∙ put_all (λ d. option_to_list (f d)) value_of (λ d. ap option_to_list (is d) ∙ listed_pair d.0 (value_of d)) [] ds (free_none Y (names_of ds)) distinct
    ∙ sym (listed f ds)

-- ---- defaults

map_twice : {X Y Z : Type 0} (f : X → Y) (g : Y → Z) (o : Option X) → option_map (λ x. g (f x)) o ≡ option_map g (option_map f o)
map_twice f g None = refl
map_twice f g (Some x) = refl

map_then : {X Y Z : Type 0} (f : X → Option Y) (g : Y → Z) (o : Option X) → option_and_then (λ x. option_map g (f x)) o ≡ option_map g (option_and_then f o)
map_then f g None = refl
map_then f g (Some x) = refl

type_pair : (defaults : Defaults) (schema : Schema) (type : NamedType)
    → type_values defaults schema type ≡ option_map (λ ps. (type.0, ps)) (option_map (fields_values defaults schema) (input_fields_in type.1.form))
type_pair defaults schema type = map_twice (fields_values defaults schema) (λ ps. (type.0, ps)) (input_fields_in type.1.form)

pub types_put : (defaults : Defaults) (schema : Schema) (types : List NamedType) → HasDistinctNames types
    → fold put [] (filter_map (type_values defaults schema) types) ≡ filter_map (type_values defaults schema) types
types_put defaults schema types distinct =
    given_put (type_values defaults schema) (λ t. option_map (fields_values defaults schema) (input_fields_in t.1.form)) types (type_pair defaults schema) distinct

-- the default of a field beside its name
pub field_pair : (defaults : Defaults) (schema : Schema) (field : List ℕ × InputValue)
    → field_value defaults schema field ≡ option_map (λ value. (field.0, value)) (argument_default defaults schema field.1)
field_pair defaults schema field = map_then (λ literal. constant defaults schema literal field.1.input_type.type_ref) (λ value. (field.0, value)) field.1.default

pub fields_put : (defaults : Defaults) (schema : Schema) (fields : List (List ℕ × InputValue)) → HasDistinctNames fields
    → fold put [] (fields_values defaults schema fields) ≡ fields_values defaults schema fields
fields_put defaults schema fields distinct =
    given_put (field_value defaults schema) (λ f. argument_default defaults schema f.1) fields (field_pair defaults schema) distinct
