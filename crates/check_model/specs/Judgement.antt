-- Why a document is refused: the first ground that holds, in this project's own order of the rules of GraphQL October 2021, 5.
use Rattle.std.specs.Prelude.{ℕ, Bool, List, [], ◌∷◌, ◌++◌, Option, Some, None, cond, is_none}
use Rattle.gql_model.specs.declared.document.Document.{Document}
use Rattle.schema_model.specs.declared.schema.Schema.{Schema}
use Rattle.check_model.specs.declared.refusal.Refusal.{Refusal}
use Rattle.check_model.specs.declared.refusal.Refusal.TheVariants.{UnknownOperation, Introspection, Invalid, TooLarge}
use Rattle.check_model.specs.Executables.{chosen}
use Rattle.check_model.specs.Introspection.{is_introspection}
use Rattle.check_model.specs.Sizes.{is_too_large}
use Rattle.check_model.specs.DocumentRules.{breaks_executable_definitions, breaks_operation_name_uniqueness, breaks_lone_anonymous_operation, breaks_fragment_name_uniqueness, breaks_spread_target_defined, breaks_fragment_cycles, breaks_fragments_used}
use Rattle.check_model.specs.SelectionRules.{breaks_spread_type_existence, breaks_fragments_on_composites, breaks_field_selections, breaks_leaf_selections, breaks_spread_possible}
use Rattle.check_model.specs.DirectiveRules.{breaks_directives_defined, breaks_directive_locations, breaks_directives_unique}
use Rattle.check_model.specs.ArgumentRules.{breaks_argument_names, breaks_argument_uniqueness, breaks_required_arguments}
use Rattle.check_model.specs.VariableRules.{breaks_variable_uniqueness, breaks_variables_are_input_types, breaks_variable_uses_defined, breaks_variables_used, breaks_variable_usages_allowed}
use Rattle.check_model.specs.ValueRules.{breaks_values_of_correct_type, breaks_input_field_uniqueness}
use Rattle.check_model.specs.MergeRules.{breaks_field_merging}
use Rattle.check_model.specs.RootFields.{breaks_single_root_field}

-- a refusal, and whether its ground holds
abbrev pub Ground : Type 0
Ground = Refusal × Bool

-- the first refusal whose ground holds
abbrev pub first_ground : List Ground → Option Refusal
first_ground [] = None
first_ground (g ∷ grounds) = cond g.1 (Some g.0) (first_ground grounds)

-- which operation is asked for, and names kept for introspection
abbrev pub request_grounds : Document → Option (List ℕ) → List Ground
request_grounds document name =
    (UnknownOperation, is_none (chosen document name))
    ∷ (Introspection, is_introspection document)
    ∷ []

-- the rules on definitions
abbrev pub definition_grounds : Document → List Ground
definition_grounds document =
    (Invalid 1, breaks_executable_definitions document)
    ∷ (Invalid 2, breaks_operation_name_uniqueness document)
    ∷ (Invalid 3, breaks_lone_anonymous_operation document)
    ∷ (Invalid 4, breaks_fragment_name_uniqueness document)
    ∷ []

-- the rules on spreads; that a document is too large is asked as soon as its spreads can be followed
abbrev pub spread_grounds : Document → List Ground
spread_grounds document =
    (Invalid 5, breaks_spread_target_defined document)
    ∷ (Invalid 6, breaks_fragment_cycles document)
    ∷ (TooLarge, is_too_large document)
    ∷ (Invalid 7, breaks_fragments_used document)
    ∷ []

-- the rules on type conditions, fields and spreads under the schema (5.3.1, 5.3.3, 5.5.1.2, 5.5.1.3 and 5.5.2.3)
abbrev pub selection_grounds : Schema → Document → List Ground
selection_grounds schema document =
    (Invalid 8, breaks_spread_type_existence schema document)
    ∷ (Invalid 9, breaks_fragments_on_composites schema document)
    ∷ (Invalid 10, breaks_field_selections schema document)
    ∷ (Invalid 11, breaks_leaf_selections schema document)
    ∷ (Invalid 12, breaks_spread_possible schema document)
    ∷ []

-- the rules on directives (5.7)
abbrev pub directive_grounds : Schema → Document → List Ground
directive_grounds schema document =
    (Invalid 13, breaks_directives_defined schema document)
    ∷ (Invalid 14, breaks_directive_locations schema document)
    ∷ (Invalid 15, breaks_directives_unique schema document)
    ∷ []

-- the rules on arguments (5.4)
abbrev pub argument_grounds : Schema → Document → List Ground
argument_grounds schema document =
    (Invalid 16, breaks_argument_names schema document)
    ∷ (Invalid 17, breaks_argument_uniqueness schema document)
    ∷ (Invalid 18, breaks_required_arguments schema document)
    ∷ []

-- the rules on the variables that an operation declares and those that it uses (5.8.1 to 5.8.4)
abbrev pub variable_grounds : Schema → Document → List Ground
variable_grounds schema document =
    (Invalid 19, breaks_variable_uniqueness document)
    ∷ (Invalid 20, breaks_variables_are_input_types schema document)
    ∷ (Invalid 21, breaks_variable_uses_defined schema document)
    ∷ (Invalid 22, breaks_variables_used schema document)
    ∷ []

-- the rules on values (5.6), and on the types at which variables stand (5.8.5)
abbrev pub value_grounds : Schema → Document → List Ground
value_grounds schema document =
    (Invalid 23, breaks_values_of_correct_type schema document)
    ∷ (Invalid 24, breaks_input_field_uniqueness schema document)
    ∷ (Invalid 25, breaks_variable_usages_allowed schema document)
    ∷ []

-- the rules on fields that are merged (5.3.2) and on the one root field of a subscription (5.2.3.1)
abbrev pub merge_grounds : Schema → Document → List Ground
merge_grounds schema document =
    (Invalid 26, breaks_field_merging schema document)
    ∷ (Invalid 27, breaks_single_root_field schema document)
    ∷ []

-- what is asked of a document by itself
abbrev pub early_grounds : Document → Option (List ℕ) → List Ground
early_grounds document name = request_grounds document name ++ (definition_grounds document ++ spread_grounds document)

-- the rules on what stands at one place
abbrev pub place_grounds : Schema → Document → List Ground
place_grounds schema document = selection_grounds schema document ++ (directive_grounds schema document ++ argument_grounds schema document)

-- the rules on variables, values and fields that are merged
abbrev pub late_grounds : Schema → Document → List Ground
late_grounds schema document = variable_grounds schema document ++ (value_grounds schema document ++ merge_grounds schema document)

-- all grounds, in the order in which they are tried
abbrev pub grounds : Schema → Document → Option (List ℕ) → List Ground
grounds schema document name = early_grounds document name ++ (place_grounds schema document ++ late_grounds schema document)

-- why a document and the choice of its operation are refused, or nothing
abbrev pub refusal_of : Schema → Document → Option (List ℕ) → Option Refusal
refusal_of schema document name = first_ground (grounds schema document name)
