-- The rules on definitions and on spreads (GraphQL October 2021, 5.1, 5.2.1, 5.2.2, 5.5.1.1, 5.5.1.4 and 5.5.2).
use Rattle.std.specs.Prelude.{ℕ, Bool, true, false, ◌&&◌, not, List, [], ◌∷◌, ◌++◌, Option, Some, None, is_none, cond, length}
use Rattle.std.specs.List.{list_any, filter_map, zip}
use Rattle.std.specs.Option.{option_map}
use Rattle.gql_model.specs.declared.executable.Operation.{Operation}
use Rattle.gql_model.specs.declared.document.Document.{Document}
use Rattle.gql_model.specs.declared.document.Definition.{Definition}
use Rattle.gql_model.specs.declared.document.Definition.TheVariants as definition
use Rattle.check_model.specs.Executables.{operations, only, fragment_named, operation_is, fragment_is, some_operation, placed}
use Rattle.check_model.specs.Spreads.{spread_names, spread_graph}
use Rattle.digraph.specs.Walks.{Graph, has_circle, reached_from}
use Rattle.check_model.specs.Repeated.{stands_twice}

-- whether a definition is of the type system, and so can't be executed
abbrev pub is_type_system : Definition → Bool
is_type_system (definition.TypeSystem d) = true
is_type_system _ = false

-- V1, 5.1.1 Executable Definitions: a type system definition is there
abbrev pub breaks_executable_definitions : Document → Bool
breaks_executable_definitions document = list_any is_type_system document.definitions

-- the name of an operation, unless it is anonymous
abbrev pub operation_name : Operation → Option (List ℕ)
operation_name operation = option_map (λ n. n.text) operation.name

-- the name of a definition that is a named operation; any other has none
abbrev pub name_of_operation : Definition → Option (List ℕ)
name_of_operation (definition.Operation d) = operation_name d
name_of_operation _ = None

-- the names of the operations that have one
abbrev pub operation_names : Document → List (List ℕ)
operation_names document = filter_map name_of_operation document.definitions

-- V2, 5.2.1.1 Operation Name Uniqueness: two operations have one name
abbrev pub breaks_operation_name_uniqueness : Document → Bool
breaks_operation_name_uniqueness document = stands_twice (operation_names document)

-- V3, 5.2.2.1 Lone Anonymous Operation: an anonymous operation isn't the only operation
abbrev pub breaks_lone_anonymous_operation : Document → Bool
breaks_lone_anonymous_operation document = some_operation (λ o. is_none o.name) document && is_none (only (operations document))

-- the name of a definition that is a fragment; any other has none
abbrev pub name_of_fragment : Definition → Option (List ℕ)
name_of_fragment (definition.Fragment d) = Some d.name.text
name_of_fragment _ = None

-- the names of the fragments, in document order
abbrev pub fragment_names : Document → List (List ℕ)
fragment_names document = filter_map name_of_fragment document.definitions

-- V4, 5.5.1.1 Fragment Name Uniqueness: two fragments have one name
abbrev pub breaks_fragment_name_uniqueness : Document → Bool
breaks_fragment_name_uniqueness document = stands_twice (fragment_names document)

-- no fragment of the document has this name
abbrev pub is_unknown_fragment : Document → List ℕ → Bool
is_unknown_fragment document name = is_none (fragment_named document name)

-- a definition spreads, at any depth, a fragment that the document doesn't define
abbrev pub spreads_unknown : Document → Definition → Bool
spreads_unknown document d = list_any (is_unknown_fragment document) (spread_names d)

-- V5, 5.5.2.1 Fragment Spread Target Defined: a spread names no fragment
abbrev pub breaks_spread_target_defined : Document → Bool
breaks_spread_target_defined document = list_any (spreads_unknown document) document.definitions

-- V6, 5.5.2.2 Fragment Spreads Must Not Form Cycles: a fragment reaches itself by spreads
abbrev pub breaks_fragment_cycles : Document → Bool
breaks_fragment_cycles document = has_circle (spread_graph document)

-- the place of a definition that is an operation
abbrev pub operation_place : ℕ × Definition → Option ℕ
operation_place p = cond (operation_is (λ o. true) p.1) (Some p.0) None

-- the graph of spreads with a last node that leads to each operation
abbrev pub used_graph : Document → Graph
used_graph document = spread_graph document ++ filter_map operation_place (placed document) ∷ []

-- of each definition, whether a walk leads to it from an operation
abbrev pub used_marks : Document → List Bool
used_marks document = reached_from (used_graph document) (length document.definitions)

-- a fragment to which no such walk leads
abbrev pub is_unused : Definition × Bool → Bool
is_unused p = fragment_is (λ f. not p.1) p.0

-- V7, 5.5.1.4 Fragments Must Be Used: no operation reaches a fragment
abbrev pub breaks_fragments_used : Document → Bool
breaks_fragments_used document = list_any is_unused (zip document.definitions (used_marks document))
