-- Which fragments are spread where (GraphQL October 2021, 2.8 and 5.5.2.2).
use Rattle.std.specs.Prelude.{ℕ, List, [], ◌∷◌, map}
use Rattle.std.specs.List.{flat_map, filter_map, items_where_true}
use Rattle.std.specs.Option.{unwrap_or}
use Rattle.gql_model.specs.declared.selection.Field.{Field}
use Rattle.gql_model.specs.declared.selection.InlineFragment.{InlineFragment}
use Rattle.gql_model.specs.declared.selection.Selection.{Selection}
use Rattle.gql_model.specs.declared.selection.SelectionSet.{SelectionSet}
use Rattle.gql_model.specs.declared.selection.Selection.TheOpen.{SelectionSet-F, Selection-F, Field-F, InlineFragment-F}
use Rattle.gql_model.specs.declared.selection.Selection.TheFolds.{fold-SelectionSet, fold-Selection, fold-Field, fold-InlineFragment}
use Rattle.gql_model.specs.declared.document.Document.{Document}
use Rattle.gql_model.specs.declared.document.Definition.{Definition}
use Rattle.gql_model.specs.declared.document.Definition.TheVariants as definition
use Rattle.check_model.specs.Executables.{fragment_place}
use Rattle.digraph.specs.Walks.{Graph, reached_from}

-- the names that are spread in a selection, a field, an inline fragment or a set
abbrev pub Spreads : Type 0
Spreads = List (List ℕ)

-- a spread spreads its own name; a field and an inline fragment, what is spread in their sets
abbrev pub selection_spreads : Selection-F Spreads Spreads Spreads Spreads → Spreads
selection_spreads (Selection-F.Field field) = field
selection_spreads (Selection-F.Spread spread) = spread.name.text ∷ []
selection_spreads (Selection-F.Inline fragment) = fragment

-- the names that are spread in the set of a field, if it has one
abbrev pub field_spreads : Field-F Spreads Spreads Spreads Spreads → Spreads
field_spreads field = unwrap_or field.selection_set []

-- the names that are spread in the set of an inline fragment
abbrev pub inline_spreads : InlineFragment-F Spreads Spreads Spreads Spreads → Spreads
inline_spreads fragment = fragment.selection_set

-- the names that are spread in a set, selection by selection
abbrev pub set_spreads : SelectionSet-F Spreads Spreads Spreads Spreads → Spreads
set_spreads set = flat_map (λ names. names) set.selections

-- the names of the fragments that a selection set spreads, at any depth
abbrev pub spreads_in : SelectionSet → Spreads
spreads_in = fold-SelectionSet Spreads Spreads Spreads Spreads selection_spreads field_spreads inline_spreads set_spreads

-- the names of the fragments that a selection spreads, at any depth
abbrev pub spreads_of_selection : Selection → Spreads
spreads_of_selection = fold-Selection Spreads Spreads Spreads Spreads selection_spreads field_spreads inline_spreads set_spreads

-- the names of the fragments that are spread in the set of a field, at any depth
abbrev pub spreads_of_field : Field → Spreads
spreads_of_field = fold-Field Spreads Spreads Spreads Spreads selection_spreads field_spreads inline_spreads set_spreads

-- the names of the fragments that are spread in an inline fragment, at any depth
abbrev pub spreads_of_inline : InlineFragment → Spreads
spreads_of_inline = fold-InlineFragment Spreads Spreads Spreads Spreads selection_spreads field_spreads inline_spreads set_spreads

-- the names that a definition spreads
abbrev pub spread_names : Definition → Spreads
spread_names (definition.Operation d) = spreads_in d.selection_set
spread_names (definition.Fragment d) = spreads_in d.selection_set
spread_names (definition.TypeSystem d) = []

-- ---- definitions as the nodes of a graph, by their places

-- the fragments of these names
abbrev pub targets : Document → Spreads → List ℕ
targets document names = filter_map (fragment_place document) names

-- the places of the fragments that a definition spreads; a name of no fragment has none
abbrev pub definition_targets : Document → Definition → List ℕ
definition_targets document d = targets document (spread_names d)

-- a step leads from a definition to each fragment that it spreads
abbrev pub spread_graph : Document → Graph
spread_graph document = map (definition_targets document) document.definitions

-- the definitions that the one at a place reaches by spreads
abbrev pub definitions_reached : Document → ℕ → List Definition
definitions_reached document place = items_where_true (reached_from (spread_graph document) place) document.definitions
