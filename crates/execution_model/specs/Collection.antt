-- The fields that selection sets collect for an object type (GraphQL October 2021, 6.3.2, CollectFields). Sets and fields are named by their numbers.
use Rattle.std.specs.Prelude.{ℕ, zero, suc, ◌+◌, Bool, false, List, [], ◌∷◌, ◌++◌, Option, Some, None, is_some, cond, codes, bytes_eq, slice_set}
use Rattle.std.specs.List.{fold, position_from, slice_get}
use Rattle.std.specs.Option.{option_map, option_map_or, option_and_then, option_to_list, unwrap_or}
use Rattle.gql_model.specs.declared.name.Name.{Name}
use Rattle.gql_model.specs.declared.selection.Directive.{Directive}
use Rattle.gql_model.specs.declared.selection.Selection.{Selection, out-Selection}
use Rattle.gql_model.specs.declared.selection.SelectionSet.{SelectionSet}
use Rattle.gql_model.specs.declared.selection.Selection.TheOpen.{Selection-F}
use Rattle.gql_model.specs.declared.selection.Field.{Field, out-Field}
use Rattle.gql_model.specs.declared.selection.InlineFragment.{InlineFragment}
use Rattle.gql_model.specs.declared.executable.Fragment.{Fragment}
use Rattle.gql_model.specs.declared.document.Document.{Document}
use Rattle.schema_model.specs.declared.schema.Schema.{Schema}
use Rattle.schema_model.specs.declared.schema.TypeId.{TypeId}
use Rattle.gql_numbering.specs.declared.mark.Mark.{Mark}
use Rattle.gql_numbering.specs.Parts.{selections_of}
use Rattle.gql_numbering.specs.Beginnings.{sets_of}
use Rattle.gql_numbering.specs.Marks.{marks_of, definition_marks}
use Rattle.schema_model.specs.Tables.{entry, put}
use Rattle.check_model.specs.Executables.{as_fragment, fragment_place}
use Rattle.check_model.specs.Fields.{response_key}
use Rattle.check_model.specs.RootFields.{applies, applies_inline}
use Rattle.execution_model.specs.declared.group.Group.{Group}
use Rattle.execution_model.specs.Values.{Pairs}
use Rattle.execution_model.specs.Conditions.{is_passed_over}
use Rattle.execution_model.specs.Fronts.{Fronts}

-- the numbers of selection sets whose selections are joined, one set behind another
abbrev pub SetId : Type 0
SetId = List ℕ

-- a document with its schema, the values of variables, the object type for which fields are collected, and for each
-- set whether `__typename` is put at its front; for the client's own selection no set gets it
pub record Context : Type 0 where
  pub schema : Schema
  pub document : Document
  pub variables : Pairs
  pub object : TypeId
  pub fronts : Fronts

-- The groups so far, in order of first appearance, and the fragments that were spread, each with the number of its set.
pub record Collecting : Type 0 where
  pub groups : List Group
  pub spread : List (List ℕ × ℕ)

-- ---- groups

-- whether a group has this response key
abbrev pub has_key : List ℕ → Group → Bool
has_key key group = bytes_eq key group.key

-- the place of the group of a key
abbrev pub group_place : List ℕ → List Group → Option ℕ
group_place key groups = position_from (has_key key) 0 groups

-- a group with one set more, behind those that it has
abbrev pub with_own_set : ℕ → Group → Group
with_own_set set group = record group { sets = group.sets ++ set ∷ [] }

-- a set joins those of the group at a place
abbrev pub joined_set : List Group → ℕ → ℕ → List Group
joined_set groups at set = option_map_or (λ group. slice_set groups at (with_own_set set group)) (slice_get groups at) groups

-- a field's set, where it has one, joins those of the group at a place
abbrev pub joined_at : Option ℕ → List Group → ℕ → List Group
joined_at set groups at = option_map_or (joined_set groups at) set groups

-- a new group of a response key, with the number of its first field and of the set of that, where there are these
abbrev pub begun : List ℕ → Option ℕ → Option ℕ → Group
begun key field set = record { key = key; field = field; sets = option_to_list set }

-- a field, with the set that it may have, joins the group of its key, or begins one
abbrev pub grouped : List ℕ → Option ℕ → Option ℕ → List Group → List Group
grouped key field set groups = option_map_or (joined_at set groups) (group_place key groups) (groups ++ begun key field set ∷ [])

-- a field's own set has the number that is next at the field's mark
abbrev pub own_set : Mark → Option SelectionSet → Option ℕ
own_set mark set = option_map (λ s. mark.sets) set

-- a field joins the group of its alias or else of its name, with the numbers that are next at its mark
abbrev pub with_field : Mark → Field → Collecting → Collecting
with_field mark field state =
    record state { groups = grouped (response_key (out-Field field).alias (out-Field field).name.text) (Some mark.fields) (own_set mark (out-Field field).selection_set) state.groups }

-- what following a set, by its number, does
abbrev pub Following : Type 0
Following = ℕ → Collecting → Collecting

-- whether `__typename` is put at the front of the set of a number
abbrev pub is_put_in : Fronts → ℕ → Bool
is_put_in fronts set = unwrap_or (slice_get fronts set) false

-- what stands at the front of the set of a number
abbrev pub with_front : Fronts → ℕ → Collecting → Collecting
with_front fronts set state = cond (is_put_in fronts set) (record state { groups = grouped (codes "__typename") None None state.groups }) state

-- ---- fragments

-- a fragment of a condition, whose set has this number
abbrev pub Spreading : Type 0
Spreading = List ℕ × ℕ

-- the condition of a fragment, and the number of its set, which is next at the fragment's mark
abbrev pub spreading : Fragment → Mark → Spreading
spreading fragment mark = (fragment.type_condition.text, mark.sets)

-- the fragment that is the definition at a place
abbrev pub fragment_at : Document → ℕ → Option Spreading
fragment_at document place =
    option_and_then (λ f. option_map (spreading f) (slice_get (definition_marks document) place))
    (option_and_then as_fragment (slice_get document.definitions place))

-- the fragment of a name
abbrev pub spread_fragment : Document → List ℕ → Option Spreading
spread_fragment document name = option_and_then (fragment_at document) (fragment_place document name)

-- whether the fragment of this name was followed before
abbrev pub was_spread : List ℕ → Collecting → Bool
was_spread name state = is_some (entry state.spread name)

-- the fragment of this name, whose set has this number, counts as followed from here on
abbrev pub spread_once : List ℕ → ℕ → Collecting → Collecting
spread_once name set state = record state { spread = put state.spread (name, set) }

-- a fragment's set is followed, where its condition is the object type or stands for it
abbrev pub with_fragment : Following → Context → List ℕ → Collecting → Spreading → Collecting
with_fragment follow context name state fragment =
    cond (applies context.schema context.object fragment.0) (follow fragment.1 (spread_once name fragment.1 state)) state

-- a fragment that was followed isn't followed again in one collection
abbrev pub with_spread : Following → Context → List ℕ → Collecting → Collecting
with_spread follow context name state =
    cond (was_spread name state) state (option_map_or (with_fragment follow context name state) (spread_fragment context.document name) state)

-- the set of an inline fragment is followed, where its condition applies to the object type or it has none
abbrev pub with_inline : Following → Context → Mark → Option Name → Collecting → Collecting
with_inline follow context mark condition state = cond (applies_inline context.schema context.object condition) (follow mark.sets state) state

-- the directives that stand on a selection of any form
abbrev pub directives_of : Selection-F Selection Field InlineFragment SelectionSet → List Directive
directives_of (Selection-F.Field field) = (out-Field field).directives
directives_of (Selection-F.Spread spread) = spread.directives
directives_of (Selection-F.Inline fragment) = fragment.directives

-- a selection by its form: a field is collected, the set of a spread or of an inline fragment is followed where it applies
abbrev pub with_open_selection : Following → Context → Mark → Selection-F Selection Field InlineFragment SelectionSet → Collecting → Collecting
with_open_selection follow context mark (Selection-F.Field field) state = with_field mark field state
with_open_selection follow context mark (Selection-F.Spread spread) state = with_spread follow context spread.name.text state
with_open_selection follow context mark (Selection-F.Inline fragment) state = with_inline follow context mark fragment.type_condition state

-- the same, unless `@skip` or `@include` has the selection passed over
abbrev pub with_selection : Following → Context → Mark → Selection → Collecting → Collecting
with_selection follow context mark selection state =
    cond (is_passed_over context.variables (directives_of (out-Selection selection))) state (with_open_selection follow context mark (out-Selection selection) state)

-- ---- sets

-- a selection with the mark before it, where it has one
abbrev pub with_marked : Following → Context → Selection → Collecting → Option Mark → Collecting
with_marked follow context selection state mark = option_map_or (λ m. with_selection follow context m selection state) mark state

-- the selection at a place of a set, where these marks stand before the set's selections
abbrev pub with_nth : Following → Context → List Mark → ℕ → Selection → Collecting → Collecting
with_nth follow context marks at selection state = with_marked follow context selection state (slice_get marks at)

-- selections from the one at `at` on
abbrev pub through : (ℕ → Selection → Collecting → Collecting) → ℕ → List Selection → Collecting → Collecting
through step at [] state = state
through step at (selection ∷ selections) state = through step (at + 1) selections (step at selection state)

-- the selections of a set, in order
abbrev pub with_selections : Following → Context → List Mark → SelectionSet → Collecting → Collecting
with_selections follow context marks set state = through (with_nth follow context marks) 0 (selections_of set) state

-- the set of a number, its front first
abbrev pub with_set : Following → Context → ℕ → Collecting → List Mark → SelectionSet → Collecting
with_set follow context number state marks set = with_selections follow context marks set (with_front context.fronts number state)

-- the same, where there is such a set; else nothing is collected
abbrev pub with_marks : Following → Context → ℕ → Collecting → Option SelectionSet → List Mark → Collecting
with_marks follow context number state set marks = option_map_or (with_set follow context number state marks) set state

-- the set of a number in the document, in which the sets of fragments are followed by `follow`
abbrev pub follow_set : Following → Context → Following
follow_set follow context number state =
    option_map_or (with_marks follow context number state (slice_get (sets_of context.document) number)) (slice_get (marks_of context.document) number) state

-- follows a set so deep, and nothing below
abbrev pub followed_within : ℕ → Context → Following
followed_within zero context number state = state
followed_within (suc n) context number state = follow_set (followed_within n context) context number state

-- how deep sets nest in a checked document, spreads followed
unfoldable pub deepest : ℕ
deepest = 64

-- follows a set as deep as sets nest in a checked document
abbrev pub followed : Context → Following
followed = followed_within deepest

-- no groups, and no fragment followed yet
abbrev pub nothing_collected : Collecting
nothing_collected = record { groups = []; spread = [] }

-- one set more is followed behind what was collected so far
abbrev pub with_joined : Context → Collecting → ℕ → Collecting
with_joined context state set = followed context set state

-- the fields that joined sets collect, by response key, in order of first appearance
abbrev pub collected : Context → SetId → List Group
collected context sets = (fold (with_joined context) nothing_collected sets).groups
