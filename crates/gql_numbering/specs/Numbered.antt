-- The numbering that one pass over a document makes. What it is worth is said in Numbers.
use Rattle.std.specs.Prelude.{ℕ, ◌+◌, List, [], ◌∷◌, ◌++◌, Option, Some, None, slice_set, length}
use Rattle.gql_model.specs.declared.selection.SelectionSet.{SelectionSet}
use Rattle.gql_model.specs.declared.selection.Selection.{Selection}
use Rattle.gql_model.specs.declared.selection.Selection.TheOpen.{SelectionSet-F, Selection-F, Field-F, InlineFragment-F}
use Rattle.gql_model.specs.declared.selection.Selection.TheFolds.{fold-SelectionSet, fold-Selection, fold-Field}
use Rattle.gql_model.specs.declared.selection.Field.{Field}
use Rattle.gql_model.specs.declared.document.Definition.{Definition}
use Rattle.gql_model.specs.declared.document.Document.{Document}
use Rattle.gql_numbering.specs.declared.mark.Mark.{Mark}
use Rattle.gql_numbering.specs.declared.mark.Spot.{Spot}
use Rattle.gql_numbering.specs.declared.mark.Home.{Home}
use Rattle.gql_numbering.specs.declared.mark.Home.TheVariants as home
use Rattle.gql_numbering.specs.declared.numbering.Numbering.{Numbering}
use Rattle.gql_numbering.specs.Parts.{set_of_definition}

-- the mark behind all that is numbered
abbrev pub mark_in : Numbering → Mark
mark_in numbering = record { sets = length numbering.homes; fields = length numbering.spots }

-- a set that hangs here gets the next number; its marks come when it closes
abbrev pub opened : Home → Numbering → Numbering
opened here numbering = record numbering { homes = numbering.homes ++ here ∷ []; marks = numbering.marks ++ [] ∷ [] }

-- a field that stands here gets the next number
abbrev pub with_field : Spot → Numbering → Numbering
with_field spot numbering = record numbering { spots = numbering.spots ++ spot ∷ [] }

-- a numbering, and the marks so far of the set that is being numbered
pub record Turn : Type 0 where
  pub marks : List Mark
  pub numbering : Numbering

-- the set with this number closes
abbrev pub closed : ℕ → Turn → Numbering
closed number turn = record turn.numbering { marks = slice_set turn.numbering.marks number turn.marks }

-- numbers a part that hangs here
abbrev pub Hung : Type 0
Hung = Home → Numbering → Numbering

-- numbers a selection at this spot
abbrev pub Spotted : Type 0
Spotted = Spot → Numbering → Numbering

-- numbers the selection set of a field at this spot, where the field has one
abbrev pub optional_at : Option Hung → Spotted
optional_at None spot numbering = numbering
optional_at (Some hung) spot numbering = hung (home.Selection spot) numbering

-- one level of a selection: a field is numbered at its spot, a spread changes nothing, the set of an inline fragment hangs at the spot
abbrev pub selection_step : Selection-F Spotted Spotted Hung Hung → Spotted
selection_step (Selection-F.Field field) spot numbering = field spot numbering
selection_step (Selection-F.Spread spread) spot numbering = numbering
selection_step (Selection-F.Inline fragment) spot numbering = fragment (home.Selection spot) numbering

-- one level of a field: the field gets the next number, and then its selection set is numbered
abbrev pub field_step : Field-F Spotted Spotted Hung Hung → Spotted
field_step field spot numbering = optional_at field.selection_set spot (with_field spot numbering)

-- one level of an inline fragment: its selection set hangs where the fragment stands
abbrev pub inline_step : InlineFragment-F Spotted Spotted Hung Hung → Hung
inline_step fragment = fragment.selection_set

-- the selections of the set with this number, from the one at `at` on
abbrev pub through : List Spotted → ℕ → ℕ → Turn → Turn
through [] number at turn = turn
through (selection ∷ rest) number at turn =
    through rest number (at + 1) (record { marks = turn.marks ++ mark_in turn.numbering ∷ []; numbering = selection (record { set = number; at = at }) turn.numbering })

-- one level of a set: it gets the next number, its selections are numbered in order, and it closes with their marks
abbrev pub set_step : SelectionSet-F Spotted Spotted Hung Hung → Hung
set_step set here numbering = closed (length numbering.homes) (through set.selections (length numbering.homes) 0 (record { marks = []; numbering = opened here numbering }))

-- numbers a selection set that hangs here, and all that is in it
abbrev pub numbered_set : SelectionSet → Hung
numbered_set = fold-SelectionSet Spotted Spotted Hung Hung selection_step field_step inline_step set_step

-- numbers a selection at this spot, and all that is in it
abbrev pub numbered_selection : Selection → Spotted
numbered_selection = fold-Selection Spotted Spotted Hung Hung selection_step field_step inline_step set_step

-- numbers a field at this spot, and all that is in it
abbrev pub numbered_field : Field → Spotted
numbered_field = fold-Field Spotted Spotted Hung Hung selection_step field_step inline_step set_step

-- numbers a selection set that may be left out, which hangs here, and all that is in it
abbrev pub numbered_optional : Option SelectionSet → Hung
numbered_optional None here numbering = numbering
numbered_optional (Some set) here numbering = numbered_set set here numbering

-- the definition at `at`: its mark, and its set where it has one
abbrev pub numbered_definition : Definition → ℕ → Numbering → Numbering
numbered_definition definition at numbering =
    numbered_optional (set_of_definition definition) (home.Definition at) (record numbering { definitions = numbering.definitions ++ mark_in numbering ∷ [] })

-- numbers definitions in order, where the first is the one at `at` of the document
abbrev pub numbered_definitions : List Definition → ℕ → Numbering → Numbering
numbered_definitions [] at numbering = numbering
numbered_definitions (definition ∷ rest) at numbering = numbered_definitions rest (at + 1) (numbered_definition definition at numbering)

-- the numbering before anything is numbered
abbrev pub empty : Numbering
empty = record { homes = []; spots = []; marks = []; definitions = [] }

-- the numbering of a document
abbrev pub numbered : Document → Numbering
numbered document = numbered_definitions document.definitions 0 empty
