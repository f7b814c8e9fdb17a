-- What a numbering says of a document.
use Rattle.std.specs.Prelude.{◌≡◌, ℕ, if◌then◌else◌, nat_lt, List, Option, Some, None, option_and_then, slice_get, length}
use Rattle.gql_model.specs.declared.selection.SelectionSet.{SelectionSet}
use Rattle.gql_model.specs.declared.selection.Selection.{Selection}
use Rattle.gql_model.specs.declared.selection.Field.{Field}
use Rattle.gql_model.specs.declared.document.Definition.{Definition}
use Rattle.gql_model.specs.declared.document.Document.{Document}
use Rattle.gql_numbering.specs.declared.mark.Spot.{Spot}
use Rattle.gql_numbering.specs.declared.mark.Home.{Home}
use Rattle.gql_numbering.specs.declared.mark.Home.TheVariants as home
use Rattle.gql_numbering.specs.declared.numbering.Numbering.{Numbering}
use Rattle.gql_numbering.specs.Parts.{selections_of, inner_set, as_field, set_of_definition}
use Rattle.gql_numbering.specs.Beginnings.{sets_of, fields_of}
use Rattle.gql_numbering.specs.Marks.{marks_of, definition_marks}

-- the selection at a spot, where the sets are these
abbrev pub selection_at : List SelectionSet → Spot → Option Selection
selection_at sets spot = option_and_then (λ set. slice_get (selections_of set) spot.at) (slice_get sets spot.set)

-- the field at a spot
abbrev pub field_at : List SelectionSet → Option Spot → Option Field
field_at sets None = None
field_at sets (Some spot) = option_and_then as_field (selection_at sets spot)

-- the set number `number`, which hangs here: at a definition, or at a selection of a set with a lower number
abbrev pub set_hanging : List Definition → List SelectionSet → ℕ → Option Home → Option SelectionSet
set_hanging definitions sets number None = None
set_hanging definitions sets number (Some (home.Definition at)) = option_and_then set_of_definition (slice_get definitions at)
set_hanging definitions sets number (Some (home.Selection spot)) = if nat_lt spot.set number then option_and_then inner_set (selection_at sets spot) else None

-- the numbering is that of the document: it tells where each set hangs and where each field stands, and the marks
pub record Numbers (numbering : Numbering) (document : Document) : Type 0 where
  pub set_count : length numbering.homes ≡ length (sets_of document)
  pub field_count : length numbering.spots ≡ length (fields_of document)
  pub homes : (number : ℕ) → set_hanging document.definitions (sets_of document) number (slice_get numbering.homes number) ≡ slice_get (sets_of document) number
  pub spots : (number : ℕ) → field_at (sets_of document) (slice_get numbering.spots number) ≡ slice_get (fields_of document) number
  pub marks : numbering.marks ≡ marks_of document
  pub definitions : numbering.definitions ≡ definition_marks document
