-- Which selection sets are sent with `__typename` at their front, by their numbers.
use Rattle.std.specs.Prelude.{◌≡◌, Bool, List, [], ◌∷◌, length}
use Rattle.gql_model.specs.declared.selection.SelectionSet.{SelectionSet, out-SelectionSet}
use Rattle.gql_model.specs.declared.selection.Selection.{Selection}
use Rattle.gql_model.specs.declared.document.Document.{Document}
use Rattle.gql_numbering.specs.Parts.{selections_of}
use Rattle.gql_numbering.specs.Beginnings.{sets_of}
use Rattle.schema_model.specs.declared.schema.Schema.{Schema}
use Rattle.execution_model.specs.Fronts.{Fronts, fronts_of}
use Rattle.op_keys.specs.Sent.{with_front, with_typename}

-- A set, and the set that is sent for it: as many selections as it has, with the field before them exactly where the flag says so.
pub record IsSentSo (front : Bool) (set sent : SelectionSet) : Type 0 where
  pub own : List Selection
  pub many : length own ≡ length (selections_of set)
  pub selections : selections_of sent ≡ with_front front (out-SelectionSet set).place own

-- flags, sets and sets that are sent, one for each
abbrev pub AreSentSo : Fronts → List SelectionSet → List SelectionSet → Type 0
AreSentSo [] [] [] = Unit {0}
AreSentSo (front ∷ fronts) (set ∷ sets) (sent ∷ others) = IsSentSo front set sent × AreSentSo fronts sets others
AreSentSo _ _ _ = ⊥

-- `fronts_of` tells of each set, by its number, whether the set with this number is sent with the field at its front
abbrev pub FrontsTellWhatIsSent : Type 0
FrontsTellWhatIsSent = (schema : Schema) (document : Document) → AreSentSo (fronts_of schema document) (sets_of document) (sets_of (with_typename schema document))
