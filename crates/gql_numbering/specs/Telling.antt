-- What the marks of a document tell: the numbers of the fields and sets behind them.
use Rattle.std.specs.Prelude.{◌≡◌, ℕ, List, [], ◌∷◌, Some, slice_get}
use Rattle.gql_model.specs.declared.selection.SelectionSet.{SelectionSet}
use Rattle.gql_model.specs.declared.selection.Selection.{Selection}
use Rattle.gql_model.specs.declared.selection.Field.{Field}
use Rattle.gql_model.specs.declared.document.Definition.{Definition}
use Rattle.gql_model.specs.declared.document.Document.{Document}
use Rattle.gql_numbering.specs.declared.mark.Mark.{Mark}
use Rattle.gql_numbering.specs.Parts.{selections_of, inner_set, as_field, set_of_definition}
use Rattle.gql_numbering.specs.Beginnings.{Beginning, beginnings_of, sets_among, fields_among, sets_of}
use Rattle.gql_numbering.specs.Marks.{marks_of, definition_marks}

-- the mark before a selection tells the number of the field that it is, and of the set that it carries
pub record Tells (all : List Beginning) (mark : Mark) (selection : Selection) : Type 0 where
  pub field : (field : Field) → as_field selection ≡ Some field → slice_get (fields_among all) mark.fields ≡ Some field
  pub set : (set : SelectionSet) → inner_set selection ≡ Some set → slice_get (sets_among all) mark.sets ≡ Some set

-- there is one mark for each selection, and each tells
abbrev pub TellEach : List Beginning → List Mark → List Selection → Type 0
TellEach all [] [] = Unit {0}
TellEach all (mark ∷ marks) (selection ∷ rest) = Tells all mark selection × TellEach all marks rest
TellEach all _ _ = ⊥

-- each set of a document has its marks, one for each selection, and they tell
abbrev pub MarksTell : Type 0
MarksTell = (document : Document) (number : ℕ) (set : SelectionSet) → slice_get (sets_of document) number ≡ Some set
    → (marks : List Mark) × (slice_get (marks_of document) number ≡ Some marks) × TellEach (beginnings_of document) marks (selections_of set)

-- there is one mark for each definition, which tells the number of its set where it has one
abbrev pub TellDefinitions : List Beginning → List Mark → List Definition → Type 0
TellDefinitions all [] [] = Unit {0}
TellDefinitions all (mark ∷ marks) (definition ∷ rest) =
    ((set : SelectionSet) → set_of_definition definition ≡ Some set → slice_get (sets_among all) mark.sets ≡ Some set) × TellDefinitions all marks rest
TellDefinitions all _ _ = ⊥

-- each definition of a document has one mark, and where it has a selection set the mark tells the number of that set
abbrev pub DefinitionMarksTell : Type 0
DefinitionMarksTell = (document : Document) → TellDefinitions (beginnings_of document) (definition_marks document) document.definitions
