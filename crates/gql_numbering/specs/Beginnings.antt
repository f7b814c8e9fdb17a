-- What begins in a document, in document order: selection sets, each at its opening brace, and fields
-- (GraphQL October 2021, 2.4 and 2.5).
use Rattle.std.specs.Prelude.{List, [], ◌∷◌, ◌++◌, Option, Some, None}
use Rattle.std.specs.List.{flat_map}
use Rattle.gql_model.specs.declared.selection.SelectionSet.{SelectionSet}
use Rattle.gql_model.specs.declared.selection.Selection.{Selection}
use Rattle.gql_model.specs.declared.selection.Selection.TheOpen.{SelectionSet-F, Selection-F, Field-F, InlineFragment-F}
use Rattle.gql_model.specs.declared.selection.Selection.TheFolds.{fold-SelectionSet, fold-Selection}
use Rattle.gql_model.specs.declared.selection.Field.{Field}
use Rattle.gql_model.specs.declared.document.Definition.{Definition}
use Rattle.gql_model.specs.declared.document.Document.{Document}
use Rattle.gql_numbering.specs.Parts.{selections_of, inner_set, as_field, set_of_definition}

-- what may begin at a point of a document: a selection set or a field
pub data Beginning : Type 0 where
  OfSet : (set : SelectionSet) → Beginning
  OfField : (field : Field) → Beginning

-- what begins in a set, once the set itself is handed in
abbrev pub Inside : Type 0
Inside = SelectionSet → List Beginning

-- a field begins where it stands
abbrev pub itself : Option Field → List Beginning
itself None = []
itself (Some field) = OfField field ∷ []

-- what begins in the selection set that a selection carries
abbrev pub in_inner : Option Inside → Option SelectionSet → List Beginning
in_inner (Some inside) (Some set) = inside set
in_inner _ _ = []

-- selection by selection: a field itself, and then its set
abbrev pub in_selections : List (Option Inside) → List Selection → List Beginning
in_selections (inside ∷ more) (selection ∷ rest) = (itself (as_field selection) ++ in_inner inside (inner_set selection)) ++ in_selections more rest
in_selections _ _ = []

-- one level of a selection: what begins in the set that it carries; a field may carry one, a spread carries none
abbrev pub in_selection : Selection-F (Option Inside) (Option Inside) Inside Inside → Option Inside
in_selection (Selection-F.Field inside) = inside
in_selection (Selection-F.Spread spread) = None
in_selection (Selection-F.Inline inside) = Some inside

-- one level of a field: what begins in its selection set, where it has one
abbrev pub in_field : Field-F (Option Inside) (Option Inside) Inside Inside → Option Inside
in_field field = field.selection_set

-- one level of an inline fragment: what begins in its selection set
abbrev pub in_inline : InlineFragment-F (Option Inside) (Option Inside) Inside Inside → Inside
in_inline fragment = fragment.selection_set

-- a set begins before what is in it
abbrev pub in_set : SelectionSet-F (Option Inside) (Option Inside) Inside Inside → Inside
in_set level set = OfSet set ∷ in_selections level.selections (selections_of set)

-- what begins in this set, once the set itself is handed in again
abbrev pub inside_set : SelectionSet → Inside
inside_set = fold-SelectionSet (Option Inside) (Option Inside) Inside Inside in_selection in_field in_inline in_set

-- what begins in the set that a selection carries, where it carries one, once that set is handed in
abbrev pub inside_selection : Selection → Option Inside
inside_selection = fold-Selection (Option Inside) (Option Inside) Inside Inside in_selection in_field in_inline in_set

-- what begins in a selection set, the set itself first
abbrev pub beginnings_in : SelectionSet → List Beginning
beginnings_in set = inside_set set set

-- what begins in a selection set that may be left out
abbrev pub beginnings_in_optional : Option SelectionSet → List Beginning
beginnings_in_optional None = []
beginnings_in_optional (Some set) = beginnings_in set

-- what begins in a selection: the field that it is, and what is in its set
abbrev pub beginnings_at : Selection → List Beginning
beginnings_at selection = itself (as_field selection) ++ beginnings_in_optional (inner_set selection)

-- what begins in the selection set of a definition; nothing does in a type system definition
abbrev pub beginnings_in_definition : Definition → List Beginning
beginnings_in_definition definition = beginnings_in_optional (set_of_definition definition)

-- what begins in a document
abbrev pub beginnings_of : Document → List Beginning
beginnings_of document = flat_map beginnings_in_definition document.definitions

-- the selection sets among these, in order
abbrev pub sets_among : List Beginning → List SelectionSet
sets_among [] = []
sets_among (OfSet set ∷ more) = set ∷ sets_among more
sets_among (OfField field ∷ more) = sets_among more

-- the fields among these, in order
abbrev pub fields_among : List Beginning → List Field
fields_among [] = []
fields_among (OfSet set ∷ more) = fields_among more
fields_among (OfField field ∷ more) = field ∷ fields_among more

-- the selection sets of a document, in the order of their opening braces
abbrev pub sets_of : Document → List SelectionSet
sets_of document = sets_among (beginnings_of document)

-- the fields of a document, in document order
abbrev pub fields_of : Document → List Field
fields_of document = fields_among (beginnings_of document)
