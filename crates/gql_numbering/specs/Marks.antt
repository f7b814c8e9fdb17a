-- How many selection sets and fields begin before a point of a document: the numbers that the next ones have.
use Rattle.std.specs.Prelude.{◌+◌, List, [], ◌∷◌, map, length}
use Rattle.gql_model.specs.declared.document.Document.{Document}
use Rattle.gql_numbering.specs.declared.mark.Mark.{Mark}
use Rattle.gql_numbering.specs.Parts.{selections_of}
use Rattle.gql_numbering.specs.Beginnings.{Beginning, OfSet, OfField, beginnings_at, beginnings_in_definition, beginnings_of, sets_among, fields_among}

-- the front of a document
abbrev pub front : Mark
front = record { sets = 0; fields = 0 }

-- the mark behind these
abbrev pub behind : Mark → List Beginning → Mark
behind mark beginnings = record { sets = mark.sets + length (sets_among beginnings); fields = mark.fields + length (fields_among beginnings) }

-- the mark before each of several parts that stand one behind another
abbrev pub marks_before : Mark → List (List Beginning) → List Mark
marks_before mark [] = []
marks_before mark (part ∷ rest) = mark ∷ marks_before (behind mark part) rest

-- for each set among these, the mark before each of its selections
abbrev pub marks_over : Mark → List Beginning → List (List Mark)
marks_over mark [] = []
marks_over mark (OfSet set ∷ more) = marks_before (behind mark (OfSet set ∷ [])) (map beginnings_at (selections_of set)) ∷ marks_over (behind mark (OfSet set ∷ [])) more
marks_over mark (OfField field ∷ more) = marks_over (behind mark (OfField field ∷ [])) more

-- for each selection set of a document, in order, the mark before each of its selections
abbrev pub marks_of : Document → List (List Mark)
marks_of document = marks_over front (beginnings_of document)

-- the mark before each definition of a document
abbrev pub definition_marks : Document → List Mark
definition_marks document = marks_before front (map beginnings_in_definition document.definitions)
