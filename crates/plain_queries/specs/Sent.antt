-- The text that is sent for a plain query.
use Rattle.std.specs.Prelude.{ℕ, Bool, true, false, if◌then◌else◌, List, [], ◌∷◌, ◌++◌, map, codes}
use Rattle.plain_queries.specs.declared.selection.Selection.{Selection, fold-Selection}
use Rattle.plain_queries.specs.declared.selection.Selection.TheOpen.{Selection-F}
use Rattle.plain_queries.specs.Plain.{Fields}

-- whether nothing is selected of a field, as the text that stands behind its name says
abbrev pub is_leaf_text : List ℕ → Bool
is_leaf_text [] = true
is_leaf_text _ = false

-- names and what stands behind each, with a space between two names that would touch
abbrev pub fields_text : Bool → List (List ℕ × List ℕ) → List ℕ
fields_text after_name [] = []
fields_text after_name (field ∷ fields) = (if after_name then codes " " else []) ++ (field.0 ++ (field.1 ++ fields_text (is_leaf_text field.1) fields))

-- one level, with the text of each selection inside in its place: `__typename` stands first
abbrev pub text_step : Selection-F (List ℕ) → List ℕ
text_step Selection-F.Leaf = []
text_step (Selection-F.Set fields) = codes "{__typename" ++ (fields_text true fields ++ codes "}")

-- the text behind a field's name
abbrev pub selection_text : Selection → List ℕ
selection_text = fold-Selection (List ℕ) text_step

-- the canonical text of a query, with `__typename` at the front of each set but the outermost
abbrev pub sent_text_of : Fields → List ℕ
sent_text_of fields = codes "{" ++ (fields_text false (map (λ f. (f.0, selection_text f.1)) fields) ++ codes "}")
