-- What it is that `check` accepts an operation: the condition of all that is asked of a checked operation.
use Rattle.std.specs.Prelude.{◌≡◌, ℕ, true, List, [], ◌∷◌, Option, Some, None, is_some, slice_get}
use Rattle.std.specs.Option.{option_map_or}
use Rattle.gql_model.specs.declared.document.Document.{Document}
use Rattle.schema_model.specs.declared.schema.Schema.{Schema}
use Rattle.gql_numbering.specs.declared.mark.Mark.{Mark}
use Rattle.gql_numbering.specs.Marks.{definition_marks}
use Rattle.gql_numbering.specs.Numbers.{Numbers}
use Rattle.fragment_rules.specs.Indexes.{Indexes}
use Rattle.check_model.specs.Judgement.{refusal_of}
use Rattle.execution_model.specs.Values.{Pairs}
use Rattle.execution_model.specs.Inputs.{Defaults}
use Rattle.execution_model.specs.Asked.{Execution}
use Rattle.checked_operation.specs.declared.checked.Checked.{Checked}
use Rattle.checked_operation.specs.Choice.{chosen_place, operation_at}

-- the number of the set behind a mark, in a list of one
abbrev pub sets_at : Option Mark → List ℕ
sets_at mark = option_map_or (λ m. m.sets ∷ []) mark []

-- the number of the own set of the definition at a place, in a list of one
abbrev pub own_sets : Document → ℕ → List ℕ
own_sets document place = sets_at (slice_get (definition_marks document) place)

-- the numbering and the index are those of the document, the place is that of an operation, and the set is the operation's own
pub record IsWhole (checked : Checked) : Type 0 where
  pub numbered : Numbers checked.numbering checked.document
  pub indexed : Indexes checked.fragments checked.document.definitions
  pub operation : is_some (operation_at checked.document checked.place) ≡ true
  pub sets : checked.sets ≡ own_sets checked.document checked.place

-- validation refuses neither the document nor the choice of its operation by this name, and the place is that of the choice
pub record IsAcceptedAs (schema : Schema) (name : Option (List ℕ)) (checked : Checked) : Type 0 where
  pub unrefused : refusal_of schema checked.document name ≡ None
  pub chosen : chosen_place checked.document name ≡ Some checked.place
  pub whole : IsWhole checked

-- the execution of a checked operation, with the values of the schema's defaults and of its variables
abbrev pub execution_of : Schema → Defaults → Pairs → Checked → Execution
execution_of schema defaults variables checked = record {
  schema = schema;
  defaults = defaults;
  document = checked.document;
  operation = checked.place;
  variables = variables;
}
