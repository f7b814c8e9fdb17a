-- The judgement of a dispatch: the operation that it asks for, or the first reason to refuse it
-- (GraphQL October 2021, 5 and 6.1; the order of the reasons is this project's own).
use Rattle.std.specs.Prelude.{ℕ, Bool, true, false, nat_lt, if◌then◌else◌, List, [], Option, Some, None, Result, Ok, Err}
use Rattle.gql_tokens.specs.declared.token.Place.{Place}
use Rattle.gql_tokens.specs.Nesting.{nesting_of}
use Rattle.gql_model.specs.declared.executable.OperationKind.{OperationKind}
use Rattle.gql_model.specs.declared.executable.OperationKind.TheVariants.{Query, Mutation, Subscription}
use Rattle.gql_model.specs.declared.executable.Operation.{Operation}
use Rattle.gql_model.specs.declared.document.Document.{Document}
use Rattle.gql_documents.specs.Documents.{document_of}
use Rattle.check_model.specs.declared.refusal.Refusal.{Refusal as Ground}
use Rattle.check_model.specs.declared.refusal.Refusal.TheVariants as broken
use Rattle.check_model.specs.Judgement.{refusal_of}
use Rattle.execution_model.specs.Values.{Pairs}
use Rattle.execution_model.specs.Variables.{coerced_variables}
use Rattle.checked_operation.specs.Choice.{chosen_place, operation_at}
use Rattle.gql_coercion.specs.Coerced.{with_more}
use Rattle.machine_model.specs.declared.output.Refusal.{Refusal}
use Rattle.machine_model.specs.declared.output.Refusal.TheVariants.{E6, E7, E8, E9, E14, E15, E16, E17}
use Rattle.judged_dispatch.specs.declared.service.Service.{Service}
use Rattle.judged_dispatch.specs.declared.kinds.Kinds.{Kinds}
use Rattle.judged_dispatch.specs.declared.kinds.Kinds.TheVariants.{Queries, QueriesAndMutations}

-- an operation that is accepted: its document, its place among the definitions, and the values of its variables
pub record Accepted : Type 0 where
  pub document : Document
  pub place : ℕ
  pub variables : Pairs

-- ---- E9: the values of the variables, in order, or the first variable that is refused

-- the operation at this place is accepted with the values of its variables, or E9 names the first variable that is refused
abbrev pub valued : Document → ℕ → Result Pairs (List ℕ) → Result Accepted Refusal
valued document place (Ok variables) = Ok (record { document = document; place = place; variables = variables })
valued document place (Err variable) = Err (E9 variable)

-- the values as a table; validation lets no variable be declared twice
abbrev pub variable_values : Service → Pairs → Operation → Result Pairs (List ℕ)
variable_values service values operation = with_more [] (coerced_variables service.defaults service.schema values operation.variables)

-- ---- E15: the kind of the chosen operation

-- whether operations of this kind are taken; subscriptions never are
abbrev pub is_taken : Kinds → OperationKind → Bool
is_taken kinds Query = true
is_taken Queries Mutation = false
is_taken QueriesAndMutations Mutation = true
is_taken kinds Subscription = false

-- the chosen operation: E7 where there is none, E15 where its kind isn't taken, and else it is judged by its variables
abbrev pub operation_judged : Kinds → Service → Pairs → Document → ℕ → Option Operation → Result Accepted Refusal
operation_judged kinds service values document place None = Err E7
operation_judged kinds service values document place (Some operation) =
    if is_taken kinds operation.kind then valued document place (variable_values service values operation) else Err E15

-- ---- E7, E16, E8 and E17: validation

-- the code of a reason to refuse a document
abbrev pub told : Ground → Refusal
told broken.UnknownOperation = E7
told broken.Introspection = E16
told (broken.Invalid rule) = E8 rule
told broken.TooLarge = E17

-- the operation at the place that the name chooses
abbrev pub choice_judged : Kinds → Service → Pairs → Document → Option ℕ → Result Accepted Refusal
choice_judged kinds service values document None = Err E7
choice_judged kinds service values document (Some place) = operation_judged kinds service values document place (operation_at document place)

-- a document is refused by the first ground that validation finds; without one, the operation that the name chooses is judged
abbrev pub validation_judged : Kinds → Service → Option (List ℕ) → Pairs → Document → Option Ground → Result Accepted Refusal
validation_judged kinds service name values document (Some reason) = Err (told reason)
validation_judged kinds service name values document None = choice_judged kinds service values document (chosen_place document name)

-- ---- E14 and E6: the text

-- what a text was read as: E6 with the place of the fault where it is no document; a document is validated
abbrev pub document_judged : Kinds → Service → Option (List ℕ) → Pairs → Result Document Place → Result Accepted Refusal
document_judged kinds service name values (Err place) = Err (E6 place.row place.column)
document_judged kinds service name values (Ok document) = validation_judged kinds service name values document (refusal_of service.schema document name)

-- brackets nest at most so deep
abbrev pub deepest : ℕ
deepest = 64

-- The operation that a text and a name ask for, with these values for its variables, or the first refusal: E14 where brackets nest
-- too deep, E6 where the text is no document, E7, E16, E8 and E17 in the order in which documents are checked, E15 for an operation
-- of a kind that isn't taken, and E9 for the first variable that is refused.
abbrev pub judged : Kinds → Service → List ℕ → Option (List ℕ) → Pairs → Result Accepted Refusal
judged kinds service text name values =
    if nat_lt deepest (nesting_of text) then Err E14 else document_judged kinds service name values (document_of text)
