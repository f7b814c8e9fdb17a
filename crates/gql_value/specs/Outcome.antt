-- What the answer of a GraphQL origin comes to: an answer with its errors, or a fault.
use Rattle.std.specs.Prelude.{ℕ, ◌==◌, ◌&&◌, ◌||◌, Bool, true, false, not, nat_le, List, [], ◌∷◌, ◌++◌, codes, Option, None, Some, is_some, is_none, option_map, option_and_then, unwrap_or, position, decimal, if◌then◌else◌}
use Rattle.std.specs.Option.{option_or}
use Rattle.std.specs.List.{list_all}
use Rattle.std.specs.Str.{is_utf8}
use Rattle.serde_json.specs.Data.{Data, null, boolean, number, string, array, object, Items, no_items, item}
use Rattle.serde_json.specs.Find.{get, as_str}
use Rattle.serde_json.specs.Read.{read}
use Rattle.gql_value.specs.Json.{data_of, is_whole, behind, not_whole, dotted}
use Rattle.gql_value.specs.Values.{value_of}
use Rattle.gql_value.specs.declared.outcome.Fault.{Fault}
use Rattle.gql_value.specs.declared.outcome.Fault.TheVariants.{F1, F2, F3, F4, F5, F6}
use Rattle.gql_value.specs.declared.outcome.Outcome.{Outcome}
use Rattle.gql_value.specs.declared.outcome.Outcome.TheVariants as outcome

-- what a response comes to: its data with its errors, or a fault
pub data Meaning : Type 0 where
  body : (answer errors : Data) → Meaning
  bad : Fault → Meaning

-- an outcome, with its values as the JSON data that they are
abbrev pub meaning_of : Outcome → Meaning
meaning_of (outcome.Body answer errors) = body (data_of answer) (data_of errors)
meaning_of (outcome.Bad fault) = bad fault

-- the outcome that is meant, where its numbers are whole
abbrev pub outcome_from : Meaning → Outcome
outcome_from (body answer errors) = outcome.Body (value_of answer) (value_of errors)
outcome_from (bad fault) = outcome.Bad fault

-- a member of the body, where it may be absent; a value that isn't an object has none
abbrev pub or_null : Option Data → Data
or_null member = unwrap_or member null

-- the items of an array, in order
abbrev pub list_of : Items → List Data
list_of no_items = []
list_of (item d ds) = d ∷ list_of ds

-- `errors` that tell nothing: null or an empty list
abbrev pub tells_no_error : Data → Bool
tells_no_error null = true
tells_no_error (boolean b) = false
tells_no_error (number n) = false
tells_no_error (string s) = false
tells_no_error (array no_items) = true
tells_no_error (array (item d ds)) = false
tells_no_error (object ms) = false

-- F2: the body has neither `data` nor an error, so it is no response (GraphQL October 2021, 7.1)
abbrev pub is_no_response : Data → Bool
is_no_response response = is_none (get (codes "data") response) && tells_no_error (or_null (get (codes "errors") response))

-- F3: the steps from the body to the first number in `data` or in `errors` that isn't whole
abbrev pub first_not_whole : Data → Option (List (List ℕ))
first_not_whole response =
    option_or (behind (codes "data") (not_whole (or_null (get (codes "data") response)))) (behind (codes "errors") (not_whole (or_null (get (codes "errors") response))))

-- a step of an error's path: a response key or the index in a list (7.1.2)
abbrev pub is_path_step : Data → Bool
is_path_step null = false
is_path_step (boolean b) = false
is_path_step (number n) = is_whole n
is_path_step (string s) = true
is_path_step (array ds) = false
is_path_step (object ms) = false

-- an error's `path`: null or a list of steps (7.1.2)
abbrev pub is_path : Data → Bool
is_path null = true
is_path (boolean b) = false
is_path (number n) = false
is_path (string s) = false
is_path (array ds) = list_all is_path_step (list_of ds)
is_path (object ms) = false

-- an entry of `errors`: it has a text as `message`, and its `path`, where it has one, is a path (7.1.2)
abbrev pub is_error : Data → Bool
is_error entry = is_some (option_and_then as_str (get (codes "message") entry)) && is_path (or_null (get (codes "path") entry))

-- F4: `errors` where they are neither null nor a list, or else `errors.` and the index of the first entry that is no error
abbrev pub errors_misfit : Data → Option (List ℕ)
errors_misfit null = None
errors_misfit (boolean b) = Some (codes "errors")
errors_misfit (number n) = Some (codes "errors")
errors_misfit (string s) = Some (codes "errors")
errors_misfit (array ds) = option_map (λ at. codes "errors." ++ decimal at) (position (λ entry. not (is_error entry)) (list_of ds))
errors_misfit (object ms) = Some (codes "errors")

-- the errors that are kept: none where `errors` is null
abbrev pub errors_kept : Data → Data
errors_kept null = array no_items
errors_kept (boolean b) = boolean b
errors_kept (number n) = number n
errors_kept (string s) = string s
errors_kept (array ds) = array ds
errors_kept (object ms) = object ms

-- a body whose numbers are whole
abbrev pub whole_response : Data → Option (List ℕ) → Meaning
whole_response response None = body (or_null (get (codes "data") response)) (errors_kept (or_null (get (codes "errors") response)))
whole_response response (Some path) = bad (F4 path)

-- a body that is a response, where the first number that isn't whole is given
abbrev pub counted_response : Data → Option (List (List ℕ)) → Meaning
counted_response response None = whole_response response (errors_misfit (or_null (get (codes "errors") response)))
counted_response response (Some steps) = bad (F3 (dotted steps))

-- what the JSON of a body comes to, by the first of F2, F3 and F4 that it meets
abbrev pub outcome_of_data : Data → Meaning
outcome_of_data response = if is_no_response response then bad F2 else counted_response response (first_not_whole response)

-- the JSON that a body is (RFC 8259, as serde_json reads it)
abbrev pub json_of : List ℕ → Option Data
json_of text = if is_utf8 text then read text else None

-- F1: the body isn't JSON
abbrev pub outcome_of_text : Option Data → Meaning
outcome_of_text None = bad F1
outcome_of_text (Some response) = outcome_of_data response

-- a status that says that the origin can't be reached just now (RFC 9110, 15.6.3 to 15.6.5)
abbrev pub is_unreachable : ℕ → Bool
is_unreachable status = status == 502 || status == 503 || status == 504

-- a status of success (RFC 9110, 15.3)
abbrev pub is_success : ℕ → Bool
is_success status = nat_le 200 status && nat_le status 299

-- the fault that a status is: F6 where the origin can't be reached just now, F5 where it is no other success
abbrev pub status_fault : ℕ → Option Fault
status_fault status = if is_unreachable status then Some F6 else (if is_success status then None else Some (F5 status))

-- what a body comes to beside the fault of its status
abbrev pub outcome_beside : Option Fault → List ℕ → Meaning
outcome_beside (Some fault) text = bad fault
outcome_beside None text = outcome_of_text (json_of text)

-- what a response of HTTP with this status and this body comes to
abbrev pub outcome_meaning : ℕ → List ℕ → Meaning
outcome_meaning status text = outcome_beside (status_fault status) text
