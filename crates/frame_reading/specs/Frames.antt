-- What a line of input asks for, or why it isn't taken.
use Rattle.std.specs.Prelude.{ℕ, ◌||◌, Bool, if◌then◌else◌, List, codes, Option, Some, None, Result, Ok, Err, is_some, bytes_eq}
use Rattle.std.specs.Str.{is_utf8}
use Rattle.serde_json.specs.Data.{Data}
use Rattle.serde_json.specs.Read.{read}
use Rattle.serde_json.specs.Find.{get}
use Rattle.gql_value.specs.Values.{Pairs}
use Rattle.gql_value.specs.Members.{number_in, text_in}
use Rattle.machine_model.specs.declared.output.Refusal.{Refusal}
use Rattle.machine_model.specs.declared.output.Refusal.TheVariants.{E3}
use Rattle.frame_reading.specs.Members.{text_if_given, object_if_given, required, variables_of}

-- an operation that a client asks for under its id: a document, the name of an operation in it, and values for its variables
-- (GraphQL over HTTP, request parameters)
pub record Dispatch : Type 0 where
  pub id : ℕ
  pub query : List ℕ
  pub operation : Option (List ℕ)
  pub variables : Pairs

-- what a line asks for: to run an operation, or to take the response to a fetch
pub data Frame : Type 0 where
  dispatch : Dispatch → Frame
  -- the body that came for a fetch
  response : (fetch : ℕ) (body : Data) → Frame

-- the JSON that a line is (RFC 8259, as serde_json reads it)
abbrev pub json_of : List ℕ → Option Data
json_of line = if is_utf8 line then read line else None

-- ---- a dispatch, member by member in the order in which they are tested

-- the dispatch of these members, unless a number in its variables isn't whole (E11)
abbrev pub with_variables : ℕ → List ℕ → Option (List ℕ) → Result Pairs Refusal → Result Frame Refusal
with_variables id query operation (Err refusal) = Err refusal
with_variables id query operation (Ok variables) = Ok (dispatch (record { id = id; query = query; operation = operation; variables = variables }))

-- two members that no dispatch has yet
abbrev pub without_later : Data → ℕ → List ℕ → Option (List ℕ) → Result (Option Data) Refusal → Result Frame Refusal
without_later value id query operation (Err refusal) = Err refusal
without_later value id query operation (Ok given) =
    if is_some (get (codes "policy") value)
    then Err (E3 (codes "policy"))
    else (if is_some (get (codes "then") value)
    then Err (E3 (codes "then"))
    else with_variables id query operation (variables_of given))

-- behind `operationName`, `variables` is an object, null or absent; else it is the member at fault
abbrev pub with_operation : Data → ℕ → List ℕ → Result (Option (List ℕ)) Refusal → Result Frame Refusal
with_operation value id query (Err refusal) = Err refusal
with_operation value id query (Ok operation) =
    without_later value id query operation (required (codes "variables") (object_if_given (get (codes "variables") value)))

-- behind `query`, `operationName` is a text, null or absent; else it is the member at fault
abbrev pub with_query : Data → ℕ → Result (List ℕ) Refusal → Result Frame Refusal
with_query value id (Err refusal) = Err refusal
with_query value id (Ok query) = with_operation value id query (required (codes "operationName") (text_if_given (get (codes "operationName") value)))

-- behind `id`, `query` is a text; else it is the member at fault
abbrev pub with_id : Data → Result ℕ Refusal → Result Frame Refusal
with_id value (Err refusal) = Err refusal
with_id value (Ok id) = with_query value id (required (codes "query") (text_in (codes "query") value))

-- a dispatch, or the first member that is missing or of another form, or else the first number in `variables` that isn't whole
abbrev pub dispatch_in : Data → Result Frame Refusal
dispatch_in value = with_id value (required (codes "id") (number_in (codes "id") value))

-- ---- a response

-- a member that only a dispatch has
abbrev pub has_dispatch_member : Data → Bool
has_dispatch_member value =
    is_some (get (codes "operationName") value) || is_some (get (codes "variables") value) || is_some (get (codes "policy") value) || is_some (get (codes "then") value)

-- the value is neither of the two frames
abbrev pub no_frame : Result Frame Refusal
no_frame = Err (E3 (codes "do"))

-- the response to this fetch with this body; no frame where there is no such number or no body
abbrev pub response_of : Option ℕ → Option Data → Result Frame Refusal
response_of None body = no_frame
response_of (Some fetch) None = no_frame
response_of (Some fetch) (Some body) = Ok (response fetch body)

-- a response by its members `fetch` and `body`; no frame where it has a member that only a dispatch has
abbrev pub response_in : Data → Result Frame Refusal
response_in value = if has_dispatch_member value then no_frame else response_of (number_in (codes "fetch") value) (get (codes "body") value)

-- ---- both

-- the frame that an object's member `do` names
abbrev pub frame_named : Data → Option (List ℕ) → Result Frame Refusal
frame_named value None = no_frame
frame_named value (Some word) =
    if bytes_eq word (codes "dispatch")
    then dispatch_in value
    else (if bytes_eq word (codes "response") then response_in value else no_frame)

-- the frame that JSON is, or why it isn't taken: E3 with the first member that is at fault, in the order of the members, and then E11
abbrev pub frame_of : Data → Result Frame Refusal
frame_of value = frame_named value (text_in (codes "do") value)
