-- The text of each line that is written.
use Rattle.std.specs.Prelude.{ℕ, Bool, true, false, List, [], ◌∷◌, codes, decimal, Option}
use Rattle.gql_value.specs.Text.{quoted, text_of}
use Rattle.gql_value.specs.declared.value.Value.{Value, out-Value}
use Rattle.gql_value.specs.declared.value.Value.TheOpen.{Value-F}
use Rattle.gql_value.specs.declared.outcome.Fault.{Fault}
use Rattle.gql_value.specs.declared.outcome.Fault.TheVariants.{F1, F2, F3, F4, F5, F6, F7, F8}
use Rattle.http_model.specs.Texts.{name_text}
use Rattle.machine_model.specs.declared.output.Out.{Out}
use Rattle.machine_model.specs.declared.output.Out.TheVariants as out
use Rattle.machine_model.specs.declared.output.Ending.{Ending}
use Rattle.machine_model.specs.declared.output.Ending.TheVariants.{Outside, QueueFull}
use Rattle.machine_model.specs.declared.output.Refusal.{Refusal}
use Rattle.machine_model.specs.declared.output.Refusal.TheVariants as refusal
use Rattle.output_lines.specs.Parts.{Member, line, truth_text, word_text, numbers_text, cells_text}

-- a number
abbrev pub number : List ℕ → ℕ → Member
number name n = (name, decimal n)

-- a text, which may need escapes
abbrev pub text : List ℕ → List ℕ → Member
text name value = (name, quoted value)

-- true or false
abbrev pub truth : List ℕ → Bool → Member
truth name value = (name, truth_text value)

-- a code
abbrev pub code : List ℕ → Member
code word = (codes "code", word_text word)

-- the value is a list that isn't empty
abbrev pub level_has_entries : Value-F Value → Bool
level_has_entries (Value-F.List []) = false
level_has_entries (Value-F.List (entry ∷ entries)) = true
level_has_entries _ = false

-- an answer's `errors` have an entry (GraphQL October 2021, 7.1.2)
abbrev pub has_entries : Value → Bool
has_entries errors = level_has_entries (out-Value errors)

-- data for an operation; `errors` only where the answer that brought it has some. They stand as they came; of JSON that
-- was read the members are in the order of their names
abbrev pub reply_parts : ℕ → Value → Value → Bool → Bool → Bool → List Member
reply_parts id answer errors true partial stale =
    number (codes "id") id ∷ (codes "data", text_of answer) ∷ (codes "errors", text_of errors) ∷ truth (codes "partial") partial ∷ truth (codes "stale") stale ∷ []
reply_parts id answer errors false partial stale =
    number (codes "id") id ∷ (codes "data", text_of answer) ∷ truth (codes "partial") partial ∷ truth (codes "stale") stale ∷ []

-- the code of a fault
abbrev pub fault_code : Fault → List ℕ
fault_code F1 = codes "F1"
fault_code F2 = codes "F2"
fault_code (F3 path) = codes "F3"
fault_code (F4 path) = codes "F4"
fault_code (F5 status) = codes "F5"
fault_code F6 = codes "F6"
fault_code F7 = codes "F7"
fault_code F8 = codes "F8"

-- what is told of a fault behind its code: the path to what doesn't fit, or the status
abbrev pub fault_details : Fault → List Member
fault_details F1 = []
fault_details F2 = []
fault_details (F3 path) = text (codes "path") path ∷ []
fault_details (F4 path) = text (codes "path") path ∷ []
fault_details (F5 status) = number (codes "status") status ∷ []
fault_details F6 = []
fault_details F7 = []
fault_details F8 = []

-- why an operation has no data
abbrev pub ending_parts : ℕ → Ending → List Member
ending_parts id (Outside fault) = number (codes "id") id ∷ code (fault_code fault) ∷ fault_details fault
ending_parts id QueueFull = number (codes "id") id ∷ code (codes "E13") ∷ []

-- the code of a refusal
abbrev pub refusal_code : Refusal → List ℕ
refusal_code refusal.E1 = codes "E1"
refusal_code refusal.E2 = codes "E2"
refusal_code (refusal.E3 member) = codes "E3"
refusal_code refusal.E4 = codes "E4"
refusal_code refusal.E5 = codes "E5"
refusal_code (refusal.E6 row column) = codes "E6"
refusal_code refusal.E7 = codes "E7"
refusal_code (refusal.E8 rule) = codes "E8"
refusal_code (refusal.E9 variable) = codes "E9"
refusal_code refusal.E10 = codes "E10"
refusal_code (refusal.E11 path) = codes "E11"
refusal_code refusal.E12 = codes "E12"
refusal_code refusal.E14 = codes "E14"
refusal_code refusal.E15 = codes "E15"
refusal_code refusal.E16 = codes "E16"
refusal_code refusal.E17 = codes "E17"

-- what is told of a refusal behind its code: the member, the place in the document, the rule of validation, the variable, or the path to the number
abbrev pub refusal_details : Refusal → List Member
refusal_details refusal.E1 = []
refusal_details refusal.E2 = []
refusal_details (refusal.E3 member) = text (codes "member") member ∷ []
refusal_details refusal.E4 = []
refusal_details refusal.E5 = []
refusal_details (refusal.E6 row column) = number (codes "row") row ∷ number (codes "column") column ∷ []
refusal_details refusal.E7 = []
refusal_details (refusal.E8 rule) = number (codes "rule") rule ∷ []
refusal_details (refusal.E9 variable) = text (codes "variable") variable ∷ []
refusal_details refusal.E10 = []
refusal_details (refusal.E11 path) = text (codes "path") path ∷ []
refusal_details refusal.E12 = []
refusal_details refusal.E14 = []
refusal_details refusal.E15 = []
refusal_details refusal.E16 = []
refusal_details refusal.E17 = []

-- why a line changed nothing
abbrev pub refused_parts : ℕ → Refusal → List Member
refused_parts at refusal = number (codes "line") at ∷ code (refusal_code refusal) ∷ refusal_details refusal

-- a mutation waits in the queue, under the number of its row
abbrev pub queued_parts : ℕ → ℕ → List Member
queued_parts id row = number (codes "id") id ∷ number (codes "row") row ∷ []

-- how many tickets are squashed, and the tickets that are kept
abbrev pub layers_parts : ℕ → List ℕ → List Member
layers_parts base kept = number (codes "base") base ∷ (codes "kept", numbers_text kept) ∷ []

-- what is to be sent to the origin; the variables are a text of JSON already
abbrev pub fetch_parts : ℕ → List ℕ → Option (List ℕ) → List ℕ → List Member
fetch_parts fetch query operation variables =
    number (codes "fetch") fetch ∷ text (codes "query") query ∷ (codes "operationName", name_text operation) ∷ (codes "variables", variables) ∷ []

-- the line of an output
abbrev pub line_text : Out → List ℕ
line_text (out.Reply peer id answer errors partial stale) = line (codes "reply") (reply_parts id answer errors (has_entries errors) partial stale)
line_text (out.Fault peer id ending) = line (codes "fault") (ending_parts id ending)
line_text (out.Queued peer id row) = line (codes "queued") (queued_parts id row)
line_text (out.Refused peer at refusal) = line (codes "refused") (refused_parts at refusal)
line_text (out.Layers peer base kept) = line (codes "layers") (layers_parts base kept)
line_text (out.Flat peer cells) = line (codes "flat") ((codes "cells", cells_text cells) ∷ [])
line_text (out.Fetch fetch kind query operation variables) = line (codes "fetch") (fetch_parts fetch query operation variables)
line_text (out.Cancel fetch) = line (codes "cancel") (number (codes "fetch") fetch ∷ [])
