-- The lines that are written.
use Rattle.std.specs.Prelude.{ℕ, List, ◌++◌, codes, decimal}
use Rattle.gql_value.specs.declared.value.Value.{Value}
use Rattle.gql_value.specs.Text.{text_of, quoted}
use Rattle.machine_model.specs.declared.output.Refusal.{Refusal}
use Rattle.machine_model.specs.declared.output.Refusal.TheVariants as refusal

-- the answer to an operation
abbrev pub reply_line : ℕ → Value → List ℕ
reply_line id answer = codes "{\"out\":\"reply\",\"id\":" ++ decimal id ++ codes ",\"data\":" ++ text_of answer ++ codes ",\"partial\":false,\"stale\":false}\n"

-- what is to be sent to the origin: the text of a query
abbrev pub fetch_line : ℕ → List ℕ → List ℕ
fetch_line fetch query = codes "{\"out\":\"fetch\",\"fetch\":" ++ decimal fetch ++ codes ",\"query\":" ++ quoted query ++ codes ",\"operationName\":null,\"variables\":{}}\n"

-- the place of a fault in a query's text
abbrev pub place_text : ℕ → ℕ → List ℕ
place_text row column = codes "\"E6\",\"row\":" ++ decimal row ++ codes ",\"column\":" ++ decimal column

-- the code of a refusal, and the members behind it
abbrev pub refusal_text : Refusal → List ℕ
refusal_text refusal.E1 = codes "\"E1\""
refusal_text refusal.E2 = codes "\"E2\""
refusal_text (refusal.E3 member) = codes "\"E3\",\"member\":" ++ quoted member
refusal_text refusal.E4 = codes "\"E4\""
refusal_text refusal.E5 = codes "\"E5\""
refusal_text (refusal.E6 row column) = place_text row column
refusal_text refusal.E7 = codes "\"E7\""
refusal_text (refusal.E8 rule) = codes "\"E8\",\"rule\":" ++ decimal rule
refusal_text (refusal.E9 variable) = codes "\"E9\",\"variable\":" ++ quoted variable
refusal_text refusal.E10 = codes "\"E10\""
refusal_text (refusal.E11 path) = codes "\"E11\",\"path\":" ++ quoted path
refusal_text refusal.E12 = codes "\"E12\""
refusal_text refusal.E14 = codes "\"E14\""
refusal_text refusal.E15 = codes "\"E15\""
refusal_text refusal.E16 = codes "\"E16\""
refusal_text refusal.E17 = codes "\"E17\""

-- a line that changes nothing
abbrev pub refused_line : ℕ → Refusal → List ℕ
refused_line line refusal = codes "{\"out\":\"refused\",\"line\":" ++ decimal line ++ codes ",\"code\":" ++ refusal_text refusal ++ codes "}\n"
