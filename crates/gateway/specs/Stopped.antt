-- The lines that say why the program stopped.
use Rattle.std.specs.Prelude.{ℕ, List, ◌++◌, codes, decimal}
use Rattle.gql_schema.specs.declared.error.Refusal.{Refusal}

-- no file has the name given for the schema or for the rules
abbrev pub missing_line : List ℕ → List ℕ
missing_line file = codes "{\"out\":\"stopped\",\"status\":3,\"file\":\"" ++ file ++ codes "\",\"code\":\"missing\"}\n"

-- the schema is refused, by the least code that is broken and its least line
abbrev pub refused_schema_line : Refusal → List ℕ
refused_schema_line refusal =
    codes "{\"out\":\"stopped\",\"status\":3,\"file\":\"schema\",\"code\":\"S" ++ decimal refusal.code ++ codes "\",\"line\":" ++ decimal refusal.line ++ codes "}\n"

-- the input goes past its limit
abbrev pub limit_line : List ℕ
limit_line = codes "{\"out\":\"stopped\",\"status\":10}\n"
