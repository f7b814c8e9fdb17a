-- Texts whose brackets nest too deep.
use Rattle.std.specs.Prelude.{ℕ, Bool, List, [], ◌∷◌, cond, nat_lt}
use Rattle.gql_tokens.specs.Heads.{is_last}
use Rattle.gql_tokens.specs.Nesting.{open_behind, nesting_of}
use Rattle.gql_tokens.specs.Tokens.{Token}

-- more than 64 brackets are open at once
abbrev pub nests_too_deep : List ℕ → Bool
nests_too_deep text = nat_lt 64 (nesting_of text)

-- the line of the first token behind which more than 64 brackets are open, where so many are open before; 0, where there is none
abbrev pub deep_line : ℕ → List Token → ℕ
deep_line open_brackets [] = 0
deep_line open_brackets (token ∷ tokens) =
    cond (is_last token.kind) 0
    (cond (nat_lt 64 (open_behind token.kind open_brackets)) token.place.row (deep_line (open_behind token.kind open_brackets) tokens))
