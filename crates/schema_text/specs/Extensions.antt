-- Extensions (GraphQL October 2021, 3.3.2 and 3.4.3), which aren't taken.
use Rattle.std.specs.Prelude.{ℕ, suc, Bool, ◌&&◌, ◌||◌, not, List, [], ◌∷◌, cond, codes, nat_eq, take, drop, is_ok}
use Rattle.gql_tokens.specs.declared.token.Place.{Place}
use Rattle.gql_tokens.specs.Places.{first_place, is_inside_character, place_behind}
use Rattle.gql_tokens.specs.Tokens.{tokens_of}
use Rattle.gql_model.specs.Sorts.{starts, word}
use Rattle.gql_documents.specs.Documents.{ends, document_of}
use Rattle.schema_text.specs.Depth.{nests_too_deep}

-- a byte that stands at a place begins the character there
abbrev pub begins_at : Place → Place → ℕ → Bool
begins_at target place b = nat_eq place.row target.row && nat_eq place.column target.column && not (is_inside_character b)

-- how many bytes stand before the character at a place, in a text that begins at another
abbrev pub len_before : Place → Place → List ℕ → ℕ
len_before target place [] = 0
len_before target place (b ∷ rest) = cond (begins_at target place b) 0 (suc (len_before target (place_behind place b rest) rest))

-- a text without tokens
abbrev pub has_no_token : List ℕ → Bool
has_no_token text = ends (tokens_of text)

-- a text that is whole definitions: none, or a document
abbrev pub is_whole : List ℕ → Bool
is_whole text = has_no_token text || (not (nests_too_deep text) && is_ok (document_of text))

-- the first token of the text is the name `extend`
abbrev pub begins_with_extend : List ℕ → Bool
begins_with_extend text = starts (word (codes "extend")) (tokens_of text)

-- whether the name `extend` stands at a place, and before it whole definitions
abbrev pub extends_at : List ℕ → Place → Bool
extends_at text place =
    begins_with_extend (drop (len_before place first_place text) text) && is_whole (take (len_before place first_place text) text)
