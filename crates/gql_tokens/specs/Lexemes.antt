-- The lexical grammar: what stands at the front of a text (GraphQL October 2021, 2.1.5 to 2.1.8).
use Rattle.std.specs.Prelude.{ℕ, ◌+◌, ◌==◌, ◌||◌, if◌then◌else◌, Option, Some, None, List, [], ◌∷◌, drop, codes, option_map}
use Rattle.std.specs.List.{prefix_len}
use Rattle.gql_tokens.specs.declared.token.Kind.{Kind}
use Rattle.gql_tokens.specs.declared.token.Kind.TheVariants.{Bang, Dollar, Ampersand, ParenOpen, ParenClose, Spread, Colon, Equals, At, BracketOpen, BracketClose, BraceOpen, Pipe, BraceClose, Name, Integer, String}
use Rattle.gql_tokens.specs.Characters.{begins_with, source_character, is_white_space, is_line_end, line_end_len}
use Rattle.gql_tokens.specs.Runs.{run}
use Rattle.gql_tokens.specs.Names.{is_name_start, is_name_continue, is_digit}
use Rattle.gql_tokens.specs.Numbers.{integer_len}
use Rattle.gql_tokens.specs.Strings.{string_len}
use Rattle.gql_tokens.specs.Blocks.{block_mark, block_len}

-- UnicodeBOM: U+FEFF (2.1.7)
abbrev pub byte_order_mark : List ℕ
byte_order_mark = 0xEF ∷ 0xBB ∷ 0xBF ∷ []

-- CommentChar: a source character that ends no line (2.1.4)
abbrev pub comment_character : List ℕ → Option (List ℕ × ℕ)
comment_character [] = None
comment_character (b ∷ rest) = if is_line_end b then None else source_character (b ∷ rest)

-- Ignored: how many bytes at the front are ignored together, or 0: white space, a comma, a line end, a comment or U+FEFF (2.1.7)
abbrev pub ignored_len : List ℕ → ℕ
ignored_len [] = 0
ignored_len (b ∷ rest) =
    if is_white_space b || b == 44 then 1 else (
    if is_line_end b then line_end_len b rest else (
    if b == 35 then 1 + (run comment_character rest).1 else (
    if begins_with byte_order_mark (b ∷ rest) then 3 else 0)))

-- Punctuator: the kind of one that is a single character (2.1.8)
abbrev pub punctuator : ℕ → Option Kind
punctuator b =
    if b == 33 then Some Bang else (
    if b == 36 then Some Dollar else (
    if b == 38 then Some Ampersand else (
    if b == 40 then Some ParenOpen else (
    if b == 41 then Some ParenClose else (
    if b == 58 then Some Colon else (
    if b == 61 then Some Equals else (
    if b == 64 then Some At else (
    if b == 91 then Some BracketOpen else (
    if b == 93 then Some BracketClose else (
    if b == 123 then Some BraceOpen else (
    if b == 124 then Some Pipe else (
    if b == 125 then Some BraceClose else None))))))))))))

-- a kind, and how many bytes the token takes
abbrev pub of_kind : Kind → ℕ → Kind × ℕ
of_kind kind n = (kind, n)

-- a name at the front: as long as name characters follow (2.1.9)
abbrev pub name_token : List ℕ → Option (Kind × ℕ)
name_token text = Some (Name, prefix_len is_name_continue text)

-- an integer at the front, where nothing stands behind it that continues a number (2.9.1)
abbrev pub integer_token : List ℕ → Option (Kind × ℕ)
integer_token text = option_map (of_kind Integer) (integer_len text)

-- a string at the front; `"""` always begins a block string (2.9.4)
abbrev pub string_token : List ℕ → Option (Kind × ℕ)
string_token text =
    option_map (of_kind String)
    (if begins_with block_mark text then block_len (drop 3 text) else string_len (drop 1 text))

-- `...` at the front, or a punctuator of one character (2.1.8)
abbrev pub punctuator_token : ℕ → List ℕ → Option (Kind × ℕ)
punctuator_token b text =
    if begins_with (codes "...") text then Some (Spread, 3) else option_map (λ kind. of_kind kind 1) (punctuator b)

-- Token: its kind and its length, where one begins at the front (2.1.6)
abbrev pub token_at : List ℕ → Option (Kind × ℕ)
token_at [] = None
token_at (b ∷ rest) =
    if is_name_start b then name_token (b ∷ rest) else (
    if is_digit b || b == 45 then integer_token (b ∷ rest) else (
    if b == 34 then string_token (b ∷ rest) else punctuator_token b (b ∷ rest)))
