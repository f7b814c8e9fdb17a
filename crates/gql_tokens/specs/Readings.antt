-- What the values of the code mean in the terms of the definitions.
use Rattle.std.specs.Prelude.{ℕ, ◌+◌, ◌<◌, ◌≤◌, ◌^◌, List, [], Option, Some, None, length, map, encode_utf8}
use Rattle.gql_tokens.specs.declared.token.Place.{Place}
use Rattle.gql_tokens.specs.declared.characters.Character.{Character}
use Rattle.gql_tokens.specs.declared.characters.Character.TheVariants.{Source, Escaped, Mark}
use Rattle.gql_tokens.specs.declared.runs.Context.{Context}
use Rattle.gql_tokens.specs.declared.runs.Context.TheVariants as context
use Rattle.gql_tokens.specs.Runs.{Rule}
use Rattle.gql_tokens.specs.Strings.{string_character}
use Rattle.gql_tokens.specs.Blocks.{block_mark, block_character, lines_of}
use Rattle.std.specs.Borrow.{Bor}
use Rattle.gql_tokens.specs.Lexemes.{comment_character}

-- what a character means, and how many bytes it takes
abbrev pub meant : Character → List ℕ × ℕ
meant (Source character) = (character.now, length character.now)
meant (Escaped character len) = (encode_utf8 character, len)
meant Mark = (block_mark, 4)

-- the texts that references point to
abbrev pub texts : List (Bor (List ℕ)) → List (List ℕ)
texts lines = map (λ (line : Bor (List ℕ)). line.now) lines

-- the lines of what stands behind a line end, if one stands there
abbrev pub lines_left : Option (Bor (List ℕ)) → List (List ℕ)
lines_left None = []
lines_left (Some left) = lines_of left.now

-- how many line ends are left at most, and one
abbrev pub lines_bound : Option (Bor (List ℕ)) → ℕ
lines_bound None = 0
lines_bound (Some left) = length left.now + 1

-- the rule of the characters in a context
abbrev pub rule_of : Context → Rule
rule_of context.Comment = comment_character
rule_of context.String = string_character
rule_of context.Block = block_character

-- the character takes a byte at least, and none behind the text
abbrev pub Fits : List ℕ → List ℕ × ℕ → Type 0
Fits text character = (0 < character.1) × (character.1 ≤ length text)

-- rows and columns behind the text still fit in 64 bits
abbrev pub HasRoom : Place → List ℕ → Type 0
HasRoom place text = (place.row + length text < 2 ^ 64) × (place.column + length text < 2 ^ 64)
