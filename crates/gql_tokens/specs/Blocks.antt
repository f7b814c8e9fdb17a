-- Block strings (GraphQL October 2021, 2.9.4).
use Rattle.std.specs.Prelude.{ℕ, ◌+◌, ◌-◌, ◌==◌, min, Bool, not, if◌then◌else◌, Option, Some, None, List, [], ◌∷◌, length, take, drop, map, filter}
use Rattle.std.specs.List.{list_all, prefix_len, suffix_len, join_with_byte}
use Rattle.gql_tokens.specs.Characters.{begins_with, source_character, is_white_space, ends_line}
use Rattle.gql_tokens.specs.Runs.{run}

-- the mark before and behind a block string: `"""`
abbrev pub block_mark : List ℕ
block_mark = 34 ∷ 34 ∷ 34 ∷ []

-- BlockStringCharacter at the front: `\"""` for the mark, or a source character where no mark begins
abbrev pub block_character : List ℕ → Option (List ℕ × ℕ)
block_character text =
    if begins_with (92 ∷ block_mark) text then Some (block_mark, 4) else (
    if begins_with block_mark text then None else source_character text)

-- what stands behind the opening mark: how long the block string is with both marks, if it is closed
abbrev pub block_len : List ℕ → Option ℕ
block_len inner =
    let characters = (run block_character inner).1 in
    if begins_with block_mark (drop characters inner) then Some (characters + 6) else None

-- one byte more in the first line
abbrev pub in_first_line : ℕ → List (List ℕ) → List (List ℕ)
in_first_line b [] = (b ∷ []) ∷ []
in_first_line b (line ∷ lines) = (b ∷ line) ∷ lines

-- the lines of a text, without their ends
abbrev pub lines_of : List ℕ → List (List ℕ)
lines_of [] = [] ∷ []
lines_of (b ∷ rest) =
    if ends_line b rest then [] ∷ lines_of rest else (
    if b == 13 then lines_of rest else in_first_line b (lines_of rest))

-- the line has nothing but white space
abbrev pub is_blank : List ℕ → Bool
is_blank line = list_all is_white_space line

-- how many white space characters begin the line
abbrev pub indent_of : List ℕ → ℕ
indent_of line = prefix_len is_white_space line

-- the lesser of two numbers, where there may be none
abbrev pub lesser : Option ℕ → Option ℕ → Option ℕ
lesser None other = other
lesser (Some n) None = Some n
lesser (Some n) (Some m) = Some (min n m)

-- the least of these numbers, if there are any
abbrev pub least : List ℕ → Option ℕ
least [] = None
least (n ∷ ns) = lesser (Some n) (least ns)

-- the common indent: the least of the lines that aren't blank
abbrev pub common_indent : List (List ℕ) → Option ℕ
common_indent lines = least (map indent_of (filter (λ line. not (is_blank line)) lines))

-- the lines without the common indent
abbrev pub without_indent : Option ℕ → List (List ℕ) → List (List ℕ)
without_indent None lines = lines
without_indent (Some n) lines = map (λ line. drop n line) lines

-- the lines, where the first keeps its indent and isn't counted for the common one
abbrev pub dedented : List (List ℕ) → List (List ℕ)
dedented [] = []
dedented (first ∷ others) = first ∷ without_indent (common_indent others) others

-- the lines from the first that isn't blank to the last that isn't
abbrev pub without_blank_ends : List (List ℕ) → List (List ℕ)
without_blank_ends lines =
    let kept = drop (prefix_len is_blank lines) lines in take (length kept - suffix_len is_blank kept) kept

-- BlockStringValue: what the characters between the marks mean together
abbrev pub block_value_of : List ℕ → List ℕ
block_value_of raw = join_with_byte 10 (without_blank_ends (dedented (lines_of raw)))
