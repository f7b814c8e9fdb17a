-- An automaton for the heads of httparse's grammar, from the front of a response (RFC 9112, 2 to 5).
use Rattle.std.specs.Prelude.{ℕ, ◌+◌, ◌==◌, ◌||◌, nat_lt, if◌then◌else◌, List, Option, None, Some, get_or, codes, fold}
use Rattle.std.specs.Char.{is_ascii_digit}
use Rattle.httparse.specs.Grammar.{is_token_byte, is_value_byte}
use Rattle.head_scan.specs.declared.place.Place.{Place}
use Rattle.head_scan.specs.declared.place.Place.TheVariants.{EmptyLines, EmptyLineCr, Version, VersionEnd, Status, Value, LineCr, LineStart, Name, LastCr}
use Rattle.head_scan.specs.declared.place.Step.{Step}
use Rattle.head_scan.specs.declared.place.Step.TheVariants.{Stands, Ends, Fails}

-- the front of each version
abbrev pub version_front : List ℕ
version_front = codes "HTTP/1."

-- this byte and no other
abbrev pub expected : ℕ → ℕ → Step → Step
expected b wanted next = if b == wanted then next else Fails

-- a byte before the start line
abbrev pub in_empty_lines : ℕ → Step
in_empty_lines b = if b == 13 then Stands EmptyLineCr else (if b == 10 then Stands EmptyLines else expected b 72 (Stands (Version 1)))

-- a byte of a version, of which so many came
abbrev pub in_version : ℕ → ℕ → Step
in_version matched b =
    if nat_lt matched 7 then expected b (get_or version_front matched 0) (Stands (Version (matched + 1)))
    else (if b == 48 || b == 49 then Stands VersionEnd else Fails)

-- a byte that ends the start line or a field line, or else this
abbrev pub at_line_end : ℕ → Step → Step
at_line_end b other = if b == 13 then Stands LineCr else (if b == 10 then Stands LineStart else other)

-- a byte behind so many digits of a status
abbrev pub in_status : ℕ → ℕ → Step
in_status digits b =
    if nat_lt digits 3 then (if is_ascii_digit b then Stands (Status (digits + 1)) else Fails)
    else at_line_end b (expected b 32 (Stands Value))

-- a byte of a phrase or of a field's value, or of its line's end
abbrev pub in_value : ℕ → Step
in_value b = if is_value_byte b then Stands Value else at_line_end b Fails

-- a byte at the front of a line behind the start line
abbrev pub at_line_start : ℕ → Step
at_line_start b = if is_token_byte b then Stands Name else (if b == 13 then Stands LastCr else (if b == 10 then Ends else Fails))

-- a byte of a field's name, or behind it
abbrev pub in_name : ℕ → Step
in_name b = if is_token_byte b then Stands Name else expected b 58 (Stands Value)

-- what one more byte leads to
abbrev pub place_step : Place → ℕ → Step
place_step EmptyLines b = in_empty_lines b
place_step EmptyLineCr b = expected b 10 (Stands EmptyLines)
place_step (Version matched) b = in_version matched b
place_step VersionEnd b = expected b 32 (Stands (Status 0))
place_step (Status digits) b = in_status digits b
place_step Value b = in_value b
place_step LineCr b = expected b 10 (Stands LineStart)
place_step LineStart b = at_line_start b
place_step Name b = in_name b
place_step LastCr b = expected b 10 Ends

-- one more byte; none may follow the end
abbrev pub step_after : Step → ℕ → Step
step_after (Stands place) b = place_step place b
step_after Ends b = Fails
step_after Fails b = Fails

-- where bytes lead from a place
abbrev pub placed : Place → List ℕ → Step
placed place bytes = fold step_after (Stands place) bytes

-- the place within the head, if there is one
abbrev pub place_of : Step → Option Place
place_of (Stands place) = Some place
place_of Ends = None
place_of Fails = None
