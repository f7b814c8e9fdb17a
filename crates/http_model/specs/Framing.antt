-- How the body of a message ends, by the fields of its head (RFC 9112, 6).
use Rattle.std.specs.Prelude.{ℕ, ◌==◌, ◌||◌, ◌&&◌, not, nat_le, Bool, bytes_eq, if◌then◌else◌, List, length, codes, fold}
use Rattle.std.specs.List.{list_all}
use Rattle.std.specs.Char.{is_ascii_digit}
use Rattle.std.specs.Str.{str_to_ascii_lowercase}
use Rattle.std.specs.Str.Parse.{digits_value}
use Rattle.http_model.specs.declared.framing.Coding.{Coding}
use Rattle.http_model.specs.declared.framing.Coding.TheVariants as coding
use Rattle.http_model.specs.declared.framing.Framing.{Framing}
use Rattle.http_model.specs.declared.framing.Framing.TheVariants as framing

-- the bytes of a body
abbrev pub body_limit : ℕ
body_limit = 8388608

-- the bytes are this word, in any case of letters
abbrev pub is_word : List ℕ → List ℕ → Bool
is_word bytes word = bytes_eq (str_to_ascii_lowercase bytes) (str_to_ascii_lowercase word)

-- one more `Transfer-Encoding`: the first may be `chunked`, and there may be no second
abbrev pub more_coding : Coding → List ℕ → Coding
more_coding coding.Absent value = if is_word value (codes "chunked") then coding.Chunked else coding.Other
more_coding coding.Chunked value = coding.Other
more_coding coding.Other value = coding.Other

-- what a field with this name and this value adds to the coding
abbrev pub coding_after : Coding → List ℕ × List ℕ → Coding
coding_after coding field = if is_word field.0 (codes "transfer-encoding") then more_coding coding field.1 else coding

-- what the fields `Content-Length` say
pub data Length : Type 0 where
  -- there is none
  absent : Length
  -- each has this value
  stated : (value : List ℕ) → Length
  -- two differ
  unclear : Length

-- one more `Content-Length`: values are compared as they are written
abbrev pub more_length : Length → List ℕ → Length
more_length absent value = stated value
more_length (stated first) value = if bytes_eq first value then stated first else unclear
more_length unclear value = unclear

-- what a field with this name and this value adds to the length
abbrev pub length_after : Length → List ℕ × List ℕ → Length
length_after so_far field = if is_word field.0 (codes "content-length") then more_length so_far field.1 else so_far

-- 1*DIGIT (RFC 9110, 8.6)
abbrev pub is_digits : List ℕ → Bool
is_digits value = not (length value == 0) && list_all is_ascii_digit value

-- a body of the length that these digits write
abbrev pub exactly : ℕ → Framing
exactly size = if nat_le size body_limit then framing.Exact size else framing.TooLong

-- how a body ends by its length, where none may be stated
abbrev pub by_length : Framing → Length → Framing
by_length unstated absent = unstated
by_length unstated (stated value) = if is_digits value then exactly (digits_value 10 value) else framing.Malformed
by_length unstated unclear = framing.Malformed

-- how a body ends by its coding, and else by its length (RFC 9112, 6.3)
abbrev pub by_coding : Framing → Coding → Length → Framing
by_coding unstated coding.Absent size = by_length unstated size
by_coding unstated coding.Chunked size = framing.Chunked
by_coding unstated coding.Other size = framing.Malformed

-- the coding that the fields of a head state
abbrev pub coding_of : List (List ℕ × List ℕ) → Coding
coding_of fields = fold coding_after coding.Absent fields

-- the length that the fields of a head state
abbrev pub length_of : List (List ℕ × List ℕ) → Length
length_of fields = fold length_after absent fields

-- a response with this status has no body (RFC 9110, 15.3.5 and 15.4.5)
abbrev pub has_no_body : ℕ → Bool
has_no_body status = status == 204 || status == 304

-- how the body of a response ends, by its status and the names and values of its fields
abbrev pub response_framing : ℕ → List (List ℕ × List ℕ) → Framing
response_framing status fields = if has_no_body status then framing.Empty else by_coding framing.UntilClose (coding_of fields) (length_of fields)

-- how the body of a request ends: without either field there is none
abbrev pub request_framing : List (List ℕ × List ℕ) → Framing
request_framing fields = by_coding framing.Empty (coding_of fields) (length_of fields)
