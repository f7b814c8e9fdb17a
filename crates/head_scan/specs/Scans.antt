-- What is kept of the bytes of a head so far.
use Rattle.std.specs.Prelude.{◌≡◌, ◌++◌, ℕ, ◌<◌, ◌≤◌, ⊤, Bool, true, false, IsUtf8, List, [], ◌∷◌, length}
use Rattle.httparse.specs.Grammar.{AllPass, IsToken, is_uri_byte, LineEnd, print_blank, print_end, print_version}
use Rattle.http_model.specs.Heads.{skip_empty_lines, lines_ended}
use Rattle.head_scan.specs.Places.{placed, place_of}
use Rattle.head_scan.specs.declared.lines.EndedLines.{EndedLines}
use Rattle.head_scan.specs.declared.place.Place.{Place}
use Rattle.head_scan.specs.declared.place.Place.TheVariants.{EmptyLines, LineStart}
use Rattle.head_scan.specs.declared.place.Step.TheVariants.{Stands}
use Rattle.head_scan.specs.declared.request.Fields.{Fields}
use Rattle.head_scan.specs.declared.request.Fields.TheVariants.{Awaited, Within, Left}
use Rattle.head_scan.specs.declared.request.RequestScan.{RequestScan}
use Rattle.head_scan.specs.declared.response.ResponseScan.{ResponseScan}

-- there is a byte at least
abbrev pub is_some_byte : List ℕ → Bool
is_some_byte [] = false
is_some_byte (b ∷ bytes) = true

-- the start line has begun
abbrev pub has_begun : List ℕ → Bool
has_begun seen = is_some_byte (skip_empty_lines seen)

-- how many lines have ended, up to those of a head; past them only that there are more
pub record Counts (count : EndedLines) (seen : List ℕ) : Type 0 where
  pub begun : count.begun ≡ has_begun seen
  pub exact : count.ended ≤ 101 → count.ended ≡ lines_ended seen
  pub over : 101 < count.ended → 101 < lines_ended seen

-- these are all the bytes so far of a response's head
pub record ScansResponse (scan : ResponseScan) (seen : List ℕ) : Type 0 where
  pub place : scan.place ≡ place_of (placed EmptyLines seen)
  pub lines : Counts scan.lines seen

-- empty lines and a request line, with its end (RFC 9112, 3)
pub record IsRequestLine (bytes : List ℕ) : Type 0 where
  pub blank : List LineEnd
  pub method : List ℕ
  pub target : List ℕ
  pub minor : ℕ
  pub line_end : LineEnd
  pub is_method : IsToken method
  pub is_target : (0 < length target) × AllPass is_uri_byte target
  pub is_text : IsUtf8 target
  pub is_minor : minor ≤ 1
  pub split : bytes ≡ print_blank blank ++ (method ++ 32 ∷ (target ++ 32 ∷ (print_version minor ++ print_end line_end)))

-- the bytes are a request line, and then field lines that stand at this place
pub record InFields (place : Place) (seen : List ℕ) : Type 0 where
  pub front : List ℕ
  pub behind : List ℕ
  pub line : IsRequestLine front
  pub split : seen ≡ front ++ behind
  pub stands : placed LineStart behind ≡ Stands place

-- what is kept of the field lines
abbrev pub FieldsStand : Fields → List ℕ → Type 0
FieldsStand Awaited seen = ⊤
FieldsStand (Within place) seen = InFields place seen
FieldsStand Left seen = ⊤

-- these are all the bytes so far of a request's head
pub record ScansRequest (scan : RequestScan) (seen : List ℕ) : Type 0 where
  pub fields : FieldsStand scan.fields seen
  pub lines : Counts scan.lines seen
