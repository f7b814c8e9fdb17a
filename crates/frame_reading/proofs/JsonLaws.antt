-- The JSON that a line is, from what the reader tells of it.
use Rattle.std.proofs.Common.{◌≡◌, ℕ, List, Bool, true, false, if◌then◌else◌, Option, Some, None, IsUtf8, refl}
use Rattle.std.proofs.lemmas.Str.{IsUtf8-from_is_utf8, is_utf8-from_IsUtf8}
use Rattle.std.specs.Str.{is_utf8}
use Rattle.serde_json.specs.Data.{Data}
use Rattle.serde_json.specs.Read.{read}
use Rattle.frame_reading.specs.Frames.{json_of}

pub json_of_read : (line : List ℕ) (json : Data) → IsUtf8 line → read line ≡ Some json → json_of line ≡ Some json
json_of_read line json utf8 is = rw (is_utf8-from_IsUtf8 line utf8) is

none_where : (utf8 : Bool) (json : Option Data) → (utf8 ≡ true → json ≡ None) → (if utf8 then json else None) ≡ None
none_where true json none = none refl
none_where false json none = refl

pub json_of_refused : (line : List ℕ) → (IsUtf8 line → read line ≡ None) → json_of line ≡ None
json_of_refused line refused = none_where (is_utf8 line) (read line) (λ valid. refused (IsUtf8-from_is_utf8 line valid))
