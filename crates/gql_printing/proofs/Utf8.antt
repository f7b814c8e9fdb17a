-- What is appended to UTF-8 leaves it UTF-8.
use Rattle.std.proofs.Common.{◌≡◌, ℕ, List, ◌++◌, IsUtf8, subst, sym}
use Rattle.std.specs.Prelude.{Result, Ok, Err, OnOk, OnErr}
use Rattle.std.proofs.lemmas.Str.{IsUtf8-append}

pub grown : {A E : Type 0} (r : Result A E) (old new more : List ℕ) → OnOk r (new ≡ old ++ more) → OnErr r (new ≡ old) → IsUtf8 more → IsUtf8 old → IsUtf8 new
grown (Ok a) old new more ok err m o = subst IsUtf8 (sym ok) (IsUtf8-append old more o m)
grown (Err e) old new more ok err m o = subst IsUtf8 (sym err) o
