-- The whole number or the text that a member of JSON data is.
use Rattle.std.specs.Prelude.{ℕ, ℤ, pos, negsuc, List, Option, Some, None, option_and_then}
use Rattle.serde_json.specs.Data.{Data}
use Rattle.serde_json.specs.Find.{as_i64, as_number, as_str, get}

-- a number from 0 on, and not a negative one
abbrev pub from_zero : ℤ → Option ℕ
from_zero (pos n) = Some n
from_zero (negsuc n) = None

-- the whole number from 0 on that data is: JSON without fraction and exponent, below 2^63
abbrev pub number_of : Data → Option ℕ
number_of value = option_and_then from_zero (option_and_then as_i64 (as_number value))

-- the whole number from 0 on that the member of this name is
abbrev pub number_in : List ℕ → Data → Option ℕ
number_in name value = option_and_then number_of (get name value)

-- the text that the member of this name is
abbrev pub text_in : List ℕ → Data → Option (List ℕ)
text_in name value = option_and_then as_str (get name value)
