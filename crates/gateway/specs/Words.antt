-- The words that the program is called with.
use Rattle.std.specs.Prelude.{ℕ, Bool, ◌==◌, length, ◌+◌, ◌-◌, ◌*◌, ◌&&◌, not, nat_le, if◌then◌else◌, List, [], ◌∷◌, codes, Option, Some, None, bytes_eq}
use Rattle.std.specs.List.{fold, list_all}
use Rattle.std.specs.Option.{option_map}

-- the names of the schema file and of the rules file, and the most bytes of input that are run
pub record Names : Type 0 where
  pub schema : List ℕ
  pub rules : List ℕ
  pub limit : ℕ

-- the limit where none is given
abbrev pub default_limit : ℕ
default_limit = 1073741824

-- the greatest limit, 2^40
abbrev pub greatest_limit : ℕ
greatest_limit = 1099511627776

-- the limit that accepted words give
abbrev pub input_limit : Option Names → ℕ
input_limit None = default_limit
input_limit (Some names) = names.limit

-- ---- numbers

-- a decimal digit, bytes 48 to 57
abbrev pub is_digit : ℕ → Bool
is_digit b = nat_le 48 b && nat_le b 57

-- a number with one more decimal digit behind it
abbrev pub with_digit : ℕ → ℕ → ℕ
with_digit n b = n * 10 + (b - 48)

-- the number that digits spell, leading zeros aside
abbrev pub number_of : List ℕ → ℕ
number_of digits = fold with_digit 0 digits

-- one digit or more
abbrev pub is_number : List ℕ → Bool
is_number word = not (length word == 0) && list_all is_digit word

-- a limit is from 1 to the greatest
abbrev pub limited : ℕ → Option ℕ
limited n = if nat_le 1 n && nat_le n greatest_limit then Some n else None

-- the limit that a word spells
abbrev pub limit_of : List ℕ → Option ℕ
limit_of word = if is_number word then limited (number_of word) else None

-- ---- the words of `run`

-- the command is `run`, and its options are these, in this order
abbrev pub is_run : List ℕ → List ℕ → List ℕ → List ℕ → Bool
is_run command schema_option rules_option queue_option =
    bytes_eq command (codes "run") && bytes_eq schema_option (codes "--schema") && bytes_eq rules_option (codes "--rules") && bytes_eq queue_option (codes "--queue")

-- the limit that the words behind the names give: none are there, or `--max-input` and a limit
abbrev pub limit_in : List (List ℕ) → Option ℕ
limit_in [] = Some default_limit
limit_in (option ∷ number ∷ []) = if bytes_eq option (codes "--max-input") then limit_of number else None
limit_in _ = None

-- the names of the two files with a limit, where the words give one
abbrev pub named : List ℕ → List ℕ → Option ℕ → Option Names
named schema rules limit = option_map (λ n. record { schema = schema; rules = rules; limit = n }) limit

-- The words are accepted where they are `run`, `--schema`, a name, `--rules`, a name, `--queue`, a name,
-- and then nothing more, or `--max-input` and a limit. Any word is a name, and the queue's isn't used yet.
abbrev pub accepted : List (List ℕ) → Option Names
accepted (command ∷ schema_option ∷ schema ∷ rules_option ∷ rules ∷ queue_option ∷ queue ∷ more) =
    if is_run command schema_option rules_option queue_option then named schema rules (limit_in more) else None
accepted _ = None
