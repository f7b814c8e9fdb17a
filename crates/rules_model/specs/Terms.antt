-- The terms of rules: TOML whole numbers, truth values and texts (TOML 1.1). No other source: terms are this project's own.
use Rattle.std.specs.Prelude.{ℕ, ◌==◌, Bool, List, [], ◌∷◌, ◌++◌, Option, Some, None, cond}
use Rattle.std.specs.List.{list_all}
use Rattle.std.specs.Option.{option_map, option_map_or, option_and_then}
use Rattle.toml.specs.Data.{Data, Members, as_str, as_integer, as_bool, as_table, get_member}
use Rattle.gql_value.specs.declared.value.Value.TheVariants as value
use Rattle.rules_model.specs.declared.term.Term.{Term}
use Rattle.rules_model.specs.declared.term.Term.TheVariants.{Argument, Member, Literal}
use Rattle.rules_model.specs.Toml.{pairs_in}

-- names with terms
abbrev pub NamedTerms : Type 0
NamedTerms = List (List ℕ × Term)

-- what stands behind a mark at the front of a text
abbrev pub behind_mark : ℕ → List ℕ → Option (List ℕ)
behind_mark mark [] = None
behind_mark mark (b ∷ bs) = cond (b == mark) (Some bs) None

-- a text that stands for itself
abbrev pub literal_text : List ℕ → Term
literal_text text = Literal (value.Text text)

-- a text behind `=`, which is byte 61, stands for itself, and so does one without a mark
abbrev pub plain_term : List ℕ → Term
plain_term text = option_map_or literal_text (behind_mark 61 text) (literal_text text)

-- a text behind `@`, which is byte 64, names a field
abbrev pub member_term : List ℕ → Term
member_term text = option_map_or Member (behind_mark 64 text) (plain_term text)

-- a text behind `$`, which is byte 36, names an argument
abbrev pub text_term : List ℕ → Term
text_term text = option_map_or Argument (behind_mark 36 text) (member_term text)

-- the term that a truth value is; other data is none
abbrev pub truth_term : Data → Option Term
truth_term d = option_map (λ b. Literal (value.Bool b)) (as_bool d)

-- the term that a whole number or a truth value is; other data is none
abbrev pub number_term : Data → Option Term
number_term d = option_map_or (λ n. Some (Literal (value.Int n))) (as_integer d) (truth_term d)

-- the term that TOML data is; floats, dates, arrays and tables are none
abbrev pub term_of : Data → Option Term
term_of d = option_map_or (λ text. Some (text_term text)) (as_str d) (number_term d)

-- the term under a key
abbrev pub term_under : List ℕ → Members → Option Term
term_under key table = option_and_then term_of (get_member key table)

-- the terms so far, and those that are left, where all are terms
abbrev pub terms_onto : NamedTerms → List (List ℕ × Data) → Option NamedTerms
terms_onto terms [] = Some terms
terms_onto terms (p ∷ ps) = option_and_then (λ term. terms_onto (terms ++ (p.0, term) ∷ []) ps) (term_of p.1)

-- a table from names to terms
abbrev pub terms_of : Data → Option NamedTerms
terms_of d = option_and_then (λ table. terms_onto [] (pairs_in table)) (as_table d)

-- whether each of these terms passes a test
abbrev pub every_named : (Term → Bool) → NamedTerms → Bool
every_named is_good terms = list_all (λ t. is_good t.1) terms
