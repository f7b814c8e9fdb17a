-- What a rules file comes to: its rules, or the first table that is refused, with the least code that it breaks.
-- `keys` comes first, by name, then the updaters and then the optimistic rules, in the order of the file.
use Rattle.std.specs.Prelude.{ℕ, ◌+◌, Bool, true, ◌&&◌, ◌||◌, not, List, [], ◌∷◌, ◌++◌, length, Option, Some, None, Result, Ok, Err, is_some, cond, codes, bytes_eq, decimal}
use Rattle.std.specs.Option.{option_map_or}
use Rattle.std.specs.Str.{is_utf8}
use Rattle.toml.specs.Data.{Data, Members, get_member, as_str, as_table, as_array}
use Rattle.toml.specs.Parse.{parse_document}
use Rattle.schema_model.specs.declared.schema.Schema.{Schema}
use Rattle.rules_model.specs.declared.optimistic.Optimistic.{Optimistic}
use Rattle.rules_model.specs.declared.refusal.Refusal.{Refusal}
use Rattle.rules_model.specs.declared.rules.Rules.{Rules}
use Rattle.rules_model.specs.declared.updater.Updater.{Updater}
use Rattle.rules_model.specs.Toml.{has_only, pairs_under, items_under}
use Rattle.rules_model.specs.Forms.{updater_of, optimistic_of}
use Rattle.rules_model.specs.Keys.{KeySettings, has_arguments}
use Rattle.rules_model.specs.Faults.{is_object_named, has_field, updater_fault, optimistic_fault}

-- the refusal of the table of this name, by the number of its code
abbrev pub refusal : ℕ → List ℕ → Refusal
refusal code name = record { code = code; name = name }

-- what was read, unless it breaks a code
abbrev pub unless_broken : {X : Type 0} → List ℕ → X → Option ℕ → Result X Refusal
unless_broken name x None = Ok x
unless_broken name x (Some code) = Err (refusal code name)

-- the next step on what was read, or the refusal
abbrev pub then_with : {X Y : Type 0} → (X → Result Y Refusal) → Result X Refusal → Result Y Refusal
then_with f (Ok x) = f x
then_with f (Err e) = Err e

-- the name of the rule behind so many of its kind, counted from 1
abbrev pub numbered : List ℕ → ℕ → List ℕ
numbered word earlier = word ++ decimal (earlier + 1)

-- ---- keys

-- the name of a setting, as in `keys.User`
abbrev pub key_name : List ℕ → List ℕ
key_name type = codes "keys." ++ type

-- a field is a key field where it is defined and has no arguments
abbrev pub is_key_field : Schema → List ℕ → List ℕ → Bool
is_key_field schema type field = has_field schema type field && not (has_arguments schema type field)

-- what a text sets for an object type: that it has no key, or its key field (U5)
abbrev pub setting : Schema → List ℕ → List ℕ → Result (Option (List ℕ)) Refusal
setting schema type text =
    cond (bytes_eq text (codes "none")) (Ok None) (cond (is_key_field schema type text) (Ok (Some text)) (Err (refusal 5 (key_name type))))

-- a setting is for an object type (U4)
abbrev pub key_setting : Schema → List ℕ → List ℕ → Result (Option (List ℕ)) Refusal
key_setting schema type text = cond (is_object_named schema type) (setting schema type text) (Err (refusal 4 (key_name type)))

-- a setting is a text (U2)
abbrev pub judged_key : Schema → List ℕ × Data → Result (Option (List ℕ)) Refusal
judged_key schema p = option_map_or (key_setting schema p.0) (as_str p.1) (Err (refusal 2 (key_name p.0)))

-- the settings so far, and those that are left
abbrev pub keys_onto : Schema → KeySettings → List (List ℕ × Data) → Result KeySettings Refusal
keys_onto schema keys [] = Ok keys
keys_onto schema keys (p ∷ ps) = then_with (λ found. keys_onto schema (keys ++ (p.0, found) ∷ []) ps) (judged_key schema p)

-- ---- updaters and optimistic rules

-- the name of the updater behind these, as in `updater 1`
abbrev pub updater_name : List Updater → List ℕ
updater_name earlier = numbered (codes "updater ") (length earlier)

-- the updater behind these that TOML data is: U2 where it hasn't the form, else the least code that it breaks
abbrev pub judged_updater : Schema → List Updater → Data → Result Updater Refusal
judged_updater schema earlier d =
    option_map_or (λ updater. unless_broken (updater_name earlier) updater (updater_fault schema updater)) (updater_of schema d) (Err (refusal 2 (updater_name earlier)))

-- the updaters so far, and those that are left
abbrev pub updaters_onto : Schema → List Updater → List Data → Result (List Updater) Refusal
updaters_onto schema updaters [] = Ok updaters
updaters_onto schema updaters (d ∷ ds) = then_with (λ updater. updaters_onto schema (updaters ++ updater ∷ []) ds) (judged_updater schema updaters d)

-- the name of the optimistic rule behind these, as in `optimistic 1`
abbrev pub optimistic_name : List Optimistic → List ℕ
optimistic_name earlier = numbered (codes "optimistic ") (length earlier)

-- the optimistic rule behind these that TOML data is: U2 where it hasn't the form, else the least code that it breaks
abbrev pub judged_optimistic : Schema → KeySettings → List Optimistic → Data → Result Optimistic Refusal
judged_optimistic schema keys earlier d =
    option_map_or (λ rule. unless_broken (optimistic_name earlier) rule (optimistic_fault schema keys earlier rule)) (optimistic_of d) (Err (refusal 2 (optimistic_name earlier)))

-- the optimistic rules so far, and those that are left
abbrev pub optimistic_onto : Schema → KeySettings → List Optimistic → List Data → Result (List Optimistic) Refusal
optimistic_onto schema keys rules [] = Ok rules
optimistic_onto schema keys rules (d ∷ ds) = then_with (λ rule. optimistic_onto schema keys (rules ++ rule ∷ []) ds) (judged_optimistic schema keys rules d)

-- ---- the whole file

-- the members of a rules file
abbrev pub is_table_key : List ℕ → Bool
is_table_key key = bytes_eq key (codes "keys") || bytes_eq key (codes "updater") || bytes_eq key (codes "optimistic")

-- whether nothing else than a table stands under a key
abbrev pub may_be_table : List ℕ → Members → Bool
may_be_table key table = option_map_or (λ d. is_some (as_table d)) (get_member key table) true

-- whether nothing else than an array stands under a key
abbrev pub may_be_list : List ℕ → Members → Bool
may_be_list key table = option_map_or (λ d. is_some (as_array d)) (get_member key table) true

-- whether the file has no other tables than those of rules, each in its form as a whole
abbrev pub has_tables : Members → Bool
has_tables file = has_only is_table_key file && may_be_table (codes "keys") file && may_be_list (codes "updater") file && may_be_list (codes "optimistic") file

-- the three parts of a file as its rules
abbrev pub with_optimistic : KeySettings → List Updater → List Optimistic → Rules
with_optimistic keys updaters optimistic = record { keys = keys; updaters = updaters; optimistic = optimistic }

-- the rules with these key settings and updaters, and with the optimistic rules of the file
abbrev pub with_updaters : Schema → Members → KeySettings → List Updater → Result Rules Refusal
with_updaters schema file keys updaters =
    then_with (λ optimistic. Ok (with_optimistic keys updaters optimistic)) (optimistic_onto schema keys [] (items_under (codes "optimistic") file))

-- the rules with these key settings, and with the updaters and the optimistic rules of the file
abbrev pub with_keys : Schema → Members → KeySettings → Result Rules Refusal
with_keys schema file keys = then_with (with_updaters schema file keys) (updaters_onto schema [] (items_under (codes "updater") file))

-- the rules of the file: its key settings, then its updaters, then its optimistic rules; the first that is refused ends it
abbrev pub rules_of_tables : Schema → Members → Result Rules Refusal
rules_of_tables schema file = then_with (with_keys schema file) (keys_onto schema [] (pairs_under (codes "keys") file))

-- the rules in a file's tables; a table that no rule has, or that has another form as a whole, comes before all others (U2)
abbrev pub rules_in : Schema → Members → Result Rules Refusal
rules_in schema file = cond (has_tables file) (rules_of_tables schema file) (Err (refusal 2 []))

-- TOML 1.1 is text in UTF-8
abbrev pub document_of : List ℕ → Option Members
document_of text = cond (is_utf8 text) (parse_document text) None

-- the rules of a text under a schema; one that isn't TOML is U1
abbrev pub rules_of : Schema → List ℕ → Result Rules Refusal
rules_of schema text = option_map_or (rules_in schema) (document_of text) (Err (refusal 1 []))
