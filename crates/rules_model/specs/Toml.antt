-- What stands in a TOML text (TOML 1.1): tables and arrays as lists. Members of a table come in the order of the bytes of their keys.
use Rattle.std.specs.Prelude.{ℕ, Bool, List, [], ◌∷◌, Option}
use Rattle.std.specs.List.{list_all}
use Rattle.std.specs.Option.{option_map_or, option_and_then}
use Rattle.toml.specs.Data.{Data, Items, no_items, item, Members, no_members, member, get_member, as_str, as_table, as_array}

-- the items of an array
abbrev pub items_in : Items → List Data
items_in no_items = []
items_in (item d ds) = d ∷ items_in ds

-- the keys of a table with what stands under them
abbrev pub pairs_in : Members → List (List ℕ × Data)
pairs_in no_members = []
pairs_in (member key d ms) = (key, d) ∷ pairs_in ms

-- whether each key of a table passes a test
abbrev pub has_only : (List ℕ → Bool) → Members → Bool
has_only is_known table = list_all (λ p. is_known p.0) (pairs_in table)

-- the text under a key
abbrev pub text_under : List ℕ → Members → Option (List ℕ)
text_under key table = option_and_then as_str (get_member key table)

-- the members of the table under a key; none where there is no table
abbrev pub pairs_under : List ℕ → Members → List (List ℕ × Data)
pairs_under key table = option_map_or pairs_in (option_and_then as_table (get_member key table)) []

-- the items of the array under a key; none where there is no array
abbrev pub items_under : List ℕ → Members → List Data
items_under key table = option_map_or items_in (option_and_then as_array (get_member key table)) []
