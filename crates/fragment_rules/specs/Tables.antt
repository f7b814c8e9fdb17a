-- Tables of the sizes of fragments, by their places among the definitions.
use Rattle.std.specs.Prelude.{ℕ, zero, suc, Bool, ◌||◌, List, is_none, map, slice_get}
use Rattle.std.specs.List.{list_any}
use Rattle.std.specs.Option.{option_map_or, unwrap_or}
use Rattle.gql_model.specs.declared.document.Definition.{Definition}
use Rattle.gql_model.specs.declared.document.Definition.TheVariants as definition
use Rattle.check_model.specs.Followed.{Follow}
use Rattle.check_model.specs.Executables.{operation_is, fragment_is}
use Rattle.check_model.specs.Sizes.{Bounded, no_size, size_of_set, size_in_fragment}
use Rattle.fragment_rules.specs.declared.fragments.FragmentIndex.{FragmentIndex}
use Rattle.fragment_rules.specs.Indexes.{place_in}

-- the size of the definition at each place: nothing where a fragment passes a limit, and 0 where it is no fragment
abbrev pub Table : Type 0
Table = List Bounded

-- the size that a table has for a place, and 0 behind its end
abbrev pub size_at : Table → ℕ → Bounded
size_at table place = unwrap_or (slice_get table place) no_size

-- the size that a table has for a fragment of a name
abbrev pub size_in : FragmentIndex → Table → Follow Bounded
size_in index table name = option_map_or (size_at table) (place_in index name) no_size

-- the size of a fragment, where that of each spread is given; 0 for any other definition
abbrev pub definition_size : Follow Bounded → Definition → Bounded
definition_size follow (definition.Fragment f) = size_in_fragment follow f
definition_size follow _ = no_size

-- nothing is followed
abbrev pub unsized_table : List Definition → Table
unsized_table definitions = map (λ d. no_size) definitions

-- spreads are followed so deep
abbrev pub table_after : ℕ → FragmentIndex → List Definition → Table
table_after zero index definitions = unsized_table definitions
table_after (suc n) index definitions = map (definition_size (size_in index (table_after n index definitions))) definitions

-- some operation or fragment has no size
abbrev pub some_large : Follow Bounded → List Definition → Bool
some_large follow definitions =
    list_any (operation_is (λ o. is_none (size_of_set follow o.selection_set))) definitions
    || list_any (fragment_is (λ f. is_none (size_in_fragment follow f))) definitions
