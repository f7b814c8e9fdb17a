-- What an index of fragments stands for.
use Rattle.std.specs.Prelude.{◌≡◌, ℕ, Bool, List, Option, is_none}
use Rattle.std.specs.BTreeMap.{get}
use Rattle.std.specs.List.{filter_map, position_from}
use Rattle.text_types.specs.Texts.{text_cmp}
use Rattle.gql_model.specs.declared.document.Definition.{Definition}
use Rattle.check_model.specs.Executables.{defines}
use Rattle.fragment_rules.specs.declared.fragments.FragmentIndex.{FragmentIndex}

-- the place that an index has for a name
abbrev pub place_in : FragmentIndex → List ℕ → Option ℕ
place_in index name = get text_cmp index.places name

-- the index has the place of the first fragment of each name
abbrev pub Indexes : FragmentIndex → List Definition → Type 0
Indexes index definitions = (name : List ℕ) → place_in index name ≡ position_from (defines name) 0 definitions

-- the index has no place for a name
abbrev pub lacks : FragmentIndex → List ℕ → Bool
lacks index name = is_none (place_in index name)

-- the places that the index has for names
abbrev pub targets_in : FragmentIndex → List (List ℕ) → List ℕ
targets_in index names = filter_map (place_in index) names
