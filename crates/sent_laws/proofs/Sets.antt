-- The sets in a set, itself first, level by level.
use Rattle.std.proofs.Common.{◌≡◌, List, [], ◌∷◌, ◌++◌, Option, Some, None, refl, ap}
use Rattle.std.specs.List.{flat_map}
use Rattle.gql_model.specs.declared.selection.SelectionSet.{SelectionSet}
use Rattle.gql_model.specs.declared.selection.Selection.{Selection}
use Rattle.gql_model.specs.declared.selection.Field.{Field}
use Rattle.gql_numbering.specs.Parts.{selections_of, inner_set, as_field}
use Rattle.gql_numbering.specs.Beginnings.{Beginning, itself, beginnings_in, beginnings_in_optional, beginnings_at, sets_among}
use Rattle.gql_numbering.proofs.Growth.{sets_among-append}
use Rattle.gql_numbering.proofs.BeginningLaws.{beginnings_in-set}

-- the sets in a set, itself first
abbrev pub sets_in : SelectionSet → List SelectionSet
sets_in set = sets_among (beginnings_in set)

abbrev pub sets_inside : List Selection → List SelectionSet
sets_inside all = sets_among (flat_map beginnings_at all)

abbrev pub sets_if_any : Option SelectionSet → List SelectionSet
sets_if_any set = sets_among (beginnings_in_optional set)

pub sets_in-set : (set : SelectionSet) → sets_in set ≡ set ∷ sets_inside (selections_of set)
sets_in-set set = ap sets_among (beginnings_in-set set)

pub sets_inside-cons : (s : Selection) (all : List Selection) → sets_inside (s ∷ all) ≡ sets_among (beginnings_at s) ++ sets_inside all
sets_inside-cons s all = sets_among-append (beginnings_at s) (flat_map beginnings_at all)

sets_behind : (field : Option Field) (more : List Beginning) → sets_among (itself field ++ more) ≡ sets_among more
sets_behind None more = refl
sets_behind (Some field) more = refl

pub sets_at : (s : Selection) → sets_among (beginnings_at s) ≡ sets_if_any (inner_set s)
sets_at s = sets_behind (as_field s) (beginnings_in_optional (inner_set s))
