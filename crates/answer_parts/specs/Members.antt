-- The members of an object as a map.
use Rattle.std.specs.Prelude.{ℕ, List, Option, Some, None, cond, bytes_eq}
use Rattle.std.specs.Borrow.{Bor}
use Rattle.std.specs.Option.{option_map, option_or}
use Rattle.std.specs.BTreeMap.{BTreeMap, get_by}
use Rattle.std.specs.Cmp.Lexicographic.{slice_cmp}
use Rattle.std.specs.Ordering.{nat_cmp}
use Rattle.gql_value.specs.declared.value.Value.{Value}

-- the value of a name in a map from names to values that are lent
abbrev pub value_in : BTreeMap (Bor (List ℕ)) (Bor Value) → List ℕ → Option Value
value_in values name = option_map (λ v. v.now) (get_by (λ k. slice_cmp nat_cmp name k.now) values)

-- the values by name with one member more; of two members with one name the first counts
abbrev pub with_member : (List ℕ → Option Value) → List ℕ → Value → List ℕ → Option Value
with_member values name value other = option_or (values other) (cond (bytes_eq other name) (Some value) None)
