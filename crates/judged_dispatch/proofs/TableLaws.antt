-- A table with one pair more.
use Rattle.std.proofs.Common.{◌≡◌, ℕ, List, [], ◌∷◌, ◌++◌}
use Rattle.std.specs.List.{fold}
use Rattle.std.proofs.lemmas.List.Sums.{fold-append}
use Rattle.execution_model.specs.Values.{Pairs}
use Rattle.gql_value.specs.declared.value.Value.{Value}
use Rattle.schema_model.specs.Tables.{put}

pub table_more : (pairs : Pairs) (p : List ℕ × Value) → fold put [] (pairs ++ p ∷ []) ≡ put (fold put [] pairs) p
table_more pairs p = fold-append put [] pairs (p ∷ [])
