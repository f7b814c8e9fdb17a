-- How deep the sets of fragments nest, as a bound on a walk that follows spreads.
use Rattle.std.specs.Prelude.{ℕ, ◌+◌, max, List, [], ◌∷◌}
use Rattle.gql_model.specs.declared.document.Definition.{Definition}
use Rattle.gql_model.specs.declared.document.Definition.TheVariants as definition
use Rattle.gql_model.specs.declared.document.Document.{Document}
use Rattle.gql_model.specs.declared.selection.SelectionSet.{size-SelectionSet}

-- the depth of a fragment's set
abbrev pub fragment_depth : Definition → ℕ
fragment_depth (definition.Fragment d) = size-SelectionSet d.selection_set
fragment_depth _ = 0

-- the greatest
unfoldable pub greatest : List Definition → ℕ
greatest [] = 0
greatest (d ∷ ds) = max (fragment_depth d) (greatest ds)

-- more than each set of a fragment is deep
abbrev pub weight : Document → ℕ
weight document = greatest document.definitions + 2
