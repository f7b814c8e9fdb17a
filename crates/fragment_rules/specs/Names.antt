-- The names of operations, or of fragments.
use Rattle.std.specs.Prelude.{ℕ, List, Option}
use Rattle.gql_model.specs.declared.document.Definition.{Definition}
use Rattle.check_model.specs.DocumentRules.{name_of_operation, name_of_fragment}
use Rattle.fragment_rules.specs.declared.names.Kind.{Kind}
use Rattle.fragment_rules.specs.declared.names.Kind.TheVariants as kind

-- the name of a definition of a kind
abbrev pub name_of : Kind → Definition → Option (List ℕ)
name_of kind.Operation d = name_of_operation d
name_of kind.Fragment d = name_of_fragment d
