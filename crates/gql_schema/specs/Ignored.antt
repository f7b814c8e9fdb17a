-- Definitions of what the language has already, which are passed over (GraphQL October 2021, 3.5 and 3.13).
use Rattle.std.specs.Prelude.{ℕ, Bool, false, ◌||◌, not, List, [], ◌∷◌, codes, bytes_eq, filter}
use Rattle.gql_model.specs.declared.type_system.TypeSystemForm.{TypeSystemForm}
use Rattle.gql_model.specs.declared.type_system.TypeSystemForm.TheVariants as form

-- the built-in scalars
abbrev pub scalars : List (List ℕ)
scalars = codes "Int" ∷ codes "Float" ∷ codes "String" ∷ codes "Boolean" ∷ codes "ID" ∷ []

-- the name is that of a built-in scalar
abbrev pub is_scalar : List ℕ → Bool
is_scalar name =
    bytes_eq name (codes "Int") || bytes_eq name (codes "Float") || bytes_eq name (codes "String")
    || bytes_eq name (codes "Boolean") || bytes_eq name (codes "ID")

-- the directives that each schema has
abbrev pub is_directive : List ℕ → Bool
is_directive name =
    bytes_eq name (codes "skip") || bytes_eq name (codes "include") || bytes_eq name (codes "deprecated")
    || bytes_eq name (codes "specifiedBy")

-- whether a definition is of a built-in scalar, as a scalar, or of a built-in directive
abbrev pub is_ignored : TypeSystemForm → Bool
is_ignored (form.Scalar d) = is_scalar d.name.text
is_ignored (form.Directive d) = is_directive d.name.text
is_ignored _ = false

-- the definitions that aren't ignored
abbrev pub considered : List TypeSystemForm → List TypeSystemForm
considered forms = filter (λ f. not (is_ignored f)) forms
