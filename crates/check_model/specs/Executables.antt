-- The operations and fragments of a document (GraphQL October 2021, 2.3 and 2.8), and the operation that is chosen (6.1, GetOperation).
use Rattle.std.specs.Prelude.{ℕ, Bool, false, List, [], ◌∷◌, Option, Some, None, bytes_eq}
use Rattle.std.specs.List.{flat_map, find, list_any, position_from, enumerate_from}
use Rattle.std.specs.Option.{option_map_or, option_and_then}
use Rattle.gql_model.specs.declared.executable.Operation.{Operation}
use Rattle.gql_model.specs.declared.executable.Fragment.{Fragment}
use Rattle.gql_model.specs.declared.document.Definition.{Definition}
use Rattle.gql_model.specs.declared.document.Definition.TheVariants as definition
use Rattle.gql_model.specs.declared.document.Document.{Document}

-- the operation that a definition is, as a list of one, or no operation
abbrev pub operation_in : Definition → List Operation
operation_in (definition.Operation d) = d ∷ []
operation_in _ = []

-- the operations, in document order
abbrev pub operations : Document → List Operation
operations document = flat_map operation_in document.definitions

-- whether a definition is an operation that passes a test
abbrev pub operation_is : (Operation → Bool) → Definition → Bool
operation_is test (definition.Operation d) = test d
operation_is test _ = false

-- whether a definition is a fragment that passes a test
abbrev pub fragment_is : (Fragment → Bool) → Definition → Bool
fragment_is test (definition.Fragment d) = test d
fragment_is test _ = false

-- whether some operation is so
abbrev pub some_operation : (Operation → Bool) → Document → Bool
some_operation test document = list_any (operation_is test) document.definitions

-- whether some fragment is so
abbrev pub some_fragment : (Fragment → Bool) → Document → Bool
some_fragment test document = list_any (fragment_is test) document.definitions

-- whether a fragment has this name
abbrev pub is_fragment_of : List ℕ → Fragment → Bool
is_fragment_of name fragment = bytes_eq name fragment.name.text

-- whether a definition is the fragment of this name
abbrev pub defines : List ℕ → Definition → Bool
defines name d = fragment_is (is_fragment_of name) d

-- the fragment that a definition is, if it is one
abbrev pub as_fragment : Definition → Option Fragment
as_fragment (definition.Fragment d) = Some d
as_fragment _ = None

-- the fragment that a spread of this name spreads
abbrev pub fragment_named : Document → List ℕ → Option Fragment
fragment_named document name = option_and_then as_fragment (find (defines name) document.definitions)

-- the place of that fragment among the definitions, counted from 0
abbrev pub fragment_place : Document → List ℕ → Option ℕ
fragment_place document name = position_from (defines name) 0 document.definitions

-- the definitions with their places
abbrev pub placed : Document → List (ℕ × Definition)
placed document = enumerate_from 0 document.definitions

-- whether an operation has this name
abbrev pub is_operation_of : List ℕ → Operation → Bool
is_operation_of name operation = option_map_or (λ n. bytes_eq name n.text) operation.name false

-- the item of a list of one
abbrev pub only : {A : Type 0} → List A → Option A
only [] = None
only (x ∷ []) = Some x
only (x ∷ y ∷ more) = None

-- the operation of a given name, or the only one where no name is given
abbrev pub chosen : Document → Option (List ℕ) → Option Operation
chosen document None = only (operations document)
chosen document (Some name) = find (is_operation_of name) (operations document)
