-- The tokens of operations and fragments (GraphQL October 2021, 2.3, 2.8 and 2.10).
use Rattle.std.specs.Prelude.{ℕ, Bool, true, false, ◌&&◌, if◌then◌else◌, List, [], ◌∷◌, ◌++◌, is_none, codes}
use Rattle.gql_tokens.specs.Tokens.{Token}
use Rattle.gql_tokens.specs.declared.token.Kind.TheVariants as kind
use Rattle.gql_model.specs.declared.name.Name.{Name}
use Rattle.gql_model.specs.declared.literal.Literal.{Literal}
use Rattle.gql_model.specs.declared.executable.OperationKind.{OperationKind}
use Rattle.gql_model.specs.declared.executable.OperationKind.TheVariants.{Query, Mutation, Subscription}
use Rattle.gql_model.specs.declared.executable.Operation.{Operation}
use Rattle.gql_model.specs.declared.executable.VariableDefinition.{VariableDefinition}
use Rattle.gql_model.specs.declared.executable.Fragment.{Fragment}
use Rattle.gql_model.specs.Documents.{is_none_of}
use Rattle.gql_printing.specs.Tokens.{punctuator, word, optional, grouped}
use Rattle.gql_printing.specs.Literals.{literal_tokens}
use Rattle.gql_printing.specs.Types.{type_tokens}
use Rattle.gql_printing.specs.Selections.{directives_tokens, set_tokens, condition_tokens}

-- the keyword of a kind of operations
abbrev pub kind_word : OperationKind → List ℕ
kind_word Query = codes "query"
kind_word Mutation = codes "mutation"
kind_word Subscription = codes "subscription"

-- a name
abbrev pub name_tokens : Name → List Token
name_tokens name = word name.text ∷ []

-- a default value (2.10)
abbrev pub default_tokens : Literal → List Token
default_tokens value = punctuator kind.Equals ∷ literal_tokens value

-- the definition of a variable (2.10)
abbrev pub variable_definition_tokens : VariableDefinition → List Token
variable_definition_tokens v =
    punctuator kind.Dollar ∷ word v.name.text ∷ punctuator kind.Colon
    ∷ (type_tokens v.variable_type.type_ref ++ (optional default_tokens v.default ++ directives_tokens v.directives))

-- it is a query, and not another kind of operation
abbrev pub is_query : OperationKind → Bool
is_query Query = true
is_query Mutation = false
is_query Subscription = false

-- it is an anonymous query without variables and directives, which has a short form (2.3, query shorthand)
abbrev pub has_short_form : Operation → Bool
has_short_form o = is_query o.kind && is_none o.name && is_none_of o.variables && is_none_of o.directives

-- an operation with its kind (2.3)
abbrev pub long_form_tokens : Operation → List Token
long_form_tokens o =
    word (kind_word o.kind)
    ∷ (optional name_tokens o.name ++ (grouped kind.ParenOpen kind.ParenClose variable_definition_tokens o.variables ++ (directives_tokens o.directives ++ set_tokens o.selection_set)))

-- an operation, in the short form where it may stand and there is one
abbrev pub operation_tokens : Bool → Operation → List Token
operation_tokens short o = if short && has_short_form o then set_tokens o.selection_set else long_form_tokens o

-- the definition of a fragment (2.8)
abbrev pub fragment_tokens : Fragment → List Token
fragment_tokens f =
    word (codes "fragment") ∷ word f.name.text ∷ (condition_tokens f.type_condition ++ (directives_tokens f.directives ++ set_tokens f.selection_set))
