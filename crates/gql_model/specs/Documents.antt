-- Documents (GraphQL October 2021, 2.2), and where a text that is none is at fault.
use Rattle.std.specs.Prelude.{◌≡◌, ◌≢◌, ℕ, Bool, true, false, List, [], ◌∷◌, ◌++◌, if◌then◌else◌}
use Rattle.gql_tokens.specs.Tokens.{Token, tokens_of}
use Rattle.gql_tokens.specs.declared.token.Kind.TheVariants as kind
use Rattle.gql_tokens.specs.declared.token.Place.{Place}
use Rattle.gql_model.specs.declared.executable.Operation.{Operation}
use Rattle.gql_model.specs.declared.executable.Fragment.{Fragment}
use Rattle.gql_model.specs.declared.type_system.TypeSystem.{TypeSystem}
use Rattle.gql_model.specs.declared.type_system.TypeSystemForm.{TypeSystemForm}
use Rattle.gql_model.specs.declared.type_system.TypeSystemForm.TheVariants as form
use Rattle.gql_model.specs.declared.document.Document.{Document}
use Rattle.gql_model.specs.declared.document.Definition.{Definition}
use Rattle.gql_model.specs.declared.document.Definition.TheVariants as definition
use Rattle.gql_model.specs.Sorts.{Sort, mark}
use Rattle.gql_model.specs.Rules.{Rule, Made, Either, Touch}
use Rattle.gql_model.specs.Executables.{OperationRule, FragmentRule}
use Rattle.gql_model.specs.TypeSystems.{TypeSystemRule}

-- an operation as a definition of a document
abbrev pub of_operation : Operation → Definition
of_operation d = definition.Operation d

-- a fragment definition as a definition of a document
abbrev pub of_fragment : Fragment → Definition
of_fragment d = definition.Fragment d

-- a type system definition as a definition of a document
abbrev pub of_type_system : TypeSystem → Definition
of_type_system d = definition.TypeSystem d

-- Definition = Operation | Fragment | TypeSystem
abbrev pub DefinitionRule : Rule Definition
DefinitionRule = Either (Made of_fragment FragmentRule) (Either (Made of_operation OperationRule) (Made of_type_system TypeSystemRule))

-- there is none
abbrev pub is_none_of : {A : Type 0} → List A → Bool
is_none_of [] = true
is_none_of (a ∷ all) = false

-- the type's fields or values in braces are left out
abbrev pub leaves_out_braces : TypeSystemForm → Bool
leaves_out_braces (form.Object d) = is_none_of d.fields
leaves_out_braces (form.Interface d) = is_none_of d.fields
leaves_out_braces (form.Enum d) = is_none_of d.values
leaves_out_braces (form.Input d) = is_none_of d.fields
leaves_out_braces _ = false

-- the definition would go on with a `{`
abbrev pub takes_brace : Definition → Bool
takes_brace (definition.TypeSystem d) = leaves_out_braces d.form
takes_brace _ = false

-- the tokens that a definition would take as its own if they stood next: a `{` where its part in braces is left out, else none
abbrev pub goes_on_with : Definition → List Sort
goes_on_with d = if takes_brace d then mark kind.BraceOpen else []

-- Definition*, where an optional part that begins with `{` is taken wherever a `{` follows
abbrev pub DefinitionsRule : Rule (List Definition)
DefinitionsRule = Touch DefinitionRule goes_on_with

-- Document = Definition+
abbrev pub Derives : List Token → Document → Type 0
Derives front document = (document.definitions ≢ []) × DefinitionsRule front document.definitions

-- the text is that of this document: its tokens before the end derive it
abbrev pub IsDocument : List ℕ → Document → Type 0
IsDocument text document = (front : List Token) × (end : Token) × (tokens_of text ≡ front ++ end ∷ []) × (end.kind ≡ kind.End) × Derives front document

-- The tokens before this one begin a document, and no document goes on with this one: the first token after the longest beginning.
pub record IsFault (tokens : List Token) (place : Place) : Type 0 where
  pub front : List Token
  pub fault : Token
  pub behind : List Token
  pub whole : tokens ≡ front ++ fault ∷ behind
  pub at : fault.place ≡ place
  pub begins : (more : List Token) × (document : Document) × Derives (front ++ more) document
  pub stops : (more : List Token) (document : Document) → Derives (front ++ fault ∷ more) document → ⊥
