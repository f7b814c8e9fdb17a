-- The parser of selection sets, arguments and directives (GraphQL October 2021, 2.4 to 2.8 and 2.12).
use Rattle.std.specs.Prelude.{Bool, false, List, [], ◌∷◌, Option, codes}
use Rattle.gql_tokens.specs.declared.token.Kind.TheVariants as kind
use Rattle.gql_tokens.specs.declared.token.Place.{Place}
use Rattle.gql_model.specs.declared.name.Name.{Name}
use Rattle.gql_model.specs.declared.selection.Argument.{Argument}
use Rattle.gql_model.specs.declared.selection.Directive.{Directive}
use Rattle.gql_model.specs.declared.selection.SelectionSet.{SelectionSet}
use Rattle.gql_model.specs.declared.selection.Selection.{Selection}
use Rattle.gql_model.specs.declared.selection.Field.{Field}
use Rattle.gql_model.specs.Sorts.{Sort, Mark, mark, word}
use Rattle.gql_model.specs.Names.{any_name, fragment_name}
use Rattle.gql_model.specs.Selections.{argument_of, directive_of, field_of, field_selection, spread_of, inline_of, set_of}
use Rattle.gql_documents.specs.Parsing.{Parser, seq, via, opt, either, many, here, behind, between, more, perhaps, nested}
use Rattle.gql_documents.specs.Names.{name, fragment_named}
use Rattle.gql_documents.specs.Literals.{value}

-- Argument = Name ":" Value
unfoldable pub argument : Bool → Parser Argument
argument constant = via argument_of (seq name (behind (mark kind.Colon) (value constant)))

-- Arguments = "(" Argument+ ")"
unfoldable pub arguments : Bool → Parser (List Argument)
arguments constant = between (mark kind.ParenOpen) (mark kind.ParenClose) (more any_name (argument constant))

-- Arguments?: they are there where a `(` stands
unfoldable pub arguments_if_any : Bool → Parser (List Argument)
arguments_if_any constant = perhaps (mark kind.ParenOpen) (arguments constant)

-- Directive = "@" Name Arguments?
unfoldable pub directive : Bool → Parser Directive
directive constant = here (λ place. via (directive_of place) (behind (mark kind.At) (seq name (arguments_if_any constant))))

-- Directives = Directive*: one more wherever an `@` follows
unfoldable pub directives : Bool → Parser (List Directive)
directives constant = many (mark kind.At) (directive constant)

-- (":" Name)?: the name behind a colon, where the name before it is an alias
unfoldable pub renaming : Parser (Option Name)
renaming = opt (mark kind.Colon) (behind (mark kind.Colon) name)

-- Field = Name (":" Name)? Arguments? Directives Set?, where `inner` reads the set
unfoldable pub field : Parser SelectionSet → Parser Field
field inner = via field_of (seq name (seq renaming (seq (arguments_if_any false) (seq (directives false) (opt (mark kind.BraceOpen) inner)))))

-- Spread, behind its `...`: Name-not-on Directives
unfoldable pub spread : Place → Parser Selection
spread place = via (spread_of place) (seq fragment_named (directives false))

-- ("on" Name)?: the type condition of an inline fragment
unfoldable pub condition : Parser (Option Name)
condition = opt (word (codes "on")) (behind (word (codes "on")) name)

-- Inline, behind its `...`: ("on" Name)? Directives Set, where `inner` reads the set
unfoldable pub inline : Parser SelectionSet → Place → Parser Selection
inline inner place = via (inline_of place) (seq condition (seq (directives false) inner))

-- a `...` and what is spread: a fragment by its name, where a name but `on` follows, else an inline fragment
unfoldable pub spreading : Parser SelectionSet → Parser Selection
spreading inner = here (λ place. behind (mark kind.Spread) (either fragment_name (spread place) (inline inner place)))

-- what a selection begins with
abbrev pub selection_start : List Sort
selection_start = Mark kind.Spread ∷ Mark kind.Name ∷ []

-- Selection: a spread or an inline fragment where a `...` stands, else a field; `inner` reads the sets in it
unfoldable pub selection : Parser SelectionSet → Parser Selection
selection inner = either (mark kind.Spread) (spreading inner) (via field_selection (field inner))

-- Set = "{" Selection+ "}", where `inner` reads the sets in its selections
unfoldable pub set_over : Parser SelectionSet → Parser SelectionSet
set_over inner = here (λ place. via (set_of place) (between (mark kind.BraceOpen) (mark kind.BraceClose) (more selection_start (selection inner))))

-- Set, with selection sets in selection sets to any depth
unfoldable pub set : Parser SelectionSet
set = nested set_over
