-- Selection sets, fields, fragments in them, arguments and directives (GraphQL October 2021, 2.4 to 2.8 and 2.12).
use Rattle.std.specs.Prelude.{Bool, false, List, Option, Some, None, codes}
use Rattle.gql_tokens.specs.declared.token.Kind.TheVariants as kind
use Rattle.gql_tokens.specs.declared.token.Place.{Place}
use Rattle.gql_model.specs.declared.name.Name.{Name}
use Rattle.gql_model.specs.declared.literal.Literal.{Literal}
use Rattle.gql_model.specs.declared.selection.Argument.{Argument}
use Rattle.gql_model.specs.declared.selection.Directive.{Directive}
use Rattle.gql_model.specs.declared.selection.Spread.{Spread}
use Rattle.gql_model.specs.declared.selection.SelectionSet.{SelectionSet, roll-SelectionSet}
use Rattle.gql_model.specs.declared.selection.Selection.{Selection, roll-Selection}
use Rattle.gql_model.specs.declared.selection.Selection.TheOpen.{Selection-F}
use Rattle.gql_model.specs.declared.selection.Field.{Field, roll-Field}
use Rattle.gql_model.specs.declared.selection.InlineFragment.{roll-InlineFragment}
use Rattle.gql_model.specs.Sorts.{mark, word}
use Rattle.gql_model.specs.Rules.{Rule, Seq, Opt, Many, Made, Either, Here, Behind, Between, More, Perhaps, Nested}
use Rattle.gql_model.specs.Names.{NameRule, FragmentNameRule}
use Rattle.gql_model.specs.Literals.{ValueRule}

-- ---- arguments and directives

-- an argument: its name and its value (2.6)
abbrev pub argument_of : Name × Literal → Argument
argument_of p = record { name = p.0; value = p.1 }

-- Argument = Name ":" Value
abbrev pub ArgumentRule : Bool → Rule Argument
ArgumentRule constant = Made argument_of (Seq NameRule (Behind (mark kind.Colon) (ValueRule constant)))

-- Arguments = "(" Argument+ ")"
abbrev pub ArgumentsRule : Bool → Rule (List Argument)
ArgumentsRule constant = Between (mark kind.ParenOpen) (mark kind.ParenClose) (More (ArgumentRule constant))

-- a directive: the place of its `@`, its name and its arguments (2.12)
abbrev pub directive_of : Place → Name × List Argument → Directive
directive_of place p = record { place = place; name = p.0; arguments = p.1 }

-- Directive = "@" Name Arguments?
abbrev pub DirectiveRule : Bool → Rule Directive
DirectiveRule constant = Here (λ place. Made (directive_of place) (Behind (mark kind.At) (Seq NameRule (Perhaps (ArgumentsRule constant)))))

-- Directives = Directive*
abbrev pub DirectivesRule : Bool → Rule (List Directive)
DirectivesRule constant = Many (DirectiveRule constant)

-- ---- selections

-- what a name and the name behind a colon say: the first is the alias where there are two
abbrev pub alias_in : Name → Option Name → Option Name
alias_in name None = None
alias_in name (Some renamed) = Some name

-- the name of the field itself is the last of them: the one behind the colon where there are two (2.7)
abbrev pub name_in_field : Name → Option Name → Name
name_in_field name None = name
name_in_field name (Some renamed) = renamed

-- a field: its first name, the name behind a colon if any, its arguments, its directives and its selection set if any (2.5)
abbrev pub field_of : Name × (Option Name × (List Argument × (List Directive × Option SelectionSet))) → Field
field_of p = roll-Field (record {
  alias = alias_in p.0 p.1.0;
  name = name_in_field p.0 p.1.0;
  arguments = p.1.1.0;
  directives = p.1.1.1.0;
  selection_set = p.1.1.1.1;
})

-- Field = (Name ":")? Name Arguments? Directives Set?
abbrev pub FieldRule : Rule SelectionSet → Rule Field
FieldRule Inner =
    Made field_of (Seq NameRule (Seq (Opt (Behind (mark kind.Colon) NameRule)) (Seq (Perhaps (ArgumentsRule false)) (Seq (DirectivesRule false) (Opt Inner)))))

-- a field as a selection
abbrev pub field_selection : Field → Selection
field_selection field = roll-Selection (Selection-F.Field field)

-- a fragment spread as a selection: the place of its `...`, the name of the fragment and its directives (2.8)
abbrev pub spread_of : Place → Name × List Directive → Selection
spread_of place p = roll-Selection (Selection-F.Spread (record { place = place; name = p.0; directives = p.1 }))

-- Spread = "..." Name-not-on Directives, behind its `...`
abbrev pub SpreadRule : Place → Rule Selection
SpreadRule place = Made (spread_of place) (Seq FragmentNameRule (DirectivesRule false))

-- an inline fragment as a selection: the place of its `...`, its type condition if any, its directives and its set (2.8.2)
abbrev pub inline_of : Place → Option Name × (List Directive × SelectionSet) → Selection
inline_of place p = roll-Selection (Selection-F.Inline (roll-InlineFragment (record { place = place; type_condition = p.0; directives = p.1.0; selection_set = p.1.1 })))

-- Inline = "..." ("on" Name)? Directives Set, behind its `...`
abbrev pub InlineRule : Rule SelectionSet → Place → Rule Selection
InlineRule Inner place = Made (inline_of place) (Seq (Opt (Behind (word (codes "on")) NameRule)) (Seq (DirectivesRule false) Inner))

-- a fragment in a selection set: "..." and what is spread
abbrev pub SpreadingRule : Rule SelectionSet → Rule Selection
SpreadingRule Inner = Here (λ place. Behind (mark kind.Spread) (Either (SpreadRule place) (InlineRule Inner place)))

-- Selection = Field | Spread | Inline
abbrev pub SelectionRule : Rule SelectionSet → Rule Selection
SelectionRule Inner = Either (SpreadingRule Inner) (Made field_selection (FieldRule Inner))

-- a selection set: the place of its `{` and its selections in order (2.4)
abbrev pub set_of : Place → List Selection → SelectionSet
set_of place selections = roll-SelectionSet (record { place = place; selections = selections })

-- Set = "{" Selection+ "}"
abbrev pub SetOver : Rule SelectionSet → Rule SelectionSet
SetOver Inner = Here (λ place. Made (set_of place) (Between (mark kind.BraceOpen) (mark kind.BraceClose) (More (SelectionRule Inner))))

-- Set, with selection sets in selection sets to any depth
abbrev pub SetRule : Rule SelectionSet
SetRule = Nested SetOver
