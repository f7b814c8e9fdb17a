-- How deep selection sets nest and how many fields definitions have, with all spreads followed; the limits are this project's own.
use Rattle.std.specs.Prelude.{ℕ, ◌+◌, nat_lt, max, Bool, ◌||◌, Option, Some, None, cond, is_none}
use Rattle.std.specs.List.{fold}
use Rattle.std.specs.Option.{unwrap_or, option_and_then}
use Rattle.gql_model.specs.declared.selection.Field.{Field}
use Rattle.gql_model.specs.declared.selection.InlineFragment.{InlineFragment}
use Rattle.gql_model.specs.declared.selection.Selection.{Selection}
use Rattle.gql_model.specs.declared.selection.SelectionSet.{SelectionSet}
use Rattle.gql_model.specs.declared.selection.Selection.TheOpen.{SelectionSet-F, Selection-F, Field-F, InlineFragment-F}
use Rattle.gql_model.specs.declared.selection.Selection.TheFolds.{fold-SelectionSet, fold-Selection, fold-Field, fold-InlineFragment}
use Rattle.gql_model.specs.declared.executable.Operation.{Operation}
use Rattle.gql_model.specs.declared.executable.Fragment.{Fragment}
use Rattle.gql_model.specs.declared.document.Document.{Document}
use Rattle.check_model.specs.declared.size.Size.{Size}
use Rattle.check_model.specs.Executables.{some_operation, some_fragment}
use Rattle.check_model.specs.Followed.{Follow, followed}

-- a size, or nothing where a limit is passed
abbrev pub Bounded : Type 0
Bounded = Option Size

-- sets nested at most 64 deep, and at most 65,536 fields; what is larger stays so with anything beside it
abbrev pub bounded : ℕ → ℕ → Bounded
bounded depth fields = cond (nat_lt 64 depth || nat_lt 65536 fields) None (Some (record { depth = depth; fields = fields }))

-- the size of nothing: no set, no field
abbrev pub no_size : Bounded
no_size = Some (record { depth = 0; fields = 0 })

-- side by side
abbrev pub both : Size → Size → Bounded
both a b = bounded (max a.depth b.depth) (a.fields + b.fields)

-- the same of what may have passed a limit already: nothing, where either has
abbrev pub beside : Bounded → Bounded → Bounded
beside a b = option_and_then (λ x. option_and_then (both x) b) a

-- a followed spread opens the set of its fragment, as an inline fragment opens its own
abbrev pub selection_size : Follow Bounded → Selection-F Bounded Bounded Bounded Bounded → Bounded
selection_size follow (Selection-F.Field field) = field
selection_size follow (Selection-F.Spread spread) = follow spread.name.text
selection_size follow (Selection-F.Inline fragment) = fragment

-- a field is one more than what its set has
abbrev pub one_more : Size → Bounded
one_more below = bounded below.depth (below.fields + 1)

-- the size of a field, given that of its set if it has one
abbrev pub field_size : Field-F Bounded Bounded Bounded Bounded → Bounded
field_size field = option_and_then one_more (unwrap_or field.selection_set no_size)

-- an inline fragment is as large as its set
abbrev pub inline_size : InlineFragment-F Bounded Bounded Bounded Bounded → Bounded
inline_size fragment = fragment.selection_set

-- a set is one level more than what stands in it
abbrev pub one_deeper : Size → Bounded
one_deeper inside = bounded (inside.depth + 1) inside.fields

-- the size of a set: its selections side by side, and one level more
abbrev pub set_size : SelectionSet-F Bounded Bounded Bounded Bounded → Bounded
set_size set = option_and_then one_deeper (fold beside no_size set.selections)

-- the size of a selection set, where it is given the size of what each spread opens
abbrev pub size_of_set : Follow Bounded → SelectionSet → Bounded
size_of_set follow = fold-SelectionSet Bounded Bounded Bounded Bounded (selection_size follow) field_size inline_size set_size

-- the size of a selection, where it is given the size of what each spread opens
abbrev pub size_of_selection : Follow Bounded → Selection → Bounded
size_of_selection follow = fold-Selection Bounded Bounded Bounded Bounded (selection_size follow) field_size inline_size set_size

-- the size of a field with its set, where it is given the size of what each spread opens
abbrev pub size_of_field : Follow Bounded → Field → Bounded
size_of_field follow = fold-Field Bounded Bounded Bounded Bounded (selection_size follow) field_size inline_size set_size

-- the size of an inline fragment, where it is given the size of what each spread opens
abbrev pub size_of_inline : Follow Bounded → InlineFragment → Bounded
size_of_inline follow = fold-InlineFragment Bounded Bounded Bounded Bounded (selection_size follow) field_size inline_size set_size

-- a fragment is as large as its selection set
abbrev pub size_in_fragment : Follow Bounded → Fragment → Bounded
size_in_fragment follow fragment = size_of_set follow fragment.selection_set

-- the size of the fragment of a name
abbrev pub fragment_size : Document → Follow Bounded
fragment_size document = followed no_size size_in_fragment document

-- an operation passes a limit with its spreads followed
abbrev pub is_large_operation : Document → Operation → Bool
is_large_operation document operation = is_none (size_of_set (fragment_size document) operation.selection_set)

-- a fragment passes a limit with its spreads followed, whether an operation reaches it or not
abbrev pub is_large_fragment : Document → Fragment → Bool
is_large_fragment document fragment = is_none (size_in_fragment (fragment_size document) fragment)

-- some operation or fragment of the document passes a limit
abbrev pub is_too_large : Document → Bool
is_too_large document = some_operation (is_large_operation document) document || some_fragment (is_large_fragment document) document
