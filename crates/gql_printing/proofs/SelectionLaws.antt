-- What is written for arguments, directives and selection sets derives them again.
use Rattle.std.proofs.Common.{◌≡◌, Bool, true, false, List, [], ◌∷◌, ◌++◌, map, Option, Some, None, refl, sym, ap, subst, ◌∙◌, inl, inr}
use Rattle.std.specs.Prelude.{codes}
use Rattle.std.specs.Option.{option_map}
use Rattle.gql_tokens.specs.Places.{first_place}
use Rattle.gql_tokens.specs.declared.token.Kind.TheVariants as kind
use Rattle.gql_tokens.specs.declared.token.Place.{Place}
use Rattle.gql_model.specs.declared.name.Name.{Name}
use Rattle.gql_model.specs.declared.selection.Argument.{Argument}
use Rattle.gql_model.specs.declared.selection.Directive.{Directive}
use Rattle.gql_model.specs.declared.selection.SelectionSet.{SelectionSet, roll-SelectionSet}
use Rattle.gql_model.specs.declared.selection.Selection.{Selection, roll-Selection}
use Rattle.gql_model.specs.declared.selection.Field.{Field, roll-Field}
use Rattle.gql_model.specs.declared.selection.InlineFragment.{InlineFragment, roll-InlineFragment}
use Rattle.gql_model.specs.declared.selection.Selection.TheOpen.{SelectionSet-F, Selection-F, Field-F, InlineFragment-F}
use Rattle.gql_model.specs.declared.selection.Selection.TheFolds.{fold-roll-SelectionSet, fold-roll-Selection, fold-roll-Field, fold-roll-InlineFragment, map-Selection, map-Field}
use Rattle.gql_model.specs.Sorts as sorts
use Rattle.gql_model.specs.Names.{NameRule}
use Rattle.gql_model.specs.Rules.{Rule, Either, Behind, Perhaps}
use Rattle.gql_model.specs.Selections.{argument_of, ArgumentRule, ArgumentsRule, directive_of, DirectiveRule, DirectivesRule, field_of, FieldRule, field_selection, spread_of, SpreadRule, inline_of, InlineRule, SpreadingRule, SelectionRule, set_of, SetOver, SetRule}
use Rattle.gql_printing.specs.Tokens.{Toks, punctuator, word, joined, optional}
use Rattle.gql_printing.specs.Selections as tokens
use Rattle.gql_printing.specs.Selections.{argument_tokens, arguments_tokens, directive_tokens, directives_tokens, spread_tokens, condition_tokens, or_nothing, set_tokens, selection_tokens, field_tokens, inline_tokens}
use Rattle.gql_printing.specs.Executables.{name_tokens}
use Rattle.gql_printing.specs.Places as places
use Rattle.gql_printing.specs.Places.{bare_name, bare_argument, bare_directive, bare_directives, bare_field, bare_inline, bare_selection, bare_set}
use Rattle.gql_printing.proofs.Folds.{field_form, field_layer}
use Rattle.gql_printing.proofs.Again.{Again, Spells, spells_seq, spells_as, spells_made, spells_either, spells_here, spells_opt, spells_many, spells_more, spells_behind, spells_between, spells_grouped, spells_nested, both, both_tokens}
use Rattle.gql_printing.proofs.Tokens.{paren_open, paren_close, colon, at, brace_open, brace_close, spread, keyword, spells_name, spells_fragment_name}
use Rattle.gql_printing.proofs.ValueLaws.{spells_value}

-- ---- arguments and directives

spells_argument : (constant : Bool) → Spells false (ArgumentRule constant) (ArgumentRule constant) bare_argument argument_tokens
spells_argument constant =
    spells_as argument_of bare_argument argument_tokens argument_of (λ p. refl) (λ p. refl)
    (spells_seq spells_name (spells_behind (colon false) (spells_value constant)))

spells_arguments : (constant c : Bool) → Spells c (Perhaps (ArgumentsRule constant)) (Perhaps (ArgumentsRule constant)) (map bare_argument) arguments_tokens
spells_arguments constant c = spells_grouped kind.ParenOpen kind.ParenClose paren_open paren_close (spells_argument constant) c

spells_directive : {c : Bool} (constant : Bool) → Spells c (DirectiveRule constant) (DirectiveRule constant) bare_directive directive_tokens
spells_directive {c} constant =
    spells_here (λ place place'. spells_made (directive_of place) (directive_of place') bare_directive directive_tokens (directive_of first_place)
    (λ p. refl) (λ p. refl) (λ front p r. refl)
    (spells_behind (at c) (spells_seq spells_name (spells_arguments constant c))))

pub spells_directives : {c : Bool} (constant : Bool) → Spells c (DirectivesRule constant) (DirectivesRule constant) bare_directives directives_tokens
spells_directives constant = spells_many (spells_directive constant)

-- ---- one level of a selection

selection_roll : (s : Selection-F Selection Field InlineFragment SelectionSet) → selection_tokens (roll-Selection s) ≡ tokens.selection_step (map-Selection Selection Field InlineFragment SelectionSet Toks Toks Toks Toks selection_tokens field_tokens inline_tokens set_tokens s)
selection_roll s = fold-roll-Selection Toks Toks Toks Toks tokens.selection_step tokens.field_step tokens.inline_step tokens.set_step s

selection_bare : (s : Selection-F Selection Field InlineFragment SelectionSet) → bare_selection (roll-Selection s) ≡ places.selection_step (map-Selection Selection Field InlineFragment SelectionSet Selection Field InlineFragment SelectionSet bare_selection bare_field bare_inline bare_set s)
selection_bare s = fold-roll-Selection Selection Field InlineFragment SelectionSet places.selection_step places.field_step places.inline_step places.set_step s

inline_roll : (f : InlineFragment-F Selection Field InlineFragment SelectionSet) → inline_tokens (roll-InlineFragment f) ≡ punctuator kind.Spread ∷ (optional condition_tokens f.type_condition ++ (directives_tokens f.directives ++ set_tokens f.selection_set))
inline_roll f = fold-roll-InlineFragment Toks Toks Toks Toks tokens.selection_step tokens.field_step tokens.inline_step tokens.set_step f

inline_bare : (f : InlineFragment-F Selection Field InlineFragment SelectionSet) → bare_inline (roll-InlineFragment f) ≡ roll-InlineFragment (record { place = first_place; type_condition = option_map bare_name f.type_condition; directives = bare_directives f.directives; selection_set = bare_set f.selection_set })
inline_bare f = fold-roll-InlineFragment Selection Field InlineFragment SelectionSet places.selection_step places.field_step places.inline_step places.set_step f

set_roll : (s : SelectionSet-F Selection Field InlineFragment SelectionSet) → set_tokens (roll-SelectionSet s) ≡ punctuator kind.BraceOpen ∷ (joined (map selection_tokens s.selections) ++ punctuator kind.BraceClose ∷ [])
set_roll s = fold-roll-SelectionSet Toks Toks Toks Toks tokens.selection_step tokens.field_step tokens.inline_step tokens.set_step s

set_bare : (s : SelectionSet-F Selection Field InlineFragment SelectionSet) → bare_set (roll-SelectionSet s) ≡ roll-SelectionSet (record { place = first_place; selections = map bare_selection s.selections })
set_bare s = fold-roll-SelectionSet Selection Field InlineFragment SelectionSet places.selection_step places.field_step places.inline_step places.set_step s

-- ---- fields

abbrev FieldParts : Type 0
FieldParts = Name × (Option Name × (List Argument × (List Directive × Option SelectionSet)))

abbrev renamed_tokens : Name → Toks
renamed_tokens name = punctuator kind.Colon ∷ name_tokens name

abbrev parts_tokens : FieldParts → Toks
parts_tokens = both_tokens name_tokens (both_tokens (optional renamed_tokens) (both_tokens arguments_tokens (both_tokens directives_tokens (optional set_tokens))))

abbrev bare_parts : FieldParts → FieldParts
bare_parts = both bare_name (both (option_map bare_name) (both (map bare_argument) (both bare_directives (option_map bare_set))))

field_roll : (alias : Option Name) (name : Name) (arguments : List Argument) (directives : List Directive) (set : Option SelectionSet)
    → field_tokens (roll-Field (record { alias = alias; name = name; arguments = arguments; directives = directives; selection_set = set })) ≡ field_form alias name arguments directives set
field_roll alias name arguments directives set =
    fold-roll-Field Toks Toks Toks Toks tokens.selection_step tokens.field_step tokens.inline_step tokens.set_step (record { alias = alias; name = name; arguments = arguments; directives = directives; selection_set = set })
    ∙ field_layer alias name arguments directives set

or_optional : (set : Option SelectionSet) → or_nothing (option_map set_tokens set) ≡ optional set_tokens set
or_optional None = refl
or_optional (Some set) = refl

field_of_tokens : (p : FieldParts) → field_tokens (field_of p) ≡ parts_tokens p
field_of_tokens (name, (None, (arguments, (directives, set)))) =
    field_roll None name arguments directives set
    ∙ ap (λ (t : Toks). word name.text ∷ (arguments_tokens arguments ++ (directives_tokens directives ++ t))) (or_optional set)
field_of_tokens (name, (Some renamed, (arguments, (directives, set)))) =
    field_roll (Some name) renamed arguments directives set
    ∙ ap (λ (t : Toks). word name.text ∷ punctuator kind.Colon ∷ word renamed.text ∷ (arguments_tokens arguments ++ (directives_tokens directives ++ t))) (or_optional set)

field_bare : (f : Field-F Selection Field InlineFragment SelectionSet) → bare_field (roll-Field f) ≡ places.field_step (map-Field Selection Field InlineFragment SelectionSet Selection Field InlineFragment SelectionSet bare_selection bare_field bare_inline bare_set f)
field_bare f = fold-roll-Field Selection Field InlineFragment SelectionSet places.selection_step places.field_step places.inline_step places.set_step f

bare_field_of : (p : FieldParts) → bare_field (field_of p) ≡ field_of (bare_parts p)
bare_field_of (name, (None, (arguments, (directives, None)))) = field_bare (record { alias = None; name = name; arguments = arguments; directives = directives; selection_set = None })
bare_field_of (name, (None, (arguments, (directives, Some set)))) = field_bare (record { alias = None; name = name; arguments = arguments; directives = directives; selection_set = Some set })
bare_field_of (name, (Some renamed, (arguments, (directives, None)))) = field_bare (record { alias = Some name; name = renamed; arguments = arguments; directives = directives; selection_set = None })
bare_field_of (name, (Some renamed, (arguments, (directives, Some set)))) = field_bare (record { alias = Some name; name = renamed; arguments = arguments; directives = directives; selection_set = Some set })

spells_field : {R R' : Rule SelectionSet} → Spells true R R' bare_set set_tokens → Spells true (FieldRule R) (FieldRule R') bare_field field_tokens
spells_field l =
    spells_as field_of bare_field field_tokens field_of bare_field_of field_of_tokens
    (spells_seq spells_name (spells_seq (spells_opt (spells_behind (colon true) spells_name)) (spells_seq (spells_arguments false true) (spells_seq (spells_directives false) (spells_opt l)))))

-- ---- what is spread

-- the tokens behind the first
abbrev behind_first : Toks → Toks
behind_first [] = []
behind_first (x ∷ ts) = ts

abbrev behind_dots : Selection → Toks
behind_dots s = behind_first (selection_tokens s)

spread_of_tokens : (place : Place) (p : Name × List Directive) → selection_tokens (spread_of place p) ≡ punctuator kind.Spread ∷ both_tokens name_tokens directives_tokens p
spread_of_tokens place p = selection_roll (Selection-F.Spread (record { place = place; name = p.0; directives = p.1 }))

abbrev InlineParts : Type 0
InlineParts = Option Name × (List Directive × SelectionSet)

abbrev inline_parts : InlineParts → Toks
inline_parts = both_tokens (optional condition_tokens) (both_tokens directives_tokens set_tokens)

inline_of_tokens : (place : Place) (p : InlineParts) → selection_tokens (inline_of place p) ≡ punctuator kind.Spread ∷ inline_parts p
inline_of_tokens place p =
    let f : InlineFragment-F Selection Field InlineFragment SelectionSet = record { place = place; type_condition = p.0; directives = p.1.0; selection_set = p.1.1 } in
    selection_roll (Selection-F.Inline (roll-InlineFragment f)) ∙ inline_roll f

bare_inline_of : (place : Place) (p : InlineParts) → bare_selection (inline_of place p) ≡ inline_of first_place (both (option_map bare_name) (both bare_directives bare_set) p)
bare_inline_of place p =
    let f : InlineFragment-F Selection Field InlineFragment SelectionSet = record { place = place; type_condition = p.0; directives = p.1.0; selection_set = p.1.1 } in
    selection_bare (Selection-F.Inline (roll-InlineFragment f)) ∙ ap (λ (i : InlineFragment). roll-Selection (Selection-F.Inline i)) (inline_bare f)

spells_spread : (place place' : Place) → Spells true (SpreadRule place) (SpreadRule place') bare_selection behind_dots
spells_spread place place' =
    spells_made (spread_of place) (spread_of place') bare_selection behind_dots (spread_of first_place)
    (λ p. selection_bare (Selection-F.Spread (record { place = place; name = p.0; directives = p.1 })))
    (λ p. selection_bare (Selection-F.Spread (record { place = place'; name = p.0; directives = p.1 })))
    (λ front p r. ap behind_first (spread_of_tokens place p))
    (spells_seq spells_fragment_name (spells_directives false))

pub spells_condition : {c : Bool} → Spells c (Behind (sorts.word (codes "on")) NameRule) (Behind (sorts.word (codes "on")) NameRule) bare_name condition_tokens
spells_condition {c} = spells_behind (keyword c (codes "on") refl (λ place. refl)) spells_name

spells_inline : {R R' : Rule SelectionSet} → Spells true R R' bare_set set_tokens → (place place' : Place) → Spells true (InlineRule R place) (InlineRule R' place') bare_selection behind_dots
spells_inline l place place' =
    spells_made (inline_of place) (inline_of place') bare_selection behind_dots (inline_of first_place)
    (bare_inline_of place) (bare_inline_of place') (λ front p r. ap behind_first (inline_of_tokens place p))
    (spells_seq (spells_opt spells_condition) (spells_seq (spells_directives false) l))

-- what is written is told in another way
retold : {A S : Type 0} {c : Bool} {R R' : Rule A} {s : A → S} {p : A → Toks} (q : A → Toks) → ((front : Toks) (a : A) → R front a → q a ≡ p a) → Spells c R R' s p → Spells c R R' s q
retold {c = c} {R' = R'} {s = s} q e l = record { law = λ front a r h. subst (Again c R' s (s a)) (sym (e front a r)) (l.law front a r h) }

dotted : (s t : Selection) (ts : Toks) → s ≡ t → selection_tokens s ≡ punctuator kind.Spread ∷ ts → selection_tokens t ≡ punctuator kind.Spread ∷ behind_dots t
dotted s t ts is e =
    subst (λ (u : Selection). selection_tokens u ≡ punctuator kind.Spread ∷ behind_dots u) is
    (e ∙ ap (λ (more : Toks). punctuator kind.Spread ∷ more) (sym (ap behind_first e)))

begins_with_dots : (R : Rule SelectionSet) (place : Place) (front : Toks) (a : Selection) → Either (SpreadRule place) (InlineRule R place) front a → selection_tokens a ≡ punctuator kind.Spread ∷ behind_dots a
begins_with_dots R place front a (inl r) = dotted (spread_of place r.of) a _ r.is (spread_of_tokens place r.of)
begins_with_dots R place front a (inr r) = dotted (inline_of place r.of) a _ r.is (inline_of_tokens place r.of)

spells_spreading : {R R' : Rule SelectionSet} → Spells true R R' bare_set set_tokens → Spells true (SpreadingRule R) (SpreadingRule R') bare_selection selection_tokens
spells_spreading {R} l =
    spells_here (λ place place'. retold selection_tokens
    (λ front a r. subst (λ (s : Selection). selection_tokens s ≡ punctuator kind.Spread ∷ behind_dots s) r.is (begins_with_dots R place r.rule.after r.of.1 r.rule.second))
    (spells_behind spread (spells_either (spells_spread place place') (spells_inline l place place'))))

-- ---- selection sets

spells_selection : {R R' : Rule SelectionSet} → Spells true R R' bare_set set_tokens → Spells true (SelectionRule R) (SelectionRule R') bare_selection selection_tokens
spells_selection l =
    spells_either (spells_spreading l)
    (spells_as field_selection bare_selection selection_tokens field_selection (λ f. selection_bare (Selection-F.Field f)) (λ f. selection_roll (Selection-F.Field f)) (spells_field l))

set_over : (R R' : Rule SelectionSet) → Spells true R R' bare_set set_tokens → Spells true (SetOver R) (SetOver R') bare_set set_tokens
set_over R R' l =
    spells_here (λ place place'. spells_made (set_of place) (set_of place') bare_set set_tokens (set_of first_place)
    (λ all. set_bare (record { place = place; selections = all })) (λ all. set_bare (record { place = place'; selections = all })) (λ front all r. set_roll (record { place = place; selections = all }))
    (spells_between brace_open brace_close (spells_more (spells_selection l)) true))

pub spells_set : Spells true SetRule SetRule bare_set set_tokens
spells_set = spells_nested SetOver set_over
