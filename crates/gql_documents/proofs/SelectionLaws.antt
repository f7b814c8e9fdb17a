-- The laws of arguments, directives and selection sets.
use Rattle.std.proofs.Common.{◌≡◌, ℕ, zero, suc, Bool, true, false, List, [], ◌∷◌, ◌++◌, Option, Some, None, refl, inl, inr}
use Rattle.std.specs.Prelude.{codes}
use Rattle.gql_tokens.specs.Tokens.{Token}
use Rattle.gql_tokens.specs.declared.token.Kind.TheVariants as kind
use Rattle.gql_model.specs.declared.name.Name.{Name}
use Rattle.gql_model.specs.declared.selection.SelectionSet.{SelectionSet}
use Rattle.gql_model.specs.declared.selection.Selection.{Selection}
use Rattle.gql_model.specs.Sorts.{Sort, Mark, Word, mark, word}
use Rattle.gql_model.specs.Rules.{Rule, Opt, Behind, Perhaps, Depth}
use Rattle.gql_model.specs.Names.{any_name, fragment_name, NameRule}
use Rattle.gql_model.specs.Selections.{argument_of, directive_of, field_of, field_selection, spread_of, inline_of, set_of, ArgumentRule, ArgumentsRule, DirectiveRule, DirectivesRule, SpreadRule, SelectionRule, SetOver, SetRule}
use Rattle.gql_tokens.specs.declared.token.Place.{Place}
use Rattle.gql_documents.specs.Parsing.{Parser}
use Rattle.gql_documents.specs.Selections.{argument, arguments, arguments_if_any, directive, directives, renaming, field, spread, condition, inline, spreading, selection_start, selection, set_over, set}
use Rattle.gql_documents.proofs.Laws.{Shape, Law, Lawful, Inhabited, origin, one_shape, law_seq}
use Rattle.gql_documents.proofs.Manys.{Eats, law_many}
use Rattle.gql_documents.proofs.Turns.{eats_lawful}
use Rattle.gql_documents.proofs.Parts.{law_made, law_opt, law_either, law_here}
use Rattle.gql_documents.proofs.Nestings.{Knot, again, law_nested}
use Rattle.gql_documents.proofs.Forms.{law_fit, shape, loose, sample, law_mark, law_word, law_behind, law_between, law_between_deeper, law_more, law_perhaps}
use Rattle.gql_documents.proofs.ValueLaws.{law_name, law_fragment_name, law_value}

-- ---- arguments and directives

pub law_argument : {n : ℕ} (constant : Bool) → Lawful n (ArgumentRule constant) (ArgumentRule constant) (argument constant) (argument constant) (shape any_name [])
unfolding argument
law_argument constant = law_fit (shape any_name []) (law_made argument_of (law_seq law_name (law_behind (law_mark kind.Colon refl) (law_value constant)))) refl

pub law_arguments_if_any : {n : ℕ} (constant : Bool) → Lawful n (Perhaps (ArgumentsRule constant)) (Perhaps (ArgumentsRule constant)) (arguments_if_any constant) (arguments_if_any constant) (loose (mark kind.ParenOpen) (mark kind.ParenOpen))
unfolding arguments_if_any arguments
law_arguments_if_any constant =
    law_fit (loose (mark kind.ParenOpen) (mark kind.ParenOpen))
    (law_perhaps (mark kind.ParenOpen) (law_between kind.ParenOpen kind.ParenClose refl refl (law_more any_name (law_argument constant)))) refl

pub law_directive : {n : ℕ} (constant : Bool) → Lawful n (DirectiveRule constant) (DirectiveRule constant) (directive constant) (directive constant) (shape (mark kind.At) (mark kind.ParenOpen))
unfolding directive
law_directive constant =
    law_fit (shape (mark kind.At) (mark kind.ParenOpen))
    (law_here (λ place. law_made (directive_of place) (law_behind (law_mark kind.At refl) (law_seq law_name (law_arguments_if_any constant))))) refl

-- what goes on behind directives
abbrev pub directives_go : List Sort
directives_go = Mark kind.At ∷ Mark kind.ParenOpen ∷ []

pub law_directives : {n : ℕ} (constant : Bool) → Lawful n (DirectivesRule constant) (DirectivesRule constant) (directives constant) (directives constant) (loose (mark kind.At) directives_go)
unfolding directives
law_directives constant = law_fit (loose (mark kind.At) directives_go) (law_many (mark kind.At) (law_directive constant)) refl

-- ---- selections

law_renaming : {n : ℕ} → Lawful n (Opt (Behind (mark kind.Colon) NameRule)) (Opt (Behind (mark kind.Colon) NameRule)) renaming renaming (loose (mark kind.Colon) (mark kind.Colon))
unfolding renaming
law_renaming = law_fit (loose (mark kind.Colon) (mark kind.Colon)) (law_opt (mark kind.Colon) (law_behind (law_mark kind.Colon refl) law_name)) refl

law_spread : {n : ℕ} (place : Place) → Lawful n (SpreadRule place) (SpreadRule place) (spread place) (spread place) (shape fragment_name directives_go)
unfolding spread
law_spread place = law_fit (shape fragment_name directives_go) (law_made (spread_of place) (law_seq law_fragment_name (law_directives false))) refl

law_condition : {n : ℕ} → Lawful n (Opt (Behind (word (codes "on")) NameRule)) (Opt (Behind (word (codes "on")) NameRule)) condition condition (loose (word (codes "on")) (word (codes "on")))
unfolding condition
law_condition = law_fit (loose (word (codes "on")) (word (codes "on"))) (law_opt (word (codes "on")) (law_behind (law_word (codes "on")) law_name)) refl

abbrev pub set_shape : Shape
set_shape = shape (mark kind.BraceOpen) []

-- what goes on behind a selection
abbrev selection_goes : List Sort
selection_goes = Mark kind.Colon ∷ Mark kind.ParenOpen ∷ Mark kind.At ∷ Mark kind.BraceOpen ∷ []

pub law_selection : {n : ℕ} {R V : Rule SelectionSet} {p p' : Parser SelectionSet} → Lawful n R V p p' set_shape → Lawful n (SelectionRule R) (SelectionRule V) (selection p) (selection p') (shape selection_start selection_goes)
unfolding selection spreading inline field
law_selection l =
    law_fit (shape selection_start selection_goes)
    (law_either (mark kind.Spread)
    (law_here (λ place. law_behind (law_mark kind.Spread refl) (law_either fragment_name (law_spread place) (law_made (inline_of place) (law_seq law_condition (law_seq (law_directives false) l))))))
    (law_made field_selection (law_made field_of (law_seq law_name (law_seq law_renaming (law_seq (law_arguments_if_any false) (law_seq (law_directives false) (law_opt (mark kind.BraceOpen) l)))))))) refl

set_step : (n : ℕ) (R V : Rule SelectionSet) (p p' : Parser SelectionSet) → Lawful n R V p p' set_shape → Lawful (suc n) (SetOver R) (SetOver V) (set_over p) (set_over p') set_shape
unfolding set_over
set_step n R V p p' l =
    law_fit set_shape (law_here (λ place. law_made (set_of place) (law_between_deeper kind.BraceOpen kind.BraceClose refl refl (law_more selection_start (law_selection l))))) refl

-- `{` and a name and `}`
some_name : Name
some_name = record { place = origin; text = [] }

some_set : Inhabited (Depth SetOver 1)
unfolding some_name
some_set =
    record {
      text = sample kind.BraceOpen [] ∷ sample kind.Name [] ∷ sample kind.BraceClose [] ∷ [];
      tree = set_of origin (field_selection (field_of (some_name, (None, ([], ([], None))))) ∷ []);
      rule = record {
        of = field_selection (field_of (some_name, (None, ([], ([], None))))) ∷ [];
        is = refl;
        rule = record {
          of = (tt, field_selection (field_of (some_name, (None, ([], ([], None))))) ∷ []);
          is = refl;
          rule = record {
            before = sample kind.BraceOpen [] ∷ [];
            after = sample kind.Name [] ∷ sample kind.BraceClose [] ∷ [];
            whole = refl;
            first = (sample kind.BraceOpen [], refl, refl);
            second = record {
              of = (field_selection (field_of (some_name, (None, ([], ([], None))))) ∷ [], tt);
              is = refl;
              rule = record {
                before = sample kind.Name [] ∷ [];
                after = sample kind.BraceClose [] ∷ [];
                whole = refl;
                first = record {
                  of = (field_selection (field_of (some_name, (None, ([], ([], None))))), []);
                  is = refl;
                  rule = record {
                    before = sample kind.Name [] ∷ [];
                    after = [];
                    whole = refl;
                    first = inr (record {
                      of = field_of (some_name, (None, ([], ([], None))));
                      is = refl;
                      rule = record {
                        of = (some_name, (None, ([], ([], None))));
                        is = refl;
                        rule = record {
                          before = sample kind.Name [] ∷ [];
                          after = [];
                          whole = refl;
                          first = (sample kind.Name [], refl, refl);
                          second = record {
                            before = [];
                            after = [];
                            whole = refl;
                            first = refl;
                            second = record {
                              before = [];
                              after = [];
                              whole = refl;
                              first = record { of = None; is = refl; rule = refl };
                              second = record { before = []; after = []; whole = refl; first = refl; second = refl };
                            };
                          };
                        };
                      };
                    });
                    second = refl;
                  };
                };
                second = (sample kind.BraceClose [], refl, refl);
              };
            };
          };
        };
      };
      at = refl;
    }

set_knot : Knot SetOver set_over set_shape
set_knot = record { sound = refl; some = some_set; step = set_step }

pub law_set : {n : ℕ} → Lawful n SetRule SetRule set set set_shape
unfolding set
law_set {n} = law_nested SetOver set_over set_shape set_knot n

pub set_again : (ts : List Token) → set ts ≡ set_over set ts
unfolding set
set_again ts = again SetOver set_over set_shape set_knot ts

pub eats_argument : (constant : Bool) → Eats (argument constant)
eats_argument constant = eats_lawful (law_argument constant) refl refl

pub eats_directive : (constant : Bool) → Eats (directive constant)
eats_directive constant = eats_lawful (law_directive constant) refl refl

pub eats_selection : Eats (selection set)
eats_selection = eats_lawful (law_selection law_set) refl refl
