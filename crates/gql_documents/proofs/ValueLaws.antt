-- The laws of names, types and values.
use Rattle.std.proofs.Common.{◌≡◌, ℕ, zero, suc, Bool, true, false, List, [], ◌∷◌, ◌++◌, Option, Some, None, refl, sym, ◌∙◌, inl, inr}
use Rattle.std.specs.Prelude.{if◌then◌else◌}
use Rattle.gql_tokens.specs.Tokens.{Token}
use Rattle.gql_tokens.specs.declared.token.Kind.{Kind}
use Rattle.gql_tokens.specs.declared.token.Kind.TheVariants as kind
use Rattle.gql_model.specs.declared.name.Name.{Name}
use Rattle.gql_model.specs.declared.type_ref.TypeNode.{TypeNode}
use Rattle.gql_model.specs.declared.literal.Literal.{Literal}
use Rattle.gql_model.specs.declared.literal.LiteralValue.{LiteralValue}
use Rattle.gql_model.specs.Sorts.{Sort, Mark, Word, is_in, starts, mark, word}
use Rattle.gql_model.specs.Rules.{Rule, One, Depth}
use Rattle.gql_model.specs.Names.{name_in, any_name, fragment_name, enum_name, NameRule, FragmentNameRule, EnumNameRule}
use Rattle.gql_model.specs.Types.{type_of, of_name, of_type, TypeOver, TypeRule}
use Rattle.gql_model.specs.Literals.{plain, plain_value, variable_of, list_of, object_of, literal_of, object_field_of, integer_of, PlainRule, VariableRule, ValueOver, ValueRule}
use Rattle.gql_documents.specs.Parsing.{Parser, Done, tok, seq, via, either, between, whether, nested}
use Rattle.gql_documents.specs.Names.{name, fragment_named, enum_named, type_over, type_node}
use Rattle.gql_documents.specs.Literals.{value_start, plain_literal, object_field, list, object, variable, literal_value, value_over, value}
use Rattle.gql_documents.proofs.Laws.{Shape, Law, Lawful, Inhabited, origin, one_shape, law_one, law_seq}
use Rattle.gql_documents.proofs.Manys.{Eats, law_many}
use Rattle.gql_documents.proofs.Turns.{eats_lawful}
use Rattle.gql_documents.proofs.Parts.{law_made, law_opt, law_either, law_unless, law_here}
use Rattle.gql_documents.proofs.Nestings.{Knot, again, law_nested}
use Rattle.gql_documents.proofs.Forms.{law_fit, shape, loose, sample, law_mark, law_word, law_behind, law_before, law_between, law_between_deeper, law_whether}

-- ---- names

named : (sorts : List Sort) (x : Token) (a : Name) → name_in sorts x ≡ Some a → is_in sorts x ≡ true
named sorts x a e = tested (is_in sorts x) (record { place = x.place; text = x.text }) e
  where
    tested : (b : Bool) (n : Name) → (if b then Some n else None) ≡ Some a → b ≡ true
    tested true n e = refl
    tested false n e = absurd cc

pub law_name : {n : ℕ} → Lawful n NameRule NameRule name name (one_shape any_name)
unfolding name
law_name = law_one (name_in any_name) any_name (named any_name) refl (sample kind.Name []) (record { place = origin; text = [] }) refl refl

pub law_fragment_name : {n : ℕ} → Lawful n FragmentNameRule FragmentNameRule fragment_named fragment_named (one_shape fragment_name)
unfolding fragment_named
law_fragment_name = law_one (name_in fragment_name) fragment_name (named fragment_name) refl (sample kind.Name []) (record { place = origin; text = [] }) refl refl

pub law_enum_name : {n : ℕ} → Lawful n EnumNameRule EnumNameRule enum_named enum_named (one_shape enum_name)
unfolding enum_named
law_enum_name = law_one (name_in enum_name) enum_name (named enum_name) refl (sample kind.Name []) (record { place = origin; text = [] }) refl refl

-- ---- types

abbrev pub type_shape : Shape
type_shape = shape (Mark kind.Name ∷ Mark kind.BracketOpen ∷ []) (mark kind.Bang)

type_step : (n : ℕ) (R V : Rule TypeNode) (p p' : Parser TypeNode) → Lawful n R V p p' type_shape → Lawful (suc n) (TypeOver R) (TypeOver V) (type_over p) (type_over p') type_shape
unfolding type_over
type_step n R V p p' l =
    law_fit type_shape
    (law_made type_of (law_seq (law_either any_name (law_made of_name law_name) (law_made of_type (law_between_deeper kind.BracketOpen kind.BracketClose refl refl l))) (law_whether (law_mark kind.Bang refl)))) refl

some_type : Inhabited (Depth TypeOver 1)
some_type =
    record {
      text = sample kind.Name [] ∷ [];
      tree = type_of (of_name (record { place = origin; text = [] }), false);
      rule = record {
        of = (of_name (record { place = origin; text = [] }), false);
        is = refl;
        rule = record {
          before = sample kind.Name [] ∷ [];
          after = [];
          whole = refl;
          first = inl (record { of = record { place = origin; text = [] }; is = refl; rule = (sample kind.Name [], refl, refl) });
          second = record { of = None; is = refl; rule = refl };
        };
      };
      at = refl;
    }

type_knot : Knot TypeOver type_over type_shape
type_knot = record { sound = refl; some = some_type; step = type_step }

pub law_type : {n : ℕ} → Lawful n TypeRule TypeRule type_node type_node type_shape
unfolding type_node
law_type {n} = law_nested TypeOver type_over type_shape type_knot n

pub type_again : (ts : List Token) → type_node ts ≡ type_over type_node ts
unfolding type_node
type_again ts = again TypeOver type_over type_shape type_knot ts

-- ---- values

abbrev plain_start : List Sort
plain_start = Mark kind.Integer ∷ Mark kind.String ∷ Mark kind.Name ∷ []

plain_is : (x : Token) (a : LiteralValue) → plain x ≡ Some a → is_in plain_start x ≡ true
plain_is x a e = by_kind x.kind x.text e
  where
    by_kind : (k : Kind) (text : List ℕ) → plain_value k text ≡ Some a → is_in plain_start (record { kind = k; text = text; place = origin }) ≡ true
    by_kind kind.Integer text e = refl
    by_kind kind.String text e = refl
    by_kind kind.Name text e = refl
    by_kind _ text e = absurd cc

law_plain : {n : ℕ} → Lawful n PlainRule PlainRule plain_literal plain_literal (one_shape plain_start)
unfolding plain_literal
law_plain = law_one plain plain_start plain_is refl (sample kind.Integer []) (integer_of []) refl refl

law_variable : {n : ℕ} → Lawful n VariableRule VariableRule variable variable (shape (mark kind.Dollar) [])
unfolding variable
law_variable = law_fit (shape (mark kind.Dollar) []) (law_made variable_of (law_behind (law_mark kind.Dollar refl) law_name)) refl

abbrev pub value_shape : Shape
value_shape = shape value_start []

value_step : (constant : Bool) (n : ℕ) (R V : Rule Literal) (p p' : Parser Literal) → Lawful n R V p p' value_shape → Lawful (suc n) (ValueOver constant R) (ValueOver constant V) (value_over constant p) (value_over constant p') value_shape
unfolding value_over literal_value list object object_field
value_step constant n R V p p' l =
    law_fit value_shape
    (law_here (λ place. law_made (literal_of place)
    (law_either (mark kind.BracketOpen) (law_made list_of (law_between_deeper kind.BracketOpen kind.BracketClose refl refl (law_many value_start l)))
    (law_either (mark kind.BraceOpen) (law_made object_of (law_between_deeper kind.BraceOpen kind.BraceClose refl refl (law_many any_name (law_made object_field_of (law_seq law_name (law_behind (law_mark kind.Colon refl) l))))))
    (law_either (mark kind.Dollar) (law_unless constant law_variable) law_plain))))) refl

some_value : (constant : Bool) → Inhabited (Depth (ValueOver constant) 1)
some_value constant =
    record {
      text = sample kind.Integer [] ∷ [];
      tree = literal_of origin (integer_of []);
      rule = record { of = integer_of []; is = refl; rule = inr (inr (inr (sample kind.Integer [], refl, refl))) };
      at = refl;
    }

value_knot : (constant : Bool) → Knot (ValueOver constant) (value_over constant) value_shape
value_knot constant = record { sound = refl; some = some_value constant; step = value_step constant }

pub law_value : {n : ℕ} (constant : Bool) → Lawful n (ValueRule constant) (ValueRule constant) (value constant) (value constant) value_shape
unfolding value
law_value {n} constant = law_nested (ValueOver constant) (value_over constant) value_shape (value_knot constant) n

pub value_again : (constant : Bool) (ts : List Token) → value constant ts ≡ value_over constant (value constant) ts
unfolding value
value_again constant ts = again (ValueOver constant) (value_over constant) value_shape (value_knot constant) ts

-- a type that is a name, and one that is a list
pub named_type : (ts mid rest : List Token) (n : Name) (bang : Bool) → starts any_name ts ≡ true → name ts ≡ Done n mid → whether (mark kind.Bang) mid ≡ Done bang rest → type_node ts ≡ Done (type_of (of_name n, bang)) rest
unfolding type_over seq via either
named_type ts mid rest n bang s e f = type_again ts ∙ rw (s, e, f) refl

pub list_type : (ts mid rest : List Token) (inner : TypeNode) (bang : Bool) → starts any_name ts ≡ false → between (mark kind.BracketOpen) (mark kind.BracketClose) type_node ts ≡ Done inner mid → whether (mark kind.Bang) mid ≡ Done bang rest → type_node ts ≡ Done (type_of (of_type inner, bang)) rest
unfolding type_over seq via either
list_type ts mid rest inner bang s e f = type_again ts ∙ rw (s, e, f) refl

pub eats_value : (constant : Bool) → Eats (value constant)
eats_value constant = eats_lawful (law_value constant) refl refl

pub eats_object_field : (constant : Bool) → Eats (object_field (value constant))
unfolding object_field
eats_object_field constant = eats_lawful (law_made object_field_of (law_seq law_name (law_behind (law_mark kind.Colon refl) (law_value constant)))) refl refl
