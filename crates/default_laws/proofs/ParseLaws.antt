-- What the parsers yield: the defaults of input fields have no variables.
use Rattle.std.proofs.Common.{◌≡◌, ℕ, zero, suc, Bool, true, false, List, [], ◌∷◌, ◌++◌, length, map, refl, ap, ◌∙◌, subst}
use Rattle.std.specs.Prelude.{Option, None, Some, Ok, Err, Result, if◌then◌else◌, ◌&&◌, cond, codes, bytes_eq}
use Rattle.std.specs.List.{AllByRecursion, list_all}
use Rattle.std.proofs.lemmas.Option.{same_Some}
use Rattle.gql_tokens.specs.Tokens.{Token, tokens_of}
use Rattle.gql_tokens.specs.declared.token.Place.{Place}
use Rattle.gql_tokens.specs.declared.token.Kind.{Kind}
use Rattle.gql_tokens.specs.declared.token.Kind.TheVariants as kind
use Rattle.gql_model.specs.declared.literal.Literal.{Literal}
use Rattle.gql_model.specs.declared.literal.LiteralValue.{LiteralValue, roll-LiteralValue}
use Rattle.gql_model.specs.declared.literal.ObjectField.{ObjectField}
use Rattle.gql_model.specs.declared.literal.LiteralValue.TheOpen.{LiteralValue-F}
use Rattle.gql_model.specs.declared.literal.LiteralValue.TheFolds.{fold-roll-Literal, fold-roll-LiteralValue, fold-roll-ObjectField, map-LiteralValue}
use Rattle.gql_model.specs.declared.name.Name.{Name}
use Rattle.gql_model.specs.declared.document.Document.{Document}
use Rattle.gql_model.specs.declared.document.Definition.{Definition}
use Rattle.gql_model.specs.declared.document.Definition.TheVariants as definition
use Rattle.gql_model.specs.declared.type_system.InputDefinition.{InputDefinition}
use Rattle.gql_model.specs.declared.type_system.TypeSystem.{TypeSystem}
use Rattle.gql_model.specs.declared.type_system.TypeSystemForm.{TypeSystemForm}
use Rattle.gql_model.specs.declared.type_ref.TypeNode.{TypeNode}
use Rattle.gql_model.specs.declared.selection.Directive.{Directive}
use Rattle.gql_model.specs.Sorts.{Sort, starts}
use Rattle.gql_model.specs.TypeSystems as grammar
use Rattle.gql_model.specs.Documents.{of_type_system}
use Rattle.gql_model.specs.Rules.{last, former, cons, or_none, place_of}
use Rattle.gql_model.specs.Literals.{plain, plain_value, named_value, integer_of, string_of, list_of, object_of, literal_of, object_field_of}
use Rattle.gql_documents.specs.Parsing.{Outcome, Done, Fail, Parser, and_then, taken, tok, token, seq, via, opt, either, many_from, many, refuse, unless, here, depth, nested, behind, before, between, more, perhaps}
use Rattle.gql_documents.specs.Literals.{plain_literal, object_field, list, object, variable, literal_value, value_over, value}
use Rattle.gql_documents.specs.Executables.{default_if_any}
use Rattle.gql_documents.specs.TypeSystems.{input, input_fields, input_fields_if_any, input_object, schema, scalar, object_type, interface, union, enumeration, directive_definition, form_from_union, form, type_system}
use Rattle.gql_documents.specs.Documents.{definition, definitions, ends, judged, document_of}
use Rattle.schema_text.specs.declared.error.Flaw.{Flaw}
use Rattle.schema_text.specs.Depth.{nests_too_deep}
use Rattle.schema_text.specs.Texts.{form_in, forms_in, first_executable, all_forms, forms_of_document, forms_of}
use Rattle.default_laws.specs.Constants.{constant_in_value, constant_in_literal, constant_in_field, is_constant, is_constant_value, is_constant_field, is_constant_default}
use Rattle.default_laws.proofs.ConstantForms.{HasConstantDefault, IsConstantForm, IsConstantDefinition}

-- ---- parsers

-- this holds of all that a parser reads
abbrev Yields : {A : Type 0} → (A → Type 0) → Parser A → Type 0
Yields {A} P p = (ts : List Token) (a : A) (rest : List Token) → p ts ≡ Done a rest → P a

abbrev read_or : {A : Type 0} → A → Outcome A → A
read_or other (Done a rest) = a
read_or other (Fail rest) = other

done_same : {A : Type 0} (a b : A) (r s : List Token) → Done a r ≡ Done b s → a ≡ b
done_same a b r s e = ap (read_or a) e

yields_any : {A : Type 0} (p : Parser A) → Yields (λ a. Unit {0}) p
yields_any p ts a rest e = tt

yields_more : {A : Type 0} (P Q : A → Type 0) (p : Parser A) → ((a : A) → P a → Q a) → Yields P p → Yields Q p
yields_more P Q p implies yields ts a rest e = implies a (yields ts a rest e)

via_case : {A C : Type 0} (Q : C → Type 0) (f : A → C) (o : Outcome A) (c : C) (rest : List Token) → ((a : A) (r : List Token) → o ≡ Done a r → Q (f a))
    → and_then o (λ a r. Done (f a) r) ≡ Done c rest → Q c
via_case Q f (Done a r) c rest yields e = subst Q (done_same (f a) c r rest e) (yields a r refl)
via_case Q f (Fail r) c rest yields e = absurd (cc)

yields_via : {A C : Type 0} (Q : C → Type 0) (f : A → C) (p : Parser A) → Yields (λ a. Q (f a)) p → Yields Q (via f p)
unfolding via
yields_via Q f p yields ts c rest e = via_case Q f (p ts) c rest (λ a r is. yields ts a r is) e

second_case : {A B : Type 0} (P : A → Type 0) (Q : B → Type 0) (a : A) (o : Outcome B) (c : A × B) (rest : List Token) → P a → ((b : B) (r : List Token) → o ≡ Done b r → Q b)
    → and_then o (λ b r. Done (a, b) r) ≡ Done c rest → P c.0 × Q c.1
second_case P Q a (Done b r) c rest first yields e = subst (λ d. P d.0 × Q d.1) (done_same (a, b) c r rest e) (first, yields b r refl)
second_case P Q a (Fail r) c rest first yields e = absurd (cc)

first_case : {A B : Type 0} (P : A → Type 0) (Q : B → Type 0) (o : Outcome A) (q : Parser B) (c : A × B) (rest : List Token) → ((a : A) (r : List Token) → o ≡ Done a r → P a) → Yields Q q
    → and_then o (λ a mid. and_then (q mid) (λ b r. Done (a, b) r)) ≡ Done c rest → P c.0 × Q c.1
first_case P Q (Done a mid) q c rest first yields e = second_case P Q a (q mid) c rest (first a mid refl) (λ b r is. yields mid b r is) e
first_case P Q (Fail r) q c rest first yields e = absurd (cc)

yields_seq : {A B : Type 0} (P : A → Type 0) (Q : B → Type 0) (p : Parser A) (q : Parser B) → Yields P p → Yields Q q → Yields (λ c. P c.0 × Q c.1) (seq p q)
unfolding seq
yields_seq P Q p q first second ts c rest e = first_case P Q (p ts) q c rest (λ a r is. first ts a r is) second e

-- what holds of the first part, or of the second, of two that are read one after another
yields_first : {A B : Type 0} (P : A → Type 0) (p : Parser A) (q : Parser B) → Yields P p → Yields (λ (c : A × B). P c.0) (seq p q)
yields_first {A} {B} P p q yields ts c rest e = (yields_seq P (λ (b : B). Unit {0}) p q yields (yields_any q) ts c rest e).0

yields_second : {A B : Type 0} (Q : B → Type 0) (p : Parser A) (q : Parser B) → Yields Q q → Yields (λ (c : A × B). Q c.1) (seq p q)
yields_second {A} {B} Q p q yields ts c rest e = (yields_seq (λ (a : A). Unit {0}) Q p q (yields_any p) yields ts c rest e).1

if_case : {A : Type 0} (P : A → Type 0) (b : Bool) (o o' : Outcome A) (a : A) (rest : List Token) → (o ≡ Done a rest → P a) → (o' ≡ Done a rest → P a)
    → (if b then o else o') ≡ Done a rest → P a
if_case P true o o' a rest first second e = first e
if_case P false o o' a rest first second e = second e

yields_either : {A : Type 0} (P : A → Type 0) (enter : List Sort) (p q : Parser A) → Yields P p → Yields P q → Yields P (either enter p q)
unfolding either
yields_either P enter p q first second ts a rest e = if_case P (starts enter ts) (p ts) (q ts) a rest (λ is. first ts a rest is) (λ is. second ts a rest is) e

yields_opt : {A : Type 0} (P : Option A → Type 0) (enter : List Sort) (p : Parser A) → P None → Yields (λ a. P (Some a)) p → Yields P (opt enter p)
unfolding opt
yields_opt P enter p none yields ts o rest e =
    if_case P (starts enter ts) (via Some p ts) (Done None ts) o rest
    (λ is. yields_via P Some p yields ts o rest is)
    (λ is. subst P (done_same None o ts rest is) none) e

many_case : {A : Type 0} (P : A → Type 0) (a : A) (o : Outcome (List A)) (all : List A) (rest : List Token) → P a → ((more : List A) (r : List Token) → o ≡ Done more r → AllByRecursion P more)
    → and_then o (λ more r. Done (a ∷ more) r) ≡ Done all rest → AllByRecursion P all
many_case P a (Done more r) all rest first yields e = subst (AllByRecursion P) (done_same (a ∷ more) all r rest e) (first, yields more r refl)
many_case P a (Fail r) all rest first yields e = absurd (cc)

turn_case : {A : Type 0} (P : A → Type 0) (o : Outcome A) (q : Parser (List A)) (all : List A) (rest : List Token) → ((a : A) (r : List Token) → o ≡ Done a r → P a) → Yields (AllByRecursion P) q
    → and_then o (λ a mid. and_then (q mid) (λ more r. Done (a ∷ more) r)) ≡ Done all rest → AllByRecursion P all
turn_case P (Done a mid) q all rest first yields e = many_case P a (q mid) all rest (first a mid refl) (λ more r is. yields mid more r is) e
turn_case P (Fail r) q all rest first yields e = absurd (cc)

yields_from : {A : Type 0} (P : A → Type 0) (n : ℕ) (enter : List Sort) (p : Parser A) → Yields P p → Yields (AllByRecursion P) (many_from n enter p)
unfolding many_from
yields_from P zero enter p yields ts all rest e = subst (AllByRecursion P) (done_same [] all ts rest e) tt
yields_from P (suc n) enter p yields ts all rest e =
    if_case (AllByRecursion P) (starts enter ts) (and_then (p ts) (λ a mid. and_then (many_from n enter p mid) (λ more r. Done (a ∷ more) r))) (Done [] ts) all rest
    (λ is. turn_case P (p ts) (many_from n enter p) all rest (λ a r read. yields ts a r read) (yields_from P n enter p yields) is)
    (λ is. subst (AllByRecursion P) (done_same [] all ts rest is) tt) e

yields_many : {A : Type 0} (P : A → Type 0) (enter : List Sort) (p : Parser A) → Yields P p → Yields (AllByRecursion P) (many enter p)
unfolding many
yields_many P enter p yields ts all rest e = yields_from P (length ts) enter p yields ts all rest e

yields_here : {A : Type 0} (P : A → Type 0) (p : Place → Parser A) → ((place : Place) → Yields P (p place)) → Yields P (here p)
unfolding here
yields_here P p yields ts a rest e = yields (place_of ts) ts a rest e

yields_behind : {A : Type 0} (P : A → Type 0) (sorts : List Sort) (p : Parser A) → Yields P p → Yields P (behind sorts p)
unfolding behind
yields_behind P sorts p yields = yields_via P last (seq (token sorts) p) (yields_second P (token sorts) p yields)

yields_between : {A : Type 0} (P : A → Type 0) (left right : List Sort) (p : Parser A) → Yields P p → Yields P (between left right p)
unfolding between before
yields_between P left right p yields =
    yields_behind P left (via former (seq p (token right))) (yields_via P former (seq p (token right)) (yields_first P p (token right) yields))

yields_one_or_more : {A : Type 0} (P : A → Type 0) (enter : List Sort) (p : Parser A) → Yields P p → Yields (AllByRecursion P) (more enter p)
unfolding more
yields_one_or_more P enter p yields =
    yields_via (AllByRecursion P) cons (seq p (many enter p)) (yields_seq P (AllByRecursion P) p (many enter p) yields (yields_many P enter p yields))

yields_perhaps : {A : Type 0} (P : A → Type 0) (enter : List Sort) (p : Parser (List A)) → Yields (AllByRecursion P) p → Yields (AllByRecursion P) (perhaps enter p)
unfolding perhaps
yields_perhaps P enter p yields =
    yields_via (AllByRecursion P) or_none (opt enter p) (yields_opt (λ o. AllByRecursion P (or_none o)) enter p tt yields)

yields_depth : {A : Type 0} (P : A → Type 0) (f : Parser A → Parser A) → ((p : Parser A) → Yields P p → Yields P (f p)) → (n : ℕ) → Yields P (depth f n)
unfolding depth refuse
yields_depth P f step zero ts a rest e = absurd (cc)
yields_depth P f step (suc n) ts a rest e = step (depth f n) (yields_depth P f step n) ts a rest e

yields_nested : {A : Type 0} (P : A → Type 0) (f : Parser A → Parser A) → ((p : Parser A) → Yields P p → Yields P (f p)) → Yields P (nested f)
unfolding nested
yields_nested P f step ts a rest e = yields_depth P f step (suc (length ts)) ts a rest e

taken_case : {A : Type 0} (P : A → Type 0) (o : Option A) (x : Token) (ts : List Token) (a : A) (rest : List Token) → ((b : A) → o ≡ Some b → P b) → taken o x ts ≡ Done a rest → P a
taken_case P None x ts a rest yields e = absurd (cc)
taken_case P (Some b) x ts a rest yields e = subst P (done_same b a ts rest e) (yields b refl)

yields_tok : {A : Type 0} (P : A → Type 0) (value : Token → Option A) → ((x : Token) (a : A) → value x ≡ Some a → P a) → Yields P (tok value)
unfolding tok
yields_tok P value yields [] a rest e = absurd (cc)
yields_tok P value yields (x ∷ ts) a rest e = taken_case P (value x) x ts a rest (yields x) e

-- ---- literals

abbrev IsConstant : Literal → Type 0
IsConstant l = is_constant l ≡ true

abbrev IsConstantValue : LiteralValue → Type 0
IsConstantValue v = is_constant_value v ≡ true

abbrev IsConstantField : ObjectField → Type 0
IsConstantField f = is_constant_field f ≡ true

value_level : (v : LiteralValue-F LiteralValue Literal ObjectField) → is_constant_value (roll-LiteralValue v)
    ≡ constant_in_value (map-LiteralValue LiteralValue Literal ObjectField Bool Bool Bool is_constant_value is_constant is_constant_field v)
value_level v = fold-roll-LiteralValue Bool Bool Bool constant_in_value constant_in_literal constant_in_field v

all_constant : {X : Type 0} (test : X → Bool) (xs : List X) → AllByRecursion (λ x. test x ≡ true) xs → list_all (λ (c : Bool). c) (map test xs) ≡ true
all_constant test [] all = refl
all_constant test (x ∷ xs) (here, more) = ap (λ (b : Bool). b && list_all (λ (c : Bool). c) (map test xs)) here ∙ all_constant test xs more

list_constant : (ls : List Literal) → AllByRecursion IsConstant ls → IsConstantValue (list_of ls)
list_constant ls all = value_level (LiteralValue-F.List ls) ∙ all_constant is_constant ls all

object_constant : (fs : List ObjectField) → AllByRecursion IsConstantField fs → IsConstantValue (object_of fs)
object_constant fs all = value_level (LiteralValue-F.Object fs) ∙ all_constant is_constant_field fs all

field_constant : (p : Name × Literal) → IsConstant p.1 → IsConstantField (object_field_of p)
field_constant p constants = fold-roll-ObjectField Bool Bool Bool constant_in_value constant_in_literal constant_in_field (record { name = p.0; value = p.1 }) ∙ constants

literal_constant : (place : Place) (v : LiteralValue) → IsConstantValue v → IsConstant (literal_of place v)
literal_constant place v constants = fold-roll-Literal Bool Bool Bool constant_in_value constant_in_literal constant_in_field (record { place = place; value = v }) ∙ constants

one_of : (P : LiteralValue → Type 0) (b : Bool) (v w : LiteralValue) → P v → P w → P (if b then v else w)
one_of P true v w first second = first
one_of P false v w first second = second

named_constant : (text : List ℕ) → IsConstantValue (named_value text)
named_constant text =
    one_of IsConstantValue (bytes_eq text (codes "true")) _ _ (value_level (LiteralValue-F.Boolean true))
    (one_of IsConstantValue (bytes_eq text (codes "false")) _ _ (value_level (LiteralValue-F.Boolean false))
    (one_of IsConstantValue (bytes_eq text (codes "null")) _ _ (value_level LiteralValue-F.Null) (value_level (LiteralValue-F.Enum text))))

some_of : {A : Type 0} (P : A → Type 0) (a b : A) → Some a ≡ Some b → P a → P b
some_of P a b e holds = subst P (same_Some a b e) holds

kind_constant : (k : Kind) (text : List ℕ) (v : LiteralValue) → plain_value k text ≡ Some v → IsConstantValue v
kind_constant kind.Integer text v e = some_of IsConstantValue (integer_of text) v e (value_level (LiteralValue-F.Integer text _))
kind_constant kind.String text v e = some_of IsConstantValue (string_of text) v e (value_level (LiteralValue-F.String _))
kind_constant kind.Name text v e = some_of IsConstantValue (named_value text) v e (named_constant text)
kind_constant _ text v e = absurd (cc)

yields_plain : Yields IsConstantValue plain_literal
unfolding plain_literal
yields_plain = yields_tok IsConstantValue plain (λ x v e. kind_constant x.kind x.text v e)

no_variable : Yields IsConstantValue (unless true variable)
unfolding unless
no_variable ts v rest e = absurd (cc)

yields_field : (inner : Parser Literal) → Yields IsConstant inner → Yields IsConstantField (object_field inner)
unfolding object_field
yields_field inner yields =
    yields_via IsConstantField object_field_of _
    (yields_more (λ (p : Name × Literal). IsConstant p.1) (λ (p : Name × Literal). IsConstantField (object_field_of p)) _ field_constant
    (yields_second IsConstant _ _ (yields_behind IsConstant _ inner yields)))

yields_over : (inner : Parser Literal) → Yields IsConstant inner → Yields IsConstant (value_over true inner)
unfolding value_over literal_value list object
yields_over inner yields =
    yields_here IsConstant _ (λ place.
    yields_via IsConstant (literal_of place) _
    (yields_more IsConstantValue (λ (v : LiteralValue). IsConstant (literal_of place v)) _ (literal_constant place)
    (yields_either IsConstantValue _ _ _
    (yields_via IsConstantValue list_of _ (yields_more (AllByRecursion IsConstant) (λ (ls : List Literal). IsConstantValue (list_of ls)) _ list_constant (yields_between (AllByRecursion IsConstant) _ _ _ (yields_many IsConstant _ inner yields))))
    (yields_either IsConstantValue _ _ _
    (yields_via IsConstantValue object_of _ (yields_more (AllByRecursion IsConstantField) (λ (fs : List ObjectField). IsConstantValue (object_of fs)) _ object_constant (yields_between (AllByRecursion IsConstantField) _ _ _ (yields_many IsConstantField _ (object_field inner) (yields_field inner yields)))))
    (yields_either IsConstantValue _ _ _ no_variable yields_plain)))))

yields_constant : Yields IsConstant (value true)
unfolding value
yields_constant = yields_nested IsConstant (value_over true) yields_over

-- ---- definitions

yields_default : Yields (λ (o : Option Literal). is_constant_default o ≡ true) default_if_any
unfolding default_if_any
yields_default = yields_opt (λ (o : Option Literal). is_constant_default o ≡ true) _ _ refl (yields_behind IsConstant _ (value true) yields_constant)

-- a type, a default and directives
abbrev Typed : Type 0
Typed = TypeNode × (Option Literal × List Directive)

abbrev IsConstantDefault : Option Literal → Type 0
IsConstantDefault default = is_constant_default default ≡ true

yields_input : Yields HasConstantDefault input
unfolding input
yields_input =
    yields_via HasConstantDefault grammar.input_of _
    (yields_second (λ (c : Name × Typed). IsConstantDefault c.1.1.0) _ _
    (yields_second (λ (c : Typed). IsConstantDefault c.1.0) _ _
    (yields_behind (λ (c : Typed). IsConstantDefault c.1.0) _ _
    (yields_second (λ (c : Option Literal × List Directive). IsConstantDefault c.0) _ _
    (yields_first IsConstantDefault default_if_any _ yields_default)))))

yields_input_fields : Yields (AllByRecursion HasConstantDefault) input_fields_if_any
unfolding input_fields_if_any input_fields
yields_input_fields = yields_perhaps HasConstantDefault _ _ (yields_between (AllByRecursion HasConstantDefault) _ _ _ (yields_one_or_more HasConstantDefault _ input yields_input))

yields_input_object : Yields IsConstantForm input_object
unfolding input_object
yields_input_object =
    yields_via IsConstantForm grammar.input_object_of _
    (yields_behind (λ (c : Name × (List Directive × List InputDefinition)). AllByRecursion HasConstantDefault c.1.1) _ _
    (yields_second (λ (c : List Directive × List InputDefinition). AllByRecursion HasConstantDefault c.1) _ _
    (yields_second (AllByRecursion HasConstantDefault) _ input_fields_if_any yields_input_fields)))

yields_form : Yields IsConstantForm form
unfolding form form_from_union schema scalar object_type interface union enumeration directive_definition
yields_form =
    yields_either IsConstantForm _ _ _ (yields_here IsConstantForm _ (λ place. yields_via IsConstantForm _ _ (yields_any _)))
    (yields_either IsConstantForm _ _ _ (yields_via IsConstantForm _ _ (yields_any _))
    (yields_either IsConstantForm _ _ _ (yields_via IsConstantForm _ _ (yields_any _))
    (yields_either IsConstantForm _ _ _ (yields_via IsConstantForm _ _ (yields_any _))
    (yields_either IsConstantForm _ _ _ (yields_via IsConstantForm _ _ (yields_any _))
    (yields_either IsConstantForm _ _ _ (yields_via IsConstantForm _ _ (yields_any _))
    (yields_either IsConstantForm _ _ _ yields_input_object (yields_via IsConstantForm _ _ (yields_any _))))))))

yields_type_system : Yields (λ (d : TypeSystem). IsConstantForm d.form) type_system
unfolding type_system
yields_type_system =
    yields_here (λ (d : TypeSystem). IsConstantForm d.form) _ (λ place.
    yields_via (λ (d : TypeSystem). IsConstantForm d.form) (grammar.type_system_of place) _ (yields_second IsConstantForm _ form yields_form))

yields_definition : Yields IsConstantDefinition definition
unfolding definition
yields_definition =
    yields_either IsConstantDefinition _ _ _ (yields_via IsConstantDefinition _ _ (yields_any _))
    (yields_either IsConstantDefinition _ _ _ (yields_via IsConstantDefinition _ _ (yields_any _))
    (yields_via IsConstantDefinition of_type_system _ yields_type_system))

-- ---- texts

abbrev definitions_or : List Definition → Result Document Place → List Definition
definitions_or other (Ok document) = document.definitions
definitions_or other (Err place) = other

abbrev read_if : Bool → List Definition → List Token → Result Document Place
read_if b ds rest = if b then Ok (record { definitions = ds }) else Err (place_of rest)

whole_case : (d : Definition) (all : List Definition) (rest : List Token) (document : Document) (b : Bool) → AllByRecursion IsConstantDefinition (d ∷ all)
    → read_if b (d ∷ all) rest ≡ Ok document → AllByRecursion IsConstantDefinition document.definitions
whole_case d all rest document true constants e = subst (AllByRecursion IsConstantDefinition) (ap (definitions_or (d ∷ all)) e) constants
whole_case d all rest document false constants e = absurd (cc)

judged_case : (o : Outcome (List Definition)) (document : Document) → ((all : List Definition) (r : List Token) → o ≡ Done all r → AllByRecursion IsConstantDefinition all)
    → judged o ≡ Ok document → AllByRecursion IsConstantDefinition document.definitions
judged_case (Done [] rest) document yields e = absurd (cc)
judged_case (Done (d ∷ all) rest) document yields e = whole_case d all rest document (ends rest) (yields (d ∷ all) rest refl) e
judged_case (Fail rest) document yields e = absurd (cc)

document_constant : (text : List ℕ) (document : Document) → document_of text ≡ Ok document → AllByRecursion IsConstantDefinition document.definitions
unfolding document_of definitions
document_constant text document e =
    judged_case (definitions (tokens_of text)) document (λ all r is. yields_many IsConstantDefinition _ definition yields_definition (tokens_of text) all r is) e

joined : {X : Type 0} (P : X → Type 0) (xs ys : List X) → AllByRecursion P xs → AllByRecursion P ys → AllByRecursion P (xs ++ ys)
joined P [] ys first second = second
joined P (x ∷ xs) ys (here, more) second = (here, joined P xs ys more second)

form_constant : (d : Definition) → IsConstantDefinition d → AllByRecursion IsConstantForm (form_in d)
form_constant (definition.TypeSystem d) constants = (constants, tt)
form_constant (definition.Operation d) constants = tt
form_constant (definition.Fragment d) constants = tt

forms_constant : (ds : List Definition) → AllByRecursion IsConstantDefinition ds → AllByRecursion IsConstantForm (forms_in ds)
forms_constant [] all = tt
forms_constant (d ∷ ds) (here, more) = joined IsConstantForm (form_in d) (forms_in ds) (form_constant d here) (forms_constant ds more)

abbrev forms_or : List TypeSystemForm → Result (List TypeSystemForm) Flaw → List TypeSystemForm
forms_or other (Ok forms) = forms
forms_or other (Err flaw) = other

all_case : (ds : List Definition) (line : Option ℕ) (forms : List TypeSystemForm) → AllByRecursion IsConstantDefinition ds → all_forms ds line ≡ Ok forms → AllByRecursion IsConstantForm forms
all_case ds None forms constants e = subst (AllByRecursion IsConstantForm) (ap (forms_or (forms_in ds)) e) (forms_constant ds constants)
all_case ds (Some line) forms constants e = absurd (cc)

document_case : (text : List ℕ) (r : Result Document Place) (forms : List TypeSystemForm) → ((document : Document) → r ≡ Ok document → AllByRecursion IsConstantDefinition document.definitions)
    → forms_of_document text r ≡ Ok forms → AllByRecursion IsConstantForm forms
document_case text (Ok document) forms yields e = all_case document.definitions (first_executable document.definitions) forms (yields document refl) e
document_case text (Err place) forms yields e = absurd (cc)

depth_case : (b : Bool) (flaw : Flaw) (r : Result (List TypeSystemForm) Flaw) (forms : List TypeSystemForm) → cond b (Err flaw) r ≡ Ok forms → r ≡ Ok forms
depth_case true flaw r forms e = absurd (cc)
depth_case false flaw r forms e = e

-- the input object types of a text have defaults without variables
pub text_constant : (text : List ℕ) (forms : List TypeSystemForm) → forms_of text ≡ Ok forms → AllByRecursion IsConstantForm forms
text_constant text forms e =
    document_case text (document_of text) forms (document_constant text) (depth_case (nests_too_deep text) _ (forms_of_document text (document_of text)) forms e)
