-- A literal that is the same tree as another is told from no third one where the other isn't.
use Rattle.std.proofs.Common.{◌≡◌, ℕ, List, [], ◌∷◌, map, length, refl, ap, sym, subst, ◌∙◌, Bool, true, false, ◌&&◌, ◌||◌, bytes_eq}
use Rattle.std.specs.List.{list_any, list_all}
use Rattle.std.proofs.lemmas.Slice.Eq.{bytes_eq-Decides}
use Rattle.std.proofs.lemmas.Bool.{eqb-true, eq-eqb}
use Rattle.gql_model.specs.declared.literal.Literal.{Literal, out-Literal}
use Rattle.gql_model.specs.declared.literal.LiteralValue.{LiteralValue, out-LiteralValue}
use Rattle.gql_model.specs.declared.literal.ObjectField.{ObjectField, out-ObjectField}
use Rattle.gql_model.specs.declared.literal.Literal.{roll-Literal, map-Literal}
use Rattle.gql_model.specs.declared.literal.LiteralValue.{roll-LiteralValue}
use Rattle.gql_model.specs.declared.literal.ObjectField.{roll-ObjectField, map-ObjectField}
use Rattle.gql_model.specs.declared.literal.LiteralValue.TheOpen.{Literal-F, LiteralValue-F, ObjectField-F}
use Rattle.gql_model.specs.declared.literal.LiteralValue.TheFolds.{map-LiteralValue, ind-Literal, fold-roll-Literal, fold-roll-LiteralValue, fold-roll-ObjectField, fold_out-Literal, fold_out-LiteralValue, fold_out-ObjectField}
use Rattle.gql_model.specs.declared.selection.Argument.{Argument}
use Rattle.schema_rules.specs.Subtypes.{same_bool}
use Rattle.check_model.specs.SameValues.{SameLiteral, SameValue, SameField, Open, all_same, is_variable, is_integer, is_string, is_boolean, is_null, is_enum, is_list, is_object, value_step, literal_step, field_step, same_literal, same_value, same_object_field, same_argument, has_argument, same_arguments}
use Rattle.merge_rules.proofs.PathLaws.{front_true, both_true}

same_text : (a b : List ℕ) → bytes_eq a b ≡ true → a ≡ b
same_text a b is = (bytes_eq-Decides a b).0 is

same_truth : (a b : Bool) → same_bool a b ≡ true → a ≡ b
same_truth true true is = refl
same_truth true false is = absurd (cc)
same_truth false true is = absurd (cc)
same_truth false false is = refl

-- ---- the claim: what is the same as another is compared with all others alike

abbrev OfValue : LiteralValue → Type 0
OfValue v = (w : LiteralValue) → same_value v w ≡ true → same_value v ≡ same_value w

abbrev OfLiteral : Literal → Type 0
OfLiteral l = (m : Literal) → same_literal l m ≡ true → same_literal l ≡ same_literal m

abbrev OfField : ObjectField → Type 0
OfField f = (g : ObjectField) → same_object_field f g ≡ true → same_object_field f ≡ same_object_field g

abbrev Values : Type 0
Values = (v : LiteralValue) × OfValue v

abbrev Literals : Type 0
Literals = (l : Literal) × OfLiteral l

abbrev Fields : Type 0
Fields = (f : ObjectField) × OfField f

abbrev Tests : Type 0
Tests = LiteralValue-F SameValue SameLiteral SameField

-- ---- one level

items : (ys : List Literals) (os : List Literal) → all_same (map same_literal (map (λ e. e.0) ys)) os ≡ true → map same_literal (map (λ e. e.0) ys) ≡ map same_literal os
items [] [] is = refl
items [] (o ∷ os) is = absurd (cc)
items (y ∷ ys) [] is = absurd (cc)
items (y ∷ ys) (o ∷ os) is = λ i. y.1 o (front_true _ _ is) i ∷ items ys os (both_true _ _ is) i

fields : (ys : List Fields) (os : List ObjectField) → all_same (map same_object_field (map (λ e. e.0) ys)) os ≡ true → map same_object_field (map (λ e. e.0) ys) ≡ map same_object_field os
fields [] [] is = refl
fields [] (o ∷ os) is = absurd (cc)
fields (y ∷ ys) [] is = absurd (cc)
fields (y ∷ ys) (o ∷ os) is = λ i. y.1 o (front_true _ _ is) i ∷ fields ys os (both_true _ _ is) i

-- a level's test of an open value
abbrev test : Tests → Open → Bool
test (LiteralValue-F.Variable a) o = is_variable a o
test (LiteralValue-F.Integer a n) o = is_integer a o
test (LiteralValue-F.String a) o = is_string a o
test (LiteralValue-F.Boolean a) o = is_boolean a o
test LiteralValue-F.Null o = is_null o
test (LiteralValue-F.Enum a) o = is_enum a o
test (LiteralValue-F.List a) o = is_list a o
test (LiteralValue-F.Object a) o = is_object a o

tested : (t : Tests) (w : LiteralValue) → value_step t w ≡ test t (out-LiteralValue w)
tested (LiteralValue-F.Variable a) w = refl
tested (LiteralValue-F.Integer a n) w = refl
tested (LiteralValue-F.String a) w = refl
tested (LiteralValue-F.Boolean a) w = refl
tested LiteralValue-F.Null w = refl
tested (LiteralValue-F.Enum a) w = refl
tested (LiteralValue-F.List a) w = refl
tested (LiteralValue-F.Object a) w = refl

abbrev parts : LiteralValue-F Values Literals Fields → Open
parts = map-LiteralValue Values Literals Fields LiteralValue Literal ObjectField (λ e. e.0) (λ e. e.0) (λ e. e.0)

abbrev tests : Open → Tests
tests = map-LiteralValue LiteralValue Literal ObjectField SameValue SameLiteral SameField same_value same_literal same_object_field

level : (y : LiteralValue-F Values Literals Fields) (o : Open) → test (tests (parts y)) o ≡ true → value_step (tests (parts y)) ≡ value_step (tests o)
level (LiteralValue-F.Variable a) (LiteralValue-F.Variable b) is = λ i w. is_variable (same_text a b is i) (out-LiteralValue w)
level (LiteralValue-F.Variable a) (LiteralValue-F.Integer b m) is = absurd (cc)
level (LiteralValue-F.Variable a) (LiteralValue-F.String b) is = absurd (cc)
level (LiteralValue-F.Variable a) (LiteralValue-F.Boolean b) is = absurd (cc)
level (LiteralValue-F.Variable a) LiteralValue-F.Null is = absurd (cc)
level (LiteralValue-F.Variable a) (LiteralValue-F.Enum b) is = absurd (cc)
level (LiteralValue-F.Variable a) (LiteralValue-F.List b) is = absurd (cc)
level (LiteralValue-F.Variable a) (LiteralValue-F.Object b) is = absurd (cc)
level (LiteralValue-F.Integer a n) (LiteralValue-F.Variable b) is = absurd (cc)
level (LiteralValue-F.Integer a n) (LiteralValue-F.Integer b m) is = λ i w. is_integer (same_text a b is i) (out-LiteralValue w)
level (LiteralValue-F.Integer a n) (LiteralValue-F.String b) is = absurd (cc)
level (LiteralValue-F.Integer a n) (LiteralValue-F.Boolean b) is = absurd (cc)
level (LiteralValue-F.Integer a n) LiteralValue-F.Null is = absurd (cc)
level (LiteralValue-F.Integer a n) (LiteralValue-F.Enum b) is = absurd (cc)
level (LiteralValue-F.Integer a n) (LiteralValue-F.List b) is = absurd (cc)
level (LiteralValue-F.Integer a n) (LiteralValue-F.Object b) is = absurd (cc)
level (LiteralValue-F.String a) (LiteralValue-F.Variable b) is = absurd (cc)
level (LiteralValue-F.String a) (LiteralValue-F.Integer b m) is = absurd (cc)
level (LiteralValue-F.String a) (LiteralValue-F.String b) is = λ i w. is_string (same_text a b is i) (out-LiteralValue w)
level (LiteralValue-F.String a) (LiteralValue-F.Boolean b) is = absurd (cc)
level (LiteralValue-F.String a) LiteralValue-F.Null is = absurd (cc)
level (LiteralValue-F.String a) (LiteralValue-F.Enum b) is = absurd (cc)
level (LiteralValue-F.String a) (LiteralValue-F.List b) is = absurd (cc)
level (LiteralValue-F.String a) (LiteralValue-F.Object b) is = absurd (cc)
level (LiteralValue-F.Boolean a) (LiteralValue-F.Variable b) is = absurd (cc)
level (LiteralValue-F.Boolean a) (LiteralValue-F.Integer b m) is = absurd (cc)
level (LiteralValue-F.Boolean a) (LiteralValue-F.String b) is = absurd (cc)
level (LiteralValue-F.Boolean a) (LiteralValue-F.Boolean b) is = λ i w. is_boolean (same_truth a b is i) (out-LiteralValue w)
level (LiteralValue-F.Boolean a) LiteralValue-F.Null is = absurd (cc)
level (LiteralValue-F.Boolean a) (LiteralValue-F.Enum b) is = absurd (cc)
level (LiteralValue-F.Boolean a) (LiteralValue-F.List b) is = absurd (cc)
level (LiteralValue-F.Boolean a) (LiteralValue-F.Object b) is = absurd (cc)
level LiteralValue-F.Null (LiteralValue-F.Variable b) is = absurd (cc)
level LiteralValue-F.Null (LiteralValue-F.Integer b m) is = absurd (cc)
level LiteralValue-F.Null (LiteralValue-F.String b) is = absurd (cc)
level LiteralValue-F.Null (LiteralValue-F.Boolean b) is = absurd (cc)
level LiteralValue-F.Null LiteralValue-F.Null is = refl
level LiteralValue-F.Null (LiteralValue-F.Enum b) is = absurd (cc)
level LiteralValue-F.Null (LiteralValue-F.List b) is = absurd (cc)
level LiteralValue-F.Null (LiteralValue-F.Object b) is = absurd (cc)
level (LiteralValue-F.Enum a) (LiteralValue-F.Variable b) is = absurd (cc)
level (LiteralValue-F.Enum a) (LiteralValue-F.Integer b m) is = absurd (cc)
level (LiteralValue-F.Enum a) (LiteralValue-F.String b) is = absurd (cc)
level (LiteralValue-F.Enum a) (LiteralValue-F.Boolean b) is = absurd (cc)
level (LiteralValue-F.Enum a) LiteralValue-F.Null is = absurd (cc)
level (LiteralValue-F.Enum a) (LiteralValue-F.Enum b) is = λ i w. is_enum (same_text a b is i) (out-LiteralValue w)
level (LiteralValue-F.Enum a) (LiteralValue-F.List b) is = absurd (cc)
level (LiteralValue-F.Enum a) (LiteralValue-F.Object b) is = absurd (cc)
level (LiteralValue-F.List a) (LiteralValue-F.Variable b) is = absurd (cc)
level (LiteralValue-F.List a) (LiteralValue-F.Integer b m) is = absurd (cc)
level (LiteralValue-F.List a) (LiteralValue-F.String b) is = absurd (cc)
level (LiteralValue-F.List a) (LiteralValue-F.Boolean b) is = absurd (cc)
level (LiteralValue-F.List a) LiteralValue-F.Null is = absurd (cc)
level (LiteralValue-F.List a) (LiteralValue-F.Enum b) is = absurd (cc)
level (LiteralValue-F.List a) (LiteralValue-F.List b) is = λ i w. is_list (items a b is i) (out-LiteralValue w)
level (LiteralValue-F.List a) (LiteralValue-F.Object b) is = absurd (cc)
level (LiteralValue-F.Object a) (LiteralValue-F.Variable b) is = absurd (cc)
level (LiteralValue-F.Object a) (LiteralValue-F.Integer b m) is = absurd (cc)
level (LiteralValue-F.Object a) (LiteralValue-F.String b) is = absurd (cc)
level (LiteralValue-F.Object a) (LiteralValue-F.Boolean b) is = absurd (cc)
level (LiteralValue-F.Object a) LiteralValue-F.Null is = absurd (cc)
level (LiteralValue-F.Object a) (LiteralValue-F.Enum b) is = absurd (cc)
level (LiteralValue-F.Object a) (LiteralValue-F.List b) is = absurd (cc)
level (LiteralValue-F.Object a) (LiteralValue-F.Object b) is = λ i w. is_object (fields a b is i) (out-LiteralValue w)

-- ---- values, literals and fields of objects

unrolled_value : (w : LiteralValue) → same_value w ≡ value_step (tests (out-LiteralValue w))
unrolled_value w = fold_out-LiteralValue SameValue SameLiteral SameField value_step literal_step field_step w

value_level : (y : LiteralValue-F Values Literals Fields) → OfValue (roll-LiteralValue (parts y))
value_level y w is =
    let unrolled : same_value (roll-LiteralValue (parts y)) ≡ value_step (tests (parts y)) =
    fold-roll-LiteralValue SameValue SameLiteral SameField value_step literal_step field_step (parts y) in
    unrolled
    ∙ level y (out-LiteralValue w) (sym (tested (tests (parts y)) w) ∙ ap (λ (f : SameValue). f w) (sym unrolled) ∙ is)
    ∙ sym (unrolled_value w)

abbrev literal_parts : Literal-F Values Literals Fields → Literal-F LiteralValue Literal ObjectField
literal_parts = map-Literal Values Literals Fields LiteralValue Literal ObjectField (λ e. e.0) (λ e. e.0) (λ e. e.0)

literal_level : (y : Literal-F Values Literals Fields) → OfLiteral (roll-Literal (literal_parts y))
literal_level y m is =
    let unrolled : same_literal (roll-Literal (literal_parts y)) ≡ (λ o. same_value y.value.0 (out-Literal o).value) =
    fold-roll-Literal SameValue SameLiteral SameField value_step literal_step field_step (literal_parts y) in
    let other : same_literal m ≡ (λ o. same_value (out-Literal m).value (out-Literal o).value) =
    fold_out-Literal SameValue SameLiteral SameField value_step literal_step field_step m in
    unrolled
    ∙ (λ i o. y.value.1 (out-Literal m).value (ap (λ (f : SameLiteral). f m) (sym unrolled) ∙ is) i (out-Literal o).value)
    ∙ sym other

abbrev field_parts : ObjectField-F Values Literals Fields → ObjectField-F LiteralValue Literal ObjectField
field_parts = map-ObjectField Values Literals Fields LiteralValue Literal ObjectField (λ e. e.0) (λ e. e.0) (λ e. e.0)

field_level : (y : ObjectField-F Values Literals Fields) → OfField (roll-ObjectField (field_parts y))
field_level y g is =
    let unrolled : same_object_field (roll-ObjectField (field_parts y)) ≡ (λ o. bytes_eq y.name.text (out-ObjectField o).name.text && same_literal y.value.0 (out-ObjectField o).value) =
    fold-roll-ObjectField SameValue SameLiteral SameField value_step literal_step field_step (field_parts y) in
    let other : same_object_field g ≡ (λ o. bytes_eq (out-ObjectField g).name.text (out-ObjectField o).name.text && same_literal (out-ObjectField g).value (out-ObjectField o).value) =
    fold_out-ObjectField SameValue SameLiteral SameField value_step literal_step field_step g in
    let here : (bytes_eq y.name.text (out-ObjectField g).name.text && same_literal y.value.0 (out-ObjectField g).value) ≡ true =
    ap (λ (f : SameField). f g) (sym unrolled) ∙ is in
    unrolled
    ∙ (λ i o. bytes_eq (same_text y.name.text (out-ObjectField g).name.text (front_true _ _ here) i) (out-ObjectField o).name.text
    && y.value.1 (out-ObjectField g).value (both_true _ _ here) i (out-ObjectField o).value)
    ∙ sym other

pub compared_alike : (l m : Literal) → same_literal l m ≡ true → same_literal l ≡ same_literal m
compared_alike = ind-Literal OfValue OfLiteral OfField
    (λ x y is. subst (λ (z : Open). OfValue (roll-LiteralValue z)) is (value_level y))
    (λ x y is. subst (λ (z : Literal-F LiteralValue Literal ObjectField). OfLiteral (roll-Literal z)) is (literal_level y))
    (λ x y is. subst (λ (z : ObjectField-F LiteralValue Literal ObjectField). OfField (roll-ObjectField z)) is (field_level y))

-- ---- arguments

argument_alike : (a b : Argument) → same_argument a b ≡ true → same_argument a ≡ same_argument b
argument_alike a b is = λ i c.
    bytes_eq (same_text a.name.text b.name.text (front_true _ _ is) i) c.name.text && compared_alike a.value b.value (both_true _ _ is) i c.value

found_case : (x f : Argument) (fs ys : List Argument) (b : Bool) → same_argument x f ≡ b → (b || list_any (same_argument x) fs) ≡ true
    → (has_argument ys f && list_all (has_argument ys) fs) ≡ true
    → (list_any (same_argument x) fs ≡ true → list_all (has_argument ys) fs ≡ true → has_argument ys x ≡ true)
    → has_argument ys x ≡ true
found_case x f fs ys true same found all later = ap (λ (t : Argument → Bool). list_any t ys) (argument_alike x f same) ∙ front_true _ _ all
found_case x f fs ys false same found all later = later found (both_true _ _ all)

found_through : (x : Argument) (fs ys : List Argument) → list_any (same_argument x) fs ≡ true → list_all (has_argument ys) fs ≡ true → has_argument ys x ≡ true
found_through x [] ys found all = absurd (cc)
found_through x (f ∷ fs) ys found all = found_case x f fs ys (same_argument x f) refl found all (found_through x fs ys)

all_through : (xs fs ys : List Argument) → list_all (has_argument fs) xs ≡ true → list_all (has_argument ys) fs ≡ true → list_all (has_argument ys) xs ≡ true
all_through [] fs ys first then = refl
all_through (x ∷ xs) fs ys first then =
    ap (λ b. b && list_all (has_argument ys) xs) (found_through x fs ys (front_true _ _ first) then)
    ∙ all_through xs fs ys (both_true _ _ first) then

-- what has the same arguments as a list that has the same as a third has the same as the third
same_through : (xs fs ys : List Argument) → same_arguments xs fs ≡ true → same_arguments fs ys ≡ true → same_arguments xs ys ≡ true
same_through xs fs ys first then =
    let long : length xs ≡ length fs = eqb-true (length xs) (length fs) (front_true _ _ first) in
    let as_long : length fs ≡ length ys = eqb-true (length fs) (length ys) (front_true _ _ then) in
    ap (λ b. b && list_all (has_argument ys) xs) (eq-eqb (length xs) (length ys) (long ∙ as_long))
    ∙ all_through xs fs ys (both_true _ _ first) (both_true _ _ then)

-- ---- lists with the same arguments are compared alike

abbrev as_much : (a b : Bool) → (a ≡ true → b ≡ true) → (b ≡ true → a ≡ true) → a ≡ b
as_much true true there back = refl
as_much true false there back = sym (there refl)
as_much false true there back = back refl
as_much false false there back = refl

pub same_before : (xs ys zs : List Argument) → same_arguments xs ys ≡ true → same_arguments ys xs ≡ true → same_arguments xs zs ≡ same_arguments ys zs
same_before xs ys zs there back = as_much (same_arguments xs zs) (same_arguments ys zs) (same_through ys xs zs back) (same_through xs ys zs there)

pub same_behind : (xs ys zs : List Argument) → same_arguments xs ys ≡ true → same_arguments ys xs ≡ true → same_arguments zs xs ≡ same_arguments zs ys
same_behind xs ys zs there back =
    as_much (same_arguments zs xs) (same_arguments zs ys) (λ is. same_through zs xs ys is there) (λ is. same_through zs ys xs is back)
