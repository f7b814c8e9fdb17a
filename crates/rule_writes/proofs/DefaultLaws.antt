-- The arguments that a rule gives, where the defaults of a field's arguments are found by their names.
use Rattle.std.proofs.Common.{◌≡◌, ℕ, List, [], ◌∷◌, ◌++◌, map, refl, sym, ap, ◌∙◌, append_assoc, Bool, true, false, cond, bytes_eq, ◌&&◌}
use Rattle.std.specs.Prelude.{Option, None, Some}
use Rattle.std.specs.List.{AllByRecursion, IsDistinct}
use Rattle.std.specs.Cmp.Lexicographic.{nat_list_eq_equiv}
use Rattle.std.proofs.lemmas.Slice.Eq.{bytes_eq-Decides}
use Rattle.text_types.specs.Names.{names_of, HasDistinctNames}
use Rattle.gql_value.specs.declared.value.Value.{Value}
use Rattle.schema_model.specs.declared.schema.Schema.{Schema}
use Rattle.schema_model.specs.declared.schema.InputValue.{InputValue}
use Rattle.schema_model.specs.Tables.{entry}
use Rattle.schema_rules.specs.TypeRefs.{is_non_null}
use Rattle.execution_model.specs.declared.given.Given.{Given}
use Rattle.execution_model.specs.declared.given.Given.TheVariants.{Absent, Refused, Is}
use Rattle.execution_model.specs.Values.{Pairs, null_value}
use Rattle.execution_model.specs.Inputs.{Defaults, members_into, default_given, or_default}
use Rattle.execution_model.specs.Arguments as arguments
use Rattle.execution_model.specs.Arguments.{argument_default}
use Rattle.rule_effects.specs.Effects.{argument_given, argument_member, coerced_values}
use Rattle.rule_writes.specs.Defaults.{is_null, values_of_none, not_given, or_not_given, member_with_default, with_defaults}
use Rattle.rule_writes.proofs.NullLaws.{null_is, default_no_null}

-- ---- pairs found by name

abbrev pair_of : List ℕ → Option Value → Pairs
pair_of name None = []
pair_of name (Some value) = (name, value) ∷ []

-- no pair has one of these names
abbrev Free : Pairs → List (List ℕ) → Type 0
Free ps names = AllByRecursion (λ n. entry ps n ≡ None) names

left_case : (v : Value) (o : Option Value) (b : Bool) → cond b (Some v) o ≡ None → o ≡ None
left_case v o true is = absurd (cc)
left_case v o false is = is

first_case : (v : Value) (o : Option Value) (b : Bool) → cond b (Some v) o ≡ None → b ≡ false
first_case v o true is = absurd (cc)
first_case v o false is = refl

-- a name that isn't found before is looked for behind
entry_behind : (ps qs : Pairs) (name : List ℕ) → entry ps name ≡ None → entry (ps ++ qs) name ≡ entry qs name
entry_behind [] qs name none = refl
entry_behind (p ∷ ps) qs name none =
    ap (λ b. cond b (Some p.1) (entry (ps ++ qs) name)) (first_case p.1 (entry ps name) (bytes_eq name p.0) none)
    ∙ entry_behind ps qs name (left_case p.1 (entry ps name) (bytes_eq name p.0) none)

-- a pair of another name
entry_other : (name other : List ℕ) (o : Option Value) → bytes_eq other name ≡ false → entry (pair_of other o) name ≡ None
entry_other name other None differs = refl
entry_other name other (Some value) differs = ap (λ b. cond b (Some value) None) (nat_list_eq_equiv.symm name other ∙ differs)

own_pair : (name : List ℕ) (o : Option Value) (rest : Pairs) → entry rest name ≡ None → entry (pair_of name o ++ rest) name ≡ o
own_pair name None rest none = none
own_pair name (Some value) rest none = ap (λ b. cond b (Some value) (entry rest name)) ((bytes_eq-Decides name name).1 refl)

free_with : (ps : Pairs) (name : List ℕ) (o : Option Value) (names : List (List ℕ)) → AllByRecursion (λ n. bytes_eq name n ≡ false) names
    → Free ps names → Free (ps ++ pair_of name o) names
free_with ps name o [] apart free = tt
free_with ps name o (n ∷ ns) (first, apart) (none, free) =
    (entry_behind ps (pair_of name o) n none ∙ entry_other n name o first, free_with ps name o ns apart free)

-- ---- the values of arguments of which none is given

-- what is told of an argument by its default: null where a Non-Null one has none
abbrev told : Bool → Option Value → Option Value
told required None = cond required (Some null_value) None
told required (Some value) = Some value

abbrev told_of : Defaults → Schema → List ℕ × InputValue → Option Value
told_of defaults schema d = told (is_non_null d.1.input_type.type_ref) (argument_default defaults schema d.1)

none_case : (defined : List ℕ × InputValue) (b : Bool) → is_non_null defined.1.input_type.type_ref ≡ b
    → arguments.argument_member defined (cond b Refused Absent) ≡ pair_of defined.0 (cond b (Some null_value) None)
none_case defined true is = ap (λ b. cond b ((defined.0, null_value) ∷ []) []) is
none_case defined false is = ap (λ b. cond b ((defined.0, null_value) ∷ []) []) is

pair_case : (defined : List ℕ × InputValue) (o : Option Value)
    → arguments.argument_member defined (default_given defined.1 o) ≡ pair_of defined.0 (told (is_non_null defined.1.input_type.type_ref) o)
pair_case defined None = none_case defined (is_non_null defined.1.input_type.type_ref) refl
pair_case defined (Some value) = refl

-- one argument's pair
one_pair : (defaults : Defaults) (schema : Schema) (d : List ℕ × InputValue)
    → arguments.coerced_argument defaults schema [] [] d ≡ pair_of d.0 (told_of defaults schema d)
one_pair defaults schema d = pair_case d (argument_default defaults schema d.1)

none_other : (defaults : Defaults) (schema : Schema) (name : List ℕ) (ds : List (List ℕ × InputValue))
    → AllByRecursion (λ n. bytes_eq name n ≡ false) (names_of ds) → entry (values_of_none defaults schema ds) name ≡ None
none_other defaults schema name [] apart = refl
none_other defaults schema name (d ∷ ds) (first, apart) =
    ap (λ ps. entry (ps ++ values_of_none defaults schema ds) name) (one_pair defaults schema d)
    ∙ entry_behind (pair_of d.0 (told_of defaults schema d)) (values_of_none defaults schema ds) name
    (entry_other name d.0 (told_of defaults schema d) (nat_list_eq_equiv.symm d.0 name ∙ first))
    ∙ none_other defaults schema name ds apart

-- ---- what stands for an argument that isn't given

never_so : {P : Type 0} → true ≡ false → P
never_so is = absurd (cc)

refused_case : (value : Value) (a b : Bool) → (b ≡ true → a ≡ false) → cond (a && b) Refused (Is value) ≡ Is value
refused_case value true true never = never_so (never refl)
refused_case value true false never = refl
refused_case value false b never = refl

absent_case : (defined : InputValue) (b : Bool) → is_non_null defined.input_type.type_ref ≡ b
    → not_given defined (cond b (Some null_value) None) ≡ cond b Refused Absent
absent_case defined true is =
    ap (λ b. cond (b && is_non_null defined.input_type.type_ref) Refused (Is null_value)) null_is
    ∙ ap (λ b. cond b Refused (Is null_value)) is
absent_case defined false is = refl

not_given_case : (defined : InputValue) (o : Option Value)
    → ((value : Value) → o ≡ Some value → is_non_null defined.input_type.type_ref ≡ true → is_null value ≡ false)
    → not_given defined (told (is_non_null defined.input_type.type_ref) o) ≡ default_given defined o
not_given_case defined None never = absent_case defined (is_non_null defined.input_type.type_ref) refl
not_given_case defined (Some value) never = refused_case value (is_null value) (is_non_null defined.input_type.type_ref) (never value refl)

not_given_is : (defaults : Defaults) (schema : Schema) (defined : InputValue)
    → not_given defined (told (is_non_null defined.input_type.type_ref) (argument_default defaults schema defined))
    ≡ default_given defined (argument_default defaults schema defined)
not_given_is defaults schema defined =
    not_given_case defined (argument_default defaults schema defined) (λ value is required. default_no_null defaults schema defined value is required)

given_case : (defined : InputValue) (o default : Option Value) (given : Given) → not_given defined o ≡ default_given defined default
    → or_not_given defined o given ≡ or_default defined default given
given_case defined o default Absent same = same
given_case defined o default Refused same = refl
given_case defined o default (Is value) same = refl

-- ---- all arguments

same_members : (defaults : Defaults) (schema : Schema) (values before : Pairs) (ds : List (List ℕ × InputValue)) (all : Pairs)
    → all ≡ before ++ values_of_none defaults schema ds → Free before (names_of ds) → IsDistinct bytes_eq (names_of ds)
    → map (member_with_default defaults schema all values) ds ≡ map (argument_member defaults schema values) ds
unfolding IsDistinct
same_members defaults schema values before [] all is free distinct = refl
same_members defaults schema values before (d ∷ ds) all is (none, free) (apart, distinct) =
    let here : entry all d.0 ≡ told_of defaults schema d =
    ap (λ ps. entry ps d.0) is
    ∙ entry_behind before (arguments.coerced_argument defaults schema [] [] d ++ values_of_none defaults schema ds) d.0 none
    ∙ ap (λ ps. entry (ps ++ values_of_none defaults schema ds) d.0) (one_pair defaults schema d)
    ∙ own_pair d.0 (told_of defaults schema d) (values_of_none defaults schema ds) (none_other defaults schema d.0 ds apart) in
    let first : member_with_default defaults schema all values d ≡ argument_member defaults schema values d =
    ap (λ g. (d.0, g))
    (given_case d.1 (entry all d.0) (argument_default defaults schema d.1) (argument_given defaults schema values d)
    (ap (not_given d.1) here ∙ not_given_is defaults schema d.1)) in
    let onward : all ≡ (before ++ pair_of d.0 (told_of defaults schema d)) ++ values_of_none defaults schema ds =
    is
    ∙ ap (λ ps. before ++ (ps ++ values_of_none defaults schema ds)) (one_pair defaults schema d)
    ∙ sym (append_assoc before (pair_of d.0 (told_of defaults schema d)) (values_of_none defaults schema ds)) in
    ap (λ m. m ∷ map (member_with_default defaults schema all values) ds) first
    ∙ ap (λ ms. argument_member defaults schema values d ∷ ms)
    (same_members defaults schema values (before ++ pair_of d.0 (told_of defaults schema d)) ds all onward
    (free_with before d.0 (told_of defaults schema d) (names_of ds) apart free) distinct)

free_none : (names : List (List ℕ)) → Free [] names
free_none [] = tt
free_none (name ∷ names) = (refl, free_none names)

-- arguments by these values, with their defaults
pub with_defaults_is : (defaults : Defaults) (schema : Schema) (defined : List (List ℕ × InputValue)) (values : Pairs) → HasDistinctNames defined
    → with_defaults defaults schema (values_of_none defaults schema defined) defined values ≡ coerced_values defaults schema defined values
with_defaults_is defaults schema defined values distinct =
    ap (members_into []) (same_members defaults schema values [] defined (values_of_none defaults schema defined) refl (free_none (names_of defined)) distinct)
