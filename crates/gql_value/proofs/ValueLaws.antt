-- The value that a value's data is, is the value itself, and so it is with outcomes and what they mean.
use Rattle.std.proofs.Common.{◌≡◌, ℕ, List, [], ◌∷◌, map, refl, sym, ap, ap₂, subst, ◌∙◌}
use Rattle.std.specs.Prelude.{ℤ, pos, negsuc}
use Rattle.serde_json.specs.Data.{Data}
use Rattle.serde_json.specs.Find.{of_integer}
use Rattle.serde_json.specs.View.{items_of}
use Rattle.gql_value.specs.declared.value.Value.{Value, map-Value}
use Rattle.gql_value.specs.declared.value.Value.TheFolds.{fold-roll-Value, ind-Value}
use Rattle.gql_value.specs.declared.value.Value.TheOpen.{Value-F}
use Rattle.gql_value.specs.declared.value.Value.TheViews.{roll-Value}
use Rattle.gql_value.specs.declared.value.Value.TheVariants.{Obj, rolls-Obj}
use Rattle.gql_value.specs.declared.outcome.Outcome.{Outcome}
use Rattle.gql_value.specs.declared.outcome.Outcome.TheVariants as outcome
use Rattle.gql_value.specs.Json.{data_of, data_step, members_of}
use Rattle.gql_value.specs.Outcome.{Meaning, meaning_of, outcome_from}
use Rattle.gql_value.specs.Values.{Pairs, integer_of, value_of, values_of, pairs_of, pairs_in}
use Rattle.gql_value.proofs.Conversion.{named_data}

-- reading its data gives the value back
abbrev ComesBack : Value → Type 0
ComesBack v = value_of (data_of v) ≡ v

integer_back : (n : ℤ) → integer_of (of_integer n) ≡ n
integer_back (pos n) = refl
integer_back (negsuc n) = refl

-- a value, and that it comes back
abbrev Back : Type 0
Back = (v : Value) × ComesBack v

abbrev value_in : Back → Value
value_in e = e.0

abbrev named_value : List ℕ × Back → List ℕ × Value
named_value m = (m.0, value_in m.1)

items_back : (vs : List Back) → values_of (items_of (map data_of (map value_in vs))) ≡ map value_in vs
items_back [] = refl
items_back (e ∷ vs) = ap₂ (λ (v : Value) (rest : List Value). v ∷ rest) e.1 (items_back vs)

members_back : (ms : List (List ℕ × Back)) → pairs_of (members_of (map named_data (map named_value ms))) ≡ map named_value ms
members_back [] = refl
members_back (m ∷ ms) = ap₂ (λ (v : Value) (rest : Pairs). (m.0, v) ∷ rest) m.1.1 (members_back ms)

layer_back : (y : Value-F Back) → value_of (data_step (map-Value _ _ data_of (map-Value _ _ value_in y))) ≡ roll-Value (map-Value _ _ value_in y)
layer_back Value-F.Null = refl
layer_back (Value-F.Bool b) = refl
layer_back (Value-F.Int n) = ap (λ k. roll-Value (Value-F.Int k)) (integer_back n)
layer_back (Value-F.Text s) = refl
layer_back (Value-F.List vs) = ap (λ ws. roll-Value (Value-F.List ws)) (items_back vs)
layer_back (Value-F.Obj ms) = ap (λ ws. roll-Value (Value-F.Obj ws)) (members_back ms)

layer_law : (x : Value-F Value) → value_of (data_step (map-Value _ _ data_of x)) ≡ roll-Value x → ComesBack (roll-Value x)
layer_law x is = ap value_of (fold-roll-Value Data data_step x) ∙ is

pub value_back : (v : Value) → ComesBack v
value_back = ind-Value ComesBack (λ x y is.
    layer_law x (subst (λ (z : Value-F Value). value_of (data_step (map-Value _ _ data_of z)) ≡ roll-Value z) is (layer_back y)))

pairs_back : (ms : Pairs) → pairs_of (members_of (map named_data ms)) ≡ ms
pairs_back [] = refl
pairs_back (m ∷ ms) = ap₂ (λ (v : Value) (rest : Pairs). (m.0, v) ∷ rest) (value_back m.1) (pairs_back ms)

-- an object's data has its members
pub members_told : (v : Value) (ms : Pairs) → v ≡ Obj ms → ms ≡ pairs_in (data_of v)
members_told v ms is =
    sym (pairs_back ms)
    ∙ ap pairs_in (sym (fold-roll-Value Data data_step (Value-F.Obj ms)))
    ∙ ap (λ w. pairs_in (data_of w)) (rolls-Obj ms ∙ sym is)

outcome_back : (o : Outcome) → outcome_from (meaning_of o) ≡ o
outcome_back (outcome.Body answer errors) = ap₂ outcome.Body (value_back answer) (value_back errors)
outcome_back (outcome.Bad fault) = refl

-- the outcome that was read is the one that is meant
pub outcome_read : (o : Outcome) (m : Meaning) → meaning_of o ≡ m → o ≡ outcome_from m
outcome_read o m e = sym (outcome_back o) ∙ ap outcome_from e
