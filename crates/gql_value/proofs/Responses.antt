-- The entries of a JSON array, beside the items that it was read from, and the JSON that a body is.
use Rattle.std.proofs.Common.{◌≡◌, ℕ, ◌+◌, Bool, true, false, cond, not, ◌==◌, nat_lt, List, [], ◌∷◌, length, map, position, if◌then◌else◌, Option, Some, None, option_map, IsUtf8, refl, ap, ap₂, ◌∙◌, arith}
use Rattle.std.proofs.lemmas.Bool.Decides.{nat_tests}
use Rattle.std.proofs.lemmas.Option.{none-some}
use Rattle.std.proofs.lemmas.List.{length-map}
use Rattle.std.proofs.lemmas.List.Folds.{list_all-map}
use Rattle.std.proofs.lemmas.Str.{IsUtf8-from_is_utf8, is_utf8-from_IsUtf8}
use Rattle.std.specs.List.{list_all, prefix_len}
use Rattle.std.specs.Str.{is_utf8}
use Rattle.serde_json.specs.Data.{Data, array}
use Rattle.serde_json.specs.Read.{read}
use Rattle.serde_json.specs.View.{view, items_view}
use Rattle.serde_json.specs.declared.value.Value as json
use Rattle.gql_value.specs.Json.{dotted}
use Rattle.gql_value.specs.Outcome.{bad, list_of, tells_no_error, json_of, counted_response}
use Rattle.gql_value.specs.declared.outcome.Fault.TheVariants.{F3}

list_of-items_view : (items : List json.Value) → list_of (items_view items) ≡ map view items
list_of-items_view [] = refl
list_of-items_view (x ∷ items) = ap (λ ds. view x ∷ ds) (list_of-items_view items)

pub list_all-items_view : (p : Data → Bool) (items : List json.Value) → list_all p (list_of (items_view items)) ≡ list_all (λ x. p (view x)) items
list_all-items_view p items = ap (list_all p) (list_of-items_view items) ∙ list_all-map p view items

prefix_len-map : {X Y : Type 0} (p : Y → Bool) (h : X → Y) (xs : List X) → prefix_len p (map h xs) ≡ prefix_len (λ x. p (h x)) xs
prefix_len-map p h [] = refl
prefix_len-map p h (x ∷ xs) = ap (λ n. cond (p (h x)) (1 + n) 0) (prefix_len-map p h xs)

position-map : {X Y : Type 0} (p : Y → Bool) (h : X → Y) (xs : List X) → position p (map h xs) ≡ position (λ x. p (h x)) xs
position-map p h xs = ap₂ (λ n l. cond (nat_lt n l) (Some n) None) (prefix_len-map (λ y. not (p y)) h xs) (length-map xs h)

pub position-items_view : (p : Data → Bool) (items : List json.Value) → position p (list_of (items_view items)) ≡ position (λ x. p (view x)) items
position-items_view p items = ap (position p) (list_of-items_view items) ∙ position-map p view items

pub tells_no_error-items_view : (items : List json.Value) → tells_no_error (array (items_view items)) ≡ (length items == 0)
tells_no_error-items_view [] = refl
tells_no_error-items_view (x ∷ items) = grind (arith, nat_tests)

none_where : (utf8 : Bool) (json : Option Data) → (utf8 ≡ true → json ≡ None) → (if utf8 then json else None) ≡ None
none_where true json none = none refl
none_where false json none = refl

-- what the reader refuses is no JSON
pub json_of_refused : (text : List ℕ) → (IsUtf8 text → read text ≡ None) → json_of text ≡ None
json_of_refused text refused = none_where (is_utf8 text) (read text) (λ valid. refused (IsUtf8-from_is_utf8 text valid))

-- what the reader reads is the JSON
pub json_of_read : (text : List ℕ) (json : Data) → IsUtf8 text → read text ≡ Some json → json_of text ≡ Some json
json_of_read text json utf8 is = rw (is_utf8-from_IsUtf8 text utf8) is

-- the path that is told of the first number that isn't whole
pub told_not_whole : (response : Data) (first : Option (List (List ℕ))) (path : List ℕ) → option_map dotted first ≡ Some path → bad (F3 path) ≡ counted_response response first
told_not_whole response None path told = absurd (none-some path told)
told_not_whole response (Some steps) path told = cc
