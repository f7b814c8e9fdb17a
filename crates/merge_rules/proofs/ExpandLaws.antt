-- What a set, a field and a spread add to the rows.
use Rattle.std.proofs.Common.{◌≡◌, ℕ, zero, suc, ◌+◌, ◌-◌, ◌<◌, ◌≤◌, List, [], ◌∷◌, ◌++◌, map, length, take, get_or, refl, ap, sym, subst, ◌∙◌, arith, append-nil}
use Rattle.std.specs.Prelude.{Option, None, Some}
use Rattle.std.specs.Option.{option_map, option_map_or}
use Rattle.std.specs.List.{flat_map}
use Rattle.std.proofs.lemmas.List.{take_all}
use Rattle.std.proofs.lemmas.Grind.{flat_map-append}
use Rattle.gql_model.specs.declared.executable.Fragment.{Fragment}
use Rattle.gql_model.specs.declared.document.Document.{Document}
use Rattle.gql_model.specs.declared.selection.Selection.{Selection}
use Rattle.gql_model.specs.declared.selection.SelectionSet.{SelectionSet}
use Rattle.gql_model.specs.declared.selection.InlineFragment.{InlineFragment}
use Rattle.gql_model.specs.declared.selection.Field.{Field, out-Field, map-Field}
use Rattle.gql_model.specs.declared.selection.Selection.TheOpen.{Field-F}
use Rattle.gql_model.specs.declared.selection.Selection.TheFolds.{fold_out-SelectionSet, fold_out-Field}
use Rattle.schema_model.specs.declared.schema.Schema.{Schema}
use Rattle.check_model.proofs.ListLaws.{next_taken}
use Rattle.check_model.specs.Executables.{fragment_named}
use Rattle.check_model.specs.Followed.{Follow, followed_within}
use Rattle.check_model.specs.FieldTypes.{Parent, selected_type, field_parent}
use Rattle.check_model.specs.Fields.{Placed, PlacedFields, PlacedIn, response_key, beneath, own_field, fields_below, selection_fields, field_fields, inline_fields, set_fields, fields_of_set}
use Rattle.merge_rules.specs.declared.rows.Row.{Row}
use Rattle.merge_rules.specs.Parts.{fields_of_selection, fields_of_field, fields_of_inline}
use Rattle.merge_rules.specs.Rows.{field_of_row, IsWithin, Stands, Grows, Put}
use Rattle.merge_rules.proofs.RowLaws.{map_joined, grows_more, grows_alone, grows_below}

-- ---- a set

set_parts : (s : Schema) (follow : Follow PlacedFields) (set : SelectionSet) (parent : Parent)
    → fields_of_set s follow set parent ≡ flat_map (λ (fs : PlacedIn). fs parent) (map (fields_of_selection s follow) set.selections)
set_parts s follow set parent =
    ap (λ (f : PlacedIn). f parent) (fold_out-SelectionSet _ _ _ _ (selection_fields follow) (field_fields s) (inline_fields s) set_fields set)

joined_next : (f : Selection → PlacedIn) (parent : Parent) (xs : List Selection) (i : ℕ) (x : Selection) → i < length xs → x ≡ get_or xs i x
    → flat_map (λ (fs : PlacedIn). fs parent) (map f (take i xs)) ++ f x parent ≡ flat_map (λ (fs : PlacedIn). fs parent) (map f (take (i + 1) xs))
joined_next f parent xs i x within is =
    let P : PlacedIn → PlacedFields = λ fs. fs parent in
    sym (ap (λ ys. flat_map P (map f ys)) (next_taken xs i x within is)
    ∙ ap (flat_map P) (map_joined f (take i xs) (x ∷ []))
    ∙ flat_map-append P (map f (take i xs)) (f x ∷ [])
    ∙ ap (λ zs. flat_map P (map f (take i xs)) ++ zs) (append-nil (f x parent)))

-- one selection more
pub grows_next : (s : Schema) (r0 r1 r2 : List Row) (above : Option ℕ) (f : Selection → PlacedIn) (parent : Parent) (xs : List Selection) (i : ℕ) (x : Selection)
    → i < length xs → x ≡ get_or xs i x → IsWithin above (length r0)
    → Grows s r0 r1 above (flat_map (λ (fs : PlacedIn). fs parent) (map f (take i xs))) → Grows s r1 r2 above (f x parent)
    → Grows s r0 r2 above (flat_map (λ (fs : PlacedIn). fs parent) (map f (take (i + 1) xs)))
grows_next s r0 r1 r2 above f parent xs i x within is inside first then =
    subst (λ (zs : PlacedFields). Grows s r0 r2 above zs) (joined_next f parent xs i x within is)
    (grows_more s r0 r1 r2 above (flat_map (λ (fs : PlacedIn). fs parent) (map f (take i xs))) (f x parent) inside first then)

-- all selections of a set
pub grows_set : (s : Schema) (r0 r1 : List Row) (above : Option ℕ) (follow : Follow PlacedFields) (set : SelectionSet) (parent : Parent) (xs : List Selection) (i : ℕ)
    → length xs ≤ i → xs ≡ set.selections
    → Grows s r0 r1 above (flat_map (λ (fs : PlacedIn). fs parent) (map (fields_of_selection s follow) (take i xs)))
    → Grows s r0 r1 above (fields_of_set s follow set parent)
grows_set s r0 r1 above follow set parent xs i past is grows =
    subst (λ (zs : PlacedFields). Grows s r0 r1 above zs)
    (ap (λ ys. flat_map (λ (fs : PlacedIn). fs parent) (map (fields_of_selection s follow) ys)) (take_all i xs past ∙ is) ∙ sym (set_parts s follow set parent)) grows

-- ---- a spread

step_case : {C : Type 0} (n : ℕ) (none : C) (meaning : Follow C → Fragment → C) (d : Document) (name : List ℕ) (f : Fragment)
    → fragment_named d name ≡ Some f → followed_within (suc n) none meaning d name ≡ meaning (followed_within n none meaning d) f
step_case n none meaning d name f is = ap (λ o. option_map_or (meaning (followed_within n none meaning d)) o none) is

pub follow_step : {C : Type 0} (fuel : ℕ) (none : C) (meaning : Follow C → Fragment → C) (d : Document) (name : List ℕ) (f : Fragment) → 0 < fuel
    → fragment_named d name ≡ Some f → meaning (followed_within (fuel - 1) none meaning d) f ≡ followed_within fuel none meaning d name
follow_step zero none meaning d name f some is = absurd (omega arith)
follow_step (suc n) none meaning d name f some is =
    let e : suc n - 1 ≡ n = omega arith in
    ap (λ k. meaning (followed_within k none meaning d) f) e ∙ sym (step_case n none meaning d name f is)

-- ---- a field

field_at : (s : Schema) (follow : Follow PlacedFields) (p : Field-F Selection Field InlineFragment SelectionSet) (o : Option SelectionSet) (parent : Parent)
    → field_fields s (map-Field _ _ _ _ _ _ _ _ (fields_of_selection s follow) (fields_of_field s follow) (fields_of_inline s follow) (fields_of_set s follow) (record p { selection_set = o })) parent
    ≡ own_field s (response_key p.alias p.name.text) p.name.text p.arguments parent
    ∷ map (beneath (response_key p.alias p.name.text) parent) (fields_below (option_map (fields_of_set s follow) o) (field_parent s parent p.name.text))
field_at s follow p None parent = refl
field_at s follow p (Some set) parent = refl

field_parts : (s : Schema) (follow : Follow PlacedFields) (f : Field) (parent : Parent)
    → fields_of_field s follow f parent
    ≡ own_field s (response_key (out-Field f).alias (out-Field f).name.text) (out-Field f).name.text (out-Field f).arguments parent
    ∷ map (beneath (response_key (out-Field f).alias (out-Field f).name.text) parent)
    (fields_below (option_map (fields_of_set s follow) (out-Field f).selection_set) (field_parent s parent (out-Field f).name.text))
field_parts s follow f parent =
    ap (λ (g : PlacedIn). g parent) (fold_out-Field _ _ _ _ (selection_fields follow) (field_fields s) (inline_fields s) set_fields f)
    ∙ field_at s follow (out-Field f) (out-Field f).selection_set parent

-- a row that was made of a field
pub record IsRowOf (row : Row) (f : Field) (parent : Parent) : Type 0 where
  pub key : row.key.now ≡ response_key (out-Field f).alias (out-Field f).name.text
  pub parent_is : row.parent ≡ parent
  pub name : row.name.now ≡ (out-Field f).name.text
  pub arguments : row.arguments.now ≡ (out-Field f).arguments

alone : Schema → Row → Placed
alone s row = field_of_row s [] (record row { above = None })

own_is : (s : Schema) (row : Row) (f : Field) (parent : Parent) → IsRowOf row f parent
    → alone s row ≡ own_field s (response_key (out-Field f).alias (out-Field f).name.text) (out-Field f).name.text (out-Field f).arguments parent
unfolding alone
own_is s row f parent made = λ i. record {
  path = made.key i ∷ [];
  parents = made.parent_is i ∷ [];
  name = made.name i;
  arguments = made.arguments i;
  type = selected_type s (made.parent_is i) (made.name i);
}

none_of : {X : Type 0} (o : Option X) → ((x : X) → o ≡ Some x → ⊥) → o ≡ None
none_of None not = refl
none_of (Some x) not = absurd (not x refl)

pub field_alone : (s : Schema) (follow : Follow PlacedFields) (r0 r1 : List Row) (row : Row) (f : Field) (parent : Parent) (place : ℕ) → IsRowOf row f parent
    → ((set : SelectionSet) → (out-Field f).selection_set ≡ Some set → ⊥)
    → ((fs : PlacedFields) → Stands s r0 fs → Put s r1 fs (field_of_row s fs row) place)
    → Grows s r0 r1 row.above (fields_of_field s follow f parent)
unfolding alone
field_alone s follow r0 r1 row f parent place made not put =
    subst (λ (zs : PlacedFields). Grows s r0 r1 row.above zs)
    (ap (λ x. x ∷ []) (own_is s row f parent made)
    ∙ sym (field_parts s follow f parent
    ∙ ap (λ (o : Option SelectionSet). own_field s (response_key (out-Field f).alias (out-Field f).name.text) (out-Field f).name.text (out-Field f).arguments parent
    ∷ map (beneath (response_key (out-Field f).alias (out-Field f).name.text) parent)
    (fields_below (option_map (fields_of_set s follow) o) (field_parent s parent (out-Field f).name.text))) (none_of (out-Field f).selection_set not)))
    (grows_alone s r0 r1 row place put)

pub field_with_set : (s : Schema) (follow : Follow PlacedFields) (r0 r1 r2 : List Row) (row : Row) (f : Field) (set : SelectionSet) (parent below : Parent) (place : ℕ)
    → IsRowOf row f parent → (out-Field f).selection_set ≡ Some set → below ≡ field_parent s parent (out-Field f).name.text
    → ((fs : PlacedFields) → Stands s r0 fs → Put s r1 fs (field_of_row s fs row) place)
    → Grows s r1 r2 (Some place) (fields_of_set s follow set below)
    → Grows s r0 r2 row.above (fields_of_field s follow f parent)
unfolding alone
field_with_set s follow r0 r1 r2 row f set parent below place made has type put then =
    subst (λ (zs : PlacedFields). Grows s r0 r2 row.above zs)
    ((λ i. own_is s row f parent made i ∷ map (beneath (made.key i) (made.parent_is i)) (fields_of_set s follow set (type i)))
    ∙ sym (field_parts s follow f parent
    ∙ ap (λ (o : Option SelectionSet). own_field s (response_key (out-Field f).alias (out-Field f).name.text) (out-Field f).name.text (out-Field f).arguments parent
    ∷ map (beneath (response_key (out-Field f).alias (out-Field f).name.text) parent)
    (fields_below (option_map (fields_of_set s follow) o) (field_parent s parent (out-Field f).name.text))) has))
    (grows_below s r0 r1 r2 row place (fields_of_set s follow set below) put then)
