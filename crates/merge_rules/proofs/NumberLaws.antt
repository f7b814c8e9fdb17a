-- The numbers of paths, row by row.
use Rattle.std.proofs.Common.{◌≡◌, ℕ, ◌+◌, ◌<◌, ◌≤◌, List, [], ◌∷◌, ◌++◌, length, get_or, refl, ap, sym, ◌∙◌, arith, length-append, Bool, true, false, ltb, cond}
use Rattle.std.specs.Prelude.{Option, None, Some, slice_get}
use Rattle.std.specs.declared.cmp.Ordering.{Ordering}
use Rattle.std.specs.declared.cmp.Ordering.TheVariants.{Less, Equal, Greater}
use Rattle.std.specs.Ordering.{nat_cmp, is_eq, ordering_then}
use Rattle.std.specs.Borrow.{Bor}
use Rattle.std.specs.BTreeMap.{get}
use Rattle.std.specs.FinMap as map
use Rattle.std.proofs.lemmas.Map.Text.{is_eq-slice_cmp}
use Rattle.text_types.specs.Texts.{text_cmp}
use Rattle.std.specs.Option.{option_and_then, option_map_or, unwrap_or}
use Rattle.std.proofs.lemmas.Option.{slice_get_within, slice_get-get_or}
use Rattle.std.proofs.lemmas.Slice.Eq.{bytes_eq-Decides}
use borrow.Author.Tests.{ltb-true, ltb-false}
use Rattle.schema_model.specs.declared.schema.Schema.{Schema}
use Rattle.check_model.specs.Fields.{Placed, PlacedFields}
use Rattle.check_model.specs.MergeRules.{same_path}
use Rattle.merge_rules.specs.declared.rows.Row.{Row}
use Rattle.merge_rules.specs.Rows.{above_path, field_of_row, IsWithin, Stands}
use Rattle.merge_rules.specs.Paths.{Step, step_cmp, Known, number_below, number_from, number_of, number_at, Extends, AreTold, AreNumbered}
use Rattle.merge_rules.proofs.RowLaws.{front_get, last_get}
use Rattle.merge_rules.proofs.PathLaws.{front_true, both_true}

-- ---- what was known stays so

none_from : (known : Known) (path : List (List ℕ)) → number_from known path None ≡ None
none_from known [] = refl
none_from known (key ∷ path) = none_from known path

stays_below : (before after : Known) → Extends before after → (key : List ℕ) (path : List (List ℕ)) (above n : ℕ) (o : Option ℕ) → number_below before above key ≡ o
    → number_from before path o ≡ Some n
    → ((m : Option ℕ) → number_from before path m ≡ Some n → number_from after path m ≡ Some n)
    → number_from after path (number_below after above key) ≡ Some n
stays_below before after extends key path above n None new is later =
    let both : None ≡ Some n = sym (none_from before path) ∙ is in
    absurd (cc)
stays_below before after extends key path above n (Some m) known is later =
    ap (number_from after path) (extends above m key known) ∙ later (Some m) is

stays_from : (before after : Known) → Extends before after → (path : List (List ℕ)) (above : Option ℕ) (n : ℕ)
    → number_from before path above ≡ Some n → number_from after path above ≡ Some n
stays_from before after extends [] above n is = is
stays_from before after extends (key ∷ path) None n is =
    let both : None ≡ Some n = sym (none_from before path) ∙ is in
    absurd (cc)
stays_from before after extends (key ∷ path) (Some m) n is =
    stays_below before after extends key path m n (number_below before m key) refl is (λ o. stays_from before after extends path o n)

number_longer : (known : Known) (path : List (List ℕ)) (key : List ℕ) (above : Option ℕ)
    → number_from known (path ++ key ∷ []) above ≡ option_and_then (λ n. number_below known n key) (number_from known path above)
number_longer known [] key above = refl
number_longer known (k ∷ path) key above = number_longer known path key (option_and_then (λ n. number_below known n k) above)

-- ---- a number more

pub equal_of : (m n : ℕ) → is_eq (nat_cmp m n) ≡ true → m ≡ n
equal_of m n e =
    elim (nat_cmp m n) as (λ o. nat_cmp m n ≡ o → is_eq o ≡ true → m ≡ n) [
      | Less ↦ λ p h. absurd (cc h)
      | Equal ↦ λ p h. map.nat_cmp-IsAntisymmetric m n p
      | Greater ↦ λ p h. absurd (cc h)
    ] refl e

both_tied : (o p : Ordering) → is_eq (ordering_then o p) ≡ true → (is_eq o ≡ true) × (is_eq p ≡ true)
both_tied o p e =
    elim o as (λ q. is_eq (ordering_then q p) ≡ true → (is_eq q ≡ true) × (is_eq p ≡ true)) [
      | Less ↦ λ h. absurd (cc h)
      | Equal ↦ λ h. (refl, h)
      | Greater ↦ λ h. absurd (cc h)
    ] e

one_case : (before : Known) (above other number n : ℕ) (key : Bor (List ℕ)) (text : List ℕ) (b : Bool) → number_below before above key.now ≡ None
    → is_eq (step_cmp (above, key) (other, record { ref_ptr = (0, 0); now = text })) ≡ b → number_below before other text ≡ Some n
    → cond b (Some number) (number_below before other text) ≡ Some n
one_case before above other number n key text true absent same is =
    let tied : (is_eq (nat_cmp above other) ≡ true) × (is_eq (text_cmp key.now text) ≡ true) = both_tied (nat_cmp above other) (text_cmp key.now text) same in
    let numbers : above ≡ other = equal_of above other tied.0 in
    let keys : key.now ≡ text = (bytes_eq-Decides key.now text).0 (sym (is_eq-slice_cmp key.now text) ∙ tied.1) in
    let both : None ≡ Some n = sym absent ∙ (λ i. number_below before (numbers i) (keys i)) ∙ is in
    absurd (cc)
one_case before above other number n key text false absent apart is = is

pub one_known : (before after : Known) (above number : ℕ) (key : Bor (List ℕ)) → number_below before above key.now ≡ None
    → ((q : Step) → get step_cmp after q ≡ cond (is_eq (step_cmp (above, key) q)) (Some number) (get step_cmp before q)) → Extends before after
one_known before after above number key absent updates = λ other n text is.
    updates (other, record { ref_ptr = (0, 0); now = text })
    ∙ one_case before above other number n key text (is_eq (step_cmp (above, key) (other, record { ref_ptr = (0, 0); now = text }))) absent refl is

-- ---- one row more

number_there : (numbers : List ℕ) (i : ℕ) → i < length numbers → slice_get numbers i ≡ Some (unwrap_or (slice_get numbers i) 0)
number_there numbers i within =
    let is : slice_get numbers i ≡ Some (get_or numbers i 0) = slice_get-get_or numbers i 0 within in
    is ∙ sym (ap (λ o. Some (unwrap_or o 0)) is)

pub field_there : (fields : PlacedFields) (i : ℕ) → i < length fields → (x : Placed) × (slice_get fields i ≡ Some x)
field_there [] i within = absurd (omega arith)
field_there (x ∷ fields) i within = (get_or (x ∷ fields) i x, slice_get-get_or (x ∷ fields) i x within)

above_told : (fields : PlacedFields) (known : Known) (numbers : List ℕ) (above : Option ℕ) → AreTold fields known numbers → length numbers ≤ length fields
    → IsWithin above (length numbers) → number_of known (above_path fields above) ≡ Some (number_at numbers above)
above_told fields known numbers None told shorter within = refl
above_told fields known numbers (Some i) told shorter within =
    let f : (x : Placed) × (slice_get fields i ≡ Some x) = field_there fields i (omega arith) in
    ap (λ o. number_of known (option_map_or (λ x. x.path) o [])) f.1
    ∙ told i (number_at numbers (Some i)) f.0 f.1 (number_there numbers i within)

told_case : (fields : PlacedFields) (before after : Known) (numbers : List ℕ) (number i n : ℕ) (x y : Placed) (b : Bool) → AreTold fields before numbers → Extends before after
    → slice_get fields (length numbers) ≡ Some y → number_of after y.path ≡ Some number
    → ltb i (length numbers) ≡ b → slice_get fields i ≡ Some x → slice_get (numbers ++ number ∷ []) i ≡ Some n → number_of after x.path ≡ Some n
told_case fields before after numbers number i n x y true told extends y_is told_now lt x_is n_is =
    let within : i < length numbers = ltb-true i (length numbers) lt in
    stays_from before after extends x.path (Some 0) n (told i n x x_is (sym (front_get numbers (number ∷ []) i within) ∙ n_is))
told_case fields before after numbers number i n x y false told extends y_is told_now lt x_is n_is =
    let above : length numbers ≤ i = ltb-false i (length numbers) lt in
    let below : i < length (numbers ++ number ∷ []) = slice_get_within (numbers ++ number ∷ []) i n n_is in
    let size : length (numbers ++ number ∷ []) ≡ length numbers + 1 = simp length-append in
    let last : i ≡ length numbers = omega arith in
    let number_is : Some number ≡ Some n = sym (last_get numbers number) ∙ ap (slice_get (numbers ++ number ∷ [])) (sym last) ∙ n_is in
    let field_is : Some y ≡ Some x = sym y_is ∙ ap (slice_get fields) (sym last) ∙ x_is in
    let same : y ≡ x = cc in
    ap (λ (f : Placed). number_of after f.path) (sym same) ∙ told_now ∙ number_is

pub next_told : (s : Schema) (rows : List Row) (fields : PlacedFields) (row : Row) (before after : Known) (numbers : List ℕ) (above number : ℕ) → Stands s rows fields
    → slice_get rows (length numbers) ≡ Some row → AreTold fields before numbers → Extends before after → above ≡ number_at numbers row.above
    → number_below after above row.key.now ≡ Some number → AreTold fields after (numbers ++ number ∷ [])
next_told s rows fields row before after numbers above number stands row_is told extends above_is number_is = λ i n x x_is n_is.
    let y_is : slice_get fields (length numbers) ≡ Some (field_of_row s fields row) = stands.field (length numbers) row row_is in
    let within : length numbers < length fields = slice_get_within fields (length numbers) (field_of_row s fields row) y_is in
    let over : number_of before (above_path fields row.above) ≡ Some above =
    above_told fields before numbers row.above told (omega arith) (stands.earlier (length numbers) row row_is) ∙ ap Some (sym above_is) in
    told_case fields before after numbers number i n x (field_of_row s fields row) (ltb i (length numbers)) told extends y_is
    (number_longer after (above_path fields row.above) row.key.now (Some 0)
    ∙ ap (option_and_then (λ m. number_below after m row.key.now)) (stays_from before after extends (above_path fields row.above) (Some 0) above over)
    ∙ number_is)
    refl x_is n_is

-- ---- all rows

pub path_is : (p q : List (List ℕ)) → same_path p q ≡ true → p ≡ q
path_is [] [] is = refl
path_is [] (l ∷ q) is = absurd (cc)
path_is (k ∷ p) [] is = absurd (cc)
path_is (k ∷ p) (l ∷ q) is = λ i. (bytes_eq-Decides k l).0 (front_true _ _ is) i ∷ path_is p q (both_true _ _ is) i

pub told_numbers : (fields : PlacedFields) (known : Known) (numbers : List ℕ) → AreTold fields known numbers → AreNumbered fields numbers
told_numbers fields known numbers told = λ i j m n x y x_is y_is m_is n_is shared.
    let both : Some m ≡ Some n = sym (told i m x x_is m_is) ∙ ap (number_of known) (path_is x.path y.path shared) ∙ told j n y y_is n_is in
    cc
