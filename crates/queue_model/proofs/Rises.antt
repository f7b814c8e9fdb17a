-- Rows whose numbers rise.
use Rattle.std.proofs.Common.{◌≡◌, ◌≢◌, ℕ, zero, suc, ◌<◌, ◌≤◌, inl, inr, ⊎_elim, List, [], ◌∷◌, ◌++◌, length, get_or, refl, sym, ◌∙◌, ap, arith, Result, Ok, Err}
use Rattle.std.specs.Prelude.{MatchResult}
use Rattle.std.specs.List.{remove}
use Rattle.std.specs.List.Sorted.{IsSearchInRange, IsBinarySearchResult, IsNonDecreasingBy}
use Rattle.std.specs.Ordering.{nat_cmp, ordering_index}
use Rattle.std.proofs.lemmas.Bool.{cases_eq, cases_lt}
use Rattle.std.proofs.lemmas.List.{length-map, map-append, get_or_default}
use Rattle.std.proofs.lemmas.List.Elements.{Contains-push}
use Rattle.std.proofs.lemmas.Bool.Decides.{nat_tests}
use Rattle.std.proofs.lemmas.Cmp.{ranked}
use Rattle.queue_model.specs.declared.row.Row.{Row}
use Rattle.queue_model.specs.Queue.{RiseBetween, AreRising, IsHeld, numbers_of, without}

pub low_high : (low high : ℕ) (rows : List Row) → RiseBetween low high rows → low ≤ high
low_high low high [] rise = rise
low_high low high (row ∷ rows) rise = let rest = low_high row.seq high rows rise.1 in omega (arith, rise.0, rest)

pub rise_from_lower : (low low' high : ℕ) (rows : List Row) → low' ≤ low → RiseBetween low high rows → RiseBetween low' high rows
rise_from_lower low low' high [] le rise = omega (arith, le, rise)
rise_from_lower low low' high (row ∷ rows) le rise = (omega (arith, le, rise.0), rise.1)

pub rise_to_higher : (low high high' : ℕ) (rows : List Row) → high ≤ high' → RiseBetween low high rows → RiseBetween low high' rows
rise_to_higher low high high' [] le rise = omega (arith, le, rise)
rise_to_higher low high high' (row ∷ rows) le rise = (rise.0, rise_to_higher row.seq high high' rows le rise.1)

-- a row with a number above all others at the end
pub rise_push : (low high : ℕ) (rows : List Row) (row : Row) → RiseBetween low high rows → high < row.seq → RiseBetween low row.seq (rows ++ row ∷ [])
rise_push low high [] row rise above = (omega (arith, rise, above), omega arith)
rise_push low high (first ∷ rows) row rise above = (rise.0, rise_push first.seq high rows row rise.1 above)

pub without_here : (seq : ℕ) (row : Row) (rows : List Row) → row.seq ≡ seq → without seq (row ∷ rows) ≡ rows
without_here seq row rows same = grind (arith, nat_tests)

pub without_later : (seq : ℕ) (row : Row) (rows : List Row) → row.seq ≢ seq → without seq (row ∷ rows) ≡ row ∷ without seq rows
without_later seq row rows differs = grind (arith, nat_tests)

pub rise_without : (seq low high : ℕ) (rows : List Row) → RiseBetween low high rows → RiseBetween low high (without seq rows)
rise_without seq low high [] rise = rise
rise_without seq low high (row ∷ rows) rise = elim (cases_eq row.seq seq) [
  | inl same ↦ rw (without_here seq row rows same) (rise_from_lower row.seq low high rows (omega (arith, rise.0)) rise.1)
  | inr differs ↦ rw (without_later seq row rows differs) (rise.0, rise_without seq row.seq high rows rise.1)
]

-- a row's number, at any default
pub number_at : (rows : List Row) (i : ℕ) (d : Row) → i < length rows → (get_or rows i d).seq ≡ get_or (numbers_of rows) i 0
number_at [] i d within = absurd (omega arith)
number_at (row ∷ rows) zero d within = refl
number_at (row ∷ rows) (suc i) d within = number_at rows i d (omega arith)

pub above_low : (low high : ℕ) (rows : List Row) (i : ℕ) → RiseBetween low high rows → i < length rows → low < get_or (numbers_of rows) i 0
above_low low high [] i rise within = absurd (omega arith)
above_low low high (row ∷ rows) zero rise within = rise.0
above_low low high (row ∷ rows) (suc i) rise within = let later = above_low row.seq high rows i rise.1 (omega arith) in omega (arith, rise.0, later)

pub numbers_rise : (low high : ℕ) (rows : List Row) (i j : ℕ) → RiseBetween low high rows → i ≤ j → j < length rows → get_or (numbers_of rows) i 0 ≤ get_or (numbers_of rows) j 0
numbers_rise low high [] i j rise le within = absurd (omega arith)
numbers_rise low high (row ∷ rows) zero zero rise le within = omega arith
numbers_rise low high (row ∷ rows) zero (suc j) rise le within = let later = above_low row.seq high rows j rise.1 (omega arith) in omega (arith, later)
numbers_rise low high (row ∷ rows) (suc i) zero rise le within = absurd (omega arith)
numbers_rise low high (row ∷ rows) (suc i) (suc j) rise le within = numbers_rise row.seq high rows i j rise.1 (omega arith) (omega arith)

-- the row with a number is the one at its place
pub without_at : (low high seq : ℕ) (rows : List Row) (i : ℕ) → RiseBetween low high rows → i < length rows → get_or (numbers_of rows) i 0 ≡ seq → without seq rows ≡ remove rows i
without_at low high seq [] i rise within is = absurd (omega arith)
without_at low high seq (row ∷ rows) zero rise within is = without_here seq row rows is
without_at low high seq (row ∷ rows) (suc i) rise within is =
    let later = above_low row.seq high rows i rise.1 (omega arith) in
    without_later seq row rows (λ same. omega (arith, later, is, same)) ∙ ap (λ l. row ∷ l) (without_at row.seq high seq rows i rise.1 (omega arith) is)

comparison_rises : (a b seq : ℕ) → a ≤ b → ordering_index (nat_cmp a seq) ≤ ordering_index (nat_cmp b seq)
comparison_rises a b seq le = grind (arith, nat_tests)

some_row : Row
some_row = record { seq = 0; document = []; operation = []; variables = [] }

module _ (rows : List Row) (rising : AreRising rows) (seq : ℕ) where
  comparisons_rise : IsNonDecreasingBy (λ row. ordering_index (nat_cmp row.seq seq)) rows
  comparisons_rise i j d le within =
      let order = numbers_rise 0 rising.0 rows i j rising.1 le within in
      let here = number_at rows i d (omega arith) in
      let there = number_at rows j d within in
      comparison_rises (get_or rows i d).seq (get_or rows j d).seq seq (omega (arith, order, here, there))

  -- a binary search ends at the number, or there is none
  pub searched : (r : Result ℕ ℕ) → IsSearchInRange r (length rows) → IsBinarySearchResult (λ row. nat_cmp row.seq seq) rows r
      → MatchResult r (λ i. (i < length rows) × (get_or (numbers_of rows) i 0 ≡ seq)) (λ _. IsHeld seq rows → ⊥)
  searched (Ok i) within equal = (within, sym (number_at rows i some_row within) ∙ ranked _ seq _ (sym (equal some_row)))
  searched (Err i) within parted = λ held.
      let k : ℕ = held.0 in
      let inside : k < length rows = let e = length-map rows (λ (row : Row). row.seq) in omega (arith, held.1, e) in
      let number : get_or (numbers_of rows) k 0 ≡ seq = get_or_default (numbers_of rows) k 0 seq held.1 ∙ held.2 in
      let here : (get_or rows k some_row).seq ≡ seq = number_at rows k some_row inside ∙ number in
      let parts = parted comparisons_rise in
      ⊎_elim
      (λ below. let less : (get_or rows k some_row).seq < seq = ranked _ seq _ (sym (parts.0 k some_row (omega arith) below)) in omega (arith, less, here))
      (λ above. let more : seq < (get_or rows k some_row).seq = ranked _ seq _ (sym (parts.1 k some_row above inside)) in omega (arith, more, here))
      (cases_lt k i)

-- the row that was put last is held
pub held_push : (rows : List Row) (row : Row) → IsHeld row.seq (rows ++ row ∷ [])
held_push rows row = rw (map-append (λ (r : Row). r.seq) rows (row ∷ [])) (Contains-push (numbers_of rows) row.seq)
