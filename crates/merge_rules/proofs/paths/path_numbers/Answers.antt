use Rattle.std.proofs.Common.{◌≡◌, ℕ, ◌+◌, List, [], ◌∷◌, ◌++◌, length, refl, ap, sym, subst, ◌∙◌, length-append}
use Rattle.std.specs.Prelude.{Some, slice_get}
use Rattle.std.proofs.lemmas.Option.{slice_get_read}
use Rattle.merge_rules.specs.Paths.{number_at, AreTold}
use Rattle.merge_rules.specs.Rows.{IsWithin}
use Rattle.merge_rules.proofs.NumberLaws.{next_told, told_numbers}
use Rattle.merge_rules.proofs.paths.path_numbers.Goals as goal

pub rows-preserved : goal.rows-preserved
rows-preserved c =
    let row_is : slice_get c.args.rows.now c.rows.row-index ≡ Some c.row-item.result =
    slice_get_read c.args.rows.now (length c.args.rows.now) c.rows.row-index c.row-item.result refl c.rows-test.true c.row-item.is in
    let size : length (c.rows.numbers.items ++ c.in_ok-number.number ∷ []) ≡ length c.rows.numbers.items + 1 = simp length-append in
    record {
      long = ap length c.in_ok-push.ensures.items ∙ size ∙ ap (λ n. n + 1) c.rows.invariant.long;
      told = λ s fields stands.
          subst (λ (ns : List ℕ). AreTold fields c.number_below.new.known ns) (sym c.in_ok-push.ensures.items)
          (next_told s c.args.rows.now fields c.row-item.result c.rows.known c.number_below.new.known c.rows.numbers.items c.number_at-above.result c.in_ok-number.number stands
          (ap (slice_get c.args.rows.now) c.rows.invariant.long ∙ row_is) (c.rows.invariant.told s fields stands) c.in_ok-number.ensures.extends
          (c.number_at-above.ensures ∙ ap (λ ns. number_at ns c.row-item.result.above) c.as_slice.ensures.value) c.in_ok-number.ensures.told);
    }

pub number_at-above-requires : goal.number_at-above-requires
number_at-above-requires c =
    subst (λ (n : ℕ). IsWithin c.row-item.result.above n) (sym (ap length c.as_slice.ensures.value ∙ c.rows.invariant.long))
    (c.requires c.rows.row-index c.row-item.result
    (slice_get_read c.args.rows.now (length c.args.rows.now) c.rows.row-index c.row-item.result refl c.rows-test.true c.row-item.is))

pub returns-clause-numbered : goal.returns-clause-numbered
returns-clause-numbered c = λ s fields stands. told_numbers fields c.rows.known c.rows.numbers.items (c.rows.invariant.told s fields stands)
