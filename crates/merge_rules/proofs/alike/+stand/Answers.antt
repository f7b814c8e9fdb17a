use Rattle.std.proofs.Common.{◌≡◌, ℕ, ◌+◌, ◌*◌, ◌<◌, length, refl, sym, subst, arith, true}
use Rattle.std.specs.Prelude.{Option, Some}
use Rattle.std.specs.Option.{option_map_or}
use Rattle.std.proofs.lemmas.Option.{slice_get_read}
use Rattle.merge_rules.specs.Rows.{above_path, above_parents, IsWithin}
use Rattle.merge_rules.proofs.RowLaws.{within_more}
use Rattle.merge_rules.proofs.PathLaws.{kin_falls}
use Rattle.merge_rules.proofs.StandLaws.{rows_stand}
use Rattle.merge_rules.proofs.alike.+stand.Goals as goal

pub rows_stand_alike-stand_alike-requires : goal.rows_stand_alike-stand_alike-requires
rows_stand_alike-stand_alike-requires t c =
    let low : IsWithin c.index-rows-a.result.above c.args.a = c.requires.ordered c.args.a c.index-rows-a.result
    (slice_get_read c.args.rows.now (length c.args.rows.now) c.args.a c.index-rows-a.result refl c.requires.first c.index-rows-a.is) in
    let other : IsWithin c.index-rows-b.result.above c.args.b = c.requires.ordered c.args.b c.index-rows-b.result
    (slice_get_read c.args.rows.now (length c.args.rows.now) c.args.b c.index-rows-b.result refl c.requires.second c.index-rows-b.is) in
    let first : IsWithin c.index-rows-a.result.above (length c.args.rows.now) =
    within_more c.index-rows-a.result.above c.args.a (length c.args.rows.now) (omega (arith, c.requires.first)) low in
    let second : IsWithin c.index-rows-b.result.above (length c.args.rows.now) =
    within_more c.index-rows-b.result.above c.args.b (length c.args.rows.now) (omega (arith, c.requires.second)) other in
    let falls : 2 * option_map_or (λ (i : ℕ). i + 1) c.index-rows-a.result.above 0 < 2 * c.args.a + 1 = kin_falls c.index-rows-a.result.above c.args.a low in
    (omega (arith, falls), assumption (c.requires.ordered, first, second))

pub rows_stand_alike-returns : goal.rows_stand_alike-returns
rows_stand_alike-returns t c = λ s fields stands ok.
    let alike : c.have_one_key_and_type.result ≡ true = grind arith in
    rows_stand s c.args.rows.now fields c.args.a c.args.b c.index-rows-a.result c.index-rows-b.result stands
    (slice_get_read c.args.rows.now (length c.args.rows.now) c.args.a c.index-rows-a.result refl c.requires.first c.index-rows-a.is)
    (slice_get_read c.args.rows.now (length c.args.rows.now) c.args.b c.index-rows-b.result refl c.requires.second c.index-rows-b.is)
    (c.have_one_key_and_type.ensures.key alike) (c.have_one_key_and_type.ensures.parent alike) (c.stand_alike.ensures s fields stands ok)

pub stand_alike-returns-else-a-b : goal.stand_alike-returns-else-a-b
stand_alike-returns-else-a-b t c = λ s fields stands ok.
    subst (λ (o : Option ℕ). (above_path fields o ≡ above_path fields c.args.b) × (above_parents fields o ≡ above_parents fields c.args.b)) (sym c.in-Some-Some.is-0)
    (subst (λ (o : Option ℕ). (above_path fields (Some c.in-Some-Some.a) ≡ above_path fields o) × (above_parents fields (Some c.in-Some-Some.a) ≡ above_parents fields o))
    (sym c.in-Some-Some.is-1) (c.rows_stand_alike.ensures s fields stands ok))
