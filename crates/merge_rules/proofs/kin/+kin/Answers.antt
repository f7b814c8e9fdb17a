use Rattle.std.proofs.Common.{◌≡◌, ℕ, ◌+◌, ◌*◌, ◌<◌, length, refl, ap, sym, subst, ◌∙◌, arith, true, false}
use Rattle.std.specs.Prelude.{Option, None, Some}
use Rattle.std.specs.Option.{option_map_or}
use Rattle.std.proofs.lemmas.Option.{slice_get_read}
use Rattle.merge_rules.specs.Kin.{kin}
use Rattle.merge_rules.specs.Rows.{IsWithin}
use Rattle.merge_rules.proofs.RowLaws.{within_more}
use Rattle.merge_rules.proofs.PathLaws.{kin_falls, kin_apart, kin_step, kin_top, kin_below}
use Rattle.merge_rules.proofs.kin.+kin.Goals as goal

pub kin-returns-in-Some-None : goal.kin-returns-in-Some-None
kin-returns-in-Some-None t c = λ fs stands.
    kin_below c.args.schema.now c.args.rows.now fs c.in-Some-None.field-0-0 stands
    (subst (λ (o : Option ℕ). IsWithin o (length c.args.rows.now)) c.in-Some-None.is-0 c.requires.first)
    ∙ ap (λ (o : Option ℕ). kin c.args.schema.now fs o None) (sym c.in-Some-None.is-0)
    ∙ ap (kin c.args.schema.now fs c.args.a) (sym c.in-Some-None.is-1)

pub kin-returns-in-None-Some : goal.kin-returns-in-None-Some
kin-returns-in-None-Some t c = λ fs stands.
    kin_top c.args.schema.now c.args.rows.now fs c.in-None-Some.field-0-1 stands
    (subst (λ (o : Option ℕ). IsWithin o (length c.args.rows.now)) c.in-None-Some.is-1 c.requires.second)
    ∙ ap (λ (o : Option ℕ). kin c.args.schema.now fs o (Some c.in-None-Some.field-0-1)) (sym c.in-None-Some.is-0)
    ∙ ap (kin c.args.schema.now fs c.args.a) (sym c.in-None-Some.is-1)

pub kin_at-returns-then-not-has_same_key : goal.kin_at-returns-then-not-has_same_key
kin_at-returns-then-not-has_same_key t c = λ fs stands.
    let differ : c.has_same_key.result ≡ false = grind arith in
    kin_apart c.args.schema.now c.args.rows.now fs c.args.a c.args.b c.index-rows-a.result c.index-rows-b.result stands
    (slice_get_read c.args.rows.now (length c.args.rows.now) c.args.a c.index-rows-a.result refl c.requires.first c.index-rows-a.is)
    (slice_get_read c.args.rows.now (length c.args.rows.now) c.args.b c.index-rows-b.result refl c.requires.second c.index-rows-b.is)
    (sym c.has_same_key.ensures ∙ differ)

pub kin_at-kin-above-requires : goal.kin_at-kin-above-requires
kin_at-kin-above-requires t c =
    let low : IsWithin c.index-rows-a.result.above c.args.a = c.requires.ordered c.args.a c.index-rows-a.result
    (slice_get_read c.args.rows.now (length c.args.rows.now) c.args.a c.index-rows-a.result refl c.requires.first c.index-rows-a.is) in
    let other : IsWithin c.index-rows-b.result.above c.args.b = c.requires.ordered c.args.b c.index-rows-b.result
    (slice_get_read c.args.rows.now (length c.args.rows.now) c.args.b c.index-rows-b.result refl c.requires.second c.index-rows-b.is) in
    let first : IsWithin c.index-rows-a.result.above (length c.args.rows.now) =
    within_more c.index-rows-a.result.above c.args.a (length c.args.rows.now) (omega (arith, c.requires.first)) low in
    let second : IsWithin c.index-rows-b.result.above (length c.args.rows.now) =
    within_more c.index-rows-b.result.above c.args.b (length c.args.rows.now) (omega (arith, c.requires.second)) other in
    let falls : 2 * option_map_or (λ (i : ℕ). i + 1) c.index-rows-a.result.above 0 < 2 * c.args.a + 1 = kin_falls c.index-rows-a.result.above c.args.a low in
    (omega (arith, falls), assumption (c.requires.ordered, first, second))

pub kin_at-returns : goal.kin_at-returns
kin_at-returns t c = λ fs stands.
    let x_is = slice_get_read c.args.rows.now (length c.args.rows.now) c.args.a c.index-rows-a.result refl c.requires.first c.index-rows-a.is in
    let y_is = slice_get_read c.args.rows.now (length c.args.rows.now) c.args.b c.index-rows-b.result refl c.requires.second c.index-rows-b.is in
    let low : IsWithin c.index-rows-a.result.above c.args.a = c.requires.ordered c.args.a c.index-rows-a.result x_is in
    let other : IsWithin c.index-rows-b.result.above c.args.b = c.requires.ordered c.args.b c.index-rows-b.result y_is in
    let alike : c.has_same_key.result ≡ true = grind arith in
    kin_step c.args.schema.now c.args.rows.now fs c.args.a c.args.b c.index-rows-a.result c.index-rows-b.result c.kin-above.result c.with_parents.result stands
    x_is y_is
    (within_more c.index-rows-a.result.above c.args.a (length c.args.rows.now) (omega (arith, c.requires.first)) low)
    (within_more c.index-rows-b.result.above c.args.b (length c.args.rows.now) (omega (arith, c.requires.second)) other)
    (sym c.has_same_key.ensures ∙ alike) (c.kin-above.ensures fs stands) c.with_parents.ensures
