use Rattle.std.proofs.Common.{length, refl, sym, ◌∙◌}
use Rattle.std.specs.Prelude.{Some}
use Rattle.std.proofs.lemmas.Option.{slice_get_read}
use Rattle.merge_rules.proofs.ConflictLaws.{kin_tells}
use Rattle.merge_rules.proofs.conflicts.conflict.Goals as goal

pub returns-in-Some : goal.returns-in-Some
returns-in-Some c = λ fs x y stands x_is y_is.
    c.clash.ensures
    ∙ kin_tells c.args.scope.now.schema.now c.args.rows.now fs c.args.a c.args.b x y c.index-rows-a.result c.index-rows-b.result (Some c.in-Some.meet) stands
    (slice_get_read c.args.rows.now (length c.args.rows.now) c.args.a c.index-rows-a.result refl c.requires.first c.index-rows-a.is)
    (slice_get_read c.args.rows.now (length c.args.rows.now) c.args.b c.index-rows-b.result refl c.requires.second c.index-rows-b.is)
    x_is y_is (sym c.in-Some.is ∙ c.kin.ensures fs stands)
