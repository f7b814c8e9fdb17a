use Rattle.std.proofs.Common.{◌≡◌, length, refl, arith, true}
use Rattle.std.proofs.lemmas.Option.{slice_get_read}
use Rattle.merge_rules.proofs.StandLaws.{rows_alike}
use Rattle.merge_rules.proofs.alike.are_alike.Goals as goal

pub returns : goal.returns
returns c = λ s fields x y stands x_is y_is ok.
    let alike : c.ask_alike.result ≡ true = grind arith in
    rows_alike s c.args.rows.now fields c.args.a c.args.b c.index-rows-a.result c.index-rows-b.result x y stands
    (slice_get_read c.args.rows.now (length c.args.rows.now) c.args.a c.index-rows-a.result refl c.requires.first c.index-rows-a.is)
    (slice_get_read c.args.rows.now (length c.args.rows.now) c.args.b c.index-rows-b.result refl c.requires.second c.index-rows-b.is)
    x_is y_is (c.ask_alike.ensures.name alike) (c.ask_alike.ensures.there alike) (c.ask_alike.ensures.back alike) (c.stand_alike.ensures s fields stands ok)
