use Rattle.std.proofs.Common.{◌≡◌, get_or, arith}
use Rattle.std.specs.Prelude.{Some, slice_get}
use Rattle.std.proofs.lemmas.Option.{slice_get-get_or}
use Rattle.check_model.specs.Fields.{Placed}
use Rattle.merge_rules.proofs.NumberLaws.{field_there}
use Rattle.merge_rules.proofs.KeptLaws.{covered}
use Rattle.merge_rules.proofs.conflicts.is_covered.Goals as goal

pub returns-then-are_alike : goal.returns-then-are_alike
returns-then-are_alike c = λ s fields x stands x_is passed.
    let f : (y : Placed) × (slice_get fields (get_or c.args.others.now c.others.other-index 0) ≡ Some y) =
    field_there fields (get_or c.args.others.now c.others.other-index 0) (omega (arith, stands.long, c.if-other-rows.true)) in
    covered s fields c.args.others.now c.others.other-index (get_or c.args.others.now c.others.other-index 0) x f.0
    (slice_get-get_or c.args.others.now c.others.other-index 0 c.others-test.true) f.1
    (c.are_alike.ensures s fields f.0 x stands f.1 x_is c.if-are_alike.true)
