use Rattle.std.proofs.Common.{◌≡◌, map, drop}
use Rattle.std.specs.Prelude.{Some}
use Rattle.std.specs.List.{fold}
use Rattle.std.specs.Option.{option_and_then}
use Rattle.check_model.specs.Sizes.{beside, one_deeper, size_of_set, size_of_selection}
use Rattle.fragment_rules.specs.Tables.{size_in}
use Rattle.fragment_rules.proofs.sizes.+sizes.Given as goal

abbrev pub invariant-set_size-selections : goal.invariant-set_size-selections
invariant-set_size-selections l =
    size_of_set (size_in l.index l.sizes) l.set
    ≡ option_and_then one_deeper (fold beside (Some l.total) (map (size_of_selection (size_in l.index l.sizes)) (drop l.selection-index l.selection-items)))
