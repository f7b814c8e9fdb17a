use Rattle.std.proofs.Common.{◌≡◌, ◌++◌, take}
use Rattle.op_keys.proofs.FrontFolds.{fronts_inside}
use Rattle.op_keys.proofs.listing.Lister.+list.Given as goal

abbrev pub invariant-selections-selections : goal.invariant-selections-selections
invariant-selections-selections l =
    l.fronts ≡ l.initial.fronts ++ fronts_inside l.self.schema.now l.self.subscribes l.parent (take l.selection-index l.selections)
