use Rattle.std.proofs.Common.{◌≡◌, drop}
use Rattle.std.specs.List.{enumerate_from}
use Rattle.answer_model.specs.Fits.{fitted, item_fit}
use Rattle.answer_model.specs.Paths.{each}
use Rattle.answer_parts.proofs.EachLaws.{after}
use Rattle.answer_parts.proofs.fits.+fits.Given as goal

-- the items that are left take it to where all of them take it
abbrev pub invariant-items_fit-items : goal.invariant-items_fit-items
invariant-items_fit-items l =
    each (item_fit (fitted l.schema l.wanted)) (enumerate_from 0 l.items)
    ≡ after l.values (each (item_fit (fitted l.schema l.wanted)) (enumerate_from l.at (drop l.at l.items)))
