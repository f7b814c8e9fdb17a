use Rattle.std.proofs.Common.{◌≡◌, take}
use Rattle.result_writer.proofs.ways.places_behind.Given as goal

abbrev pub invariant-places : goal.invariant-places
invariant-places l = l.all.items ≡ take l.place-index l.places
