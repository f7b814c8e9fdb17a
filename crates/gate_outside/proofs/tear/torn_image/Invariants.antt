use Rattle.std.proofs.Common.{◌≡◌, map, reverse, take}
use Rattle.gate_outside.specs.Log.{event_of, file_after, image_after}
use Rattle.gate_outside.proofs.tear.torn_image.Given as goal

abbrev pub invariant-changes : goal.invariant-changes
invariant-changes l =
    let log = reverse (map (event_of l.bytes) (take l.change-index l.changes)) in
    (l.whole.items ≡ file_after l.first log) × (l.image.items ≡ image_after l.tear l.first log)
