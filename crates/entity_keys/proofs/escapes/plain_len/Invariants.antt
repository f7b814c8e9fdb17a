use Rattle.std.proofs.Common.{◌≡◌, take}
use Rattle.std.specs.Prelude.{flat_map}
use Rattle.cache_model.specs.Keys.{escaped_byte}
use Rattle.entity_keys.proofs.escapes.plain_len.Given as goal

abbrev pub invariant-loop-at : goal.invariant-loop-at
invariant-loop-at l = flat_map escaped_byte (take l.at l.bytes) ≡ take l.at l.bytes
