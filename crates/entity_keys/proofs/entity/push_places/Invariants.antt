use Rattle.std.proofs.Common.{◌≡◌, ◌++◌, take}
use Rattle.cache_model.specs.Keys.{places_text}
use Rattle.entity_keys.proofs.entity.push_places.Given as goal

abbrev pub invariant-loop-place : goal.invariant-loop-place
invariant-loop-place l = l.key ≡ l.fn.key ++ places_text (take l.place-index l.places)
