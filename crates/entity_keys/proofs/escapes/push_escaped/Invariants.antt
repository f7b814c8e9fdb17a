use denote.Shadow.{shadow}
use denote.Text.{Utf8}
use Rattle.std.proofs.Common.{◌≡◌, ◌++◌, length}
use Rattle.cache_model.specs.Keys.{escaped}
use Rattle.entity_keys.proofs.escapes.push_escaped.Given as goal

abbrev pub invariant-runs : goal.invariant-runs
invariant-runs l = shadow (Utf8 l.rest) × (l.key ++ escaped l.rest ≡ l.fn.key ++ escaped l.fn.text)

abbrev pub decreases-runs : goal.decreases-runs
decreases-runs l = length l.rest
