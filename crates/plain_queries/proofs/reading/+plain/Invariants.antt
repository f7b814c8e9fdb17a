use Rattle.std.proofs.Common.{◌≡◌, map, drop}
use Rattle.plain_queries.specs.Plain as spec
use Rattle.plain_queries.proofs.reading.+plain.Given as goal

abbrev pub invariant-plain_set-selections : goal.invariant-plain_set-selections
invariant-plain_set-selections l =
    spec.plain_set l.set ≡ spec.with_fields l.fields (map spec.plain_of (drop l.selection-index l.selection-items))
