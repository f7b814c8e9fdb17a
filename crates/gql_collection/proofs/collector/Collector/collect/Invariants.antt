use Rattle.std.proofs.Common.{◌≡◌, drop}
use Rattle.std.specs.List.{fold}
use Rattle.execution_model.specs.Collection as spec
use Rattle.gql_collection.specs.States.{collecting, context_of}
use Rattle.gql_collection.proofs.collector.Collector.collect.Given as goal

-- the sets that are left take it to where all of them take it
abbrev pub invariant-sets : goal.invariant-sets
invariant-sets l =
    fold (spec.with_joined (context_of l.self)) (collecting l.state) (drop l.set-index l.sets)
    ≡ fold (spec.with_joined (context_of l.self)) spec.nothing_collected l.sets
