-- What the parts of a collector stand for.
use Rattle.std.specs.Prelude.{ℕ, List, Option}
use Rattle.std.specs.Borrow.{Bor}
use Rattle.std.specs.Option.{option_map}
use Rattle.gql_numbering.specs.Numbers.{Numbers}
use Rattle.fragment_rules.specs.Indexes.{Indexes}
use Rattle.execution_model.specs.Collection.{Context, Collecting, Spreading}
use Rattle.gql_collection.specs.declared.state.State.{State}
use Rattle.gql_collection.specs.declared.collector.Collector.{Collector}

-- a collection so far
abbrev pub collecting : State → Collecting
collecting state = record { groups = state.groups.groups; spread = state.spread }

-- what fields are collected for
abbrev pub context_of : Collector → Context
context_of c = record {
  schema = c.schema.now;
  document = c.document.now;
  variables = c.variables.now;
  object = c.object;
  fronts = c.fronts.now;
}

-- a fragment that was found
abbrev pub option_fragment : Option (Bor (List ℕ) × ℕ) → Option Spreading
option_fragment found = option_map (λ f. (f.0.now, f.1)) found

-- the numbering and the index are those of the document
pub record IsPrepared (c : Collector) : Type 0 where
  pub numbered : Numbers c.numbering.now c.document.now
  pub indexed : Indexes c.fragments.now c.document.now.definitions
