-- What the parts of the calls stand for.
use Rattle.std.specs.Prelude.{◌≡◌, ℕ, List, map}
use Rattle.std.specs.Borrow.{Bor}
use Rattle.gql_value.specs.declared.value.Value.{Value}
use Rattle.execution_model.specs.Fronts.{fronts_of}
use Rattle.execution_model.specs.Values.{Pairs}
use Rattle.checked_operation.specs.Acceptance.{IsWhole}
use Rattle.field_asking.specs.declared.asking.Asking.{Asking}
use Rattle.field_asking.specs.Asking.{executed}
use Rattle.rule_effects.specs.Effects as effects
use Rattle.rule_effects.specs.Effects.{Running}
use Rattle.rule_writes.specs.declared.scope.Scope.{Scope}
use Rattle.rule_writes.specs.declared.updating.Updating.{Updating}

-- the numbering and the index are the document's, and `__typename` is put where it is when the operation is sent
pub record IsAsSent (asking : Asking) : Type 0 where
  pub whole : IsWhole asking.operation.now
  pub fronts : asking.fronts.now ≡ fronts_of asking.inputs.schema.now asking.operation.now.document

-- names with their values, as they are lent
abbrev pub Lent : Type 0
Lent = List (Bor (List ℕ) × Bor Value)

-- the names and values that are lent
abbrev pub pairs_of : Lent → Pairs
pairs_of lent = map (λ m. (m.0.now, m.1.now)) lent

-- what terms name
abbrev pub scope_of : Scope → effects.Scope
scope_of scope = record { arguments = scope.arguments.now; members = pairs_of scope.members.now }

-- where updaters run
abbrev pub running_of : Updating → Running
running_of updating = record { execution = executed updating.asking.now; scope = scope_of updating.scope }
