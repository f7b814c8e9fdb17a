-- What is known once a variable's use is noted, and once all those of a site are.
use Rattle.std.specs.Prelude.{◌≡◌, ℕ, Bool, false, ◌||◌, not, List, Option, is_none}
use Rattle.std.specs.List.{fold}
use Rattle.std.specs.Option.{option_map_or}
use Rattle.std.specs.FinSet as set
use Rattle.gql_model.specs.declared.executable.Operation.{Operation}
use Rattle.gql_model.specs.declared.executable.VariableDefinition.{VariableDefinition}
use Rattle.schema_model.specs.declared.schema.Schema.{Schema}
use Rattle.check_model.specs.Sites.{Site}
use Rattle.check_model.specs.Usages.{At, Usage, site_usages}
use Rattle.check_model.specs.VariableRules.{variable_named, may_stand_for}
use Rattle.variable_rules.specs.declared.uses.Uses.{Uses}

-- the use of the variable of a name, at a place where this is wanted
abbrev pub usage : List ℕ → At → Usage
usage name at = record { name = name; at = at }

-- a variable may not stand at a place
abbrev pub is_disallowed_for : Option VariableDefinition → At → Bool
is_disallowed_for variable at = option_map_or (λ v. option_map_or (λ w. not (may_stand_for v w)) at false) variable false

-- one use more
abbrev pub noted : Uses → Usage → Uses
noted uses u = record uses {
  used = set.insert uses.used u.name;
  undeclared = uses.undeclared || is_none (variable_named uses.declared.operation.now u.name);
  disallowed = uses.disallowed || is_disallowed_for (variable_named uses.declared.operation.now u.name) u.at;
}

-- the uses of a site more
abbrev pub note_site : Uses → Site → Uses
note_site uses site = fold noted uses (site_usages uses.schema.now site)

-- nothing is noted yet
pub record IsStart (schema : Schema) (operation : Operation) (uses : Uses) : Type 0 where
  pub schema_is : uses.schema.now ≡ schema
  pub operation_is : uses.declared.operation.now ≡ operation
  pub none_used : uses.used ≡ set.empty
  pub none_undeclared : uses.undeclared ≡ false
  pub none_disallowed : uses.disallowed ≡ false
