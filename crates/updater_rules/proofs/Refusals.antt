-- A refusal is the refusal of all that would follow.
use Rattle.std.proofs.Common.{Result, ap}
use Rattle.rules_model.specs.declared.refusal.Refusal.{Refusal}
use Rattle.rules_model.specs.Judgement.{then_with}
use Rattle.updater_rules.specs.Errors.{IsRuleError}
use Rattle.updater_rules.specs.declared.error.RuleError.{RuleError}
use Rattle.updater_rules.specs.declared.error.RuleError.TheVariants as error

pub refused_then : {X Y : Type 0} → (f : X → Result Y Refusal) (judged : Result X Refusal) (e : RuleError) → IsRuleError judged e → IsRuleError (then_with f judged) e
refused_then f judged error.Memory told = tt
refused_then f judged (error.Refused code name) told = ap (then_with f) told
