-- What an error tells of a judgement.
use Rattle.std.specs.Prelude.{◌≡◌, Result, Err}
use Rattle.rules_model.specs.declared.refusal.Refusal.{Refusal}
use Rattle.updater_rules.specs.declared.error.RuleError.{RuleError}
use Rattle.updater_rules.specs.declared.error.RuleError.TheVariants as error

-- an error that tells the refusal, or that memory ran out
abbrev pub IsRuleError : {X : Type 0} → Result X Refusal → RuleError → Type 0
IsRuleError judged error.Memory = Unit {0}
IsRuleError judged (error.Refused code name) = judged ≡ Err (record { code = code; name = name })
