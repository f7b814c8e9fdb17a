use Rattle.std.proofs.Common.{refl, ap, inl, inr, Err}
use Rattle.gateway.proofs.Ends.{no_schema, bad_schema, no_rules, serves, Ran-stopped, RanFront-stopped}
use Rattle.gateway.proofs.top.gate_main.Goals as goal

pub returns-in-Err-NoSchema-clause-front : goal.returns-in-Err-NoSchema-clause-front
returns-in-Err-NoSchema-clause-front g c =
    let said = c.in-Err-NoSchema.ensures.no_schema (ap Err c.in-Err-NoSchema.field-0-is) in
    inr (inr (no_schema _ _ _ _ _ _ c.in-Some.ensures.names said c.write_stopped.ensures.front, refl))

pub returns-in-Err-NoSchema-clause-stopped : goal.returns-in-Err-NoSchema-clause-stopped
returns-in-Err-NoSchema-clause-stopped g c e =
    let said = c.in-Err-NoSchema.ensures.no_schema (ap Err c.in-Err-NoSchema.field-0-is) in
    no_schema _ _ _ _ _ _ c.in-Some.ensures.names said (c.write_stopped.ensures.whole e)

pub returns-in-Err-NoRules-clause-front : goal.returns-in-Err-NoRules-clause-front
returns-in-Err-NoRules-clause-front g c =
    let said = c.in-Err-NoRules.ensures.no_rules (ap Err c.in-Err-NoRules.field-0-is) in
    inr (inr (no_rules _ _ _ _ _ _ c.in-Some.ensures.names said c.write_stopped-in-Err-NoRules.ensures.front, refl))

pub returns-in-Err-NoRules-clause-stopped : goal.returns-in-Err-NoRules-clause-stopped
returns-in-Err-NoRules-clause-stopped g c e =
    let said = c.in-Err-NoRules.ensures.no_rules (ap Err c.in-Err-NoRules.field-0-is) in
    no_rules _ _ _ _ _ _ c.in-Some.ensures.names said (c.write_stopped-in-Err-NoRules.ensures.whole e)

pub returns-in-Err-BadSchema-clause-front : goal.returns-in-Err-BadSchema-clause-front
returns-in-Err-BadSchema-clause-front g c =
    let said = c.in-Err-BadSchema.ensures.bad_schema _ _ (ap Err c.in-Err-BadSchema.field-0-is) in
    inr (inr (bad_schema _ _ _ _ _ _ c.in-Some.ensures.names _ said (rw (c.in-Err-BadSchema.code-is, c.in-Err-BadSchema.line-is) at c.stop_at_schema.ensures.front), refl))

pub returns-in-Err-BadSchema-clause-stopped : goal.returns-in-Err-BadSchema-clause-stopped
returns-in-Err-BadSchema-clause-stopped g c e =
    let said = c.in-Err-BadSchema.ensures.bad_schema _ _ (ap Err c.in-Err-BadSchema.field-0-is) in
    bad_schema _ _ _ _ _ _ c.in-Some.ensures.names _ said (rw (c.in-Err-BadSchema.code-is, c.in-Err-BadSchema.line-is) at (c.stop_at_schema.ensures.whole e))

pub returns-in-Err-BadSchema-clause-memory : goal.returns-in-Err-BadSchema-clause-memory
returns-in-Err-BadSchema-clause-memory g c e = inl (refl, c.stop_at_schema.ensures.memory e)

pub returns-in-Err-Limit-clause-front : goal.returns-in-Err-Limit-clause-front
returns-in-Err-Limit-clause-front g c =
    let said = c.in-Err-Limit.ensures.past_limit (ap Err c.in-Err-Limit.field-0-is) in
    inr (inl (serves _ _ c.in-Some.ensures.names c.in-Ok.ensures.service c.in-Ok.ensures.rules
    (rw (← c.in-Some.ensures.limit) (RanFront-stopped _ _ _ g.O.Sink.held _ _ _ _ _ _ said.1 said.0 c.write_stopped-in-Err-Limit.ensures.front))))

pub returns-in-Err-Limit-clause-past_limit : goal.returns-in-Err-Limit-clause-past_limit
returns-in-Err-Limit-clause-past_limit g c e =
    let said = c.in-Err-Limit.ensures.past_limit (ap Err c.in-Err-Limit.field-0-is) in
    serves _ _ c.in-Some.ensures.names c.in-Ok.ensures.service c.in-Ok.ensures.rules
    (rw (← c.in-Some.ensures.limit) (Ran-stopped _ _ _ g.O.Sink.held _ _ _ _ _ _ said.1 (c.write_stopped-in-Err-Limit.ensures.whole e)))
