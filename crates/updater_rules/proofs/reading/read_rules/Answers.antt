use Rattle.std.proofs.Common.{sym, ◌∙◌}
use Rattle.updater_rules.proofs.Documents.{rules_read, rules_refused}
use Rattle.updater_rules.proofs.reading.read_rules.Goals as goal

pub returns-in-Ok-clause-rules : goal.returns-in-Ok-clause-rules
returns-in-Ok-clause-rules c = rw (rules_read c.args.schema.now c.args.text.now _ c.in-Ok.ensures.ok.0 c.in-Ok.ensures.ok.1) c.rules_in.ensures.rules

pub returns-in-Ok-clause-refused : goal.returns-in-Ok-clause-refused
returns-in-Ok-clause-refused c = rw (rules_read c.args.schema.now c.args.text.now _ c.in-Ok.ensures.ok.0 c.in-Ok.ensures.ok.1) c.rules_in.ensures.refused

pub returns-else-is_memory-clause-refused : goal.returns-else-is_memory-clause-refused
returns-else-is_memory-clause-refused c = rw c.new.ensures (rules_refused c.args.schema.now c.args.text.now (c.in-Err.ensures.refused (λ memory. cc (sym c.if-is_memory.false ∙ c.is_memory.ensures.1 memory))))
