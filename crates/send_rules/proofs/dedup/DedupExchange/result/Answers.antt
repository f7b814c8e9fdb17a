use Rattle.std.proofs.Common.{rules, [], ◌∷◌, sym, ap, ◌∙◌}
use Rattle.std.specs.Prelude.{if◌then◌else◌, map}
use Rattle.std.proofs.lemmas.List.{append-nil}
use Rattle.stream_core.specs.declared.flow.Flow.TheVariants.{Up}
use Rattle.send_rules.proofs.Lawful.{returned_lawful}
use Rattle.send_rules.proofs.dedup.DedupExchange.result.Goals as goal

pub returns-in_ok-push-clause-made : goal.returns-in_ok-push-clause-made
returns-in_ok-push-clause-made g c = (Up c.args.res ∷ [], search rules, (c.end.ensures.gone, ap (λ b. map Up (if b then c.args.res ∷ [] else [])) (sym c.if-end.true ∙ c.end.ensures.was)))

pub returns-in_ok-push-clause-lawful : goal.returns-in_ok-push-clause-lawful
returns-in_ok-push-clause-lawful g c = returned_lawful c.args.self.now c.end.new.self c.args.res c.args.out.now.items c.push.new.self.items (returns-in_ok-push-clause-made g c)

pub returns-else-end-clause-made : goal.returns-else-end-clause-made
returns-else-end-clause-made g c = ([], sym (append-nil c.args.out.now.items), (c.end.ensures.gone, ap (λ b. map Up (if b then c.args.res ∷ [] else [])) (sym c.if-end.false ∙ c.end.ensures.was)))

pub returns-else-end-clause-lawful : goal.returns-else-end-clause-lawful
returns-else-end-clause-lawful g c = returned_lawful c.args.self.now c.end.new.self c.args.res c.args.out.now.items c.args.out.now.items (returns-else-end-clause-made g c)
