use Rattle.std.proofs.Common.{◌≡◌, true, false, rules, refl, sym, ap, ◌∙◌, [], ◌∷◌}
use Rattle.std.specs.Prelude.{if◌then◌else◌, map, is_some}
use Rattle.std.proofs.lemmas.List.{append-nil}
use Rattle.stream_core.specs.declared.flow.Flow.TheVariants.{Down}
use Rattle.offline_queue.specs.declared.offer.Offer.TheVariants.{Mutation, Teardown}
use Rattle.offline_queue.proofs.StageLaws.{operates_lawful}
use Rattle.offline_queue.proofs.stage.OfflineStageExchange.operation.Goals as goal

pub returns-in_ok-push-in-Mutation-clause-lawful : goal.returns-in_ok-push-in-Mutation-clause-lawful
returns-in_ok-push-in-Mutation-clause-lawful g c =
    operates_lawful c.args.self.now.down c.put.new.self c.args.op (Mutation c.in-Mutation.fetch c.in-Mutation.row) c.in-Mutation.is c.args.out.now.items c.push.new.self.items
    (Down (Mutation c.in-Mutation.fetch c.in-Mutation.row) ∷ [], search rules, (search rules, refl))

pub returns-in_ok-push-in-Teardown-clause-lawful : goal.returns-in_ok-push-in-Teardown-clause-lawful
returns-in_ok-push-in-Teardown-clause-lawful g c =
    operates_lawful c.args.self.now.down c.take.new.self c.args.op (Teardown c.in-Teardown.fetch) c.in-Teardown.is c.args.out.now.items c.push-then-is_some.new.self.items
    (Down (Teardown c.in-Teardown.fetch) ∷ [], search rules, (c.take.ensures.gone, ap (λ b. map Down (if b then Teardown c.in-Teardown.fetch ∷ [] else [])) (sym c.if-is_some.true ∙ c.is_some.ensures ∙ ap is_some c.take.ensures.was)))

pub returns-else-is_some-clause-lawful : goal.returns-else-is_some-clause-lawful
returns-else-is_some-clause-lawful g c =
    operates_lawful c.args.self.now.down c.take.new.self c.args.op (Teardown c.in-Teardown.fetch) c.in-Teardown.is c.args.out.now.items c.args.out.now.items
    ([], sym (append-nil c.args.out.now.items), (c.take.ensures.gone, ap (λ b. map Down (if b then Teardown c.in-Teardown.fetch ∷ [] else [])) (sym c.if-is_some.false ∙ c.is_some.ensures ∙ ap is_some c.take.ensures.was)))
