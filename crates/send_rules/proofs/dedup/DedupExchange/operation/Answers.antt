use Rattle.std.proofs.lemmas.Result.{on_ok_weaker}
use Rattle.send_rules.specs.declared.sending.Sending.TheVariants.{Query, Mutation, Teardown}
use Rattle.send_rules.proofs.Lawful.{sent_lawful_at}
use Rattle.send_rules.proofs.dedup.DedupExchange.operation.Goals as goal

pub returns-in-Query-clause-lawful : goal.returns-in-Query-clause-lawful
returns-in-Query-clause-lawful g c = on_ok_weaker c.send_query.result (λ s. sent_lawful_at c.args.self.now c.send_query.new.self c.args.op (Query c.in-Query.key c.in-Query.fetch) c.in-Query.is c.args.out.now.items c.send_query.new.out.items s) c.send_query.ensures

pub returns-in-Mutation-clause-lawful : goal.returns-in-Mutation-clause-lawful
returns-in-Mutation-clause-lawful g c = on_ok_weaker c.send_mutation.result (λ s. sent_lawful_at c.args.self.now c.send_mutation.new.self c.args.op (Mutation c.in-Mutation.fetch) c.in-Mutation.is c.args.out.now.items c.send_mutation.new.out.items s) c.send_mutation.ensures

pub returns-in-Teardown-clause-lawful : goal.returns-in-Teardown-clause-lawful
returns-in-Teardown-clause-lawful g c = on_ok_weaker c.send_teardown.result (λ s. sent_lawful_at c.args.self.now c.send_teardown.new.self c.args.op (Teardown c.in-Teardown.fetch) c.in-Teardown.is c.args.out.now.items c.send_teardown.new.out.items s) c.send_teardown.ensures
