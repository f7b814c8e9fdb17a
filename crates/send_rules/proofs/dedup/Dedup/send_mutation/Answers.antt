use Rattle.std.proofs.Common.{rules, [], ◌∷◌, refl}
use Rattle.stream_core.specs.declared.flow.Flow.TheVariants.{Down}
use Rattle.send_rules.specs.declared.sending.Sending.TheVariants.{Mutation}
use Rattle.send_rules.proofs.dedup.Dedup.send_mutation.Goals as goal

pub returns : goal.returns
returns g c = (Down (Mutation c.args.fetch) ∷ [], search rules, (Mutation c.args.fetch ∷ [], refl, (search rules, refl)))
