use Rattle.std.proofs.Common.{rules, [], ◌∷◌, refl, sym, inl, inr}
use Rattle.std.proofs.lemmas.List.{append-nil}
use Rattle.stream_core.specs.declared.flow.Flow.TheVariants.{Down}
use Rattle.send_rules.specs.declared.sending.Sending.TheVariants.{Query}
use Rattle.send_rules.proofs.dedup.Dedup.send_query.Goals as goal

pub returns-in-Some : goal.returns-in-Some
returns-in-Some g c = ([], sym (append-nil c.args.out.now.items), ([], refl, inl ((c.in-Some.field-0, c.in-Some.ensures.found), refl, refl)))

pub returns-in_ok-push-in-None : goal.returns-in_ok-push-in-None
returns-in_ok-push-in-None g c = (Down (Query c.args.key c.args.fetch) ∷ [], search rules, (Query c.args.key c.args.fetch ∷ [], refl, inr (c.in-None.ensures.unheld, search rules, refl)))
