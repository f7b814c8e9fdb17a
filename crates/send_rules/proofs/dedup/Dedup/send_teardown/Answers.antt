use Rattle.std.proofs.Common.{[], ◌∷◌, rules, refl, sym, ap, ◌∙◌}
use Rattle.std.specs.Prelude.{if◌then◌else◌}
use Rattle.std.proofs.lemmas.List.{append-nil}
use Rattle.stream_core.specs.declared.flow.Flow.TheVariants.{Down}
use Rattle.send_rules.specs.declared.sending.Sending.TheVariants.{Teardown}
use Rattle.send_rules.proofs.dedup.Dedup.send_teardown.Goals as goal

pub returns-in_ok-push : goal.returns-in_ok-push
returns-in_ok-push g c = (Down (Teardown c.args.fetch) ∷ [], search rules, (Teardown c.args.fetch ∷ [], refl, (search rules, ap (λ b. if b then Teardown c.args.fetch ∷ [] else []) (sym c.if-end.true ∙ c.end.ensures.was))))

pub returns-else-end : goal.returns-else-end
returns-else-end g c = ([], sym (append-nil c.args.out.now.items), ([], refl, (search rules, ap (λ b. if b then Teardown c.args.fetch ∷ [] else []) (sym c.if-end.false ∙ c.end.ensures.was))))
