use Rattle.std.proofs.Common.{rules, false, refl, subst, Ok}
use Rattle.stream_core.specs.Stages.{GivesEach}
use Rattle.stream_core.proofs.TurnLaws.{item_turn}
use Rattle.stream_core.proofs.merge_map.MergeMapStage.push.Goals as goal

pub returns-in_ok-push_each-in-Some-Push-clause-turn : goal.returns-in_ok-push_each-in-Some-Push-clause-turn
returns-in_ok-push_each-in-Some-Push-clause-turn g c = item_turn {A = g.row.A.Denot} {B = g.row.B.Denot} (GivesEach (λ x v. goal.F-post g c.args.self.now.f x (Ok v)) (λ v. v.items)) c.args.self.now.phase c.args.signal c.in-Some-Push.item c.pass.new.self (search rules) c.in_ok-f-in-Some-Push.field-0.items false (c.in_ok-f-in-Some-Push.field-0, subst (goal.F-post g c.args.self.now.f c.in-Some-Push.item) c.in_ok-f-in-Some-Push.was c.f.ensures, refl, refl) (search rules) c.args.out.now.items c.push_each.new.out.items (search rules)
