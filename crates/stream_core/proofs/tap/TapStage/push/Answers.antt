use Rattle.std.proofs.Common.{rules, [], ◌∷◌, false, refl}
use Rattle.std.specs.Fn.{FnReturnsAt}
use Rattle.stream_core.specs.Stages.{GivesSeen}
use Rattle.stream_core.proofs.TurnLaws.{item_turn}
use Rattle.stream_core.proofs.tap.TapStage.push.Goals as goal

pub returns-in_ok-push-in-Some-Push-clause-turn : goal.returns-in_ok-push-in-Some-Push-clause-turn
returns-in_ok-push-in-Some-Push-clause-turn g c = item_turn {A = g.row.A.Denot} {B = g.row.A.Denot} (GivesSeen (FnReturnsAt g.F.Fn c.args.self.now.f)) c.args.self.now.phase c.args.signal c.in-Some-Push.item c.pass.new.self (search rules) (c.in-Some-Push.item ∷ []) false (record { shown = _; shows = refl; says = record { met = c.f.ensures } }, refl, refl) (search rules) c.args.out.now.items c.push.new.self.items (search rules)
