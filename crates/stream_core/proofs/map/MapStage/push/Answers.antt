use Rattle.std.proofs.Common.{rules, [], ◌∷◌, false, refl}
use Rattle.stream_core.specs.Stages.{GivesAnswer}
use Rattle.stream_core.proofs.TurnLaws.{item_turn}
use Rattle.stream_core.proofs.map.MapStage.push.Goals as goal

pub returns-in_ok-push-in-Some-Push-clause-turn : goal.returns-in_ok-push-in-Some-Push-clause-turn
returns-in_ok-push-in-Some-Push-clause-turn g c = item_turn {A = g.row.A.Denot} {B = g.row.B.Denot} (GivesAnswer (goal.F-post g c.args.self.now.f)) c.args.self.now.phase c.args.signal c.in-Some-Push.item c.pass.new.self (search rules) (c.f.result ∷ []) false (c.f.result, search rules, refl, refl) (search rules) c.args.out.now.items c.push.new.self.items (search rules)
