use Rattle.std.proofs.Common.{rules, [], ◌∷◌, refl}
use Rattle.std.specs.Fn.{FnReturnsAt}
use Rattle.stream_core.specs.declared.phase.Phase.TheVariants.{Over}
use Rattle.stream_core.specs.Stages.{GivesUntil}
use Rattle.stream_core.proofs.TurnLaws.{item_turn}
use Rattle.stream_core.proofs.take_until.TakeUntilStage.push.Goals as goal

pub returns-in_ok-push-in-Some-Push-clause-turn : goal.returns-in_ok-push-in-Some-Push-clause-turn
returns-in_ok-push-in-Some-Push-clause-turn g c = item_turn {A = g.row.A.Denot} {B = g.row.A.Denot} (GivesUntil (FnReturnsAt g.P.Fn c.args.self.now.p)) c.args.self.now.phase c.args.signal c.in-Some-Push.item Over (search rules) [] c.p.result (record { shown = _; shows = refl; says = record { met = c.p.ensures } }, search rules) (search rules) c.args.out.now.items c.push.new.self.items (search rules)

pub returns-in_ok-push-in-Some-Push-2-clause-turn : goal.returns-in_ok-push-in-Some-Push-2-clause-turn
returns-in_ok-push-in-Some-Push-2-clause-turn g c = item_turn {A = g.row.A.Denot} {B = g.row.A.Denot} (GivesUntil (FnReturnsAt g.P.Fn c.args.self.now.p)) c.args.self.now.phase c.args.signal c.in-Some-Push.item c.pass.new.self (search rules) (c.in-Some-Push.item ∷ []) c.p.result (record { shown = _; shows = refl; says = record { met = c.p.ensures } }, search rules) (search rules) c.args.out.now.items c.push-else-p.new.self.items (search rules)
