use Rattle.std.proofs.Common.{rules, [], ◌∷◌, false, refl}
use Rattle.std.specs.Fn.{FnReturnsAt}
use Rattle.stream_core.specs.Stages.{GivesWhere}
use Rattle.stream_core.proofs.TurnLaws.{item_turn}
use Rattle.stream_core.proofs.filter.FilterStage.push.Goals as goal

pub returns-in_ok-push-in-Some-Push-clause-turn : goal.returns-in_ok-push-in-Some-Push-clause-turn
returns-in_ok-push-in-Some-Push-clause-turn g c = item_turn {A = g.row.A.Denot} {B = g.row.A.Denot} (GivesWhere (FnReturnsAt g.F.Fn c.args.self.now.f)) c.args.self.now.phase c.args.signal c.in-Some-Push.item c.pass.new.self (search rules) (c.in-Some-Push.item ∷ []) false (c.f.result, record { shown = _; shows = refl; says = record { met = c.f.ensures } }, search rules, refl) (search rules) c.args.out.now.items c.push.new.self.items (search rules)

pub returns-else-f-clause-turn : goal.returns-else-f-clause-turn
returns-else-f-clause-turn g c = item_turn {A = g.row.A.Denot} {B = g.row.A.Denot} (GivesWhere (FnReturnsAt g.F.Fn c.args.self.now.f)) c.args.self.now.phase c.args.signal c.in-Some-Push.item c.pass.new.self (search rules) [] false (c.f.result, record { shown = _; shows = refl; says = record { met = c.f.ensures } }, search rules, refl) (search rules) c.args.out.now.items c.args.out.now.items (search rules)
