use Rattle.std.proofs.Common.{◌≡◌, None, rules, sym, ap, subst, ◌∙◌, []}
use Rattle.std.proofs.lemmas.List.{append-nil}
use Rattle.std.specs.FinMap as finite
use Rattle.std.specs.Option.{option_copied}
use Rattle.stream_core.specs.Exchanges.{Onto}
use Rattle.offline_queue.specs.Offers.{fetch_of}
use Rattle.offline_queue.specs.Stage.{PutInto, Answers}
use Rattle.offline_queue.proofs.StageLaws.{absent_answers, answers_lawful}
use Rattle.offline_queue.proofs.stage.OfflineStageExchange.result.Goals as goal

pub returns-in_default-clause-made : goal.returns-in_default-clause-made
returns-in_default-clause-made g c =
    let none : finite.get c.args.self.now.down (fetch_of c.args.res) ≡ None = ap (finite.get c.args.self.now.down) (sym c.fetch-fetch.ensures) ∙ sym c.get.ensures ∙ ap option_copied c.in_default.is in
    ([], sym (append-nil c.args.out.now.items), absent_answers (PutInto g.K.Keeper.queue g.K.Keeper.intact g.K.Keeper.faults g.K.Keeper.tells g.K.Keeper.moment g.K.Keeper.left_since) c.args.self.now.keeper c.args.self.now.down g.row.C.Denot c.args.res none)

pub returns-clause-lawful : goal.returns-clause-lawful
returns-clause-lawful g c =
    let made : Onto (Answers {C = g.row.C.Denot} (PutInto g.K.Keeper.queue g.K.Keeper.intact g.K.Keeper.faults g.K.Keeper.tells g.K.Keeper.moment g.K.Keeper.left_since) c.args.self.now.keeper c.args.self.now.down c.args.res c.match-row.self.keeper c.take.new.self) c.args.out.now.items c.push.new.self.items = search rules in
    answers_lawful (PutInto g.K.Keeper.queue g.K.Keeper.intact g.K.Keeper.faults g.K.Keeper.tells g.K.Keeper.moment g.K.Keeper.left_since) c.args.self.now.keeper c.match-row.self.keeper c.args.self.now.down c.take.new.self c.args.res c.args.out.now.items c.push.new.self.items made
