use Rattle.std.proofs.Common.{inl, [], ◌∷◌, ◌+◌, ◌∙◌, ap, subst}
use Rattle.queue_model.specs.Queue.{HasRoom}
use Rattle.queue_model.specs.QueueFile.{with_record}
use Rattle.queue_journal.specs.Journal.{held_record}
use Rattle.queue_journal.proofs.Kept.{stays}
use Rattle.queue_journal.proofs.Puts.{CanFollow, put_crash_at, settled_put_at}
use Rattle.queue_journal.proofs.journal.JournalKeeper.put.Goals as goal

pub returns-in_err-next-clause-crash : goal.returns-in_err-next-clause-crash
returns-in_err-next-clause-crash g c tells =
    stays g.D.Disk.reads g.D.Disk.kept g.D.Disk.may_leave g.D.Disk.moment g.D.Disk.left_since g.met.D.Disk.only_now c.args.self.now _ c.requires tells (λ c has. inl has)

pub returns-in_err-record-clause-crash : goal.returns-in_err-record-clause-crash
returns-in_err-record-clause-crash g c tells =
    stays g.D.Disk.reads g.D.Disk.kept g.D.Disk.may_leave g.D.Disk.moment g.D.Disk.left_since g.met.D.Disk.only_now c.args.self.now _ c.requires tells (λ c has. inl has)

pub returns-in_err-take_in-clause-crash : goal.returns-in_err-take_in-clause-crash
returns-in_err-take_in-clause-crash g c tells =
    rw c.in_err-take_in.ensures.err
    (stays g.D.Disk.reads g.D.Disk.kept g.D.Disk.may_leave g.D.Disk.moment g.D.Disk.left_since g.met.D.Disk.only_now c.args.self.now _ c.requires tells (λ c has. inl has))

pub returns-in_err-take_in-clause-tells : goal.returns-in_err-take_in-clause-tells
returns-in_err-take_in-clause-tells g c tells = (tells.0, c.take_in.ensures.told ∙ tells.1)

pub returns-in-Ok-clause-intact : goal.returns-in-Ok-clause-intact
returns-in-Ok-clause-intact g c =
    let next = c.in_ok-next.ensures in
    let spelled = c.deref.ensures.value ∙ c.in_ok-record.ensures.bytes
    ∙ ap (λ n. with_record (held_record n c.args.document.now c.args.operation.now c.args.variables.now) (0 ∷ [])) (next.number.0 ∙ ap (λ j. j.queue.greatest + 1) c.self.view_is) in
    let can = subst (λ j. CanFollow j.queue c.args.document.now c.args.operation.now c.args.variables.now) c.self.view_is
    (next.number.1, subst (λ need. HasRoom c.self.inside.queue need) next.room.0 next.room.1, c.in_ok-record.ensures.utf8.0, c.in_ok-record.ensures.utf8.1, c.in_ok-record.ensures.utf8.2) in
    settled_put_at g.D.Disk.reads g.D.Disk.kept g.D.Disk.may_leave g.D.Disk.moment g.D.Disk.left_since g.met.D.Disk.only_now c.args.self.now _ _ _ _ _ c.requires can spelled
    c.self-2.inside.disk c.end-end.result (ap (λ j. j.disk) c.self-2.view_is ∙ c.take_in.ensures.disk) (c.end-end.ensures ∙ ap (λ j. j.queue.end) c.self.view_is)
    (ap (λ j. j.queue) c.self-2.view_is ∙ c.in_ok-take_in.ensures.queue) (ap (λ j. j.places) c.self-2.view_is ∙ c.in_ok-take_in.ensures.places)
    c.in-Ok.ensures.written c.in-Ok.ensures.kept c.in-Ok.ensures.durable

pub returns-in-Ok-clause-crash : goal.returns-in-Ok-clause-crash
returns-in-Ok-clause-crash g c tells =
    let next = c.in_ok-next.ensures in
    let spelled = c.deref.ensures.value ∙ c.in_ok-record.ensures.bytes
    ∙ ap (λ n. with_record (held_record n c.args.document.now c.args.operation.now c.args.variables.now) (0 ∷ [])) (next.number.0 ∙ ap (λ j. j.queue.greatest + 1) c.self.view_is) in
    let can = subst (λ j. CanFollow j.queue c.args.document.now c.args.operation.now c.args.variables.now) c.self.view_is
    (next.number.1, subst (λ need. HasRoom c.self.inside.queue need) next.room.0 next.room.1, c.in_ok-record.ensures.utf8.0, c.in_ok-record.ensures.utf8.1, c.in_ok-record.ensures.utf8.2) in
    put_crash_at g.D.Disk.reads g.D.Disk.kept g.D.Disk.may_leave g.D.Disk.moment g.D.Disk.left_since g.met.D.Disk.only_now c.args.self.now _ _ _ _ _ c.requires can spelled
    c.self-2.inside.disk c.end-end.result (ap (λ j. j.disk) c.self-2.view_is ∙ c.take_in.ensures.disk) (c.end-end.ensures ∙ ap (λ j. j.queue.end) c.self.view_is)
    tells c.append_record.ensures.crash

pub returns-clause-crash : goal.returns-clause-crash
returns-clause-crash g c tells =
    let next = c.in_ok-next.ensures in
    let spelled = c.deref.ensures.value ∙ c.in_ok-record.ensures.bytes
    ∙ ap (λ n. with_record (held_record n c.args.document.now c.args.operation.now c.args.variables.now) (0 ∷ [])) (next.number.0 ∙ ap (λ j. j.queue.greatest + 1) c.self.view_is) in
    let can = subst (λ j. CanFollow j.queue c.args.document.now c.args.operation.now c.args.variables.now) c.self.view_is
    (next.number.1, subst (λ need. HasRoom c.self.inside.queue need) next.room.0 next.room.1, c.in_ok-record.ensures.utf8.0, c.in_ok-record.ensures.utf8.1, c.in_ok-record.ensures.utf8.2) in
    put_crash_at g.D.Disk.reads g.D.Disk.kept g.D.Disk.may_leave g.D.Disk.moment g.D.Disk.left_since g.met.D.Disk.only_now c.args.self.now _ _ _ _ _ c.requires can spelled
    c.self-2.inside.disk c.end-end.result (ap (λ j. j.disk) c.self-2.view_is ∙ c.take_in.ensures.disk) (c.end-end.ensures ∙ ap (λ j. j.queue.end) c.self.view_is)
    tells c.append_record.ensures.crash
