use Rattle.std.proofs.Common.{◌≡◌, ◌≢◌, ◌<◌, ℕ, List, [], Some, length, get_or, sym, ◌∙◌, ap, subst, arith}
use Rattle.std.proofs.lemmas.List.{get_or_read}
use Rattle.queue_model.specs.Queue.{numbers_of, without}
use Rattle.offline_queue.specs.Keeper.{HasRowsBeforeOrAfter}
use Rattle.queue_journal.specs.Journal.{OpenJournal, IsSettled}
use Rattle.queue_journal.proofs.Dones.{done_crash, settled_done, last_crash, settled_last}
use Rattle.queue_journal.proofs.Kept.{Leaves, still_told, on_ok_three}
use Rattle.queue_journal.proofs.journal.JournalKeeper.done.Goals as goal

pub returns-in_err-write_synced-clause-crash : goal.returns-in_err-write_synced-clause-crash
returns-in_err-write_synced-clause-crash g c =
    let old : OpenJournal g.row.D.Denot = record { disk = c.self.inside.disk; queue = c.self.inside.queue; places = c.self.inside.places.items } in
    let settled : IsSettled g.D.Disk.reads g.D.Disk.kept g.D.Disk.may_leave old = subst (λ j. IsSettled g.D.Disk.reads g.D.Disk.kept g.D.Disk.may_leave j) (sym c.self.view_is) c.requires.intact in
    let within : c.remove-at.result < length old.queue.rows = c.remove-at.ensures.within in
    let number : get_or (numbers_of old.queue.rows) c.remove-at.result 0 ≡ c.args.seq = c.remove-at.ensures.number in
    let place : get_or old.places c.remove-at.result 0 ≡ c.remove-place.result =
    sym (get_or_read old.places c.remove-at.result c.remove-place.result (omega (arith, within, settled.counts)) c.remove-place.ensures.value 0) in
    let new : OpenJournal g.row.D.Denot = record { disk = c.write_synced.new.disk; queue = c.remove-at.new.self; places = c.remove-place.new.self.items } in
    subst (λ j. ((file : List ℕ) × (g.D.Disk.reads j.disk ≡ Some file)) → Leaves g.D.Disk.reads g.D.Disk.kept g.D.Disk.may_leave g.D.Disk.moment g.D.Disk.left_since g.met.D.Disk.only_now j new (HasRowsBeforeOrAfter j.queue.rows (without c.args.seq j.queue.rows))) c.self.view_is
    (λ tells. done_crash g.D.Disk.reads g.D.Disk.kept g.D.Disk.may_leave g.D.Disk.moment g.D.Disk.left_since g.met.D.Disk.only_now old settled c.args.seq c.remove-at.result c.remove-place.result within number place new tells c.write_synced.ensures.crash)

pub returns-clause-crash : goal.returns-clause-crash
returns-clause-crash g c =
    let old : OpenJournal g.row.D.Denot = record { disk = c.self.inside.disk; queue = c.self.inside.queue; places = c.self.inside.places.items } in
    let settled : IsSettled g.D.Disk.reads g.D.Disk.kept g.D.Disk.may_leave old = subst (λ j. IsSettled g.D.Disk.reads g.D.Disk.kept g.D.Disk.may_leave j) (sym c.self.view_is) c.requires.intact in
    let within : c.remove-at.result < length old.queue.rows = c.remove-at.ensures.within in
    let number : get_or (numbers_of old.queue.rows) c.remove-at.result 0 ≡ c.args.seq = c.remove-at.ensures.number in
    let place : get_or old.places c.remove-at.result 0 ≡ c.remove-place.result =
    sym (get_or_read old.places c.remove-at.result c.remove-place.result (omega (arith, within, settled.counts)) c.remove-place.ensures.value 0) in
    let new : OpenJournal g.row.D.Denot = record { disk = c.write_synced.new.disk; queue = c.remove-at.new.self; places = c.remove-place.new.self.items } in
    subst (λ j. ((file : List ℕ) × (g.D.Disk.reads j.disk ≡ Some file)) → Leaves g.D.Disk.reads g.D.Disk.kept g.D.Disk.may_leave g.D.Disk.moment g.D.Disk.left_since g.met.D.Disk.only_now j new (HasRowsBeforeOrAfter j.queue.rows (without c.args.seq j.queue.rows))) c.self.view_is
    (λ tells. done_crash g.D.Disk.reads g.D.Disk.kept g.D.Disk.may_leave g.D.Disk.moment g.D.Disk.left_since g.met.D.Disk.only_now old settled c.args.seq c.remove-at.result c.remove-place.result within number place new tells c.write_synced.ensures.crash)

pub returns-clause-intact : goal.returns-clause-intact
returns-clause-intact g c =
    let old : OpenJournal g.row.D.Denot = record { disk = c.self.inside.disk; queue = c.self.inside.queue; places = c.self.inside.places.items } in
    let settled : IsSettled g.D.Disk.reads g.D.Disk.kept g.D.Disk.may_leave old = subst (λ j. IsSettled g.D.Disk.reads g.D.Disk.kept g.D.Disk.may_leave j) (sym c.self.view_is) c.requires.intact in
    let within : c.remove-at.result < length old.queue.rows = c.remove-at.ensures.within in
    let number : get_or (numbers_of old.queue.rows) c.remove-at.result 0 ≡ c.args.seq = c.remove-at.ensures.number in
    let place : get_or old.places c.remove-at.result 0 ≡ c.remove-place.result =
    sym (get_or_read old.places c.remove-at.result c.remove-place.result (omega (arith, within, settled.counts)) c.remove-place.ensures.value 0) in
    let some : without c.args.seq old.queue.rows ≢ [] = λ none. let empty = c.is_empty.ensures.1 (ap (λ q. q.rows) c.remove-at.ensures.queue ∙ none) in cc (empty, c.if-is_empty.false) in
    settled_done g.D.Disk.reads g.D.Disk.kept g.D.Disk.may_leave g.D.Disk.moment g.D.Disk.left_since g.met.D.Disk.only_now old settled c.args.seq c.remove-at.result c.remove-place.result within number place _ some c.remove-at.ensures.queue c.remove-place.ensures.items
    c.in_ok-write_synced.ensures.written c.in_ok-write_synced.ensures.kept c.in_ok-write_synced.ensures.durable

pub returns-then-is_empty-clause-intact : goal.returns-then-is_empty-clause-intact
returns-then-is_empty-clause-intact g c =
    let old : OpenJournal g.row.D.Denot = record { disk = c.self.inside.disk; queue = c.self.inside.queue; places = c.self.inside.places.items } in
    let settled : IsSettled g.D.Disk.reads g.D.Disk.kept g.D.Disk.may_leave old = subst (λ j. IsSettled g.D.Disk.reads g.D.Disk.kept g.D.Disk.may_leave j) (sym c.self.view_is) c.requires.intact in
    let within : c.remove-at.result < length old.queue.rows = c.remove-at.ensures.within in
    let number : get_or (numbers_of old.queue.rows) c.remove-at.result 0 ≡ c.args.seq = c.remove-at.ensures.number in
    let place : get_or old.places c.remove-at.result 0 ≡ c.remove-place.result =
    sym (get_or_read old.places c.remove-at.result c.remove-place.result (omega (arith, within, settled.counts)) c.remove-place.ensures.value 0) in
    let mid : OpenJournal g.row.D.Denot = record { disk = c.write_synced.new.disk; queue = c.self.inside.queue; places = c.self.inside.places.items } in
    let none : without c.args.seq old.queue.rows ≡ [] = sym (ap (λ q. q.rows) c.remove-at.ensures.queue) ∙ c.is_empty.ensures.0 c.if-is_empty.true in
    on_ok_three c.close_and_cut.result _ _ _ _ c.close_and_cut.ensures.cut c.close_and_cut.ensures.kept c.close_and_cut.ensures.durable (λ cut size durable.
    settled_last g.D.Disk.reads g.D.Disk.kept g.D.Disk.may_leave g.D.Disk.moment g.D.Disk.left_since g.met.D.Disk.only_now old settled c.args.seq c.remove-at.result c.remove-place.result within number place mid _ none c.remove-at.ensures.queue c.remove-place.ensures.items c.in_ok-write_synced.ensures.written cut size durable)

pub returns-then-is_empty-clause-crash : goal.returns-then-is_empty-clause-crash
returns-then-is_empty-clause-crash g c =
    let old : OpenJournal g.row.D.Denot = record { disk = c.self.inside.disk; queue = c.self.inside.queue; places = c.self.inside.places.items } in
    let settled : IsSettled g.D.Disk.reads g.D.Disk.kept g.D.Disk.may_leave old = subst (λ j. IsSettled g.D.Disk.reads g.D.Disk.kept g.D.Disk.may_leave j) (sym c.self.view_is) c.requires.intact in
    let within : c.remove-at.result < length old.queue.rows = c.remove-at.ensures.within in
    let number : get_or (numbers_of old.queue.rows) c.remove-at.result 0 ≡ c.args.seq = c.remove-at.ensures.number in
    let place : get_or old.places c.remove-at.result 0 ≡ c.remove-place.result =
    sym (get_or_read old.places c.remove-at.result c.remove-place.result (omega (arith, within, settled.counts)) c.remove-place.ensures.value 0) in
    let mid : OpenJournal g.row.D.Denot = record { disk = c.write_synced.new.disk; queue = c.self.inside.queue; places = c.self.inside.places.items } in
    let none : without c.args.seq old.queue.rows ≡ [] = sym (ap (λ q. q.rows) c.remove-at.ensures.queue) ∙ c.is_empty.ensures.0 c.if-is_empty.true in
    let new : OpenJournal g.row.D.Denot = record { disk = c.close_and_cut.new.disk; queue = c.remove-at.new.self; places = c.remove-place.new.self.items } in
    subst (λ j. ((file : List ℕ) × (g.D.Disk.reads j.disk ≡ Some file)) → Leaves g.D.Disk.reads g.D.Disk.kept g.D.Disk.may_leave g.D.Disk.moment g.D.Disk.left_since g.met.D.Disk.only_now j new (HasRowsBeforeOrAfter j.queue.rows (without c.args.seq j.queue.rows))) c.self.view_is
    (λ tells. last_crash g.D.Disk.reads g.D.Disk.kept g.D.Disk.may_leave g.D.Disk.moment g.D.Disk.left_since g.met.D.Disk.only_now old settled c.args.seq c.remove-at.result c.remove-place.result within number place mid new none tells c.write_synced.ensures.crash c.in_ok-write_synced.ensures.written c.in_ok-write_synced.ensures.durable c.close_and_cut.ensures.crash)

pub returns-then-is_empty-clause-tells : goal.returns-then-is_empty-clause-tells
returns-then-is_empty-clause-tells g c tells =
    let first = still_told (g.D.Disk.reads c.self.inside.disk) (g.D.Disk.reads c.write_synced.new.disk) c.write_synced.ensures.told
    (subst (λ j. (file : List ℕ) × (g.D.Disk.reads j.disk ≡ Some file)) (sym c.self.view_is) tells) in
    still_told (g.D.Disk.reads c.write_synced.new.disk) (g.D.Disk.reads c.close_and_cut.new.disk) c.close_and_cut.ensures.told first
