use Rattle.std.proofs.Common.{◌≡◌, [], sym, ◌∙◌, ap, arith, refl, true, false}
use Rattle.std.proofs.lemmas.Result.{err_from_is_err_and}
use Rattle.queue_journal.specs.declared.error.OpenError.TheVariants.{NotAJournal}
use Rattle.queue_journal.proofs.Openings.{is_foreign, settled_read, close_crash, settled_close}
use Rattle.queue_journal.proofs.opening.take_over.Goals as goal
use Rattle.queue_journal.proofs.opening.take_over.Goals.{else-holds_none-via-then-holds_none+else-chain-ge-EMPTY_END, else-holds_none-via-else-holds_none}

pub returns-in_err-chain-clause-foreign : goal.returns-in_err-chain-clause-foreign
returns-in_err-chain-clause-foreign g c file told is =
    let p = err_from_is_err_and c.from_residual.result c.from_residual.ensures.1 in
    let both = sym p.1 ∙ is in
    let same : p.0 ≡ NotAJournal = cc in
    let long = c.requires.told file told in
    (omega (arith, long.0, c.requires.long), is_foreign file c.in_err-chain.field-0.0 (c.in_err-chain.ensures.reads file told long.0) (sym p.2 ∙ same))

pub returns-in_err-close_and_cut-clause-crash : goal.returns-in_err-close_and_cut-clause-crash
returns-in_err-close_and_cut-clause-crash g c file told =
    let chain = c.in_ok-chain.ensures in
    let none : c.in_ok-chain.chain.rows.items ≡ [] = c.if-holds_none.ensures.0 refl in
    close_crash g.D.Disk.reads g.D.Disk.kept g.D.Disk.may_leave g.D.Disk.moment g.D.Disk.left_since g.met.D.Disk.only_now c.args.disk.now c.read_chain.new.disk c.args.size c.in_ok-chain.chain
    chain.sound.0 chain.sound.1 c.requires.kept c.requires.told (λ file told. chain.reads file told (c.requires.told file told).0) c.read_chain.ensures.quiet
    none (omega arith) _ file told c.close_and_cut.ensures.crash

pub returns-then-chain-ge-EMPTY_END-clause-intact : goal.returns-then-chain-ge-EMPTY_END-clause-intact
returns-then-chain-ge-EMPTY_END-clause-intact g c =
    let chain = c.in_ok-chain.ensures in
    let none : c.in_ok-chain.chain.rows.items ≡ [] = c.if-holds_none.ensures.0 refl in
    let cut = c.in_ok-close_and_cut.ensures in
    settled_close g.D.Disk.reads g.D.Disk.kept g.D.Disk.may_leave g.D.Disk.moment g.D.Disk.left_since g.met.D.Disk.only_now c.args.disk.now c.read_chain.new.disk c.args.size c.in_ok-chain.chain
    chain.sound.0 chain.sound.1 c.requires.kept c.requires.told (λ file told. chain.reads file told (c.requires.told file told).0) c.read_chain.ensures.quiet
    none (omega arith) _ cut.cut cut.kept cut.durable
    (ap (λ q. q.rows) c.found_of.ensures.queue) (ap (λ q. q.end) c.found_of.ensures.queue) (let e = ap (λ q. q.limit) c.found_of.ensures.queue in omega (arith, e, c.requires.high)) (ap (λ v. v.items) c.found_of.ensures.places)

pub returns-then-chain-ge-EMPTY_END-clause-crash : goal.returns-then-chain-ge-EMPTY_END-clause-crash
returns-then-chain-ge-EMPTY_END-clause-crash g c file told =
    let chain = c.in_ok-chain.ensures in
    let none : c.in_ok-chain.chain.rows.items ≡ [] = c.if-holds_none.ensures.0 refl in
    close_crash g.D.Disk.reads g.D.Disk.kept g.D.Disk.may_leave g.D.Disk.moment g.D.Disk.left_since g.met.D.Disk.only_now c.args.disk.now c.read_chain.new.disk c.args.size c.in_ok-chain.chain
    chain.sound.0 chain.sound.1 c.requires.kept c.requires.told (λ file told. chain.reads file told (c.requires.told file told).0) c.read_chain.ensures.quiet
    none (omega arith) _ file told c.close_and_cut.ensures.crash

pub returns-clause-intact : goal.returns-clause-intact
returns-clause-intact g c =
    let chain = c.in_ok-chain.ensures in
    settled_read g.D.Disk.reads g.D.Disk.kept g.D.Disk.may_leave g.D.Disk.moment g.D.Disk.left_since g.met.D.Disk.only_now c.args.disk.now c.read_chain.new.disk c.args.size c.in_ok-chain.chain
    chain.sound.0 chain.sound.1 c.requires.kept c.requires.told (λ file told. chain.reads file told (c.requires.told file told).0) c.read_chain.ensures.quiet
    _ refl (ap (λ q. q.rows) c.found_of-2.ensures.queue) (ap (λ q. q.end) c.found_of-2.ensures.queue) (let e = ap (λ q. q.limit) c.found_of-2.ensures.queue in omega (arith, e, c.requires.high))
    (ap (λ q. q.greatest) c.found_of-2.ensures.queue) (ap (λ v. v.items) c.found_of-2.ensures.places)
    (λ none. elim c.else-holds_none.branch [
      | else-holds_none-via-then-holds_none+else-chain-ge-EMPTY_END w ↦ omega arith
      | else-holds_none-via-else-holds_none w ↦ let yes = c.holds_none.ensures.1 none in let no = w.if-holds_none.false in absurd (let e : false ≡ true = sym no ∙ yes in cc)
    ])
