use Rattle.std.proofs.Common.{◌+◌, refl, arith}
use Rattle.queue_journal.proofs.Links.{sound_more, sound_same}
use Rattle.queue_journal.proofs.chain.take_up.Goals as goal

pub returns-in_ok-push-2-clause-sound : goal.returns-in_ok-push-2-clause-sound
returns-in_ok-push-2-clause-sound c =
    sound_more c.args.chain.now _ c.args.found.row (c.args.chain.now.commit + 1) c.requires.sound c.requires.number (omega arith) (omega arith) c.in_ok-push-2.ensures.items c.in_ok-push.ensures.items refl

pub returns-else-found-eq0-clause-sound : goal.returns-else-found-eq0-clause-sound
returns-else-found-eq0-clause-sound c =
    sound_same c.args.chain.now _ c.requires.sound (omega arith) (omega arith) refl refl
