use Rattle.std.proofs.Common.{◌≡◌, take}
use Rattle.op_keys.specs.Sent.{with_front}
use Rattle.op_keys.proofs.SentFolds.{sent_in}
use Rattle.op_keys.proofs.sending.Sender.+send.Given as goal

abbrev pub invariant-selections-selections : goal.invariant-selections-selections
invariant-selections-selections l =
    l.sent ≡ with_front l.fn.fronted l.fn.place (sent_in l.self.schema.now l.self.subscribes l.parent (take l.selection-index l.selections))
