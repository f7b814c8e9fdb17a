use Rattle.std.proofs.Common.{◌≡◌, take, map}
use Rattle.op_keys.specs.Sent.{sent_definition}
use Rattle.op_keys.proofs.sending.Sender.definitions.Given as goal

abbrev pub invariant-definitions : goal.invariant-definitions
invariant-definitions l = l.sent ≡ map (sent_definition l.self.schema.now l.self.subscribes) (take l.definition-index l.definitions)
