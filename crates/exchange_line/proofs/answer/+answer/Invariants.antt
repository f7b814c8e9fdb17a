use Rattle.std.proofs.Common.{◌≡◌, ◌++◌, drop, option_map}
use Rattle.serde_json.specs.View.{view}
use Rattle.gate_machine.specs.Answers.{members_written, writings_of}
use Rattle.exchange_line.proofs.answer.+answer.Given as goal

abbrev pub invariant-write_members-loop-field : goal.invariant-write_members-loop-field
invariant-write_members-loop-field l =
    option_map (λ writes. l.fn.out ++ writes) (members_written l.entity (writings_of l.fields) (view l.answer))
    ≡ option_map (λ writes. l.out ++ writes) (members_written l.entity (writings_of (drop l.field-index l.fields)) (view l.answer))
