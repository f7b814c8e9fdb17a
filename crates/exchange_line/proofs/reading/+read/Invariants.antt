use Rattle.std.proofs.Common.{◌≡◌, ◌++◌, take, drop}
use Rattle.std.specs.Prelude.{option_map}
use Rattle.text_types.specs.Names.{names_of}
use Rattle.gate_machine.specs.Cells.{flattened}
use Rattle.gate_machine.specs.Readings.{members_read, readings_of}
use Rattle.exchange_line.proofs.reading.+read.Given as goal

abbrev pub invariant-read_members-loop-field : goal.invariant-read_members-loop-field
invariant-read_members-loop-field l = record {
  names : names_of l.members ≡ names_of (take l.field-index l.field-items);
  rest : members_read (flattened l.history) l.entity (readings_of l.fields)
      ≡ option_map (λ more. l.members ++ more) (members_read (flattened l.history) l.entity (readings_of (drop l.field-index l.field-items)));
}
