use Rattle.output_lines.proofs.fault.write_fault.Goals as goal

pub returns-in-F5-clause-ok : goal.returns-in-F5-clause-ok
returns-in-F5-clause-ok c = rw c.in-F5.is c.write_status.ensures.ok
