use Rattle.std.proofs.Common.{◌≡◌, ◌++◌, take, map}
use Rattle.gql_value.specs.Text.{joined}
use Rattle.output_lines.specs.Parts.{link_text}
use Rattle.output_lines.proofs.cells.+links.Given as goal

abbrev pub invariant-write_links-loop-at : goal.invariant-write_links-loop-at
invariant-write_links-loop-at l = l.into ≡ l.initial.into ++ joined (take l.at (map link_text l.link-items))
