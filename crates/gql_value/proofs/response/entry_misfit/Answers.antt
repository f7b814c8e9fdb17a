use Rattle.std.proofs.Common.{ap, option_map, decimal, codes, ◌++◌}
use Rattle.gql_value.proofs.response.entry_misfit.Goals as goal

pub returns-in-None : goal.returns-in-None
returns-in-None c = ap (option_map (λ at. codes "errors." ++ decimal at)) c.in-None.ensures

pub returns-in_ok-entry_path-in-Some : goal.returns-in_ok-entry_path-in-Some
returns-in_ok-entry_path-in-Some c = rw c.in_ok-entry_path-in-Some.ensures (ap (option_map (λ at. codes "errors." ++ decimal at)) c.in-Some.ensures)
