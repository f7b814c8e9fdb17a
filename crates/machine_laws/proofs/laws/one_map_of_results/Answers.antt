use Rattle.machine_laws.proofs.ResultLaws.{results_at_first, results_go_on, runs_have_results, one_map_of_results}
use Rattle.machine_laws.proofs.laws.one_map_of_results.Goals as goal

pub returns-clause-first : goal.returns-clause-first
returns-clause-first c start = results_at_first

pub returns-clause-command : goal.returns-clause-command
returns-clause-command c start = results_go_on

pub returns-clause-run : goal.returns-clause-run
returns-clause-run c start = runs_have_results

pub returns-clause-map : goal.returns-clause-map
returns-clause-map c start = one_map_of_results
