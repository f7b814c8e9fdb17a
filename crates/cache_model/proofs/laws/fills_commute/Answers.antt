use Rattle.cache_model.proofs.HistoryLaws.{fills_commute, fills_commute_flattened}
use Rattle.cache_model.proofs.laws.fills_commute.Goals as goal

pub returns-clause-history : goal.returns-clause-history
returns-clause-history c = fills_commute

pub returns-clause-map : goal.returns-clause-map
returns-clause-map c = fills_commute_flattened
