use Rattle.std.proofs.Common.{sym, subst}
use Rattle.cache_model.specs.History.{Layered, StandsForHistory}
use Rattle.layer_store.proofs.laws.stands_unchanged.Goals as goal

pub returns : goal.returns
returns c old new h same s = subst (λ (layered : Layered). StandsForHistory layered h) (sym same) s
