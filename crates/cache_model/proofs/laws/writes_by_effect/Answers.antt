use Rattle.cache_model.proofs.EffectLaws.{applied_by_effect, effect_where_covered}
use Rattle.cache_model.proofs.laws.writes_by_effect.Goals as goal

pub returns-clause-applied : goal.returns-clause-applied
returns-clause-applied c = applied_by_effect

pub returns-clause-covered : goal.returns-clause-covered
returns-clause-covered c = effect_where_covered
