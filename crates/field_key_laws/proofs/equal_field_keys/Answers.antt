use Rattle.field_key_laws.proofs.FieldLaws.{keys_same, keys_by_values, keys_of_values}
use Rattle.field_key_laws.proofs.equal_field_keys.Goals as goal

pub returns-clause-parts : goal.returns-clause-parts
returns-clause-parts c = keys_same

pub returns-clause-values : goal.returns-clause-values
returns-clause-values c = keys_by_values

pub returns-clause-back : goal.returns-clause-back
returns-clause-back c = keys_of_values
