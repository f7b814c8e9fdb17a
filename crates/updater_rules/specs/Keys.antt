-- The keys that the tables of a rules file may have, by the sort of the table.
use Rattle.std.specs.Prelude.{ℕ, Bool, List}
use Rattle.rules_model.specs.Forms.{is_action_key, is_optimistic_key}
use Rattle.rules_model.specs.Judgement.{is_table_key}
use Rattle.updater_rules.specs.declared.known_keys.TableSort.{TableSort}
use Rattle.updater_rules.specs.declared.known_keys.TableSort.TheVariants as sort

-- whether a table of this sort may have this key
abbrev pub knows : TableSort → List ℕ → Bool
knows sort.File key = is_table_key key
knows (sort.Updater kind) key = is_action_key kind key
knows sort.Optimistic key = is_optimistic_key key
