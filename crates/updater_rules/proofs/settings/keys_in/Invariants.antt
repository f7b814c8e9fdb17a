use Rattle.std.proofs.Common.{◌≡◌, List, [], ◌++◌}
use Rattle.text_types.specs.Names.{names_of}
use Rattle.toml.specs.View.{members_view}
use Rattle.toml.proofs.Views.{Entry}
use Rattle.rules_model.specs.Judgement.{keys_onto}
use Rattle.rules_model.specs.Toml.{pairs_in}
use Rattle.updater_rules.proofs.KeyOrder.{entry_names}
use Rattle.updater_rules.proofs.settings.keys_in.Given as goal

abbrev pub invariant-loop-name : goal.invariant-loop-name
invariant-loop-name l = record {
  done : List Entry;
  split : l.table.entries ≡ done ++ l.name-iterator;
  named : names_of l.keys ≡ entry_names done;
  left : keys_onto l.schema l.keys (pairs_in (members_view l.name-iterator)) ≡ keys_onto l.schema [] (pairs_in (members_view l.table.entries));
}
