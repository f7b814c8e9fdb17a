use Rattle.std.proofs.Common.{List, ap, ◌∙◌}
use Rattle.std.specs.Prelude.{is_none}
use Rattle.std.specs.List.{list_any}
use Rattle.gql_model.specs.declared.document.Definition.{Definition}
use Rattle.check_model.specs.Spreads.{spread_names}
use Rattle.check_model.specs.DocumentRules.{is_unknown_fragment, spreads_unknown}
use Rattle.check_model.proofs.ListLaws.{any_congr}
use Rattle.fragment_rules.specs.Indexes.{lacks}
use Rattle.fragment_rules.proofs.IndexLaws.{unplaced}
use Rattle.fragment_rules.proofs.spreads.breaks_spread_target_defined.Goals as goal

pub returns : goal.returns
returns c = λ h.
    c.some_definition_spreads_unknown.ensures
    ∙ ap (λ (ds : List Definition). list_any (λ d. list_any (lacks c.args.index.now) (spread_names d)) ds) c.as_slice.ensures
    ∙ any_congr _ (spreads_unknown c.args.document.now) c.args.document.now.definitions
    (λ d. any_congr (lacks c.args.index.now) (is_unknown_fragment c.args.document.now) (spread_names d)
    (λ name. ap is_none (h name) ∙ unplaced name 0 c.args.document.now.definitions))
