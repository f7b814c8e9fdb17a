use Rattle.std.proofs.Common.{List, map, ap, ◌∙◌}
use Rattle.gql_model.specs.declared.document.Definition.{Definition}
use Rattle.check_model.specs.Executables.{fragment_place}
use Rattle.check_model.specs.Spreads.{spread_names, definition_targets}
use Rattle.check_model.proofs.ListLaws.{map_congr, given_congr}
use Rattle.fragment_rules.specs.Indexes.{place_in, targets_in}
use Rattle.fragment_rules.proofs.spreads.spread_graph.Goals as goal

pub returns : goal.returns
returns c = λ h.
    c.in_ok-graph.ensures
    ∙ ap (λ (ds : List Definition). map (λ d. targets_in c.args.index.now (spread_names d)) ds) c.as_slice.ensures
    ∙ map_congr _ (definition_targets c.args.document.now) c.args.document.now.definitions
    (λ d. given_congr (place_in c.args.index.now) (fragment_place c.args.document.now) (spread_names d) h)
