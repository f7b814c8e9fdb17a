use Rattle.std.proofs.Common.{ap, ◌∙◌, List, Bool}
use Rattle.std.specs.List.{items_where_true}
use Rattle.digraph.specs.Walks.{reached_from}
use Rattle.gql_model.specs.declared.document.Definition.{Definition}
use Rattle.check_model.specs.Spreads.{spread_graph}
use Rattle.variable_rules.proofs.UseLaws.{followed}
use Rattle.variable_rules.proofs.faults.follow.Goals as goal

pub returns : goal.returns
returns c =
    followed c.args.scope.now.schema.now c.args.scope.now.document.now c.args.definition.now c.args.place
    (items_where_true c.as_slice-reached.result.now c.as_slice-definitions.result.now) c.args.uses.now _ _
    c.requires.schema
    (ap (λ (ms : List Bool). items_where_true ms c.as_slice-definitions.result.now)
    (c.as_slice-reached.ensures ∙ c.in_ok-marks.ensures ∙ ap (λ g. reached_from g c.args.place) c.requires.graph)
    ∙ ap (λ (ds : List Definition). items_where_true (reached_from (spread_graph c.args.scope.now.document.now) c.args.place) ds) c.as_slice-definitions.ensures)
    c.in_ok-visit_definition.ensures
    c.in_ok-visit_marked.ensures
