use Rattle.std.proofs.Common.{sym, ap, ◌∙◌}
use Rattle.std.specs.List.{list_all}
use Rattle.serde_json.specs.View.{view}
use Rattle.gql_value.specs.Outcome.{is_path_step}
use Rattle.gql_value.proofs.Responses.{list_all-items_view}
use Rattle.gql_value.proofs.response.are_path_steps.Goals as goal

pub returns : goal.returns
returns c = c.all_are_steps.ensures ∙ ap (list_all (λ s. is_path_step (view s))) c.as_slice.ensures.value ∙ sym (list_all-items_view is_path_step c.args.steps.now.items)
