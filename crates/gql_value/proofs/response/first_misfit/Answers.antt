use Rattle.std.proofs.Common.{sym, ap, ◌∙◌, not, position}
use Rattle.serde_json.specs.View.{view}
use Rattle.gql_value.specs.Outcome.{is_error}
use Rattle.gql_value.proofs.Responses.{position-items_view}
use Rattle.gql_value.proofs.response.first_misfit.Goals as goal

pub returns : goal.returns
returns c = c.find_misfit.ensures ∙ ap (position (λ e. not (is_error (view e)))) c.as_slice.ensures.value ∙ sym (position-items_view (λ e. not (is_error e)) c.args.entries.now.items)
