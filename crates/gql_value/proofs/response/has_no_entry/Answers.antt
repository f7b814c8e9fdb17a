use Rattle.std.proofs.Common.{length, sym, ap, ◌∙◌, ◌==◌}
use Rattle.gql_value.proofs.Responses.{tells_no_error-items_view}
use Rattle.gql_value.proofs.response.has_no_entry.Goals as goal

pub returns : goal.returns
returns c = c.is_empty.ensures ∙ ap (λ items. length items == 0) c.as_slice.ensures.value ∙ sym (tells_no_error-items_view c.args.entries.now.items)
