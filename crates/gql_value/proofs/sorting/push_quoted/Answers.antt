use Rattle.std.proofs.Common.{IsUtf8, subst, sym, ◌∙◌, ◌++◌, ap}
use Rattle.gql_value.specs.Text.{quoted}
use Rattle.gql_value.proofs.sorting.push_quoted.Goals as goal

pub unreachable-requires : goal.unreachable-requires
unreachable-requires c =
    let written = c.into_vec.ensures ∙ c.in_ok-append_quoted.ensures.ok ∙ ap (λ front. front ++ quoted c.args.text.now) c.new-bytes.ensures in
    let ok = c.in-Err.ensures.succeeds (subst IsUtf8 (sym written) c.in_ok-append_quoted.ensures.utf8) in
    cc
