use Rattle.std.proofs.Common.{◌∙◌, ap, sym, subst, take, IsUtf8}
use Rattle.gql_tokens.proofs.PlainLaws.{front_utf8}
use Rattle.gql_tokens.proofs.characters.plain_text.Goals as goal

pub unreachable-requires : goal.unreachable-requires
unreachable-requires c =
    let text = c.args.text.now in
    let front = c.split_at.ensures.front ∙ ap (λ n. take n text) c.plain_len.ensures.value in
    c.in-Err.ensures.cases.0 (subst IsUtf8 (sym front) (front_utf8 text))
