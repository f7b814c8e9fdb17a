use Rattle.std.proofs.Common.{◌∷◌, List, ap, sym, ◌∙◌}
use Rattle.gql_tokens.specs.Tokens.{Token}
use Rattle.gql_tokens.specs.Heads.{token_of}
use Rattle.gql_tokens.proofs.PlaceLaws.{IsBehind-then, IsBehind-shorter}
use Rattle.gql_tokens.proofs.HeadLaws.{head_some}
use Rattle.gql_tokens.proofs.TokenLaws.{first_token, behind_goes_on}
use Rattle.gql_tokens.proofs.heads.next_head.Goals as goal

pub returns-clause-tokens : goal.returns-clause-tokens
returns-clause-tokens c =
    let head = c.args.head.now in
    let later = rw (c.after-behind.ensures.value, c.split_at.ensures.back) at c.head_from.ensures.tokens in
    first_token head.kind head.len head.place head.rest.now c.requires.head.begins c.requires.head.is
    ∙ ap (λ (more : List Token). token_of head ∷ more) (behind_goes_on head.kind head.len head.place head.rest.now c.requires.goes_on ∙ sym later)

pub returns-clause-behind : goal.returns-clause-behind
returns-clause-behind c =
    let head = c.args.head.now in
    IsBehind-then head.place head.rest.now head.len c.head_from.result.place c.head_from.result.rest.now c.requires.head.within
    (rw (c.after-behind.ensures.value, c.split_at.ensures.back) at c.head_from.ensures.behind)

pub returns-clause-some : goal.returns-clause-some
returns-clause-some c =
    let head = c.args.head.now in
    head_some head.rest.now head.kind head.len c.requires.head.is c.requires.goes_on

pub returns-clause-shorter : goal.returns-clause-shorter
returns-clause-shorter c = IsBehind-shorter _ _ _ _ _ _ c.split_at.ensures.back_len c.head_from.ensures.behind
