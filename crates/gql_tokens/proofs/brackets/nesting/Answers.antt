use Rattle.std.proofs.Common.{sym, arith}
use Rattle.gql_tokens.specs.Heads.{token_of}
use Rattle.gql_tokens.proofs.HeadLaws.{last_token}
use Rattle.gql_tokens.proofs.NestingLaws.{open_le, nesting_turn, nesting_end}
use Rattle.gql_tokens.proofs.brackets.nesting.Goals as goal

pub tokens-preserved : goal.tokens-preserved
tokens-preserved c =
    let head = c.tokens.head in
    let least = open_le head.kind c.tokens.unclosed in
    record {
      most = rw (c.max-most.ensures, c.open_behind-unclosed.ensures) (nesting_turn c.tokens.most c.tokens.unclosed _ (token_of head) _ _ c.next_head-head.ensures.tokens c.tokens.invariant.least c.tokens.invariant.most);
      least = omega arith;
      room = omega arith;
      head = c.next_head-head.ensures.head;
    }

pub returns : goal.returns
returns c =
    let head = c.tokens.head in
    nesting_end c.tokens.most c.tokens.unclosed _ _ _ (last_token head c.tokens.invariant.head (sym c.tokens-test.ensures)) (sym c.tokens-test.ensures) c.tokens.invariant.least c.tokens.invariant.most
