use Rattle.std.proofs.Common.{◌-◌, ◌++◌, ℕ, List, map, length, sym, ap, ◌∙◌, subst, arith}
use Rattle.gql_tokens.specs.Places.{first_place}
use Rattle.gql_tokens.specs.Tokens.{Token, seen, AreInOrder}
use Rattle.gql_tokens.specs.Heads.{token_of}
use Rattle.gql_tokens.proofs.PlaceLaws.{IsBehind-trans, IsBehind-shorter}
use Rattle.gql_tokens.proofs.HeadLaws.{ended, faulty}
use Rattle.gql_tokens.proofs.SpanLaws.{seen_head, span_turn, order_turn}
use Rattle.gql_tokens.proofs.lexing.lex.Goals as goal

pub tokens-preserved : goal.tokens-preserved
tokens-preserved c =
    let text = c.args.text.now in
    let head = c.tokens.head in
    let next = c.next_head-head.result in
    let span = c.span_of.result in
    let inside = IsBehind-shorter first_place text head.place head.rest.now 0 (length text) (omega arith) c.tokens.invariant.behind in
    let same = seen_head text span head c.span_of.ensures.kind c.span_of.ensures.start c.span_of.ensures.end c.span_of.ensures.place c.tokens.invariant.behind.rest_is in
    record {
      tokens = rw c.in_ok-push.ensures.ok (span_turn text c.tokens.tokens span (token_of head) _ _ _ same c.next_head-head.ensures.tokens c.tokens.invariant.tokens);
      order = rw c.in_ok-push.ensures.ok (order_turn 0 (length text - length head.rest.now) (length text - length next.rest.now) c.tokens.tokens span c.tokens.invariant.order (omega arith) (omega arith) (omega arith));
      head = c.next_head-head.ensures.head;
      behind = IsBehind-trans first_place text head.place head.rest.now next.place next.rest.now c.tokens.invariant.behind c.next_head-head.ensures.behind;
    }

pub returns-in-End-clause-tokens : goal.returns-in-End-clause-tokens
returns-in-End-clause-tokens c =
    let text = c.args.text.now in
    sym (ap (λ (more : List Token). map (seen text) c.tokens.tokens ++ more) (sym (ended text c.tokens.head c.tokens.invariant.head c.in-End.is c.tokens.invariant.behind).0) ∙ c.tokens.invariant.tokens)

pub returns-in-End-clause-order : goal.returns-in-End-clause-order
returns-in-End-clause-order c =
    let text = c.args.text.now in
    subst (λ (last : ℕ). AreInOrder 0 last c.tokens.tokens) (ended text c.tokens.head c.tokens.invariant.head c.in-End.is c.tokens.invariant.behind).1 c.tokens.invariant.order

pub returns-in_default : goal.returns-in_default
returns-in_default c =
    let before = map (seen c.args.text.now) c.tokens.tokens in
    record {
      tokens = tt;
      order = tt;
      fault = (before, sym (ap (λ (more : List Token). before ++ more) (sym (faulty c.tokens.head c.tokens.invariant.head (sym c.tokens-test.ensures) c.in_default.not-End)) ∙ c.tokens.invariant.tokens));
    }
