use Rattle.std.proofs.Common.{◌≡◌, ℕ, List, drop, ap, ◌∙◌, arith}
use Rattle.gql_tokens.specs.Runs.{run}
use Rattle.gql_tokens.specs.Readings.{meant, rule_of}
use Rattle.gql_tokens.proofs.runs.run_len.Goals as goal

pub characters-preserved : goal.characters-preserved
characters-preserved c =
    let rule = rule_of c.args.context in
    let taken = c.in-Some.ensures.value.1 in
    let behind : (run rule c.split_at.result.1.now).1 ≡ (run rule (drop (meant c.in-Some.next).1 c.characters.rest.now)).1 = ap (λ (text : List ℕ). (run rule text).1) (c.split_at.ensures.back ∙ ap (λ (n : ℕ). drop n c.characters.rest.now) c.len_of-taken.ensures) in
    record { value = omega arith; within = omega arith }
