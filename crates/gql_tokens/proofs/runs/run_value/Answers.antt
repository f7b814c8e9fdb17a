use Rattle.std.proofs.Common.{◌≡◌, ◌++◌, ℕ, List, drop, string_bytes, ap, sym, ◌∙◌, append_assoc}
use Rattle.gql_tokens.specs.Runs.{run}
use Rattle.gql_tokens.specs.Readings.{meant, rule_of}
use Rattle.gql_tokens.proofs.runs.run_value.Goals as goal

pub characters-preserved : goal.characters-preserved
characters-preserved c =
    let rule = rule_of c.args.context in
    let next = meant c.in-Some.next in
    let taken = c.in-Some.ensures.value.0 in
    let behind : (run rule c.split_at.result.1.now).0 ≡ (run rule (drop next.1 c.characters.rest.now)).0 = ap (λ (text : List ℕ). (run rule text).0) (c.split_at.ensures.back ∙ ap (λ (n : ℕ). drop n c.characters.rest.now) c.len_of.ensures) in
    ap (λ (bytes : List ℕ). bytes ++ (run rule c.split_at.result.1.now).0) c.in_ok-push_character.ensures
    ∙ append_assoc (string_bytes c.characters.value) next.0 (run rule c.split_at.result.1.now).0
    ∙ ap (λ (bytes : List ℕ). string_bytes c.characters.value ++ (next.0 ++ bytes)) behind
    ∙ ap (λ (bytes : List ℕ). string_bytes c.characters.value ++ bytes) (sym taken)
    ∙ c.characters.invariant
