use Rattle.std.proofs.Common.{◌≡◌, ◌∷◌, ℕ, List, take, drop, refl, sym, ap, ◌∙◌}
use Rattle.std.specs.List.{prefix_len}
use Rattle.gql_tokens.specs.Blocks.{lines_of}
use Rattle.gql_tokens.proofs.BlockLaws.{in_line, lines_behind, lines_split, nothing}
use Rattle.gql_tokens.proofs.block_values.split_line.Goals as goal

-- the first line, and the lines behind it
lines : (text line rest : List ℕ) (n : ℕ) → n ≡ prefix_len in_line text → line ≡ take n text → rest ≡ drop n text → lines_of text ≡ line ∷ lines_behind rest
lines text line rest n e l r =
    lines_split text ∙ rw (l, r, e) refl

pub returns-in-None-clause-lines : goal.returns-in-None-clause-lines
returns-in-None-clause-lines c =
    lines c.args.text.now c.split_at.result.0.now c.split_at.result.1.now c.line_len.result c.line_len.ensures.value c.split_at.ensures.front c.split_at.ensures.back
    ∙ ap (λ (rest : List ℕ). c.split_at.result.0.now ∷ lines_behind rest) (nothing c.split_at.result.1.now c.in-None.ensures.cases)

pub returns-in-Some-clause-lines : goal.returns-in-Some-clause-lines
returns-in-Some-clause-lines c =
    lines c.args.text.now c.split_at.result.0.now c.split_at.result.1.now c.line_len.result c.line_len.ensures.value c.split_at.ensures.front c.split_at.ensures.back
    ∙ ap (λ (rest : List ℕ). c.split_at.result.0.now ∷ lines_behind rest) c.in-Some.ensures.cases.0
    ∙ ap (λ (behind : List ℕ). c.split_at.result.0.now ∷ lines_of behind) (sym c.behind_line_end.ensures)
