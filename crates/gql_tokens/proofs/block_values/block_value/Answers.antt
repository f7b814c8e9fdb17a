use Rattle.std.proofs.Common.{◌≡◌, false, true, sym, ap, subst, ◌∙◌, IsUtf8}
use Rattle.gql_tokens.specs.Blocks.{block_value_of}
use Rattle.gql_tokens.proofs.BlockTextLaws.{block_text}
use Rattle.gql_tokens.proofs.block_values.block_value.Goals as goal

never : false ≡ true → ⊥
never e = cc

pub unreachable-requires : goal.unreachable-requires
unreachable-requires c =
    never (c.in-Err.ensures.succeeds
    (subst IsUtf8 (sym (c.in_ok-block_bytes.ensures ∙ ap block_value_of c.as_bytes.ensures.value)) (block_text c.args.raw.now c.utf8.raw)))
