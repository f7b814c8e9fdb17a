use Rattle.std.proofs.Common.{◌++◌, ◌∷◌, [], ℕ, List, length, ap, sym, ◌∙◌, arith}
use Rattle.std.proofs.lemmas.Grind.{common_steps}
use Rattle.std.proofs.lemmas.List.FromFn.{map-range_with_len_more}
use Rattle.schema_circles.specs.Fillings.{first_number}
use Rattle.schema_circles.proofs.numbering.numbered.Goals as goal

pub types-preserved : goal.types-preserved
types-preserved c =
    let first = first_number c.args.types.now in (
      c.in_ok-push.ensures.ok
          ∙ ap (λ (n : ℕ). c.types.firsts ++ n ∷ []) (c.len.ensures ∙ ap length c.types.invariant.1)
          ∙ ap (λ (ns : List ℕ). ns ++ first c.types.named-index ∷ []) c.types.invariant.0
          ∙ sym (map-range_with_len_more first 0 c.types.named-index c.types.named-index (omega arith)),
      grind (arith, common_steps),
    )
