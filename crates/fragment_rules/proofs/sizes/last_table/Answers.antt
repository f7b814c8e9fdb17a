use Rattle.std.proofs.Common.{◌≡◌, ◌+◌, ◌-◌, ℕ, suc, length, map, arith, sym, ap, ◌∙◌}
use Rattle.fragment_rules.specs.Tables.{Table, definition_size, size_in, table_after}
use Rattle.fragment_rules.proofs.SizeLaws.{stays}
use Rattle.fragment_rules.proofs.sizes.last_table.Goals as goal

pub returns-then-are_same : goal.returns-then-are_same
returns-then-are_same c =
    let n = length c.args.definitions.now in
    let next : table_after (suc c.rounds.round) c.args.index.now c.args.definitions.now ≡ c.in_ok-next.next =
    sym (c.in_ok-next.ensures
    ∙ ap (λ (t : Table). map (definition_size (size_in c.args.index.now t)) c.args.definitions.now) (c.as_slice.ensures ∙ c.rounds.invariant)) in
    let same : c.in_ok-next.next ≡ c.rounds.table =
    sym c.as_slice-in-rounds-2.ensures ∙ sym (c.are_same.ensures c.if-are_same.true) ∙ c.as_slice-in-rounds.ensures in
    let whole : (n - c.rounds.round) + c.rounds.round ≡ n = omega arith in
    c.rounds.invariant
    ∙ sym (stays (n - c.rounds.round) c.rounds.round c.args.index.now c.args.definitions.now (next ∙ same ∙ c.rounds.invariant))
    ∙ ap (λ (m : ℕ). table_after m c.args.index.now c.args.definitions.now) whole
