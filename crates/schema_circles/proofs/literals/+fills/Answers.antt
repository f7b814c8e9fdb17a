use Rattle.schema_circles.proofs.literals.+fills.Goals as goal

pub input_fills-returns : goal.input_fills-returns
input_fills-returns t c =
    let absent = c.in_ok-absent.ensures _ c.in_ok-names.ensures in
    rw (← c.in_ok-given.ensures, ← c.as_slice.ensures.pairs, ← absent) c.joined.ensures
