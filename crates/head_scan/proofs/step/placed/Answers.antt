use Rattle.std.proofs.Common.{◌≡◌, None, inl, inr, drop, sym, ap, ◌∙◌, refl, arith}
use Rattle.head_scan.specs.Places.{placed, place_of}
use Rattle.head_scan.specs.declared.place.Step.TheVariants.{Ends, Fails}
use Rattle.head_scan.proofs.Leaving.{leaves}
use Rattle.head_scan.proofs.step.placed.Goals as goal

pub returns-in-Ends : goal.returns-in-Ends
returns-in-Ends c =
    let place = c.loop-byte.place in
    let bytes = c.args.bytes.now in
    let i = c.loop-byte.byte-index in
    let left : place_of (placed place (drop i bytes)) ≡ None =
    elim c.in-Ends.is [
      | inl ends ↦ leaves place bytes i Ends (omega arith) (sym c.step.ensures ∙ ends) refl
      | inr fails ↦ leaves place bytes i Fails (omega arith) (sym c.step.ensures ∙ fails) refl
    ] in
    sym left ∙ ap place_of c.loop-byte.invariant
