use Rattle.std.proofs.Common.{sym, ap, ◌∙◌}
use Rattle.head_scan.specs.Places.{place_of}
use Rattle.head_scan.specs.declared.place.Place.TheVariants.{EmptyLines}
use Rattle.head_scan.proofs.Leaving.{left-append, placed-append}
use Rattle.head_scan.proofs.response.further.Goals as goal

pub returns-in-Some : goal.returns-in-Some
returns-in-Some c seen stands = c.placed.ensures ∙ ap place_of (sym (placed-append EmptyLines seen c.args.bytes.now c.in-Some.place (sym c.in-Some.is ∙ stands)))

pub returns-in-None : goal.returns-in-None
returns-in-None c seen stands = sym (left-append EmptyLines seen c.args.bytes.now (sym stands ∙ c.in-None.is))
