-- The error of a refusal tells it.
use Rattle.std.proofs.Common.{◌≡◌}
use Rattle.std.specs.Prelude.{Option, Some}
use Rattle.check_model.specs.declared.refusal.Refusal.{Refusal}
use Rattle.check_model.specs.declared.refusal.Refusal.TheVariants as refusal
use Rattle.gql_check.specs.Errors.{error_of, IsCheckError}

pub tells : (found : Option Refusal) (r : Refusal) → found ≡ Some r → IsCheckError found (error_of r)
tells found refusal.UnknownOperation is = is
tells found refusal.Introspection is = is
tells found (refusal.Invalid rule) is = is
tells found refusal.TooLarge is = is
