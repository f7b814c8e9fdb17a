-- What an error of `check` tells.
use Rattle.std.specs.Prelude.{◌≡◌, Option, Some}
use Rattle.check_model.specs.declared.refusal.Refusal.{Refusal}
use Rattle.check_model.specs.declared.refusal.Refusal.TheVariants as refusal
use Rattle.gql_check.specs.declared.error.CheckError.{CheckError}
use Rattle.gql_check.specs.declared.error.CheckError.TheVariants as error

-- the error that tells a refusal
abbrev pub error_of : Refusal → CheckError
error_of refusal.UnknownOperation = error.UnknownOperation
error_of refusal.Introspection = error.Introspection
error_of (refusal.Invalid rule) = error.Invalid rule
error_of refusal.TooLarge = error.TooLarge

-- an error that tells the refusal there is, or that memory ran out
abbrev pub IsCheckError : Option Refusal → CheckError → Type 0
IsCheckError found error.Memory = Unit {0}
IsCheckError found error.UnknownOperation = found ≡ Some refusal.UnknownOperation
IsCheckError found error.Introspection = found ≡ Some refusal.Introspection
IsCheckError found (error.Invalid rule) = found ≡ Some (refusal.Invalid rule)
IsCheckError found error.TooLarge = found ≡ Some refusal.TooLarge
