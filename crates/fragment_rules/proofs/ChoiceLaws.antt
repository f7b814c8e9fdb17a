-- The first operation among definitions, and the only one.
use Rattle.std.proofs.Common.{◌≡◌, List, [], ◌∷◌, refl, Bool, true, false, cond}
use Rattle.std.specs.Prelude.{Some}
use Rattle.std.specs.Option.{option_and_then}
use Rattle.std.specs.List.{find, flat_map}
use Rattle.gql_model.specs.declared.executable.Operation.{Operation}
use Rattle.gql_model.specs.declared.document.Definition.{Definition}
use Rattle.gql_model.specs.declared.document.Definition.TheVariants as definition
use Rattle.check_model.specs.Executables.{operation_in, operation_is}
use Rattle.fragment_rules.specs.Choices.{as_operation}

found_case : (test : Operation → Bool) (o : Operation) (ds : List Definition) (b : Bool)
    → option_and_then as_operation (find (operation_is test) ds) ≡ find test (flat_map operation_in ds)
    → option_and_then as_operation (cond b (Some (definition.Operation o)) (find (operation_is test) ds)) ≡ cond b (Some o) (find test (flat_map operation_in ds))
found_case test o ds true is = refl
found_case test o ds false is = is

-- the first operation that is so
pub found_operation : (test : Operation → Bool) (ds : List Definition)
    → option_and_then as_operation (find (operation_is test) ds) ≡ find test (flat_map operation_in ds)
found_operation test [] = refl
found_operation test (definition.Operation o ∷ ds) = found_case test o ds (test o) (found_operation test ds)
found_operation test (definition.Fragment f ∷ ds) = found_operation test ds
found_operation test (definition.TypeSystem t ∷ ds) = found_operation test ds
