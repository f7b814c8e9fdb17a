-- What a type that was found stands for.
use Rattle.std.specs.Prelude.{ℕ, List, Option}
use Rattle.std.specs.Borrow.{Bor}
use Rattle.std.specs.Option.{option_map}
use Rattle.schema_model.specs.declared.schema.TypeId.{TypeId}
use Rattle.answer_model.specs.Types.{ObjectType}

-- an object type, with its name as it is lent
abbrev pub option_type : Option (TypeId × Bor (List ℕ)) → Option ObjectType
option_type found = option_map (λ t. (t.0, t.1.now)) found
