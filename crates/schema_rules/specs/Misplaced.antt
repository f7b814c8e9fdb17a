-- S6: a type of the wrong kind is named (GraphQL October 2021, 3.4.2, IsInputType and IsOutputType; 3.6, 3.7 and 3.8).
use Rattle.std.specs.Prelude.{ℕ, Bool, true, false, Option, None, Some, cond}
use Rattle.std.specs.Option.{option_and_then}
use Rattle.schema_model.specs.declared.schema.Schema.{Schema}
use Rattle.schema_model.specs.declared.schema.TypeForm.{TypeForm}
use Rattle.schema_model.specs.declared.schema.TypeForm.TheVariants as form
use Rattle.schema_model.specs.Tables.{entry}
use Rattle.schema_model.specs.Possible.{is_object}
use Rattle.schema_rules.specs.declared.uses.Role.{Role}
use Rattle.schema_rules.specs.declared.uses.Role.TheVariants as role
use Rattle.schema_rules.specs.Uses.{Judgement, least_use}

-- an output type is any but an input object
abbrev pub is_output : TypeForm → Bool
is_output (form.Input fields) = false
is_output _ = true

-- an input type is a scalar, an enum or an input object
abbrev pub is_input : TypeForm → Bool
is_input form.Scalar = true
is_input (form.Enum values) = true
is_input (form.Input fields) = true
is_input _ = false

-- a type is an interface, which alone may stand behind `implements`
abbrev pub is_interface : TypeForm → Bool
is_interface (form.Interface parts) = true
is_interface _ = false

-- whether a type may stand in a role
abbrev pub suits : Role → TypeForm → Bool
suits role.Output t = is_output t
suits role.Input t = is_input t
suits role.Interface t = is_interface t
suits role.Member t = is_object t

-- the line of a type that is there and may not stand in the role
abbrev pub misplaced_type : Schema → Judgement
misplaced_type schema role name line = option_and_then (λ t. cond (suits role t.form) None (Some line)) (entry schema.types name)

-- the least line of a type of the wrong kind
abbrev pub misplaced_line : Schema → Option ℕ
misplaced_line schema = least_use (misplaced_type schema) schema
