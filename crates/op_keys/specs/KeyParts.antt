-- An identity as it is looked up.
use Rattle.std.specs.Prelude.{string_bytes}
use Rattle.op_keys.specs.declared.identity.Identity.{Identity}
use Rattle.op_keys.specs.declared.keys.Key.{Key}

-- the identity with the three texts of a key
abbrev pub of_key : Key → Identity
of_key key = record { document = string_bytes key.document; operation = string_bytes key.operation; variables = string_bytes key.variables }
