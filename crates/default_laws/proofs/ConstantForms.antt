-- The definitions that a text of a schema holds: none of their defaults has a variable.
use Rattle.std.specs.Prelude.{◌≡◌, true}
use Rattle.std.specs.List.{AllByRecursion}
use Rattle.gql_model.specs.declared.document.Definition.{Definition}
use Rattle.gql_model.specs.declared.document.Definition.TheVariants as definition
use Rattle.gql_model.specs.declared.type_system.TypeSystemForm.{TypeSystemForm}
use Rattle.gql_model.specs.declared.type_system.TypeSystemForm.TheVariants as form
use Rattle.gql_model.specs.declared.type_system.InputDefinition.{InputDefinition}
use Rattle.default_laws.specs.Constants.{is_constant_default}

abbrev pub HasConstantDefault : InputDefinition → Type 0
HasConstantDefault input = is_constant_default input.default ≡ true

-- the fields of an input object type have defaults without variables
abbrev pub IsConstantForm : TypeSystemForm → Type 0
IsConstantForm (form.Input d) = AllByRecursion HasConstantDefault d.fields
IsConstantForm _ = Unit {0}

abbrev pub IsConstantDefinition : Definition → Type 0
IsConstantDefinition (definition.TypeSystem d) = IsConstantForm d.form
IsConstantDefinition _ = Unit {0}
