-- Names with the lines that they stand at.
pub use Rattle.schema_rules.specs.Lines.{Mark}
use Rattle.std.specs.Prelude.{Option, None, Some}
use Rattle.gql_model.specs.declared.name.Name.{Name}
use Rattle.gql_model.specs.declared.type_system.TypeSystemForm.{TypeSystemForm}
use Rattle.gql_model.specs.declared.type_system.TypeSystemForm.TheVariants as form

-- a name of a document with its line
abbrev pub mark_of : Name → Mark
mark_of name = (name.text, name.place.row)

-- the name of a type that is defined
abbrev pub type_mark : TypeSystemForm → Option Name
type_mark (form.Scalar d) = Some d.name
type_mark (form.Object d) = Some d.name
type_mark (form.Interface d) = Some d.name
type_mark (form.Union d) = Some d.name
type_mark (form.Enum d) = Some d.name
type_mark (form.Input d) = Some d.name
type_mark _ = None

-- the name of a directive that is defined
abbrev pub directive_mark : TypeSystemForm → Option Name
directive_mark (form.Directive d) = Some d.name
directive_mark _ = None
