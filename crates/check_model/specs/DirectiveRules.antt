-- The rules on directives (GraphQL October 2021, 5.7).
use Rattle.std.specs.Prelude.{ℕ, Bool, false, ◌||◌, not, List, map, filter, is_some}
use Rattle.std.specs.List.{list_any}
use Rattle.gql_model.specs.declared.selection.Directive.{Directive}
use Rattle.gql_model.specs.declared.document.Document.{Document}
use Rattle.schema_model.specs.declared.schema.Schema.{Schema}
use Rattle.schema_model.specs.Tables.{entry}
use Rattle.check_model.specs.Directives.{is_built_in, may_stand, is_repeatable}
use Rattle.check_model.specs.Repeated.{stands_twice}
use Rattle.check_model.specs.Sites.{Site, some_site}

-- a directive of this name is built in or one of the schema
abbrev pub is_defined_directive : Schema → Directive → Bool
is_defined_directive schema directive = is_built_in directive.name.text || is_some (entry schema.directives directive.name.text)

-- one of the directives at a place is neither built in nor defined by the schema
abbrev pub has_undefined_directive : Schema → Site → Bool
has_undefined_directive schema (Site.Directed place directives) = list_any (λ d. not (is_defined_directive schema d)) directives
has_undefined_directive schema _ = false

-- V13, 5.7.1 Directives Are Defined
abbrev pub breaks_directives_defined : Schema → Document → Bool
breaks_directives_defined schema document = some_site (has_undefined_directive schema) schema document

-- a directive's locations lack the place
abbrev pub has_misplaced_directive : Schema → Site → Bool
has_misplaced_directive schema (Site.Directed place directives) = list_any (λ d. not (may_stand schema place d.name.text)) directives
has_misplaced_directive schema _ = false

-- V14, 5.7.2 Directives Are In Valid Locations
abbrev pub breaks_directive_locations : Schema → Document → Bool
breaks_directive_locations schema document = some_site (has_misplaced_directive schema) schema document

-- the names of the directives that aren't repeatable
abbrev pub single_directives : Schema → List Directive → List (List ℕ)
single_directives schema directives = filter (λ n. not (is_repeatable schema n)) (map (λ d. d.name.text) directives)

-- one that isn't repeatable stands twice
abbrev pub has_doubled_directive : Schema → Site → Bool
has_doubled_directive schema (Site.Directed place directives) = stands_twice (single_directives schema directives)
has_doubled_directive schema _ = false

-- V15, 5.7.3 Directives Are Unique Per Location
abbrev pub breaks_directives_unique : Schema → Document → Bool
breaks_directives_unique schema document = some_site (has_doubled_directive schema) schema document
