-- Which of the three rules on the uses of variables are broken (GraphQL October 2021, 5.8.3 to 5.8.5).
use Rattle.std.specs.Prelude.{ℕ, false, List, ◌||◌}
use Rattle.std.specs.List.{list_any}
use Rattle.gql_model.specs.declared.document.Definition.{Definition}
use Rattle.gql_model.specs.declared.document.Document.{Document}
use Rattle.schema_model.specs.declared.schema.Schema.{Schema}
use Rattle.check_model.specs.VariableRules.{uses_undeclared, leaves_unused, uses_disallowed, breaks_variable_uses_defined, breaks_variables_used, breaks_variable_usages_allowed}
use Rattle.variable_rules.specs.declared.faults.UseFaults.{UseFaults}

-- by the definition at a place
abbrev pub faults_at : Schema → Document → ℕ × Definition → UseFaults
faults_at schema document p = record {
  undeclared = uses_undeclared schema document p;
  unused = leaves_unused schema document p;
  disallowed = uses_disallowed schema document p;
}

-- by the definitions at some places
abbrev pub faults_in : Schema → Document → List (ℕ × Definition) → UseFaults
faults_in schema document ps = record {
  undeclared = list_any (uses_undeclared schema document) ps;
  unused = list_any (leaves_unused schema document) ps;
  disallowed = list_any (uses_disallowed schema document) ps;
}

-- by a document
abbrev pub faults_of : Schema → Document → UseFaults
faults_of schema document = record {
  undeclared = breaks_variable_uses_defined schema document;
  unused = breaks_variables_used schema document;
  disallowed = breaks_variable_usages_allowed schema document;
}

-- none of the three rules is broken
abbrev pub none : UseFaults
none = record { undeclared = false; unused = false; disallowed = false }

-- what one breaks and what the other breaks, put together
abbrev pub either : UseFaults → UseFaults → UseFaults
either a b = record {
  undeclared = a.undeclared || b.undeclared;
  unused = a.unused || b.unused;
  disallowed = a.disallowed || b.disallowed;
}
