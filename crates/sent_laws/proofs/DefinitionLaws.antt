-- Definitions as they are sent are derived.
use Rattle.std.proofs.Common.{◌≡◌, Bool, false, List, [], ◌∷◌, ◌++◌, map, Option, refl, ap, subst, ◌∙◌}
use Rattle.std.specs.Prelude.{codes}
use Rattle.gql_tokens.specs.declared.token.Place.{Place}
use Rattle.gql_spelling.specs.Spelling.{ArePrintable}
use Rattle.gql_model.specs.declared.name.Name.{Name}
use Rattle.gql_model.specs.declared.selection.Directive.{Directive}
use Rattle.gql_model.specs.declared.selection.SelectionSet.{SelectionSet}
use Rattle.gql_model.specs.declared.executable.OperationKind.{OperationKind}
use Rattle.gql_model.specs.declared.executable.OperationKind.TheVariants.{Query}
use Rattle.gql_model.specs.declared.executable.Operation.{Operation}
use Rattle.gql_model.specs.declared.executable.VariableDefinition.{VariableDefinition}
use Rattle.gql_model.specs.declared.executable.Fragment.{Fragment}
use Rattle.gql_model.specs.declared.document.Document.{Document}
use Rattle.gql_model.specs.declared.document.Definition.{Definition}
use Rattle.gql_model.specs.declared.document.Definition.TheVariants as definition
use Rattle.gql_model.specs.Sorts.{Sort, starts, word}
use Rattle.gql_model.specs.Rules.{Rule, Seq, Made, Behind}
use Rattle.gql_model.specs.Names.{NameRule, FragmentNameRule}
use Rattle.gql_model.specs.Selections.{DirectivesRule, SetRule}
use Rattle.gql_model.specs.Executables.{short_of, ShortRule, long_of, LongRule, OperationRule, fragment_of, FragmentRule}
use Rattle.gql_model.specs.Documents.{of_operation, of_fragment, of_type_system, DefinitionRule, goes_on_with, DefinitionsRule, Derives}
use Rattle.gql_printing.specs.Tokens.{Toks}
use Rattle.gql_printing.proofs.Again.{printable_left, printable_right}
use Rattle.schema_model.specs.declared.schema.Schema.{Schema}
use Rattle.check_model.specs.FieldTypes.{composite_named, root_parent}
use Rattle.execution_model.specs.Fronts.{OfOperation, OfFragment, has_subscription}
use Rattle.op_keys.specs.Sent.{sent_set, sent_operation, sent_fragment, sent_definition, with_typename}
use Rattle.sent_laws.proofs.Grows.{Stands, Grows, same, same_first, same_starts, printable_append, grows_seq, grows_made, grows_either, grows_here, grows_behind}
use Rattle.sent_laws.proofs.SelectionLaws.{grows_set}

module _ (schema : Schema) (subscribes : Bool) where
  -- ---- operations and fragments

  abbrev LongParts : Type 0
  LongParts = OperationKind × (Option Name × (List VariableDefinition × (List Directive × SelectionSet)))

  abbrev sent_long : LongParts → LongParts
  sent_long p = (p.0, (p.1.0, (p.1.1.0, (p.1.1.1.0, sent_set schema subscribes p.1.1.1.1 OfOperation (root_parent schema p.0)))))

  grows_short : (place : Place) (d : Operation) → Grows (ShortRule place) d (sent_operation schema subscribes d)
  grows_short place =
      grows_made (short_of place) (λ set. sent_set schema subscribes set OfOperation (root_parent schema Query)) (sent_operation schema subscribes) (λ set. refl)
      (λ set. grows_set schema subscribes OfOperation (root_parent schema Query) set)

  grows_long : (place : Place) (d : Operation) → Grows (LongRule place) d (sent_operation schema subscribes d)
  grows_long place =
      grows_made (long_of place) sent_long (sent_operation schema subscribes) (λ p. refl)
      (λ p. grows_seq same (grows_seq same (grows_seq same (grows_seq same (grows_set schema subscribes OfOperation (root_parent schema p.0) p.1.1.1.1)))))

  grows_operation : (d : Operation) → Grows OperationRule d (sent_operation schema subscribes d)
  grows_operation d = grows_here (λ place. grows_either (grows_short place d) (grows_long place d))

  abbrev FragmentParts : Type 0
  FragmentParts = Name × (Name × (List Directive × SelectionSet))

  abbrev sent_fragment_parts : FragmentParts → FragmentParts
  sent_fragment_parts p = (p.0, (p.1.0, (p.1.1.0, sent_set schema subscribes p.1.1.1 OfFragment (composite_named schema p.1.0.text))))

  abbrev FragmentAt : Place → Rule Fragment
  FragmentAt place =
      Made (fragment_of place) (Behind (word (codes "fragment")) (Seq FragmentNameRule (Seq (Behind (word (codes "on")) NameRule) (Seq (DirectivesRule false) SetRule))))

  grows_fragment_at : (place : Place) (d : Fragment) → Grows (FragmentAt place) d (sent_fragment schema subscribes d)
  grows_fragment_at place =
      grows_made (fragment_of place) sent_fragment_parts (sent_fragment schema subscribes) (λ p. refl)
      (λ p. grows_behind (word (codes "fragment")) (grows_seq same (grows_seq same (grows_seq same (grows_set schema subscribes OfFragment (composite_named schema p.1.0.text) p.1.1.1)))))

  grows_fragment : (d : Fragment) → Grows FragmentRule d (sent_fragment schema subscribes d)
  grows_fragment d = grows_here (λ place. grows_fragment_at place d)

  -- ---- definitions

  grows_definition : (d : Definition) → Grows DefinitionRule d (sent_definition schema subscribes d)
  grows_definition d =
      grows_either (grows_made of_fragment (sent_fragment schema subscribes) (sent_definition schema subscribes) (λ f. refl) grows_fragment d)
      (grows_either (grows_made of_operation (sent_operation schema subscribes) (sent_definition schema subscribes) (λ o. refl) grows_operation d)
      (grows_made of_type_system (λ t. t) (sent_definition schema subscribes) (λ t. refl) (λ t. same) d))

  goes_on_as : (d : Definition) → goes_on_with (sent_definition schema subscribes d) ≡ goes_on_with d
  goes_on_as (definition.Operation d) = refl
  goes_on_as (definition.Fragment d) = refl
  goes_on_as (definition.TypeSystem d) = refl

  grows_definitions : (all : List Definition) → Grows DefinitionsRule all (map (sent_definition schema subscribes) all)
  grows_definitions [] = same
  grows_definitions (d ∷ all) = record {
    law = λ front r h.
        let parts = subst ArePrintable r.2 h in
        let x = (grows_definition d).law r.0 r.3 (printable_left r.0 r.1 parts) in
        let y = (grows_definitions all).law r.1 r.5 (printable_right r.0 r.1 parts) in
        let stops = same_starts (goes_on_with (sent_definition schema subscribes d)) y.tokens r.1 y.begins ∙ ap (λ (sorts : List Sort). starts sorts r.1) (goes_on_as d) ∙ r.4 in
        record {
          tokens = x.tokens ++ y.tokens;
          derives = (x.tokens, y.tokens, refl, x.derives, stops, y.derives);
          printable = printable_append x.tokens y.tokens x.printable y.printable;
          begins = same_first r.0 r.1 x.tokens y.tokens front x.begins y.begins r.2;
        };
  }

-- ---- documents

none_left : {A B : Type 0} (f : A → B) (all : List A) → map f all ≡ [] → all ≡ []
none_left f [] e = refl
none_left f (a ∷ all) e = absurd cc

pub sent_stands : (schema : Schema) (front : Toks) (document : Document) → Derives front document → ArePrintable front → Stands Derives (with_typename schema document)
sent_stands schema front document d h =
    let all = document.definitions in
    let subscribes = has_subscription document in
    let x = (grows_definitions schema subscribes all).law front d.1 h in
    record {
      tokens = x.tokens;
      derives = ((λ e. d.0 (none_left (sent_definition schema subscribes) all e)), x.derives);
      printable = x.printable;
    }
