-- What is written for operations and fragments derives them again.
use Rattle.std.proofs.Common.{◌≡◌, ℕ, Bool, true, false, ◌&&◌, List, [], ◌∷◌, ◌++◌, map, Option, Some, None, refl, ap, subst, ◌∙◌, inl, inr}
use Rattle.std.specs.Prelude.{codes, is_none}
use Rattle.std.specs.Option.{option_map}
use Rattle.gql_tokens.specs.Names.{IsName}
use Rattle.gql_tokens.specs.Places.{first_place}
use Rattle.gql_tokens.specs.declared.token.Kind.{Kind}
use Rattle.gql_tokens.specs.declared.token.Kind.TheVariants as kind
use Rattle.gql_tokens.specs.declared.token.Place.{Place}
use Rattle.gql_tokens.proofs.Choices.{choice}
use Rattle.gql_spelling.specs.Spelling.{ArePrintable}
use Rattle.gql_model.specs.declared.name.Name.{Name}
use Rattle.gql_model.specs.declared.selection.Directive.{Directive}
use Rattle.gql_model.specs.declared.selection.SelectionSet.{SelectionSet}
use Rattle.gql_model.specs.declared.executable.OperationKind.{OperationKind}
use Rattle.gql_model.specs.declared.executable.OperationKind.TheVariants.{Query, Mutation, Subscription}
use Rattle.gql_model.specs.declared.executable.Operation.{Operation}
use Rattle.gql_model.specs.declared.executable.VariableDefinition.{VariableDefinition}
use Rattle.gql_model.specs.Documents.{is_none_of}
use Rattle.gql_model.specs.Rules.{Rule, Seq, Opt, Perhaps, place_of}
use Rattle.gql_model.specs.Names.{NameRule}
use Rattle.gql_model.specs.Selections.{DirectivesRule, SetRule}
use Rattle.gql_model.specs.Executables.{kind_of, KindRule, DefaultRule, variable_definition_of, VariableDefinitionRule, VariablesRule, short_of, long_of, OperationRule, fragment_of, FragmentRule}
use Rattle.gql_printing.specs.Tokens.{Toks, word, optional, grouped}
use Rattle.gql_printing.specs.Selections.{directives_tokens, set_tokens}
use Rattle.gql_printing.specs.Executables.{kind_word, name_tokens, default_tokens, variable_definition_tokens, is_query, has_short_form, long_form_tokens, operation_tokens, fragment_tokens}
use Rattle.gql_printing.specs.Places.{bare_name, bare_literal, bare_directives, bare_set, bare_variable_definition, bare_operation, bare_fragment}
use Rattle.gql_printing.proofs.Joining.{joins_nil, joins_one}
use Rattle.gql_printing.proofs.Again.{Again, Spells, printable_left, printable_right, empty, single, again_seq, again_none, again_nil, spells_seq, spells_made, spells_here, spells_opt, spells_behind, spells_grouped, both}
use Rattle.gql_printing.proofs.Tokens.{plain_calm, dollar, colon, equals, paren_open, paren_close, keyword, spells_name, spells_fragment_name}
use Rattle.gql_printing.proofs.ValueLaws.{spells_value, spells_type}
use Rattle.gql_printing.proofs.SelectionLaws.{spells_directives, spells_condition, spells_set}

-- ---- kinds of operations

abbrev pub kind_tokens : OperationKind → Toks
kind_tokens k = word (kind_word k) ∷ []

abbrev same_kind : OperationKind → OperationKind
same_kind k = k

kind_again : {c : Bool} (k : OperationKind) (text : List ℕ) → IsName text → ((place : Place) → kind_of (record { kind = kind.Name; text = text; place = place }) ≡ Some k) → Again c KindRule same_kind k (word text ∷ [])
kind_again {c} k text h is = record {
  again = λ ts e.
      let one = single (kind.Name, text) ts e in
      (k, (one.0, one.1, ap (λ (b : Kind × List ℕ). kind_of (record { kind = b.0; text = b.1; place = one.0.place })) one.2 ∙ is one.0.place), refl);
  spelled = (h, tt);
  joins = joins_one c (word text) (plain_calm c kind.Name refl refl);
}

again_kind : {c : Bool} (k : OperationKind) → Again c KindRule same_kind k (kind_tokens k)
again_kind Query = kind_again Query (codes "query") refl (λ place. refl)
again_kind Mutation = kind_again Mutation (codes "mutation") refl (λ place. refl)
again_kind Subscription = kind_again Subscription (codes "subscription") refl (λ place. refl)

pub spells_kind : {c : Bool} → Spells c KindRule KindRule same_kind kind_tokens
spells_kind = record { law = λ front k r h. again_kind k }

-- ---- variables

pub spells_default : Spells false DefaultRule DefaultRule bare_literal default_tokens
spells_default = spells_behind (equals false) (spells_value true)

spells_variable_definition : Spells false VariableDefinitionRule VariableDefinitionRule bare_variable_definition variable_definition_tokens
spells_variable_definition =
    spells_here (λ place place'. spells_made (variable_definition_of place) (variable_definition_of place') bare_variable_definition variable_definition_tokens (variable_definition_of first_place)
    (λ p. refl) (λ p. refl) (λ front p r. refl)
    (spells_behind (dollar false) (spells_seq spells_name (spells_behind (colon false) (spells_seq spells_type (spells_seq (spells_opt spells_default) (spells_directives true)))))))

abbrev variables_tokens : List VariableDefinition → Toks
variables_tokens = grouped kind.ParenOpen kind.ParenClose variable_definition_tokens

spells_variables : Spells true (Perhaps VariablesRule) (Perhaps VariablesRule) (map bare_variable_definition) variables_tokens
spells_variables = spells_grouped kind.ParenOpen kind.ParenClose paren_open paren_close spells_variable_definition true

again_no_variables : Again true (Perhaps VariablesRule) (map bare_variable_definition) [] []
again_no_variables = record { again = λ ts e. ([], record { of = None; is = refl; rule = empty ts e }, refl); spelled = tt; joins = joins_nil true }

-- ---- operations

-- each part of an operation can be read again
record Parts (o : Operation) : Type 0 where
  name : Again true (Opt NameRule) (option_map bare_name) (option_map bare_name o.name) (optional name_tokens o.name)
  variables : Again true (Perhaps VariablesRule) (map bare_variable_definition) (map bare_variable_definition o.variables) (variables_tokens o.variables)
  directives : Again true (DirectivesRule false) bare_directives (bare_directives o.directives) (directives_tokens o.directives)
  set : Again true SetRule bare_set (bare_set o.selection_set) (set_tokens o.selection_set)

short_parts : (place : Place) (front : Toks) (set : SelectionSet) → SetRule front set → ArePrintable front → Parts (short_of place set)
short_parts place front set r h = record { name = again_none; variables = again_no_variables; directives = again_nil; set = spells_set.law front set r h }

abbrev LongParts : Type 0
LongParts = OperationKind × (Option Name × (List VariableDefinition × (List Directive × SelectionSet)))

abbrev BehindKind : Rule (Option Name × (List VariableDefinition × (List Directive × SelectionSet)))
BehindKind = Seq (Opt NameRule) (Seq (Perhaps VariablesRule) (Seq (DirectivesRule false) SetRule))

abbrev bare_long : LongParts → LongParts
bare_long = both same_kind (both (option_map bare_name) (both (map bare_variable_definition) (both bare_directives bare_set)))

long_parts : (place : Place) (front : Toks) (p : LongParts) → Seq KindRule BehindKind front p → ArePrintable front → Parts (long_of place p)
long_parts place front p r h =
    let one = printed_behind r.before r.after front r.whole h in
    let two = printed_behind r.second.before r.second.after r.after r.second.whole one.1 in
    let three = printed_behind r.second.second.before r.second.second.after r.second.after r.second.second.whole two.1 in
    let four = printed_behind r.second.second.second.before r.second.second.second.after r.second.second.after r.second.second.second.whole three.1 in
    record {
      name = (spells_opt spells_name).law r.second.before p.1.0 r.second.first two.0;
      variables = spells_variables.law r.second.second.before p.1.1.0 r.second.second.first three.0;
      directives = (spells_directives false).law r.second.second.second.before p.1.1.1.0 r.second.second.second.first four.0;
      set = spells_set.law r.second.second.second.after p.1.1.1.1 r.second.second.second.second four.1;
    }
  where
    printed_behind : (before after front : Toks) → front ≡ before ++ after → ArePrintable front → ArePrintable before × ArePrintable after
    printed_behind before after front e h =
        let parts = subst ArePrintable e h in
        (printable_left before after parts, printable_right before after parts)

parts_of : (front : Toks) (o : Operation) → OperationRule front o → ArePrintable front → Parts o
parts_of front o (inl r) h = subst Parts r.is (short_parts (place_of front) front r.of r.rule h)
parts_of front o (inr r) h = subst Parts r.is (long_parts (place_of front) front r.of r.rule h)

again_long : (o : Operation) → Parts o → Again true OperationRule bare_operation (bare_operation o) (long_form_tokens o)
again_long o p =
    let x = again_seq (again_kind o.kind) (again_seq p.name (again_seq p.variables (again_seq p.directives p.set))) in
    record {
      again = λ ts e. let k = x.again ts e in (long_of (place_of ts) k.0, inr (record { of = k.0; is = refl; rule = k.1 }), ap (long_of first_place) k.2);
      spelled = x.spelled;
      joins = x.joins;
    }

short_is : (k : OperationKind) (name : Option Name) (variables : List VariableDefinition) (directives : List Directive) (set : SelectionSet) (place : Place)
    → (is_query k && is_none name && is_none_of variables && is_none_of directives) ≡ true
    → short_of first_place (bare_set set) ≡ bare_operation (record { place = place; kind = k; name = name; variables = variables; directives = directives; selection_set = set })
short_is Query None [] [] set place e = refl
short_is _ _ _ _ set place e = absurd cc

again_short : (o : Operation) → has_short_form o ≡ true → Parts o → Again true OperationRule bare_operation (bare_operation o) (set_tokens o.selection_set)
again_short o e p = record {
  again = λ ts b. let k = p.set.again ts b in (
    short_of (place_of ts) k.0,
    inl (record { of = k.0; is = refl; rule = k.1 }),
    ap (short_of first_place) k.2 ∙ short_is o.kind o.name o.variables o.directives o.selection_set o.place e,
  );
  spelled = p.set.spelled;
  joins = p.set.joins;
}

both_true : (a b : Bool) → (a && b) ≡ true → b ≡ true
both_true true b e = e
both_true false b e = absurd cc

pub spells_operation : (short : Bool) → Spells true OperationRule OperationRule bare_operation (operation_tokens short)
spells_operation short = record {
  law = λ front o r h.
      let p = parts_of front o r h in
      choice (Again true OperationRule bare_operation (bare_operation o)) (short && has_short_form o) (set_tokens o.selection_set) (long_form_tokens o)
      (λ e. again_short o (both_true short (has_short_form o) e) p) (λ e. again_long o p);
}

-- ---- fragments

pub spells_fragment : Spells true FragmentRule FragmentRule bare_fragment fragment_tokens
spells_fragment =
    spells_here (λ place place'. spells_made (fragment_of place) (fragment_of place') bare_fragment fragment_tokens (fragment_of first_place)
    (λ p. refl) (λ p. refl) (λ front p r. refl)
    (spells_behind (keyword true (codes "fragment") refl (λ place. refl)) (spells_seq spells_fragment_name (spells_seq spells_condition (spells_seq (spells_directives false) spells_set)))))
