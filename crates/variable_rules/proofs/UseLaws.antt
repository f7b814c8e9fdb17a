-- What is known once the uses of a list of sites are noted.
use Rattle.std.proofs.Common.{◌≡◌, ℕ, List, [], ◌∷◌, ◌++◌, refl, ap, sym, ◌∙◌, Bool, true, false, ◌||◌, bytes_eq}
use Rattle.std.specs.Prelude.{not, is_none}
use Rattle.std.specs.List.{fold, flat_map, list_any}
use Rattle.std.specs.Ordering.{eq_by_cmp}
use Rattle.std.specs.Cmp.Lexicographic.{nat_list_cmp_total}
use Rattle.std.specs.FinSet as set
use Rattle.std.proofs.lemmas.Map.Text.{is_eq-slice_cmp}
use Rattle.std.proofs.lemmas.Grind.{flat_map-append}
use Rattle.text_types.specs.Texts.{text_cmp}
use Rattle.gql_model.specs.declared.executable.Operation.{Operation}
use Rattle.gql_model.specs.declared.document.Definition.{Definition}
use Rattle.gql_model.specs.declared.document.Document.{Document}
use Rattle.gql_model.specs.Documents.{of_operation}
use Rattle.schema_model.specs.declared.schema.Schema.{Schema}
use Rattle.check_model.proofs.ListLaws.{any_congr}
use Rattle.check_model.specs.Sites.{Sites, definition_sites}
use Rattle.check_model.specs.Usages.{Usages, site_usages, definition_usages, followed_usages}
use Rattle.check_model.specs.Spreads.{definitions_reached}
use Rattle.check_model.specs.VariableRules.{variable_named, is_undeclared, is_unused, is_disallowed}
use Rattle.site_walk.proofs.WalkLaws.{fold_found, fold_joined}
use Rattle.variable_rules.specs.declared.faults.UseFaults.{UseFaults}
use Rattle.variable_rules.specs.declared.uses.Uses.{Uses}
use Rattle.variable_rules.specs.Faults.{faults_at}
use Rattle.variable_rules.specs.Uses.{noted, note_site, is_disallowed_for, IsStart}

-- ---- sites and uses

schema_kept : (u : Uses) (us : Usages) → (fold noted u us).schema.now ≡ u.schema.now
schema_kept u [] = refl
schema_kept u (x ∷ us) = schema_kept (noted u x) us

sites_noted : (s : Schema) (u : Uses) (sites : Sites) → u.schema.now ≡ s → fold note_site u sites ≡ fold noted u (flat_map (site_usages s) sites)
sites_noted s u [] is = refl
sites_noted s u (x ∷ sites) is =
    sites_noted s (note_site u x) sites (schema_kept u (site_usages u.schema.now x) ∙ is)
    ∙ ap (λ t. fold noted (fold noted u (site_usages t x)) (flat_map (site_usages s) sites)) is
    ∙ sym (fold_joined noted u (site_usages s x) (flat_map (site_usages s) sites))

uses_of_parts : (s : Schema) (d : Document) (ds : List Definition)
    → flat_map (site_usages s) (flat_map (definition_sites s d) ds) ≡ flat_map (definition_usages s d) ds
uses_of_parts s d [] = refl
uses_of_parts s d (x ∷ ds) =
    flat_map-append (site_usages s) (definition_sites s d x) (flat_map (definition_sites s d) ds)
    ∙ ap (λ us. definition_usages s d x ++ us) (uses_of_parts s d ds)

-- the uses in a definition, and in those that it reaches
pub followed : (s : Schema) (d : Document) (x : Definition) (place : ℕ) (ds : List Definition) (u v w : Uses) → u.schema.now ≡ s
    → ds ≡ definitions_reached d place
    → v ≡ fold note_site u (definition_sites s d x) → w ≡ fold note_site v (flat_map (definition_sites s d) ds)
    → w ≡ fold noted u (followed_usages s d (place, x))
followed s d x place ds u v w same reached first then =
    then
    ∙ ap (λ y. fold note_site y (flat_map (definition_sites s d) ds)) first
    ∙ sym (fold_joined note_site u (definition_sites s d x) (flat_map (definition_sites s d) ds))
    ∙ sites_noted s u (definition_sites s d x ++ flat_map (definition_sites s d) ds) same
    ∙ ap (fold noted u) (flat_map-append (site_usages s) (definition_sites s d x) (flat_map (definition_sites s d) ds))
    ∙ ap (λ us. fold noted u (definition_usages s d x ++ us)) (uses_of_parts s d ds)
    ∙ ap (λ ys. fold noted u (definition_usages s d x ++ flat_map (definition_usages s d) ys)) reached

-- ---- what the uses tell

or_comm : (a b : Bool) → (a || b) ≡ (b || a)
or_comm true true = refl
or_comm true false = refl
or_comm false true = refl
or_comm false false = refl

used_law : (s : Schema) (o : Operation) (u w : Uses) (us : Usages) → IsStart s o u → w ≡ fold noted u us
    → (q : List ℕ) → set.contains w.used q ≡ list_any (λ x. bytes_eq q x.name) us
used_law s o u w us start is q =
    fold_found noted u w us is (λ v. set.contains v.used q) (λ v x. eq_by_cmp text_cmp q x.name)
    (λ v x. set.contains-insert nat_list_cmp_total v.used x.name q ∙ or_comm (eq_by_cmp text_cmp q x.name) (set.contains v.used q))
    (λ v x. refl)
    ∙ ap (λ n. set.contains n q || list_any (λ x. eq_by_cmp text_cmp q x.name) us) start.none_used
    ∙ ap (λ b. b || list_any (λ x. eq_by_cmp text_cmp q x.name) us) (set.contains-empty text_cmp q)
    ∙ any_congr (λ x. eq_by_cmp text_cmp q x.name) (λ x. bytes_eq q x.name) us (λ x. is_eq-slice_cmp q x.name)

undeclared_law : (s : Schema) (o : Operation) (u w : Uses) (us : Usages) → IsStart s o u → w ≡ fold noted u us → w.undeclared ≡ list_any (is_undeclared o) us
undeclared_law s o u w us start is =
    fold_found noted u w us is (λ v. v.undeclared) (λ v x. is_none (variable_named v.declared.operation.now x.name)) (λ v x. refl) (λ v x. refl)
    ∙ ap (λ b. b || list_any (is_undeclared u.declared.operation.now) us) start.none_undeclared
    ∙ ap (λ p. list_any (is_undeclared p) us) start.operation_is

disallowed_law : (s : Schema) (o : Operation) (u w : Uses) (us : Usages) → IsStart s o u → w ≡ fold noted u us → w.disallowed ≡ list_any (is_disallowed o) us
disallowed_law s o u w us start is =
    fold_found noted u w us is (λ v. v.disallowed) (λ v x. is_disallowed_for (variable_named v.declared.operation.now x.name) x.at) (λ v x. refl) (λ v x. refl)
    ∙ ap (λ b. b || list_any (is_disallowed u.declared.operation.now) us) start.none_disallowed
    ∙ ap (λ p. list_any (is_disallowed p) us) start.operation_is

-- the rules that an operation breaks
pub told : (s : Schema) (d : Document) (o : Operation) (x : Definition) (place : ℕ) (u w : Uses) → IsStart s o u
    → x ≡ of_operation o → w ≡ fold noted u (followed_usages s d (place, x))
    → (b : Bool) → b ≡ list_any (λ v. not (set.contains w.used v.name.text)) o.variables
    → (f : UseFaults) → f ≡ record { undeclared = w.undeclared; unused = b; disallowed = w.disallowed }
    → f ≡ faults_at s d (place, of_operation o)
told s d o x place u w start x_is noted_is b unused f made =
    let us : Usages = followed_usages s d (place, of_operation o) in
    let is : w ≡ fold noted u us = noted_is ∙ ap (λ y. fold noted u (followed_usages s d (place, y))) x_is in
    made ∙ (λ i. record {
      undeclared = undeclared_law s o u w us start is i;
      unused = (unused ∙ any_congr (λ v. not (set.contains w.used v.name.text)) (is_unused us) o.variables (λ v. ap not (used_law s o u w us start is v.name.text))) i;
      disallowed = disallowed_law s o u w us start is i;
    })
