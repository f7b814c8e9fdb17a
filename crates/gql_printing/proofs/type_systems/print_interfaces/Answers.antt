use Rattle.std.proofs.Common.{◌≡◌, List, [], ◌∷◌, true, false, sym, refl, ◌∙◌}
use Rattle.std.specs.Prelude.{codes}
use Rattle.gql_tokens.specs.declared.token.Kind.TheVariants as kind
use Rattle.gql_model.specs.declared.name.Name.{Name}
use Rattle.gql_printing.specs.Tokens.{word, listed}
use Rattle.gql_printing.specs.TypeSystems.{implements_tokens}
use Rattle.gql_printing.proofs.Writing.{then, written_as}
use Rattle.gql_printing.proofs.type_systems.print_interfaces.Goals as goal

differ : false ≡ true → ⊥
differ e = cc

some : (names : List Name) → (names ≡ [] → ⊥) → implements_tokens names ≡ word (codes "implements") ∷ listed kind.Ampersand names
some [] h = absurd (h refl)
some (name ∷ names) h = refl

pub returns : goal.returns
returns c =
    let names = c.args.interfaces.now in
    written_as _ _ _ _ _ (sym (some names (λ e. differ (sym c.if-is_empty.false ∙ c.is_empty.ensures.1 e))))
    (then _ _ _ _ (word (codes "implements") ∷ []) (listed kind.Ampersand names) c.in_ok-keyword.ensures c.print_listed.ensures)
