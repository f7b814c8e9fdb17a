use Rattle.std.proofs.Common.{◌≡◌, ℕ, List, refl, sym, ◌∙◌, false}
use Rattle.gql_model.specs.declared.executable.Fragment.{Fragment}
use Rattle.gql_model.specs.declared.document.Definition.{Definition}
use Rattle.gql_model.specs.declared.document.Definition.TheVariants as definition
use Rattle.check_model.specs.Executables.{defines}
use Rattle.fragment_rules.proofs.IndexLaws.{other_push}
use Rattle.fragment_rules.proofs.fragments.FragmentIndex.note.Goals as goal

other : (d : Definition) (name : List ℕ) → ((f : Fragment) → d ≡ definition.Fragment f → ⊥) → defines name d ≡ false
other (definition.Operation o) name not = refl
other (definition.Fragment f) name not = absurd (not f refl)
other (definition.TypeSystem t) name not = refl

pub returns-in_default : goal.returns-in_default
returns-in_default c = λ ds h is q.
    h q ∙ sym (other_push ds c.args.definition.now q (other c.args.definition.now q c.in_default.not-Fragment))
