-- The values of members by name, with one member more.
use Rattle.std.proofs.Common.{◌≡◌, ℕ, List, refl, sym, ap, ◌∙◌, subst, Bool, true, false, cond, bytes_eq}
use Rattle.std.specs.Prelude.{Option, None, Some, is_some}
use Rattle.std.specs.Borrow.{Bor}
use Rattle.std.specs.Option.{option_map, option_or}
use Rattle.std.specs.Cmp.Lexicographic.{nat_list_eq_equiv}
use Rattle.std.proofs.lemmas.Slice.Eq.{bytes_eq-Decides}
use Rattle.check_model.proofs.ListLaws.{or_none}
use Rattle.gql_value.specs.declared.value.Value.{Value}
use Rattle.answer_parts.specs.Members.{with_member}

pub none_of : {X : Type 0} (o : Option X) → is_some o ≡ false → o ≡ None
none_of None is = refl
none_of (Some x) is = absurd (cc)

-- a name that had no value has this one, and each other name has what it had
pub put_case : (values : List ℕ → Option Value) (name other : List ℕ) (value : Bor Value) (before : Option (Bor Value)) (b : Bool)
    → bytes_eq name other ≡ b → values name ≡ None → values other ≡ option_map (λ v. v.now) before
    → option_map (λ v. v.now) (cond b (Some value) before) ≡ with_member values name value.now other
put_case values name other value before true is none here =
    let same : name ≡ other = (bytes_eq-Decides name other).0 is in
    let absent : values other ≡ None = subst (λ n. values n ≡ None) same none in
    let flip : bytes_eq other name ≡ true = nat_list_eq_equiv.symm other name ∙ is in
    sym (ap (λ o. option_or o (cond (bytes_eq other name) (Some value.now) None)) absent
    ∙ ap (λ b. option_or None (cond b (Some value.now) None)) flip)
put_case values name other value before false is none here =
    let flip : bytes_eq other name ≡ false = nat_list_eq_equiv.symm other name ∙ is in
    sym here
    ∙ sym (or_none (values other))
    ∙ sym (ap (λ b. option_or (values other) (cond b (Some value.now) None)) flip)
