-- A set of names, and one name more.
use Rattle.std.proofs.Common.{◌≡◌, ℕ, List, refl, ap, sym, ◌∙◌, Bool, true, false, cond, ◌||◌}
use Rattle.std.specs.List.{list_any}
use Rattle.std.specs.Ordering.{eq_by_cmp}
use Rattle.std.specs.Cmp.{eq_by_cmp_equiv, Equal-is}
use Rattle.std.specs.Cmp.Lexicographic.{nat_list_cmp_total}
use Rattle.std.specs.BTreeMap.{is_at}
use Rattle.std.specs.FinSet as set
use Rattle.text_types.specs.Texts.{text_cmp}

either : (b c : Bool) → cond b true c ≡ (b || c)
either true c = refl
either false c = refl

-- the names once one is put in
pub put_in : (ks ls : List (List ℕ)) (name : List ℕ)
    → ((q : List ℕ) → list_any (is_at (text_cmp q)) ls ≡ cond (is_at (text_cmp name) q) true (list_any (is_at (text_cmp q)) ks))
    → set.from_list {R = text_cmp} ls ≡ set.insert (set.from_list ks) name
put_in ks ls name is =
    set.same_set nat_list_cmp_total (set.slice_cmp-IsAntisymmetric set.nat_cmp-IsAntisymmetric) _ _ (λ q.
    set.contains-from_list nat_list_cmp_total ls q ∙ is q ∙ either (is_at (text_cmp name) q) (list_any (is_at (text_cmp q)) ks)
    ∙ ap (λ b. b || list_any (is_at (text_cmp q)) ks) ((eq_by_cmp_equiv nat_list_cmp_total).symm name q)
    ∙ sym (set.contains-insert nat_list_cmp_total (set.from_list ks) name q
    ∙ ap (λ b. eq_by_cmp text_cmp q name || b) (set.contains-from_list nat_list_cmp_total ks q)))

there : (s : set.FinSet text_cmp) (name q : List ℕ) → set.contains s name ≡ true → (b : Bool) → eq_by_cmp text_cmp q name ≡ b
    → set.contains s q ≡ (b || set.contains s q)
there s name q known true same = set.contains_tied nat_list_cmp_total s name q ((Equal-is (text_cmp name q)).0 ((eq_by_cmp_equiv nat_list_cmp_total).symm name q ∙ same)) ∙ known
there s name q known false same = refl

-- a name that is there already
pub known_in : (ks : List (List ℕ)) (name : List ℕ) → list_any (is_at (text_cmp name)) ks ≡ true
    → set.from_list {R = text_cmp} ks ≡ set.insert (set.from_list ks) name
known_in ks name known =
    set.same_set nat_list_cmp_total (set.slice_cmp-IsAntisymmetric set.nat_cmp-IsAntisymmetric) _ _ (λ q.
    there (set.from_list ks) name q (set.contains-from_list nat_list_cmp_total ks name ∙ known) (eq_by_cmp text_cmp q name) refl
    ∙ sym (set.contains-insert nat_list_cmp_total (set.from_list ks) name q))
