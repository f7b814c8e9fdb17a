-- Parts that touch: the list of a document's definitions.
use Rattle.std.proofs.Common.{◌≡◌, ℕ, zero, suc, ◌≤◌, ◌<◌, Bool, true, false, List, [], ◌∷◌, ◌++◌, length, refl, sym, ap, subst, ◌∙◌, ◌⊎◌, append_assoc, append-nil, length-append, arith, inl, inr}
use Rattle.gql_tokens.specs.Tokens.{Token}
use Rattle.gql_model.specs.Sorts.{Sort, starts}
use Rattle.gql_model.specs.Rules.{Rule, Touch}
use Rattle.gql_documents.specs.Parsing.{Outcome, Done, Fail, Parser, and_then, many}
use Rattle.gql_documents.proofs.Laws.{IsDone, IsFail, Viable, Sub, first, first-append, starts_first, and_then_done, and_then_fail, done_value, done_rest, done_not_fail, fail_rest}
use Rattle.gql_documents.proofs.Manys.{Eats, cons_all, many_none, many_one, many_bad, starts_there}

abbrev Toks : Type 0
Toks = List Token

-- what goes on behind a part may depend on the part, and the parser stops before it
pub record Stopping {A : Type 0} (R V : Rule A) (enter : List Sort) (p : Parser A) (goes : A → List Sort) : Type 0 where
  pub done : (ts : Toks) (a : A) (rest : Toks) → p ts ≡ Done a rest → IsDone R p ts a rest
  pub stops : (ts : Toks) (a : A) (rest : Toks) → p ts ≡ Done a rest → starts (goes a) rest ≡ false
  pub fail : (ts rest : Toks) → p ts ≡ Fail rest → IsFail V p ts rest
  pub sub : Sub R V
  pub begins : (front : Toks) (a : A) (rest : Toks) → R front a → starts enter (front ++ rest) ≡ true
  pub eats : Eats p
  -- what goes on behind some part, and no part begins with
  pub ends : List Sort
  pub apart : (rest : Toks) → starts enter rest ≡ true → starts ends rest ≡ false
  pub complete : (front : Toks) (a : A) (rest : Toks) → R front a → starts ends rest ≡ false → starts (goes a) rest ≡ false → p (front ++ rest) ≡ Done a rest

no_start : (g : List Sort) (front rest : Toks) → starts g (front ++ rest) ≡ false → starts g front ≡ false
no_start g [] rest s = refl
no_start g (x ∷ front) rest s = s

touch_viable : {A : Type 0} (R : Rule A) (goes : A → List Sort) (before front rest : Toks) (a : A) → R before a → starts (goes a) (front ++ rest) ≡ false → (front ≡ []) ⊎ Viable (Touch R goes) front → Viable (Touch R goes) (before ++ front)
touch_viable R goes before [] rest a r s v = record { more = []; tree = a ∷ []; rule = (before, [], append-nil (before ++ []), r, refl, refl) }
touch_viable R goes before (x ∷ front) rest a r s (inl e) = absurd cc
touch_viable R goes before (x ∷ front) rest a r s (inr v) = record { more = v.more; tree = a ∷ v.tree; rule = (before, x ∷ (front ++ v.more), append_assoc before (x ∷ front) v.more, r, s, v.rule) }

pub touch_done : {A : Type 0} (R V : Rule A) (enter : List Sort) (p : Parser A) (goes : A → List Sort) → Stopping R V enter p goes → (n : ℕ) (ts : Toks) (b : Bool) → length ts ≤ n → starts enter ts ≡ b → (all : List A) (rest : Toks) (o : Outcome A) → p ts ≡ o → many enter p ts ≡ Done all rest → IsDone (Touch R goes) (many enter p) ts all rest
touch_done {A} R V enter p goes ep n ts false lt s all rest o d e =
    let is : Done [] ts ≡ Done all rest = sym (many_none enter p ts s) ∙ e in
    let all-is : [] ≡ all = done_value _ _ _ _ is in
    let ts-is : ts ≡ rest = done_rest _ _ _ _ is in
    record { front = []; whole = ts-is; rule = subst (Touch R goes []) all-is refl; local = λ other same. many_none enter p other (starts_first enter other ts (same ∙ ap first (sym ts-is)) ∙ s) ∙ ap (λ (x : List A). Done x other) all-is }
touch_done R V enter p goes ep n ts true lt s all rest (Fail r) d e = absurd (done_not_fail _ _ _ (sym e ∙ many_bad enter p ts r s d))
touch_done R V enter p goes ep zero [] true lt s all rest (Done a mid) d e = absurd cc
touch_done R V enter p goes ep zero (x ∷ ts) true lt s all rest (Done a mid) d e = absurd (omega arith)
touch_done {A} R V enter p goes ep (suc n) ts true lt s all rest (Done a mid) d e =
    let h = and_then_done (many enter p mid) (cons_all a) all rest (sym (many_one enter p ep.eats ts a mid s d) ∙ e) in
    let all-is : a ∷ h.0 ≡ all = done_value _ _ _ _ h.3 in
    let left : h.1 ≡ rest = done_rest _ _ _ _ h.3 in
    let less = ep.eats ts a mid d in
    let k = touch_done R V enter p goes ep n mid (starts enter mid) (omega arith) refl h.0 rest (p mid) refl (h.2 ∙ ap (Done h.0) left) in
    let dp = ep.done ts a mid d in
    record {
      front = dp.front ++ k.front;
      whole = dp.whole ∙ ap (λ (r : Toks). dp.front ++ r) k.whole ∙ sym (append_assoc dp.front k.front rest);
      rule = subst (Touch R goes (dp.front ++ k.front)) all-is (dp.front, k.front, refl, dp.rule, no_start (goes a) k.front rest (ap (starts (goes a)) (sym k.whole) ∙ ep.stops ts a mid d), k.rule);
      local = λ other same.
          let e1 : p (dp.front ++ (k.front ++ other)) ≡ Done a (k.front ++ other) = dp.local (k.front ++ other) (first-append k.front other rest same ∙ ap first (sym k.whole)) in
          let begun : starts enter (dp.front ++ (k.front ++ other)) ≡ true = ep.begins dp.front a (k.front ++ other) dp.rule in
          rw append_assoc (many_one enter p ep.eats (dp.front ++ (k.front ++ other)) a (k.front ++ other) begun e1 ∙ ap (λ (o : Outcome (List A)). and_then o (cons_all a)) (k.local other same) ∙ ap (λ (x : List A). Done x other) all-is);
    }

-- nothing of what follows the parts goes on behind one
pub record Quiet {A : Type 0} (enter ends : List Sort) (goes : A → List Sort) (rest : Toks) : Type 0 where
  pub not_entered : starts enter rest ≡ false
  pub not_ended : starts ends rest ≡ false
  pub not_gone_on : (a : A) → starts (goes a) rest ≡ false

quiet_ends : {A : Type 0} (R V : Rule A) (enter : List Sort) (p : Parser A) (goes : A → List Sort) (ep : Stopping R V enter p goes) (rest : Toks) → Quiet enter ep.ends goes rest → (front : Toks) (all : List A) → Touch R goes front all → starts ep.ends (front ++ rest) ≡ false
quiet_ends R V enter p goes ep rest q front [] r = rw r q.not_ended
quiet_ends R V enter p goes ep rest q front (a ∷ all) r = ep.apart (front ++ rest) (rw (r.2, append_assoc r.0 r.1 rest) (ep.begins r.0 a (r.1 ++ rest) r.3))

quiet_goes : (g : List Sort) (front rest : Toks) → starts g front ≡ false → starts g rest ≡ false → starts g (front ++ rest) ≡ false
quiet_goes g [] rest s q = q
quiet_goes g (x ∷ front) rest s q = s

pub touch_complete : {A : Type 0} (R V : Rule A) (enter : List Sort) (p : Parser A) (goes : A → List Sort) (ep : Stopping R V enter p goes) (rest : Toks) → Quiet enter ep.ends goes rest → (front : Toks) (all : List A) → Touch R goes front all → many enter p (front ++ rest) ≡ Done all rest
touch_complete R V enter p goes ep rest q front [] r = rw r (many_none enter p rest q.not_entered)
touch_complete R V enter p goes ep rest q front (a ∷ all) r =
    let e2 = touch_complete R V enter p goes ep rest q r.1 all r.5 in
    let e1 : p (r.0 ++ (r.1 ++ rest)) ≡ Done a (r.1 ++ rest) = ep.complete r.0 a (r.1 ++ rest) r.3 (quiet_ends R V enter p goes ep rest q r.1 all r.5) (quiet_goes (goes a) r.1 rest r.4 (q.not_gone_on a)) in
    rw (r.2, append_assoc r.0 r.1 rest) (many_one enter p ep.eats (r.0 ++ (r.1 ++ rest)) a (r.1 ++ rest) (ep.begins r.0 a (r.1 ++ rest) r.3) e1 ∙ ap (λ (o : Outcome (List _)). and_then o (cons_all a)) e2)

pub touch_fail : {A : Type 0} (R V : Rule A) (enter : List Sort) (p : Parser A) (goes : A → List Sort) → Stopping R V enter p goes → (n : ℕ) (ts : Toks) (b : Bool) → length ts ≤ n → starts enter ts ≡ b → (rest : Toks) (o : Outcome A) → p ts ≡ o → many enter p ts ≡ Fail rest → IsFail (Touch V goes) (many enter p) ts rest
touch_fail R V enter p goes ep n ts false lt s rest o d e = absurd (done_not_fail _ _ _ (sym (many_none enter p ts s) ∙ e))
touch_fail {A} R V enter p goes ep n ts true lt s rest (Fail r) d e =
    let same_rest : r ≡ rest = fail_rest (List A) r rest (sym (many_bad enter p ts r s d) ∙ e) in
    let h = ep.fail ts rest (d ∙ ap Fail same_rest) in
    record {
      front = h.front;
      whole = h.whole;
      local = λ other same. many_bad enter p (h.front ++ other) other (starts_there enter h.front other rest same true (ap (starts enter) (sym h.whole) ∙ s)) (h.local other same);
      viable = elim h.viable [ inl e' ↦ inl e' | inr v ↦ inr (record { more = v.more; tree = v.tree ∷ []; rule = (h.front ++ v.more, [], sym (append-nil (h.front ++ v.more)), v.rule, refl, refl) }) ];
    }
touch_fail R V enter p goes ep zero [] true lt s rest (Done a mid) d e = absurd cc
touch_fail R V enter p goes ep zero (x ∷ ts) true lt s rest (Done a mid) d e = absurd (omega arith)
touch_fail {A} R V enter p goes ep (suc n) ts true lt s rest (Done a mid) d e =
    elim (and_then_fail (many enter p mid) (cons_all a) rest (sym (many_one enter p ep.eats ts a mid s d) ∙ e)) [
      | inr bad ↦ absurd (done_not_fail _ _ _ bad.3)
      | inl f ↦
          let less = ep.eats ts a mid d in
          let k = touch_fail R V enter p goes ep n mid (starts enter mid) (omega arith) refl rest (p mid) refl f in
          let dp = ep.done ts a mid d in
          record {
            front = dp.front ++ k.front;
            whole = dp.whole ∙ ap (λ (r : Toks). dp.front ++ r) k.whole ∙ sym (append_assoc dp.front k.front rest);
            local = λ other same.
                let e1 : p (dp.front ++ (k.front ++ other)) ≡ Done a (k.front ++ other) = dp.local (k.front ++ other) (first-append k.front other rest same ∙ ap first (sym k.whole)) in
                let begun : starts enter (dp.front ++ (k.front ++ other)) ≡ true = ep.begins dp.front a (k.front ++ other) dp.rule in
                rw append_assoc (many_one enter p ep.eats (dp.front ++ (k.front ++ other)) a (k.front ++ other) begun e1 ∙ ap (λ (o : Outcome (List A)). and_then o (cons_all a)) (k.local other same));
            viable = inr (touch_viable V goes dp.front k.front rest a (ep.sub dp.front a dp.rule) (ap (starts (goes a)) (sym k.whole) ∙ ep.stops ts a mid d) k.viable);
          }
    ]
