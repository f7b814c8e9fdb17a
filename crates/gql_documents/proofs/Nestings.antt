-- A rule over itself: its parser at the depth of its tokens is exact, and goes over itself.
use Rattle.std.proofs.Common.{◌≡◌, ℕ, zero, suc, ◌+◌, ◌≤◌, ◌<◌, Bool, true, false, List, [], ◌∷◌, ◌++◌, length, refl, sym, ap, subst, ◌∙◌, arith, inl, inr, ◌⊎◌}
use Rattle.std.proofs.lemmas.List.{append_cancel_right}
use Rattle.gql_tokens.specs.Tokens.{Token}
use Rattle.gql_model.specs.Sorts.{Sort, starts}
use Rattle.gql_model.specs.Rules.{Rule, Depth, Nested}
use Rattle.gql_documents.specs.Parsing.{Outcome, Done, Fail, Parser, refuse, depth, nested}
use Rattle.gql_documents.proofs.Laws.{Exact, IsDone, IsFail, Viable, Sub, Agree, Shape, Begins, Law, Lawful, Inhabited, first, fail_rest}

abbrev Toks : Type 0
Toks = List Token

pub record Knot {A : Type 0} (F : Rule A → Rule A) (f : Parser A → Parser A) (s : Shape) : Type 1 where
  pub sound : s.sound ≡ true
  pub some : Inhabited (Depth F 1)
  pub step : (n : ℕ) (R V : Rule A) (p p' : Parser A) → Lawful n R V p p' s → Lawful (suc n) (F R) (F V) (f p) (f p') s

module _ {A : Type 0} (F : Rule A → Rule A) (f : Parser A → Parser A) (s : Shape) (knot : Knot F f s) where
  none : (p' : Parser A) → Lawful 0 (Depth F 0) (Depth F 1) (depth f 0) p' s
  unfolding depth refuse
  none p' = record {
    law = λ ok. record {
      exact = record {
        done = λ ts a rest e. absurd cc;
        fail = λ ts rest e. record { front = []; whole = fail_rest A ts rest e; local = λ other same. refl; viable = inl refl };
        complete = λ front a rest r g. absurd r;
      };
      begins = λ front a r. absurd r;
      sub = λ front a r. absurd r;
      some = λ h. knot.some;
      plain = λ front a r. absurd r;
      agree = λ ts lt. absurd (omega arith);
    };
  }

  level : (n m : ℕ) → n ≤ m → Lawful n (Depth F n) (Depth F (suc n)) (depth f n) (depth f m) s
  unfolding depth
  level zero m lt = none (depth f m)
  level (suc n) zero lt = absurd (omega arith)
  level (suc n) (suc m) lt = knot.step n (Depth F n) (Depth F (suc n)) (depth f n) (depth f m) (level n m (omega arith))

  at_level : (n : ℕ) → Law n (Depth F n) (Depth F (suc n)) (depth f n) (depth f n) s
  at_level n = (level n n (omega arith)).law knot.sound

  nested_at : (ts : Toks) (n : ℕ) → length ts < n → nested f ts ≡ depth f n ts
  unfolding nested
  nested_at ts n lt = ((level (suc (length ts)) n (omega arith)).law knot.sound).agree ts (omega arith)

  -- the parser goes over itself
  pub again : (ts : Toks) → nested f ts ≡ f (nested f) ts
  unfolding nested depth
  again ts =
      let n = length ts in
      let l = at_level n in
      let toward : Lawful n (Depth F n) (Depth F (suc n)) (depth f n) (nested f) s = record {
        law = λ ok. record {
          exact = l.exact;
          begins = l.begins;
          sub = l.sub;
          some = l.some;
          plain = l.plain;
          agree = λ us lt. sym (nested_at us n lt);
        };
      } in
      ((knot.step n (Depth F n) (Depth F (suc n)) (depth f n) (nested f) toward).law knot.sound).agree ts (omega arith)

  deeper : (n k : ℕ) → Sub (Depth F n) (Depth F (n + k))
  deeper n zero front a r = let e : n ≡ n + 0 = omega arith in subst (λ (m : ℕ). Depth F m front a) e r
  deeper n (suc k) front a r =
      let e : suc (n + k) ≡ n + suc k = omega arith in
      subst (λ (m : ℕ). Depth F m front a) e ((at_level (n + k)).sub front a (deeper n k front a r))

  nested_done : (ts : Toks) (a : A) (rest : Toks) → nested f ts ≡ Done a rest → IsDone (Nested F) (nested f) ts a rest
  nested_done ts a rest e =
      let n = suc (length ts) in
      let d = (at_level n).exact.done ts a rest (sym (nested_at ts n (omega arith)) ∙ e) in
      record {
        front = d.front;
        whole = d.whole;
        rule = (n, d.rule);
        local = λ other same.
            let m = n + suc (length (d.front ++ other)) in
            let g = (at_level m).exact.done ts a rest (sym (nested_at ts m (omega arith)) ∙ e) in
            let same_front : g.front ≡ d.front = append_cancel_right g.front d.front rest (sym g.whole ∙ d.whole) in
            nested_at (d.front ++ other) m (omega arith) ∙ rw same_front at (g.local other same);
      }

  nested_viable : (n : ℕ) (front : Toks) → (front ≡ []) ⊎ Viable (Depth F n) front → (front ≡ []) ⊎ Viable (Nested F) front
  nested_viable n front (inl e) = inl e
  nested_viable n front (inr v) = inr (record { more = v.more; tree = v.tree; rule = (n, v.rule) })

  nested_fail : (ts rest : Toks) → nested f ts ≡ Fail rest → IsFail (Nested F) (nested f) ts rest
  nested_fail ts rest e =
      let n = suc (length ts) in
      let d = (at_level n).exact.fail ts rest (sym (nested_at ts n (omega arith)) ∙ e) in
      record {
        front = d.front;
        whole = d.whole;
        local = λ other same.
            let m = n + suc (length (d.front ++ other)) in
            let g = (at_level m).exact.fail ts rest (sym (nested_at ts m (omega arith)) ∙ e) in
            let same_front : g.front ≡ d.front = append_cancel_right g.front d.front rest (sym g.whole ∙ d.whole) in
            nested_at (d.front ++ other) m (omega arith) ∙ rw same_front at (g.local other same);
        viable = nested_viable (suc n) d.front d.viable;
      }

  nested_complete : (front : Toks) (a : A) (rest : Toks) → Nested F front a → starts s.goes rest ≡ false → nested f (front ++ rest) ≡ Done a rest
  nested_complete front a rest (k, r) g =
      let m = k + suc (length (front ++ rest)) in
      nested_at (front ++ rest) m (omega arith) ∙ (at_level m).exact.complete front a rest (deeper k (suc (length (front ++ rest))) front a r) g

  pub law_nested : (n : ℕ) → Lawful n (Nested F) (Nested F) (nested f) (nested f) s
  law_nested n = record {
    law = λ ok. record {
      exact = record { done = nested_done; fail = nested_fail; complete = nested_complete };
      begins = λ front a r. (at_level r.0).begins front a r.1;
      sub = λ front a r. r;
      some = λ h. let i = knot.some in record { text = i.text; tree = i.tree; rule = (1, i.rule); at = i.at };
      plain = λ front a r. (at_level r.0).plain front a r.1;
      agree = λ ts lt. refl;
    };
  }
