-- Any number of parts.
use Rattle.std.proofs.Common.{◌≡◌, ℕ, zero, suc, ◌≤◌, ◌<◌, Bool, true, false, not, ◌&&◌, List, [], ◌∷◌, ◌++◌, length, refl, sym, ap, subst, ◌∙◌, append_assoc, append-nil, length-append, arith, inl, inr, ◌⊎◌}
use Rattle.gql_tokens.specs.Tokens.{Token}
use Rattle.gql_model.specs.Sorts.{Sort, is_in, starts}
use Rattle.gql_model.specs.Rules.{Rule, Many}
use Rattle.gql_documents.specs.Parsing.{Outcome, Done, Fail, Parser, and_then, many_from, many}
use Rattle.gql_documents.proofs.SortLaws.{apart, covers, starts_apart, starts_covers, starts_left, starts_right, and_left, and_right, not_true}
use Rattle.gql_documents.proofs.Laws.{Exact, IsDone, IsFail, Viable, Sub, Agree, Shape, Begins, Law, Lawful, Inhabited, has_last, plain_append, first, first-append, starts_first, and_then_done, and_then_fail, done_value, done_rest, done_not_fail, fail_rest, shortens}

abbrev Toks : Type 0
Toks = List Token

-- the test on the first token, which the parser that took a front had met
pub starts_there : (enter : List Sort) (front other rest : Toks) → first other ≡ first rest → (b : Bool) → starts enter (front ++ rest) ≡ b → starts enter (front ++ other) ≡ b
starts_there enter front other rest same b s = starts_first enter (front ++ other) (front ++ rest) (first-append front other rest same) ∙ s

-- ---- any number of parts

pub record Item {A : Type 0} (R V : Rule A) (enter : List Sort) (p : Parser A) (goes : List Sort) : Type 0 where
  pub exact : Exact R V p goes
  pub begins : (front : Toks) (a : A) (rest : Toks) → R front a → starts enter (front ++ rest) ≡ true
  pub sub : Sub R V
  -- one part doesn't go on where another begins
  pub apart : (front : Toks) (a : A) (rest : Toks) → R front a → starts goes (front ++ rest) ≡ false

nonempty : (enter : List Sort) (front : Toks) → starts enter (front ++ []) ≡ true → 1 ≤ length front
nonempty enter [] e = absurd cc
nonempty enter (x ∷ front) e = omega arith

-- a parser takes something
abbrev pub Eats : {A : Type 0} → Parser A → Type 0
Eats {A} p = (ts : Toks) (a : A) (mid : Toks) → p ts ≡ Done a mid → length mid < length ts

pub eats : {A : Type 0} {V : Rule A} (R : Rule A) (enter : List Sort) (p : Parser A) (goes : List Sort) → Item R V enter p goes → (ts : Toks) (a : A) (mid : Toks) → p ts ≡ Done a mid → length mid < length ts
eats R enter p goes item ts a mid e =
    let d = item.exact.done ts a mid e in
    let n = nonempty enter d.front (item.begins d.front a [] d.rule) in
    rw d.whole (rw length-append (omega arith))

abbrev pub cons_all : {A : Type 0} → A → List A → Toks → Outcome (List A)
cons_all a all rest = Done (a ∷ all) rest

many_stop : {A : Type 0} (n : ℕ) (enter : List Sort) (p : Parser A) (ts : Toks) → starts enter ts ≡ false → many_from n enter p ts ≡ Done [] ts
unfolding many_from
many_stop zero enter p ts s = refl
many_stop (suc n) enter p ts s = rw s refl

many_more : {A : Type 0} (n : ℕ) (enter : List Sort) (p : Parser A) (ts : Toks) (o : Outcome A) → starts enter ts ≡ true → p ts ≡ o → many_from (suc n) enter p ts ≡ and_then o (λ a mid. and_then (many_from n enter p mid) (cons_all a))
unfolding many_from
many_more n enter p ts o s e = rw (s, e) refl

-- two counts of turns lead to the same, behind the first part
same_turns : {A : Type 0} (n m : ℕ) (enter : List Sort) (p : Parser A) (o : Outcome A) → ((a : A) (mid : Toks) → o ≡ Done a mid → many_from n enter p mid ≡ many_from m enter p mid) → and_then o (λ a mid. and_then (many_from n enter p mid) (cons_all a)) ≡ and_then o (λ a mid. and_then (many_from m enter p mid) (cons_all a))
same_turns n m enter p (Done a mid) h = ap (λ (o : Outcome (List _)). and_then o (cons_all a)) (h a mid refl)
same_turns n m enter p (Fail r) h = refl

same_first : {A : Type 0} (n m : ℕ) (enter : List Sort) (p : Parser A) (ts : Toks) (b : Bool) → starts enter ts ≡ b → ((a : A) (mid : Toks) → p ts ≡ Done a mid → many_from n enter p mid ≡ many_from m enter p mid) → many_from (suc n) enter p ts ≡ many_from (suc m) enter p ts
same_first n m enter p ts true s h = many_more n enter p ts (p ts) s refl ∙ same_turns n m enter p (p ts) h ∙ sym (many_more m enter p ts (p ts) s refl)
same_first n m enter p ts false s h = many_stop (suc n) enter p ts s ∙ sym (many_stop (suc m) enter p ts s)

pub many_enough : {A : Type 0} (enter : List Sort) (p : Parser A) → Eats p → (n m : ℕ) (ts : Toks) → length ts ≤ n → length ts ≤ m → many_from n enter p ts ≡ many_from m enter p ts
many_enough enter p eat n m [] hn hm = many_stop n enter p [] refl ∙ sym (many_stop m enter p [] refl)
many_enough enter p eat zero m (x ∷ ts) hn hm = absurd (omega arith)
many_enough enter p eat (suc n) zero (x ∷ ts) hn hm = absurd (omega arith)
many_enough {A} enter p eat (suc n) (suc m) (x ∷ ts) hn hm =
    same_first n m enter p (x ∷ ts) (is_in enter x) refl (λ a mid e.
    let lt = eat (x ∷ ts) a mid e in
    many_enough enter p eat n m mid (omega arith) (omega arith))

pub many_none : {A : Type 0} (enter : List Sort) (p : Parser A) (ts : Toks) → starts enter ts ≡ false → many enter p ts ≡ Done [] ts
unfolding many
many_none enter p ts s = many_stop (length ts) enter p ts s

pub many_one : {A : Type 0} (enter : List Sort) (p : Parser A) → Eats p → (ts : Toks) (a : A) (mid : Toks) → starts enter ts ≡ true → p ts ≡ Done a mid → many enter p ts ≡ and_then (many enter p mid) (cons_all a)
unfolding many
many_one enter p eat [] a mid s e = absurd cc
many_one enter p eat (x ∷ ts) a mid s e =
    let lt = eat (x ∷ ts) a mid e in
    many_more (length ts) enter p (x ∷ ts) (Done a mid) s e ∙ ap (λ (o : Outcome (List _)). and_then o (cons_all a)) (many_enough enter p eat (length ts) (length mid) mid (omega arith) (omega arith))

pub many_bad : {A : Type 0} (enter : List Sort) (p : Parser A) (ts rest : Toks) → starts enter ts ≡ true → p ts ≡ Fail rest → many enter p ts ≡ Fail rest
unfolding many
many_bad enter p [] rest s e = absurd cc
many_bad enter p (x ∷ ts) rest s e = many_more (length ts) enter p (x ∷ ts) (Fail rest) s e

-- the first part and those behind it
many_first : {A : Type 0} {V : Rule A} (R : Rule A) (enter : List Sort) (p : Parser A) (goes : List Sort) → Item R V enter p goes → (ts : Toks) → starts enter ts ≡ true → (all : List A) (rest : Toks) (o : Outcome A) → p ts ≡ o → many enter p ts ≡ Done all rest
    → ((a : A) (mid : Toks) (all' : List A) → p ts ≡ Done a mid → many enter p mid ≡ Done all' rest → IsDone (Many R) (many enter p) mid all' rest) → IsDone (Many R) (many enter p) ts all rest
many_first R enter p goes item ts s all rest (Fail r) d e ih = absurd (done_not_fail _ _ _ (sym e ∙ many_bad enter p ts r s d))
many_first {A} R enter p goes item ts s all rest (Done a mid) d e ih =
    let h = and_then_done (many enter p mid) (cons_all a) all rest (sym (many_one enter p (eats R enter p goes item) ts a mid s d) ∙ e) in
    let all-is : a ∷ h.0 ≡ all = done_value _ _ _ _ h.3 in
    let left : h.1 ≡ rest = done_rest _ _ _ _ h.3 in
    let k = ih a mid h.0 d (h.2 ∙ ap (Done h.0) left) in
    let dp = item.exact.done ts a mid d in
    record {
      front = dp.front ++ k.front;
      whole = dp.whole ∙ ap (λ (r : Toks). dp.front ++ r) k.whole ∙ sym (append_assoc dp.front k.front rest);
      rule = subst (Many R (dp.front ++ k.front)) all-is (dp.front, k.front, refl, dp.rule, k.rule);
      local = λ other same.
          let e1 : p (dp.front ++ (k.front ++ other)) ≡ Done a (k.front ++ other) = dp.local (k.front ++ other) (first-append k.front other rest same ∙ ap first (sym k.whole)) in
          let begun : starts enter (dp.front ++ (k.front ++ other)) ≡ true = item.begins dp.front a (k.front ++ other) dp.rule in
          rw append_assoc (many_one enter p (eats R enter p goes item) (dp.front ++ (k.front ++ other)) a (k.front ++ other) begun e1 ∙ ap (λ (o : Outcome (List A)). and_then o (cons_all a)) (k.local other same) ∙ ap (λ (x : List A). Done x other) all-is);
    }

many_viable : {A : Type 0} (R : Rule A) (before front : Toks) (a : A) → R before a → (front ≡ []) ⊎ Viable (Many R) front → Viable (Many R) (before ++ front)
many_viable R before front a r (inl e) = record { more = []; tree = a ∷ []; rule = (before, [], rw e (append-nil (before ++ [])), r, refl) }
many_viable R before front a r (inr v) = record { more = v.more; tree = a ∷ v.tree; rule = (before, front ++ v.more, append_assoc before front v.more, r, v.rule) }

many_first_fail : {A : Type 0} {V : Rule A} (R : Rule A) (enter : List Sort) (p : Parser A) (goes : List Sort) → Item R V enter p goes → (ts : Toks) → starts enter ts ≡ true → (rest : Toks) (o : Outcome A) → p ts ≡ o → many enter p ts ≡ Fail rest
    → ((a : A) (mid : Toks) → p ts ≡ Done a mid → many enter p mid ≡ Fail rest → IsFail (Many V) (many enter p) mid rest) → IsFail (Many V) (many enter p) ts rest
many_first_fail {A} {V} R enter p goes item ts s rest (Fail r) d e ih =
    let same_rest : r ≡ rest = fail_rest (List A) r rest (sym (many_bad enter p ts r s d) ∙ e) in
    let h = item.exact.fail ts rest (d ∙ ap Fail same_rest) in
    record {
      front = h.front;
      whole = h.whole;
      local = λ other same. many_bad enter p (h.front ++ other) other (starts_there enter h.front other rest same true (ap (starts enter) (sym h.whole) ∙ s)) (h.local other same);
      viable = elim h.viable [ inl n ↦ inl n | inr v ↦ inr (record { more = v.more; tree = v.tree ∷ []; rule = (h.front ++ v.more, [], sym (append-nil (h.front ++ v.more)), v.rule, refl) }) ];
    }
many_first_fail {A} {V} R enter p goes item ts s rest (Done a mid) d e ih =
    elim (and_then_fail (many enter p mid) (cons_all a) rest (sym (many_one enter p (eats R enter p goes item) ts a mid s d) ∙ e)) [
      | inr bad ↦ absurd (done_not_fail _ _ _ bad.3)
      | inl f ↦
          let k = ih a mid d f in
          let dp = item.exact.done ts a mid d in
          record {
            front = dp.front ++ k.front;
            whole = dp.whole ∙ ap (λ (r : Toks). dp.front ++ r) k.whole ∙ sym (append_assoc dp.front k.front rest);
            local = λ other same.
                let e1 : p (dp.front ++ (k.front ++ other)) ≡ Done a (k.front ++ other) = dp.local (k.front ++ other) (first-append k.front other rest same ∙ ap first (sym k.whole)) in
                let begun : starts enter (dp.front ++ (k.front ++ other)) ≡ true = item.begins dp.front a (k.front ++ other) dp.rule in
                rw append_assoc (many_one enter p (eats R enter p goes item) (dp.front ++ (k.front ++ other)) a (k.front ++ other) begun e1 ∙ ap (λ (o : Outcome (List A)). and_then o (cons_all a)) (k.local other same));
            viable = inr (many_viable V dp.front k.front a (item.sub dp.front a dp.rule) k.viable);
          }
    ]

pub many_apart : {A : Type 0} {V : Rule A} (R : Rule A) (enter : List Sort) (p : Parser A) (goes : List Sort) → Item R V enter p goes → (front : Toks) (all : List A) (rest : Toks) → Many R front all → starts (enter ++ goes) rest ≡ false → starts goes (front ++ rest) ≡ false
many_apart R enter p goes item front [] rest r s = rw r (starts_right enter goes rest s)
many_apart R enter p goes item front (a ∷ all) rest r s = rw (r.2, append_assoc) (item.apart r.0 a (r.1 ++ rest) r.3)

many_done : {A : Type 0} {V : Rule A} (R : Rule A) (enter : List Sort) (p : Parser A) (goes : List Sort) → Item R V enter p goes → (n : ℕ) (ts : Toks) (b : Bool) → length ts ≤ n → starts enter ts ≡ b → (all : List A) (rest : Toks) → many enter p ts ≡ Done all rest → IsDone (Many R) (many enter p) ts all rest
many_done R enter p goes item n ts false lt s all rest e =
    let is : Done [] ts ≡ Done all rest = sym (many_none enter p ts s) ∙ e in
    let all-is : [] ≡ all = done_value _ _ _ _ is in
    let ts-is : ts ≡ rest = done_rest _ _ _ _ is in
    record {
      front = [];
      whole = ts-is;
      rule = subst (Many R []) all-is refl;
      local = λ other same. many_none enter p other (starts_first enter other ts (same ∙ ap first (sym ts-is)) ∙ s) ∙ ap (λ (x : List _). Done x other) all-is;
    }
many_done R enter p goes item zero [] true lt s all rest e = absurd cc
many_done R enter p goes item zero (x ∷ ts) true lt s all rest e = absurd (omega arith)
many_done R enter p goes item (suc n) ts true lt s all rest e = many_first R enter p goes item ts s all rest (p ts) refl e
    (λ a mid all' d e'. let less = eats R enter p goes item ts a mid d in many_done R enter p goes item n mid (starts enter mid) (omega arith) refl all' rest e')

many_fail : {A : Type 0} {V : Rule A} (R : Rule A) (enter : List Sort) (p : Parser A) (goes : List Sort) → Item R V enter p goes → (n : ℕ) (ts : Toks) (b : Bool) → length ts ≤ n → starts enter ts ≡ b → (rest : Toks) → many enter p ts ≡ Fail rest → IsFail (Many V) (many enter p) ts rest
many_fail R enter p goes item n ts false lt s rest e = absurd (done_not_fail _ _ _ (sym (many_none enter p ts s) ∙ e))
many_fail R enter p goes item zero [] true lt s rest e = absurd cc
many_fail R enter p goes item zero (x ∷ ts) true lt s rest e = absurd (omega arith)
many_fail R enter p goes item (suc n) ts true lt s rest e = many_first_fail R enter p goes item ts s rest (p ts) refl e
    (λ a mid d e'. let less = eats R enter p goes item ts a mid d in many_fail R enter p goes item n mid (starts enter mid) (omega arith) refl rest e')

many_complete : {A : Type 0} {V : Rule A} (R : Rule A) (enter : List Sort) (p : Parser A) (goes : List Sort) → Item R V enter p goes → (front : Toks) (all : List A) (rest : Toks) → Many R front all → starts (enter ++ goes) rest ≡ false → many enter p (front ++ rest) ≡ Done all rest
many_complete R enter p goes item front [] rest r s = rw r (many_none enter p rest (starts_left enter goes rest s))
many_complete R enter p goes item front (a ∷ all) rest r s =
    let e2 = many_complete R enter p goes item r.1 all rest r.4 s in
    let stop : starts goes (r.1 ++ rest) ≡ false = many_apart R enter p goes item r.1 all rest r.4 s in
    let e1 : p (r.0 ++ (r.1 ++ rest)) ≡ Done a (r.1 ++ rest) = item.exact.complete r.0 a (r.1 ++ rest) r.3 stop in
    let begun : starts enter (r.0 ++ (r.1 ++ rest)) ≡ true = item.begins r.0 a (r.1 ++ rest) r.3 in
    rw (r.2, append_assoc) (many_one enter p (eats R enter p goes item) (r.0 ++ (r.1 ++ rest)) a (r.1 ++ rest) begun e1 ∙ ap (λ (o : Outcome (List _)). and_then o (cons_all a)) e2)

pub exact_many : {A : Type 0} {R V : Rule A} {enter : List Sort} {p : Parser A} {goes : List Sort} → Item R V enter p goes → Exact (Many R) (Many V) (many enter p) (enter ++ goes)
exact_many {R = R} {enter = enter} {p = p} {goes = goes} item = record {
  done = λ ts all rest e. many_done R enter p goes item (length ts) ts (starts enter ts) (omega arith) refl all rest e;
  fail = λ ts rest e. many_fail R enter p goes item (length ts) ts (starts enter ts) (omega arith) refl rest e;
  complete = many_complete R enter p goes item;
}

-- ---- parsers that agree on short texts

both : {A : Type 0} (n : ℕ) (enter : List Sort) (p p' : Parser A) (o : Outcome A) → ((a : A) (mid : Toks) → o ≡ Done a mid → many_from n enter p mid ≡ many_from n enter p' mid) → and_then o (λ a mid. and_then (many_from n enter p mid) (cons_all a)) ≡ and_then o (λ a mid. and_then (many_from n enter p' mid) (cons_all a))
both {A} n enter p p' (Done a mid) h = ap (λ (o : Outcome (List A)). and_then o (cons_all a)) (h a mid refl)
both n enter p p' (Fail r) h = refl

agree_turn : {A : Type 0} (n : ℕ) (enter : List Sort) (p p' : Parser A) (ts : Toks) (b : Bool) → starts enter ts ≡ b → p ts ≡ p' ts → ((a : A) (mid : Toks) → p ts ≡ Done a mid → many_from n enter p mid ≡ many_from n enter p' mid) → many_from (suc n) enter p ts ≡ many_from (suc n) enter p' ts
agree_turn n enter p p' ts true s e h = many_more n enter p ts (p ts) s refl ∙ both n enter p p' (p ts) h ∙ sym (many_more n enter p' ts (p ts) s (sym e))
agree_turn n enter p p' ts false s e h = many_stop (suc n) enter p ts s ∙ sym (many_stop (suc n) enter p' ts s)

agree_turns : {A : Type 0} (k n : ℕ) (enter : List Sort) (p p' : Parser A) → ((ts : Toks) (a : A) (mid : Toks) → p ts ≡ Done a mid → length mid ≤ length ts) → Agree n p p' → Agree n (many_from k enter p) (many_from k enter p')
unfolding many_from
agree_turns zero n enter p p' short h ts lt = refl
agree_turns (suc k) n enter p p' short h ts lt = agree_turn k enter p p' ts (starts enter ts) refl (h ts lt)
    (λ a mid e. let less = short ts a mid e in agree_turns k n enter p p' short h mid (omega arith))

pub agree_many : {A : Type 0} (n : ℕ) (enter : List Sort) {p p' : Parser A} → ((ts : Toks) (a : A) (mid : Toks) → p ts ≡ Done a mid → length mid ≤ length ts) → Agree n p p' → Agree n (many enter p) (many enter p')
unfolding many
agree_many n enter {p} {p'} short h ts lt = agree_turns (length ts) n enter p p' short h ts lt

-- ---- the law

abbrev pub repeated_shape : List Sort → Shape → Shape
repeated_shape sorts s = record {
  empty = true;
  enter = sorts;
  goes = sorts ++ s.goes;
  some = true;
  sound = s.sound && (not s.empty && (covers sorts s.enter && apart s.enter s.goes));
}

starts_front : (sorts : List Sort) (front rest : Toks) → starts sorts front ≡ true → starts sorts (front ++ rest) ≡ true
starts_front sorts [] rest e = absurd cc
starts_front sorts (x ∷ front) rest e = e

-- what isn't empty begins with one of its first tokens
pub entered : (s : Shape) (front : Toks) → Begins s front → not s.empty ≡ true → starts s.enter front ≡ true
entered s front (inl h) n = h
entered s front (inr k) n = let h : s.empty ≡ false = not_true s.empty n in absurd cc

pub item_of : {A : Type 0} {n : ℕ} {R V : Rule A} {p p' : Parser A} {s : Shape} (sorts : List Sort) → Law n R V p p' s → not s.empty ≡ true → covers sorts s.enter ≡ true → apart s.enter s.goes ≡ true → Item R V sorts p s.goes
item_of {s = s} sorts l nonempty cover d = record {
  exact = l.exact;
  begins = λ front a rest r. starts_covers sorts s.enter (front ++ rest) cover (starts_front s.enter front rest (entered s front (l.begins front a r) nonempty));
  sub = l.sub;
  apart = λ front a rest r. starts_apart s.enter s.goes (front ++ rest) d (starts_front s.enter front rest (entered s front (l.begins front a r) nonempty));
}

many_begins : {A : Type 0} {R V : Rule A} {sorts : List Sort} {p : Parser A} {goes : List Sort} (s : Shape) → Item R V sorts p goes → (front : Toks) (all : List A) → Many R front all → Begins (repeated_shape sorts s) front
many_begins s item front [] r = inr (refl, r)
many_begins s item front (a ∷ all) r = inl (rw r.2 (item.begins r.0 a r.1 r.3))

pub sub_many : {A : Type 0} {R V : Rule A} → Sub R V → Sub (Many R) (Many V)
sub_many f front [] r = r
sub_many f front (a ∷ all) r = (r.0, r.1, r.2, f r.0 a r.3, sub_many f r.1 all r.4)

many_plain : {A : Type 0} {R : Rule A} → ((front : Toks) (a : A) → R front a → has_last front ≡ false) → (front : Toks) (all : List A) → Many R front all → has_last front ≡ false
many_plain h front [] r = rw r refl
many_plain h front (a ∷ all) r = rw r.2 (plain_append r.0 r.1 (h r.0 a r.3) (many_plain h r.1 all r.4))

pub law_many : {A : Type 0} {n : ℕ} {R V : Rule A} {p p' : Parser A} {s : Shape} (sorts : List Sort) → Lawful n R V p p' s → Lawful n (Many R) (Many V) (many sorts p) (many sorts p') (repeated_shape sorts s)
law_many {n = n} {s = s} sorts l = record {
  law = λ ok.
      let lp = l.law (and_left _ _ ok) in
      let ok2 = and_right s.sound _ ok in
      let ok3 = and_right (not s.empty) _ ok2 in
      let item = item_of sorts lp (and_left _ _ ok2) (and_left _ _ ok3) (and_right (covers sorts s.enter) _ ok3) in
      record {
        exact = exact_many item;
        begins = many_begins s item;
        sub = sub_many lp.sub;
        some = λ h. record { text = []; tree = []; rule = refl; at = refl };
        plain = many_plain lp.plain;
        agree = agree_many n sorts (shortens lp.exact) lp.agree;
      };
}

-- what isn't empty takes a token
pub eats_of : {A : Type 0} {n : ℕ} {R V : Rule A} {p p' : Parser A} {s : Shape} → Law n R V p p' s → s.empty ≡ false → Eats p
eats_of {s = s} l nonempty ts a mid e =
    let d = l.exact.done ts a mid e in
    let some = taken s.enter d.front (entered s d.front (l.begins d.front a d.rule) (ap not nonempty)) in
    rw d.whole (rw length-append (omega arith))
  where
    taken : (sorts : List Sort) (front : Toks) → starts sorts front ≡ true → 1 ≤ length front
    taken sorts [] e = absurd cc
    taken sorts (x ∷ front) e = omega arith
