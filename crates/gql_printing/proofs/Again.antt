-- The tokens that a tree is written as derive it again, places aside; the laws of the grammar's parts.
use Rattle.std.proofs.Common.{◌≡◌, ℕ, zero, suc, Bool, true, false, List, [], ◌∷◌, ◌++◌, map, Option, Some, None, refl, sym, ap, ap₂, subst, ◌∙◌, inl, inr}
use Rattle.std.specs.Prelude.{is_some}
use Rattle.std.specs.Option.{option_map}
use Rattle.gql_tokens.specs.Tokens.{Token}
use Rattle.gql_tokens.specs.declared.token.Kind.{Kind}
use Rattle.gql_tokens.specs.declared.token.Place.{Place}
use Rattle.gql_spelling.specs.Spelling.{bare, mark_of, IsTextOf, AreSpelled, ArePrintable}
use Rattle.gql_model.specs.Sorts.{Sort, is_in, mark}
use Rattle.gql_model.specs.Rules.{Rule, The, unit_if, Seq, Opt, Many, Made, Whether, Either, Unless, Here, Behind, Before, Between, Nested, Depth, More, Perhaps, place_of, last, former, cons, or_none}
use Rattle.gql_printing.specs.Tokens.{Toks, token, punctuator, joined, optional, grouped}
use Rattle.gql_printing.proofs.Joining.{Joins, is_calm, joins_nil, joins_one, joins_append, joins_between}

-- tokens without their places
abbrev pub bares : Toks → List (Kind × List ℕ)
bares ts = map bare ts

-- These tokens, wherever they stand, derive a tree that is t in the sense of s. Each can be printed, and no integer stands before `...`.
pub record Again {A S : Type 0} (c : Bool) (R : Rule A) (s : A → S) (t : S) (tokens : Toks) : Type 0 where
  pub again : (ts : Toks) → bares ts ≡ bares tokens → (a : A) × R ts a × (s a ≡ t)
  pub spelled : AreSpelled tokens
  pub joins : Joins c tokens

-- what is written for a tree that some printable tokens derive by one rule derives it by the other
pub record Spells {A S : Type 0} (c : Bool) (R R' : Rule A) (s : A → S) (p : A → Toks) : Type 0 where
  pub law : (front : Toks) (a : A) → R front a → ArePrintable front → Again c R' s (s a) (p a)

-- ---- tokens, places aside

pub empty : (ts : Toks) → bares ts ≡ [] → ts ≡ []
empty [] e = refl
empty (x ∷ ts) e = absurd cc

pub single : (k : Kind × List ℕ) (ts : Toks) → bares ts ≡ k ∷ [] → (y : Token) × (ts ≡ y ∷ []) × (bare y ≡ k)
single k [] e = absurd cc
single k (y ∷ ts) e = let same : bare y ≡ k = cc in let none : bares ts ≡ [] = cc in (y, ap (λ (r : Toks). y ∷ r) (empty ts none), same)

pub record Cut (p q ts : Toks) : Type 0 where
  pub left : Toks
  pub right : Toks
  pub whole : ts ≡ left ++ right
  pub first : bares left ≡ bares p
  pub second : bares right ≡ bares q

pub cut : (p q ts : Toks) → bares ts ≡ bares (p ++ q) → Cut p q ts
cut [] q ts e = record { left = []; right = ts; whole = refl; first = refl; second = e }
cut (x ∷ p) q [] e = absurd cc
cut (x ∷ p) q (y ∷ ts) e =
    let same : bare y ≡ bare x = cc in
    let more : bares ts ≡ bares (p ++ q) = cc in
    let m = cut p q ts more in
    record {
      left = y ∷ m.left;
      right = m.right;
      whole = ap (λ (r : Toks). y ∷ r) m.whole;
      first = ap₂ (λ (k : Kind × List ℕ) (r : List (Kind × List ℕ)). k ∷ r) same m.first;
      second = m.second;
    }

pub spelled_append : (a b : Toks) → AreSpelled a → AreSpelled b → AreSpelled (a ++ b)
spelled_append [] b h k = k
spelled_append (x ∷ a) b h k = (h.0, spelled_append a b h.1 k)

pub printable_left : (a b : Toks) → ArePrintable (a ++ b) → ArePrintable a
printable_left [] b h = tt
printable_left (x ∷ a) b h = (h.0, printable_left a b h.1)

pub printable_right : (a b : Toks) → ArePrintable (a ++ b) → ArePrintable b
printable_right [] b h = h
printable_right (x ∷ a) b h = printable_right a b h.1

-- ---- one token that stands for itself

-- any token of these sorts may be written as this one
pub record Fixed (c : Bool) (sorts : List Sort) (k : Kind) (text : List ℕ) : Type 0 where
  pub spelled : IsTextOf k text
  pub calm : is_calm c k ≡ true
  pub is : (place : Place) → is_in sorts (record { kind = k; text = text; place = place }) ≡ true

pub again_the : {c : Bool} {sorts : List Sort} {k : Kind} {text : List ℕ} → Fixed c sorts k text → Again c (The sorts) (λ (u : Unit {0}). u) tt (token k text ∷ [])
again_the {c} {sorts} {k} {text} f = record {
  again = λ ts e.
      let one = single (k, text) ts e in
      let sort : is_in sorts one.0 ≡ true = ap (λ (b : Kind × List ℕ). is_in sorts (record { kind = b.0; text = b.1; place = one.0.place })) one.2 ∙ f.is one.0.place in
      (tt, (one.0, one.1, ap unit_if sort), refl);
  spelled = (f.spelled, tt);
  joins = joins_one c (token k text) f.calm;
}

pub spells_the : {c : Bool} {sorts : List Sort} {k : Kind} {text : List ℕ} → Fixed c sorts k text → Spells c (The sorts) (The sorts) (λ (u : Unit {0}). u) (λ u. token k text ∷ [])
spells_the f = record { law = λ front u r h. again_the f }

-- ---- one part and then another

abbrev pub both : {A B S T : Type 0} → (A → S) → (B → T) → A × B → S × T
both s u x = (s x.0, u x.1)

abbrev pub both_tokens : {A B : Type 0} → (A → Toks) → (B → Toks) → A × B → Toks
both_tokens p q x = p x.0 ++ q x.1

pub again_seq : {A B S T : Type 0} {c : Bool} {R : Rule A} {W : Rule B} {s : A → S} {u : B → T} {a : S} {b : T} {p q : Toks}
    → Again c R s a p → Again c W u b q → Again c (Seq R W) (both s u) (a, b) (p ++ q)
again_seq {S = S} {T = T} {c = c} {a = a} {b = b} {p = p} {q = q} h k = record {
  again = λ ts e.
      let m = cut p q ts e in
      let x = h.again m.left m.first in
      let y = k.again m.right m.second in
      ((x.0, y.0), record { before = m.left; after = m.right; whole = m.whole; first = x.1; second = y.1 }, pair x.2 y.2);
  spelled = spelled_append p q h.spelled k.spelled;
  joins = joins_append c p q h.joins k.joins;
}
  where
    made : S → T → S × T
    made x y = (x, y)

    pair : {x : S} {y : T} → x ≡ a → y ≡ b → made x y ≡ made a b
    pair e f = ap₂ made e f

pub spells_seq : {A B S T : Type 0} {c : Bool} {R R' : Rule A} {W W' : Rule B} {s : A → S} {u : B → T} {p : A → Toks} {q : B → Toks}
    → Spells c R R' s p → Spells c W W' u q → Spells c (Seq R W) (Seq R' W') (both s u) (both_tokens p q)
spells_seq l m = record {
  law = λ front ab r h.
      let parts = subst ArePrintable r.whole h in
      again_seq (l.law r.before ab.0 r.first (printable_left r.before r.after parts)) (m.law r.after ab.1 r.second (printable_right r.before r.after parts));
}

-- ---- what is made of a part

pub spells_made : {A C S T : Type 0} {c : Bool} {R R' : Rule A} {s : A → S} {p : A → Toks} (f f' : A → C) (u : C → T) (q : C → Toks) (g : S → T)
    → ((a : A) → u (f a) ≡ g (s a)) → ((a : A) → u (f' a) ≡ g (s a)) → ((front : Toks) (a : A) → R front a → q (f a) ≡ p a)
    → Spells c R R' s p → Spells c (Made f R) (Made f' R') u q
spells_made {c = c} f f' u q g e e' w l = record {
  law = λ front b r h.
      let x = l.law front r.of r.rule h in
      let same = ap q (sym r.is) ∙ w front r.of r.rule in
      record {
        again = λ ts is.
            let k = x.again ts (is ∙ ap bares same) in
            (f' k.0, record { of = k.0; is = refl; rule = k.1 }, e' k.0 ∙ ap g k.2 ∙ sym (e r.of) ∙ ap u r.is);
        spelled = subst AreSpelled (sym same) x.spelled;
        joins = subst (Joins c) (sym same) x.joins;
      };
}

-- the same where it is made in one way
pub spells_as : {A C S T : Type 0} {c : Bool} {R R' : Rule A} {s : A → S} {p : A → Toks} (f : A → C) (u : C → T) (q : C → Toks) (g : S → T)
    → ((a : A) → u (f a) ≡ g (s a)) → ((a : A) → q (f a) ≡ p a) → Spells c R R' s p → Spells c (Made f R) (Made f R') u q
spells_as f u q g e w l = spells_made f f u q g e e (λ front a r. w a) l

pub spells_either : {A S : Type 0} {c : Bool} {R R' W W' : Rule A} {s : A → S} {p : A → Toks} → Spells c R R' s p → Spells c W W' s p → Spells c (Either R W) (Either R' W') s p
spells_either {A} {S} {c} {R} {R'} {W} {W'} {s} {p} l m = record { law = chosen }
  where
    chosen : (front : Toks) (a : A) → Either R W front a → ArePrintable front → Again c (Either R' W') s (s a) (p a)
    chosen front a (inl r) h = let x = l.law front a r h in record { again = λ ts e. let k = x.again ts e in (k.0, inl k.1, k.2); spelled = x.spelled; joins = x.joins }
    chosen front a (inr r) h = let x = m.law front a r h in record { again = λ ts e. let k = x.again ts e in (k.0, inr k.1, k.2); spelled = x.spelled; joins = x.joins }

pub spells_unless : {A S : Type 0} {c : Bool} {R R' : Rule A} {s : A → S} {p : A → Toks} (flag : Bool) → Spells c R R' s p → Spells c (Unless flag R) (Unless flag R') s p
spells_unless flag l = record {
  law = λ front a r h. let x = l.law front a r.1 h in record { again = λ ts e. let k = x.again ts e in (k.0, (r.0, k.1), k.2); spelled = x.spelled; joins = x.joins };
}

pub spells_here : {A S : Type 0} {c : Bool} {R R' : Place → Rule A} {s : A → S} {p : A → Toks} → ((place place' : Place) → Spells c (R place) (R' place') s p) → Spells c (Here R) (Here R') s p
spells_here l = record {
  law = λ front a r h.
      let x = (l (place_of front) (place_of front)).law front a r h in
      record { again = λ ts e. ((l (place_of front) (place_of ts)).law front a r h).again ts e; spelled = x.spelled; joins = x.joins };
}

-- ---- parts that may be left out, and lists

pub again_none : {A S : Type 0} {c : Bool} {R : Rule A} {s : A → S} → Again c (Opt R) (option_map s) None []
again_none {c = c} = record { again = λ ts e. (None, empty ts e, refl); spelled = tt; joins = joins_nil c }

pub spells_opt : {A S : Type 0} {c : Bool} {R R' : Rule A} {s : A → S} {p : A → Toks} → Spells c R R' s p → Spells c (Opt R) (Opt R') (option_map s) (optional p)
spells_opt {A} {S} {c} {R} {R'} {s} {p} l = record { law = given }
  where
    given : (front : Toks) (a : Option A) → Opt R front a → ArePrintable front → Again c (Opt R') (option_map s) (option_map s a) (optional p a)
    given front None r h = again_none
    given front (Some a) r h = let x = l.law front a r h in record { again = λ ts e. let k = x.again ts e in (Some k.0, k.1, ap Some k.2); spelled = x.spelled; joins = x.joins }

abbrev pub joined_by : {A : Type 0} → (A → Toks) → List A → Toks
joined_by p all = joined (map p all)

pub again_nil : {A S : Type 0} {c : Bool} {R : Rule A} {s : A → S} → Again c (Many R) (map s) [] []
again_nil {c = c} = record { again = λ ts e. ([], empty ts e, refl); spelled = tt; joins = joins_nil c }

pub again_cons : {A S : Type 0} {c : Bool} {R : Rule A} {s : A → S} {a : S} {all : List S} {p q : Toks} → Again c R s a p → Again c (Many R) (map s) all q → Again c (Many R) (map s) (a ∷ all) (p ++ q)
again_cons {c = c} {p = p} {q = q} h k = record {
  again = λ ts e.
      let m = cut p q ts e in
      let x = h.again m.left m.first in
      let y = k.again m.right m.second in
      (x.0 ∷ y.0, (m.left, m.right, m.whole, x.1, y.1), ap₂ (λ (b : _) (bs : _). b ∷ bs) x.2 y.2);
  spelled = spelled_append p q h.spelled k.spelled;
  joins = joins_append c p q h.joins k.joins;
}

pub spells_many : {A S : Type 0} {c : Bool} {R R' : Rule A} {s : A → S} {p : A → Toks} → Spells c R R' s p → Spells c (Many R) (Many R') (map s) (joined_by p)
spells_many {A} {S} {c} {R} {R'} {s} {p} l = record { law = each }
  where
    each : (front : Toks) (all : List A) → Many R front all → ArePrintable front → Again c (Many R') (map s) (map s all) (joined_by p all)
    each front [] r h = again_nil
    each front (a ∷ all) r h =
        let parts = subst ArePrintable r.2 h in
        again_cons (l.law r.0 a r.3 (printable_left r.0 r.1 parts)) (each r.1 all r.4 (printable_right r.0 r.1 parts))

pub spells_more : {A S : Type 0} {c : Bool} {R R' : Rule A} {s : A → S} {p : A → Toks} → Spells c R R' s p → Spells c (More R) (More R') (map s) (joined_by p)
spells_more {s = s} {p = p} l = spells_as cons (map s) (joined_by p) cons (λ a. refl) (λ a. refl) (spells_seq l (spells_many l))

-- ---- what stands behind, before and between tokens

pub spells_behind : {A S : Type 0} {c : Bool} {sorts : List Sort} {k : Kind} {text : List ℕ} {R R' : Rule A} {s : A → S} {p : A → Toks} → Fixed c sorts k text → Spells c R R' s p → Spells c (Behind sorts R) (Behind sorts R') s (λ a. token k text ∷ p a)
spells_behind {k = k} {text = text} {s = s} {p = p} f l = spells_as last s (λ a. token k text ∷ p a) last (λ a. refl) (λ a. refl) (spells_seq (spells_the f) l)

pub spells_before : {A S : Type 0} {c : Bool} {sorts : List Sort} {k : Kind} {text : List ℕ} {R R' : Rule A} {s : A → S} {p : A → Toks} → Fixed c sorts k text → Spells c R R' s p → Spells c (Before sorts R) (Before sorts R') s (λ a. p a ++ token k text ∷ [])
spells_before {k = k} {text = text} {s = s} {p = p} f l = spells_as former s (λ a. p a ++ token k text ∷ []) former (λ a. refl) (λ a. refl) (spells_seq l (spells_the f))

-- between two tokens either class may stand
pub spells_between : {A S : Type 0} {d : Bool} {left right : List Sort} {k j : Kind} {text end : List ℕ} {R R' : Rule A} {s : A → S} {p : A → Toks}
    → ((c : Bool) → Fixed c left k text) → ((c : Bool) → Fixed c right j end) → Spells d R R' s p → (c : Bool) → Spells c (Between left right R) (Between left right R') s (λ a. token k text ∷ (p a ++ token j end ∷ []))
spells_between {d = d} {k = k} {j = j} {text = text} {end = end} {p = p} f g l c = record {
  law = λ front a r h.
      let x = (spells_behind (f d) (spells_before (g d) l)).law front a r h in
      record { again = x.again; spelled = x.spelled; joins = joins_between c d (token k text) (token j end) (p a) (f c).calm (g true).calm x.joins };
}

pub spells_perhaps : {A S : Type 0} {c : Bool} {R R' : Rule (List A)} {s : A → S} {p : List A → Toks} (q : List A → Toks) → q [] ≡ [] → ((front : Toks) (all : List A) → R front all → q all ≡ p all) → Spells c R R' (map s) p → Spells c (Perhaps R) (Perhaps R') (map s) q
spells_perhaps {A} {S} {R = R} {s = s} {p = p} q n e l = spells_made or_none or_none (map s) q or_none meant meant written (spells_opt l)
  where
    meant : (a : Option (List A)) → map s (or_none a) ≡ or_none (option_map (map s) a)
    meant None = refl
    meant (Some all) = refl

    written : (front : Toks) (a : Option (List A)) → Opt R front a → q (or_none a) ≡ optional p a
    written front None r = n
    written front (Some all) r = e front all r

-- one or more is some
pub some_between : {A : Type 0} {R : Rule A} (left right : List Sort) (P : List A → Type 0) (front : Toks) (all : List A) → Between left right (More R) front all → ((a : A) (more : List A) → P (a ∷ more)) → P all
some_between left right P front all r h = subst P (r.rule.second.rule.first.is ∙ r.rule.second.is ∙ r.is) (h r.rule.second.rule.first.of.0 r.rule.second.rule.first.of.1)

-- a list between two tokens, or nothing
pub spells_grouped : {A S : Type 0} {d : Bool} {R R' : Rule A} {s : A → S} {p : A → Toks} (left right : Kind)
    → ((c : Bool) → Fixed c (mark left) left (mark_of left)) → ((c : Bool) → Fixed c (mark right) right (mark_of right)) → Spells d R R' s p → (c : Bool) → Spells c (Perhaps (Between (mark left) (mark right) (More R))) (Perhaps (Between (mark left) (mark right) (More R'))) (map s) (grouped left right p)
spells_grouped {p = p} left right f g l c =
    spells_perhaps (grouped left right p) refl
    (λ front all r. some_between (mark left) (mark right) (λ all. grouped left right p all ≡ punctuator left ∷ (joined_by p all ++ punctuator right ∷ [])) front all r (λ a more. refl))
    (spells_between f g (spells_more l) c)

-- whether a token stands there
pub spells_whether : {c : Bool} {sorts : List Sort} {k : Kind} {text : List ℕ} (q : Bool → Toks) → Fixed c sorts k text → q true ≡ token k text ∷ [] → q false ≡ [] → Spells c (Whether sorts) (Whether sorts) (λ (b : Bool). b) q
spells_whether {k = k} {text = text} q f t n = spells_as is_some (λ (b : Bool). b) q is_some meant written (spells_opt (spells_the f))
  where
    meant : (a : Option (Unit {0})) → is_some a ≡ is_some (option_map (λ (u : Unit {0}). u) a)
    meant None = refl
    meant (Some u) = refl

    written : (a : Option (Unit {0})) → q (is_some a) ≡ optional (λ (u : Unit {0}). token k text ∷ []) a
    written None = n
    written (Some u) = t

-- ---- rules over themselves

pub spells_nested : {A S : Type 0} {c : Bool} {s : A → S} {p : A → Toks} (F : Rule A → Rule A) → ((R R' : Rule A) → Spells c R R' s p → Spells c (F R) (F R') s p) → Spells c (Nested F) (Nested F) s p
spells_nested {A} {S} {c} {s} {p} F step = record {
  law = λ front a r h. let x = (at r.0).law front a r.1 h in record { again = λ ts e. let k = x.again ts e in (k.0, (r.0, k.1), k.2); spelled = x.spelled; joins = x.joins };
}
  where
    at : (n : ℕ) → Spells c (Depth F n) (Depth F n) s p
    at zero = record { law = λ front a r h. absurd r }
    at (suc n) = record { law = (step (Depth F n) (Depth F n) (at n)).law }
