-- What the parser of a rule keeps, and the parsers of a grammar's parts keep it.
use Rattle.std.proofs.Common.{◌≡◌, ℕ, zero, suc, ◌≤◌, ◌<◌, Bool, true, false, cond, not, ◌&&◌, ◌||◌, List, [], ◌∷◌, ◌++◌, length, Option, Some, None, refl, sym, ap, subst, ◌∙◌, append_assoc, append-nil, length-append, arith, inl, inr, ◌⊎◌}
use Rattle.gql_tokens.specs.Tokens.{Token}
use Rattle.gql_tokens.specs.declared.token.Place.{Place}
use Rattle.gql_tokens.specs.declared.token.Kind.{Kind}
use Rattle.gql_tokens.specs.declared.token.Kind.TheVariants as kind
use Rattle.gql_tokens.specs.Heads.{is_last}
use Rattle.std.specs.Prelude.{nat_eq}
use Rattle.gql_model.specs.Sorts.{Sort, Mark, Word, Unlike, rank, has_kind, is_of, is_in, starts}
use Rattle.gql_model.specs.Rules.{Rule, One, The, the, unit_if, Seq, Opt, Many, Made, Either, Unless, Here, place_of}
use Rattle.gql_documents.specs.Parsing.{Outcome, Done, Fail, Parser, and_then, taken, tok, token, seq, via, opt, either, many_from, many, unless, here}
use Rattle.gql_documents.proofs.SortLaws.{apart, covers, starts_apart, starts_covers, starts_left, starts_right, starts_more, starts_also, starts_less, and_left, and_right, or_left, or_right, or_cases, not_true}

abbrev pub Toks : Type 0
Toks = List Token

abbrev pub first : Toks → Option Token
first [] = None
first (x ∷ rest) = Some x

pub first-append : (front a b : Toks) → first a ≡ first b → first (front ++ a) ≡ first (front ++ b)
first-append [] a b e = e
first-append (x ∷ front) a b e = refl

pub starts_first : (sorts : List Sort) (a b : Toks) → first a ≡ first b → starts sorts a ≡ starts sorts b
starts_first sorts [] [] e = refl
starts_first sorts [] (y ∷ b) e = absurd cc
starts_first sorts (x ∷ a) [] e = absurd cc
starts_first sorts (x ∷ a) (y ∷ b) e = let s : x ≡ y = cc in ap (is_in sorts) s

pub place_first : (a b : Toks) → first a ≡ first b → place_of a ≡ place_of b
place_first [] [] e = refl
place_first [] (y ∷ b) e = absurd cc
place_first (x ∷ a) [] e = absurd cc
place_first (x ∷ a) (y ∷ b) e = let s : x ≡ y = cc in ap (λ (t : Token). t.place) s

-- ---- what a parser keeps of its rule

-- a front of some text that the rule derives
pub record Viable {A : Type 0} (R : Rule A) (front : Toks) : Type 0 where
  pub more : Toks
  pub tree : A
  pub rule : R (front ++ more) tree

-- the parser took this front, whatever stands behind the next token
pub record IsDone {A : Type 0} (R : Rule A) (p : Parser A) (ts : Toks) (a : A) (rest : Toks) : Type 0 where
  pub front : Toks
  pub whole : ts ≡ front ++ rest
  pub rule : R front a
  pub local : (other : Toks) → first other ≡ first rest → p (front ++ other) ≡ Done a other

-- the parser stopped behind this front, whatever stands behind the next token
pub record IsFail {A : Type 0} (V : Rule A) (p : Parser A) (ts rest : Toks) : Type 0 where
  pub front : Toks
  pub whole : ts ≡ front ++ rest
  pub local : (other : Toks) → first other ≡ first rest → p (front ++ other) ≡ Fail other
  pub viable : (front ≡ []) ⊎ Viable V front

pub record Exact {A : Type 0} (R V : Rule A) (p : Parser A) (goes : List Sort) : Type 0 where
  pub done : (ts : Toks) (a : A) (rest : Toks) → p ts ≡ Done a rest → IsDone R p ts a rest
  pub fail : (ts rest : Toks) → p ts ≡ Fail rest → IsFail V p ts rest
  pub complete : (front : Toks) (a : A) (rest : Toks) → R front a → starts goes rest ≡ false → p (front ++ rest) ≡ Done a rest

abbrev pub origin : Place
origin = record { row = 1; column = 1 }

-- some text and its tree
pub record Inhabited {A : Type 0} (V : Rule A) : Type 0 where
  pub text : Toks
  pub tree : A
  pub rule : V text tree
  pub at : place_of text ≡ origin

abbrev pub Sub : {A : Type 0} → Rule A → Rule A → Type 0
Sub {A} R S = (front : Toks) (a : A) → R front a → S front a

-- parsers that agree on texts of fewer tokens
abbrev pub Agree : {A : Type 0} → ℕ → Parser A → Parser A → Type 0
Agree n p q = (ts : Toks) → length ts < n → p ts ≡ q ts

-- a fault or the end is among the tokens
abbrev pub has_last : Toks → Bool
has_last [] = false
has_last (x ∷ rest) = is_last x.kind || has_last rest

pub plain_append : (a b : Toks) → has_last a ≡ false → has_last b ≡ false → has_last (a ++ b) ≡ false
plain_append [] b e f = f
plain_append (x ∷ a) b e f = rw (or_left (is_last x.kind) _ e) (plain_append a b (or_right (is_last x.kind) _ e) f)

-- none of these sorts is of faults or ends
abbrev pub last_free : List Sort → Bool
last_free [] = true
last_free (Mark k ∷ sorts) = not (is_last k) && last_free sorts
last_free (Word w ∷ sorts) = last_free sorts
last_free (Unlike ws ∷ sorts) = last_free sorts

-- what the texts of a rule look like: whether one may be empty, what one begins with, what its parser
-- would go on with, whether there is one, and whether one token is enough to choose
pub record Shape : Type 0 where
  pub empty : Bool
  pub enter : List Sort
  pub goes : List Sort
  pub some : Bool
  pub sound : Bool

abbrev pub Begins : Shape → Toks → Type 0
Begins s front = (starts s.enter front ≡ true) ⊎ ((s.empty ≡ true) × (front ≡ []))

-- The parser is that of the rule R, its faults leave what can become a text of the wider rule V, and it agrees with another on short texts.
pub record Law {A : Type 0} (n : ℕ) (R V : Rule A) (p q : Parser A) (s : Shape) : Type 0 where
  pub exact : Exact R V p s.goes
  pub begins : (front : Toks) (a : A) → R front a → Begins s front
  pub sub : Sub R V
  pub some : s.some ≡ true → Inhabited V
  -- neither a fault nor the end is part of it
  pub plain : (front : Toks) (a : A) → R front a → has_last front ≡ false
  pub agree : Agree n p q

pub record Lawful {A : Type 0} (n : ℕ) (R V : Rule A) (p q : Parser A) (s : Shape) : Type 0 where
  pub law : s.sound ≡ true → Law n R V p q s

-- ---- what an outcome was

pub and_then_done : {A B : Type 0} (o : Outcome A) (f : A → Toks → Outcome B) (b : B) (rest : Toks) → and_then o f ≡ Done b rest → (a : A) × (mid : Toks) × (o ≡ Done a mid) × (f a mid ≡ Done b rest)
and_then_done (Done a mid) f b rest e = (a, mid, refl, e)
and_then_done (Fail r) f b rest e = absurd cc

pub and_then_fail : {A B : Type 0} (o : Outcome A) (f : A → Toks → Outcome B) (rest : Toks) → and_then o f ≡ Fail rest → (o ≡ Fail rest) ⊎ ((a : A) × (mid : Toks) × (o ≡ Done a mid) × (f a mid ≡ Fail rest))
and_then_fail (Done a mid) f rest e = inr (a, mid, refl, e)
and_then_fail (Fail r) f rest e = let s : r ≡ rest = cc in inl (ap Fail s)

pub done_value : {A : Type 0} (a b : A) (r s : Toks) → Done a r ≡ Done b s → a ≡ b
done_value a b r s e = cc

pub done_rest : {A : Type 0} (a b : A) (r s : Toks) → Done a r ≡ Done b s → r ≡ s
done_rest a b r s e = cc

pub done_not_fail : {A : Type 0} (a : A) (r s : Toks) → Done a r ≡ Fail s → ⊥
done_not_fail a r s e = cc

abbrev pub failed : (A : Type 0) → Toks → Outcome A
failed A r = Fail r

pub fail_rest : (A : Type 0) (r s : Toks) → failed A r ≡ failed A s → r ≡ s
fail_rest A r s e = cc

-- ---- one token

taken_done : {A : Type 0} (o : Option A) (x : Token) (ts : Toks) (a : A) (rest : Toks) → taken o x ts ≡ Done a rest → (o ≡ Some a) × (ts ≡ rest)
taken_done (Some b) x ts a rest e = (ap Some (done_value b a ts rest e), done_rest b a ts rest e)
taken_done None x ts a rest e = absurd cc

taken_fail : {A : Type 0} (o : Option A) (x : Token) (ts rest : Toks) → taken o x ts ≡ Fail rest → (o ≡ None) × (x ∷ ts ≡ rest)
taken_fail (Some b) x ts rest e = absurd cc
taken_fail {A} None x ts rest e = (refl, fail_rest A (x ∷ ts) rest e)

tok_none : {A : Type 0} (value : Token → Option A) (other : Toks) → first other ≡ None → tok value other ≡ Fail other
unfolding tok
tok_none value [] n = refl
tok_none value (y ∷ other) n = absurd cc

tok_other : {A : Type 0} (value : Token → Option A) (x : Token) (ts other : Toks) → value x ≡ None → first other ≡ Some x → tok value other ≡ Fail other
unfolding tok
tok_other value x ts [] n e = absurd cc
tok_other value x ts (y ∷ other) n e = let s : y ≡ x = cc in rw (s, n) refl

pub tok_done : {A : Type 0} (value : Token → Option A) (ts : Toks) (a : A) (rest : Toks) → tok value ts ≡ Done a rest → IsDone (One value) (tok value) ts a rest
unfolding tok
tok_done value [] a rest e = absurd cc
tok_done value (x ∷ ts) a rest e =
    let h = taken_done (value x) x ts a rest e in
    record {
      front = x ∷ [];
      whole = ap (λ (r : Toks). x ∷ r) h.1;
      rule = (x, refl, h.0);
      local = λ other same. rw h.0 refl;
    }

tok_fail : {A : Type 0} (value : Token → Option A) (ts rest : Toks) → tok value ts ≡ Fail rest → IsFail (One value) (tok value) ts rest
unfolding tok
tok_fail {A} value [] rest e = record { front = []; whole = fail_rest A [] rest e; local = λ other same. tok_none value other (same ∙ ap first (sym (fail_rest A [] rest e))); viable = inl refl }
tok_fail value (x ∷ ts) rest e =
    let h = taken_fail (value x) x ts rest e in
    record { front = []; whole = h.1; local = λ other same. tok_other value x ts other h.0 (same ∙ ap first (sym h.1)); viable = inl refl }

tok_complete : {A : Type 0} (value : Token → Option A) (front : Toks) (a : A) (rest : Toks) → One value front a → tok value (front ++ rest) ≡ Done a rest
unfolding tok
tok_complete value front a rest r = rw (r.1, r.2) refl

abbrev pub one_shape : List Sort → Shape
one_shape sorts = record { empty = false; enter = sorts; goes = []; some = true; sound = true }

begins_one : (sorts : List Sort) (x : Token) (front : Toks) → front ≡ x ∷ [] → is_in sorts x ≡ true → starts sorts front ≡ true
begins_one sorts x front e h = rw e h

name_plain : (k : Kind) → nat_eq (rank k) 14 ≡ true → is_last k ≡ false
name_plain kind.Fault e = absurd cc
name_plain kind.End e = absurd cc
name_plain _ e = refl

kind_plain : (j k : Kind) → nat_eq (rank j) (rank k) ≡ true → is_last k ≡ false → is_last j ≡ false
kind_plain kind.Fault k e h = fault_is k e h
  where
    fault_is : (k : Kind) → nat_eq 17 (rank k) ≡ true → is_last k ≡ false → true ≡ false
    fault_is kind.Fault e h = h
    fault_is _ e h = absurd cc
kind_plain kind.End k e h = end_is k e h
  where
    end_is : (k : Kind) → nat_eq 18 (rank k) ≡ true → is_last k ≡ false → true ≡ false
    end_is kind.End e h = h
    end_is _ e h = absurd cc
kind_plain _ k e h = refl

sort_plain : (sorts : List Sort) (x : Token) → last_free sorts ≡ true → is_in sorts x ≡ true → is_last x.kind ≡ false
sort_plain [] x f e = absurd cc
sort_plain (Mark k ∷ sorts) x f e = elim (or_cases (has_kind k x) (is_in sorts x) e) [
  | inl h ↦ kind_plain x.kind k h (not_true (is_last k) (and_left _ _ f))
  | inr h ↦ sort_plain sorts x (and_right (not (is_last k)) _ f) h
]
sort_plain (Word w ∷ sorts) x f e = elim (or_cases (is_of (Word w) x) (is_in sorts x) e) [
  | inl h ↦ name_plain x.kind (and_left _ _ h)
  | inr h ↦ sort_plain sorts x f h
]
sort_plain (Unlike ws ∷ sorts) x f e = elim (or_cases (is_of (Unlike ws) x) (is_in sorts x) e) [
  | inl h ↦ name_plain x.kind (and_left _ _ h)
  | inr h ↦ sort_plain sorts x f h
]

one_plain : (sorts : List Sort) (x : Token) (front : Toks) → last_free sorts ≡ true → front ≡ x ∷ [] → is_in sorts x ≡ true → has_last front ≡ false
one_plain sorts x front f e h = rw (e, sort_plain sorts x f h) refl

pub law_one : {A : Type 0} {n : ℕ} (value : Token → Option A) (sorts : List Sort) → ((x : Token) (a : A) → value x ≡ Some a → is_in sorts x ≡ true)
    → last_free sorts ≡ true → (x : Token) (a : A) → value x ≡ Some a → x.place ≡ origin → Lawful n (One value) (One value) (tok value) (tok value) (one_shape sorts)
law_one value sorts h free x a e at = record {
  law = λ ok. record {
    exact = record { done = tok_done value; fail = tok_fail value; complete = λ front a rest r s. tok_complete value front a rest r };
    begins = λ front b r. inl (begins_one sorts r.0 front r.1 (h r.0 b r.2));
    sub = λ front b r. r;
    some = λ ok. record { text = x ∷ []; tree = a; rule = (x, refl, e); at = at };
    plain = λ front b r. one_plain sorts r.0 front free r.1 (h r.0 b r.2);
    agree = λ ts lt. refl;
  };
}

unit_is : (b : Bool) (u : Unit {0}) → unit_if b ≡ Some u → b ≡ true
unit_is true u e = refl
unit_is false u e = absurd cc

pub law_the : {n : ℕ} (sorts : List Sort) → last_free sorts ≡ true → (x : Token) → is_in sorts x ≡ true → x.place ≡ origin → Lawful n (The sorts) (The sorts) (token sorts) (token sorts) (one_shape sorts)
unfolding token
law_the sorts free x e at = law_one (the sorts) sorts (λ y u h. unit_is (is_in sorts y) u h) free x tt (ap unit_if e) at

-- ---- one part and then another

seq_done : {A B : Type 0} (R V : Rule A) (S W : Rule B) (p : Parser A) (q : Parser B) (gp gq : List Sort) → Exact R V p gp → Exact S W q gq → (ts : Toks) (ab : A × B) (rest : Toks) → seq p q ts ≡ Done ab rest → IsDone (Seq R S) (seq p q) ts ab rest
unfolding seq
seq_done {A} {B} R V S W p q gp gq ep eq ts ab rest e =
    let h = and_then_done (p ts) (λ a mid. and_then (q mid) (λ b r. Done (a, b) r)) ab rest e in
    let k = and_then_done (q h.1) (λ b r. Done (h.0, b) r) ab rest h.3 in
    let made : A × B = (h.0, k.0) in
    let pair : made ≡ ab = done_value _ _ _ _ k.3 in
    let left : k.1 ≡ rest = done_rest _ _ _ _ k.3 in
    let dp = ep.done ts h.0 h.1 h.2 in
    let dq = eq.done h.1 k.0 k.1 k.2 in
    record {
      front = dp.front ++ dq.front;
      whole = dp.whole ∙ ap (λ (r : Toks). dp.front ++ r) (dq.whole ∙ ap (λ (r : Toks). dq.front ++ r) left) ∙ sym (append_assoc dp.front dq.front rest);
      rule = subst (Seq R S (dp.front ++ dq.front)) pair (record { before = dp.front; after = dq.front; whole = refl; first = dp.rule; second = dq.rule });
      local = λ other same.
          let e1 : p (dp.front ++ (dq.front ++ other)) ≡ Done h.0 (dq.front ++ other) = dp.local (dq.front ++ other) (first-append dq.front other rest same ∙ ap first (ap (λ (r : Toks). dq.front ++ r) (sym left) ∙ sym dq.whole)) in
          let e2 : q (dq.front ++ other) ≡ Done k.0 other = dq.local other (same ∙ ap first (sym left)) in
          rw (append_assoc, e1, e2) (ap (λ (c : A × B). Done c other) pair);
    }

-- what follows a front that the first part took
seq_behind : {A B : Type 0} (p : Parser A) (q : Parser B) (front : Toks) (a : A) (ts rest : Toks) → p (front ++ ts) ≡ Done a ts → q ts ≡ Fail rest → seq p q (front ++ ts) ≡ Fail rest
unfolding seq
seq_behind p q front a ts rest e1 e2 = rw (e1, e2) refl

seq_before : {A B : Type 0} (p : Parser A) (q : Parser B) (ts rest : Toks) → p ts ≡ Fail rest → seq p q ts ≡ Fail rest
unfolding seq
seq_before p q ts rest e = rw e refl

viable_first : {A B : Type 0} (R : Rule A) (S : Rule B) (front : Toks) → Inhabited S → (front ≡ []) ⊎ Viable R front → (front ≡ []) ⊎ Viable (Seq R S) front
viable_first R S front i (inl e) = inl e
viable_first R S front i (inr v) = inr (record { more = v.more ++ i.text; tree = (v.tree, i.tree); rule = record { before = front ++ v.more; after = i.text; whole = sym (append_assoc front v.more i.text); first = v.rule; second = i.rule } })

viable_second : {A B : Type 0} (R : Rule A) (S : Rule B) (before front : Toks) (a : A) → R before a → Inhabited S → (front ≡ []) ⊎ Viable S front → Viable (Seq R S) (before ++ front)
viable_second R S before front a r i (inl e) = record { more = i.text; tree = (a, i.tree); rule = record { before = before; after = i.text; whole = rw e (ap (λ (f : Toks). f ++ i.text) (append-nil before)); first = r; second = i.rule } }
viable_second R S before front a r i (inr v) = record { more = v.more; tree = (a, v.tree); rule = record { before = before; after = front ++ v.more; whole = append_assoc before front v.more; first = r; second = v.rule } }

abbrev pub paired : (A B : Type 0) → A → B → Toks → Outcome (A × B)
paired A B a b r = Done (a, b) r

seq_fail : {A B : Type 0} (R V : Rule A) (S W : Rule B) (p : Parser A) (q : Parser B) (gp gq : List Sort) → Exact R V p gp → Sub R V → Exact S W q gq → Inhabited W → (ts rest : Toks) → seq p q ts ≡ Fail rest → IsFail (Seq V W) (seq p q) ts rest
unfolding seq
seq_fail {A} {B} R V S W p q gp gq ep sub eq i ts rest e =
    elim (and_then_fail (p ts) (λ a mid. and_then (q mid) (λ b r. Done (a, b) r)) rest e) [
      | inl f ↦ let h = ep.fail ts rest f in record {
        front = h.front;
        whole = h.whole;
        local = λ other same. seq_before p q (h.front ++ other) other (h.local other same);
        viable = viable_first V W h.front i h.viable;
      }
      | inr g ↦ second g.0 g.1 g.2 (and_then_fail (q g.1) (λ b r. Done (g.0, b) r) rest g.3)
    ]
  where
    second : (a : A) (mid : Toks) → p ts ≡ Done a mid → (q mid ≡ Fail rest) ⊎ ((b : B) × (r : Toks) × (q mid ≡ Done b r) × (paired A B a b r ≡ Fail rest)) → IsFail (Seq V W) (seq p q) ts rest
    second a mid d (inl f) =
        let dp = ep.done ts a mid d in
        let h = eq.fail mid rest f in
        record {
          front = dp.front ++ h.front;
          whole = dp.whole ∙ ap (λ (r : Toks). dp.front ++ r) h.whole ∙ sym (append_assoc dp.front h.front rest);
          local = λ other same. rw (append_assoc dp.front h.front other) (seq_behind p q dp.front a (h.front ++ other) other (dp.local (h.front ++ other) (first-append h.front other rest same ∙ ap first (sym h.whole))) (h.local other same));
          viable = inr (viable_second V W dp.front h.front a (sub dp.front a dp.rule) i h.viable);
        }
    second a mid d (inr k) = absurd (done_not_fail _ _ _ k.3)

-- where the second part begins, the first one doesn't go on
abbrev Parts : {B : Type 0} → Rule B → List Sort → List Sort → Type 0
Parts {B} S gp g = (front : Toks) (b : B) (rest : Toks) → S front b → starts g rest ≡ false → starts gp (front ++ rest) ≡ false

seq_complete : {A B : Type 0} (R V : Rule A) (S W : Rule B) (p : Parser A) (q : Parser B) (gp gq g : List Sort) → Exact R V p gp → Exact S W q gq → Parts S gp g → ((rest : Toks) → starts g rest ≡ false → starts gq rest ≡ false) → (front : Toks) (ab : A × B) (rest : Toks) → Seq R S front ab → starts g rest ≡ false → seq p q (front ++ rest) ≡ Done ab rest
unfolding seq
seq_complete R V S W p q gp gq g ep eq parts less front ab rest r s =
    let e1 : p (r.before ++ (r.after ++ rest)) ≡ Done ab.0 (r.after ++ rest) = ep.complete r.before ab.0 (r.after ++ rest) r.first (parts r.after ab.1 rest r.second s) in
    let e2 : q (r.after ++ rest) ≡ Done ab.1 rest = eq.complete r.after ab.1 rest r.second (less rest s) in
    rw (r.whole, append_assoc, e1, e2) refl

abbrev pub sorts_if : Bool → List Sort → List Sort
sorts_if true sorts = sorts
sorts_if false sorts = []

abbrev pub seq_shape : Shape → Shape → Shape
seq_shape s t = record {
  empty = s.empty && t.empty;
  enter = s.enter ++ sorts_if s.empty t.enter;
  goes = t.goes ++ sorts_if t.empty s.goes;
  some = s.some && t.some;
  sound = s.sound && (t.sound && (t.some && apart t.enter s.goes));
}

starts_front : (sorts : List Sort) (front rest : Toks) → starts sorts front ≡ true → starts sorts (front ++ rest) ≡ true
starts_front sorts [] rest e = absurd cc
starts_front sorts (x ∷ front) rest e = e

kept_if : (b : Bool) (sorts : List Sort) (ts : Toks) → b ≡ true → starts (sorts_if b sorts) ts ≡ false → starts sorts ts ≡ false
kept_if true sorts ts h e = e
kept_if false sorts ts h e = absurd cc

seq_parts : {B : Type 0} (S : Rule B) (t : Shape) (gp : List Sort) → ((front : Toks) (b : B) → S front b → Begins t front) → apart t.enter gp ≡ true → Parts S gp (t.goes ++ sorts_if t.empty gp)
seq_parts S t gp begins d front b rest r s =
    elim (begins front b r) [
      | inl h ↦ starts_apart t.enter gp (front ++ rest) d (starts_front t.enter front rest h)
      | inr k ↦ rw k.1 (kept_if t.empty gp rest k.0 (starts_right t.goes _ rest s))
    ]

enters_if : (b : Bool) (sorts : List Sort) (ts : Toks) → b ≡ true → starts sorts ts ≡ true → starts (sorts_if b sorts) ts ≡ true
enters_if true sorts ts h e = e
enters_if false sorts ts h e = absurd cc

both_empty : (a b : Bool) → a ≡ true → b ≡ true → a && b ≡ true
both_empty a b e f = rw (e, f) refl

seq_begins : (s t : Shape) (before after front : Toks) → front ≡ before ++ after → Begins s before → Begins t after → Begins (seq_shape s t) front
seq_begins s t before after front w (inl h) k = inl (rw w (starts_front (s.enter ++ sorts_if s.empty t.enter) before after (starts_more s.enter _ before h)))
seq_begins s t before after front w (inr h) (inl k) = inl (rw (w, h.1) (starts_also s.enter _ after (enters_if s.empty t.enter after h.0 k)))
seq_begins s t before after front w (inr h) (inr k) = inr (both_empty s.empty t.empty h.0 k.0, rw (w, h.1) k.1)

place_append : (a b : Toks) → place_of a ≡ origin → place_of b ≡ origin → place_of (a ++ b) ≡ origin
place_append [] b e f = f
place_append (x ∷ a) b e f = e

some_seq : {A B : Type 0} {R : Rule A} {S : Rule B} → Inhabited R → Inhabited S → Inhabited (Seq R S)
some_seq i j = record { text = i.text ++ j.text; tree = (i.tree, j.tree); rule = record { before = i.text; after = j.text; whole = refl; first = i.rule; second = j.rule }; at = place_append i.text j.text i.at j.at }

pub agree_then : {A B : Type 0} (o : Outcome A) (q q' : Parser B) → ((a : A) (mid : Toks) → o ≡ Done a mid → q mid ≡ q' mid) → and_then o (λ a mid. and_then (q mid) (λ b rest. paired A B a b rest)) ≡ and_then o (λ a mid. and_then (q' mid) (λ b rest. paired A B a b rest))
agree_then {A} {B} (Done a mid) q q' h = ap (λ (o : Outcome B). and_then o (λ b rest. paired A B a b rest)) (h a mid refl)
agree_then (Fail r) q q' h = refl

-- a parser leaves no more than it was given
pub shortens : {A : Type 0} {R V : Rule A} {p : Parser A} {goes : List Sort} → Exact R V p goes → (ts : Toks) (a : A) (mid : Toks) → p ts ≡ Done a mid → length mid ≤ length ts
shortens ep ts a mid e = let d = ep.done ts a mid e in rw d.whole (rw length-append (omega arith))

agree_seq : {A B : Type 0} (n : ℕ) {p p' : Parser A} {q q' : Parser B} → ((ts : Toks) (a : A) (mid : Toks) → p ts ≡ Done a mid → length mid ≤ length ts) → Agree n p p' → Agree n q q' → Agree n (seq p q) (seq p' q')
unfolding seq
agree_seq {A} {B} n {p} {p'} {q} {q'} short hp hq ts lt =
    agree_then (p ts) q q' (λ a mid e. let less = short ts a mid e in hq mid (omega arith))
    ∙ ap (λ (o : Outcome A). and_then o (λ a mid. and_then (q' mid) (λ b rest. paired A B a b rest))) (hp ts lt)

pub law_seq : {A B : Type 0} {n : ℕ} {R V : Rule A} {S W : Rule B} {p p' : Parser A} {q q' : Parser B} {s t : Shape} → Lawful n R V p p' s → Lawful n S W q q' t → Lawful n (Seq R S) (Seq V W) (seq p q) (seq p' q') (seq_shape s t)
law_seq {n = n} {R = R} {V = V} {S = S} {W = W} {p = p} {q = q} {s = s} {t = t} l m = record {
  law = λ ok.
      let rest_ok = and_right s.sound _ ok in
      let some_ok = and_right t.sound _ rest_ok in
      let lp = l.law (and_left _ _ ok) in
      let lq = m.law (and_left _ _ rest_ok) in
      let i = lq.some (and_left _ _ some_ok) in
      let parts = seq_parts S t s.goes lq.begins (and_right t.some _ some_ok) in
      record {
        exact = record {
          done = seq_done R V S W p q s.goes t.goes lp.exact lq.exact;
          fail = seq_fail R V S W p q s.goes t.goes lp.exact lp.sub lq.exact i;
          complete = seq_complete R V S W p q s.goes t.goes (t.goes ++ sorts_if t.empty s.goes) lp.exact lq.exact parts (λ rest h. starts_left t.goes _ rest h);
        };
        begins = λ front ab r. seq_begins s t r.before r.after front r.whole (lp.begins r.before ab.0 r.first) (lq.begins r.after ab.1 r.second);
        sub = λ front ab r. record { before = r.before; after = r.after; whole = r.whole; first = lp.sub r.before ab.0 r.first; second = lq.sub r.after ab.1 r.second };
        some = λ h. some_seq (lp.some (and_left _ _ h)) i;
        plain = λ front ab r. rw r.whole (plain_append r.before r.after (lp.plain r.before ab.0 r.first) (lq.plain r.after ab.1 r.second));
        agree = agree_seq n (shortens lp.exact) lp.agree lq.agree;
      };
}
