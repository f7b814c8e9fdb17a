-- Where a part of a definition ends: whether it would go on with a `{` depends on what was read.
use Rattle.std.proofs.Common.{◌≡◌, ℕ, zero, suc, Bool, true, false, not, ◌&&◌, ◌||◌, List, [], ◌∷◌, ◌++◌, Option, Some, None, refl, sym, ap, subst, ◌∙◌, append_assoc, inl, inr, ◌⊎◌}
use Rattle.gql_tokens.specs.Tokens.{Token}
use Rattle.gql_tokens.specs.declared.token.Kind.TheVariants as kind
use Rattle.gql_tokens.specs.declared.token.Place.{Place}
use Rattle.gql_model.specs.Sorts.{Sort, starts, mark}
use Rattle.gql_model.specs.Rules.{Rule, The, Seq, Opt, Made, Either, Here, Behind, Between, Perhaps, last, or_none, place_of}
use Rattle.gql_model.specs.Documents.{is_none_of}
use Rattle.gql_model.specs.TypeSystems.{Braced}
use Rattle.gql_documents.specs.Parsing.{Outcome, Done, Fail, Parser, and_then, token, seq, via, opt, either, here, behind, perhaps}
use Rattle.gql_documents.proofs.SortLaws.{apart, covers, starts_apart, starts_covers, starts_left, starts_right, starts_less, and_left, and_right, not_true}
use Rattle.gql_documents.proofs.Laws.{Exact, Shape, Begins, Law, Lawful, and_then_done, done_value, done_rest, done_not_fail, one_shape, seq_shape, sorts_if}
use Rattle.gql_documents.proofs.Manys.{entered}
use Rattle.gql_documents.proofs.Parts.{via_done, opt_in, opt_out, either_in, either_out, place_front, starts_front, enters}

abbrev Toks : Type 0
Toks = List Token

abbrev pub brace : List Sort
brace = mark kind.BraceOpen

pub record Ends {A : Type 0} (R : Rule A) (p : Parser A) (open_ended : A → Bool) (goes : List Sort) : Type 0 where
  pub complete : (front : Toks) (a : A) (rest : Toks) → R front a → starts goes rest ≡ false → (open_ended a ≡ true → starts brace rest ≡ false) → p (front ++ rest) ≡ Done a rest
  pub stops : (ts : Toks) (a : A) (rest : Toks) → p ts ≡ Done a rest → open_ended a ≡ true → starts brace rest ≡ false

-- what never goes on with a `{`
pub ends_closed : {A : Type 0} {R V : Rule A} {p q : Parser A} {s : Shape} {open_ended : A → Bool} → Lawful 0 R V p q s → s.sound ≡ true → ((front : Toks) (a : A) → R front a → open_ended a ≡ false) → Ends R p open_ended s.goes
ends_closed {R = R} {open_ended = open_ended} l ok closed =
    let lp = l.law ok in
    record {
      complete = λ front a rest r g h. lp.exact.complete front a rest r g;
      stops = λ ts a rest e o.
          let d = lp.exact.done ts a rest e in
          let shut : open_ended a ≡ false = closed d.front a d.rule in
          absurd cc;
    }

-- one or more between braces are some
braced_some : {A : Type 0} {R : Rule A} (front : Toks) (all : List A) → Braced R front all → is_none_of all ≡ false
braced_some front all r =
    let inner = r.rule.second in
    let list = inner.rule.first in
    subst (λ (xs : List _). is_none_of xs ≡ false) (list.is ∙ inner.is ∙ r.is) refl

no_sort : (rest : Toks) → starts [] rest ≡ false
no_sort [] = refl
no_sort (x ∷ rest) = refl

-- a part in braces that may be left out
pub ends_braced : {A : Type 0} {R V : Rule A} {p q : Parser (List A)} → Lawful 0 (Braced R) (Braced V) p q (record { empty = false; enter = brace; goes = []; some = true; sound = true }) → Ends (Perhaps (Braced R)) (perhaps brace p) is_none_of []
unfolding perhaps via
ends_braced {A} {R} {V} {p} {q} l = record { complete = complete; stops = λ ts all rest e o. stops ts all rest (starts brace ts) refl e o }
  where
    lp : Law 0 (Braced R) (Braced V) p q (record { empty = false; enter = brace; goes = []; some = true; sound = true })
    lp = l.law refl

    read : (front : Toks) (o : Option (List A)) (rest : Toks) → Opt (Braced R) front o → (is_none_of (or_none o) ≡ true → starts brace rest ≡ false) → opt brace p (front ++ rest) ≡ Done o rest
    read front None rest r h = rw r (opt_out brace p rest (h refl))
    read front (Some all) rest r h = opt_in brace p (front ++ rest) (Done all rest) (enters brace (record { empty = false; enter = brace; goes = []; some = true; sound = true }) front rest (lp.begins front all r) refl refl) (lp.exact.complete front all rest r (no_sort rest))

    complete : (front : Toks) (all : List A) (rest : Toks) → Perhaps (Braced R) front all → starts [] rest ≡ false → (is_none_of all ≡ true → starts brace rest ≡ false) → and_then (opt brace p (front ++ rest)) (λ o r. Done (or_none o) r) ≡ Done all rest
    complete front all rest r g h =
        rw (read front r.of rest r.rule (λ e. h (ap is_none_of (sym r.is) ∙ e))) (ap (λ (xs : List A). Done xs rest) r.is)

    stops : (ts : Toks) (all : List A) (rest : Toks) (b : Bool) → starts brace ts ≡ b → and_then (opt brace p ts) (λ o r. Done (or_none o) r) ≡ Done all rest → is_none_of all ≡ true → starts brace rest ≡ false
    stops ts all rest false s e o =
        let is : Done [] ts ≡ Done all rest = ap (λ (x : Outcome _). and_then x (λ o r. Done (or_none o) r)) (sym (opt_out brace p ts s)) ∙ e in
        ap (starts brace) (sym (done_rest _ _ _ _ is)) ∙ s
    stops ts all rest true s e o =
        let h = via_done or_none (opt brace p ts) all rest e in
        let k = via_done Some (p ts) h.0 rest (sym (opt_in brace p ts (p ts) s refl) ∙ h.1) in
        let d = lp.exact.done ts k.0 rest k.1 in
        let some : is_none_of k.0 ≡ false = braced_some d.front k.0 d.rule in
        let same : k.0 ≡ all = ap or_none k.2 ∙ h.2 in
        let none : is_none_of k.0 ≡ true = ap is_none_of same ∙ o in
        absurd cc

kept_if : (b : Bool) (sorts : List Sort) (ts : Toks) → b ≡ true → starts (sorts_if b sorts) ts ≡ false → starts sorts ts ≡ false
kept_if true sorts ts h e = e
kept_if false sorts ts h e = absurd cc

pub ends_seq : {A B : Type 0} {R V : Rule A} {S W : Rule B} {p p' : Parser A} {q q' : Parser B} {s t : Shape} {open_ended : B → Bool} {goes : List Sort} → Lawful 0 R V p p' s → Lawful 0 S W q q' t → s.sound ≡ true → t.sound ≡ true → apart t.enter s.goes ≡ true → Ends S q open_ended goes
    → Ends (Seq R S) (seq p q) (λ ab. open_ended ab.1) (goes ++ sorts_if t.empty s.goes)
unfolding seq
ends_seq {A} {B} {S = S} {p = p} {q = q} {s = s} {t = t} {open_ended = open_ended} {goes = goes} l m okl okm d ends =
    let lp = l.law okl in
    let lq = m.law okm in
    record {
      complete = λ front ab rest r g h.
          let stop : starts s.goes (r.after ++ rest) ≡ false = elim (lq.begins r.after ab.1 r.second) [
            | inl k ↦ starts_apart t.enter s.goes (r.after ++ rest) d (starts_front t.enter r.after rest k)
            | inr k ↦ rw k.1 (kept_if t.empty s.goes rest k.0 (starts_right goes _ rest g))
          ] in
          let e1 : p (r.before ++ (r.after ++ rest)) ≡ Done ab.0 (r.after ++ rest) = lp.exact.complete r.before ab.0 (r.after ++ rest) r.first stop in
          let e2 : q (r.after ++ rest) ≡ Done ab.1 rest = ends.complete r.after ab.1 rest r.second (starts_left goes _ rest g) h in
          rw (r.whole, append_assoc, e1, e2) refl;
      stops = λ ts ab rest e o.
          let h = and_then_done (p ts) (λ a mid. and_then (q mid) (λ b r. Done (a, b) r)) ab rest e in
          let k = and_then_done (q h.1) (λ b r. Done (h.0, b) r) ab rest h.3 in
          let made : A × B = (h.0, k.0) in
          let pair : made ≡ ab = done_value _ _ _ _ k.3 in
          let left : k.1 ≡ rest = done_rest _ _ _ _ k.3 in
          ends.stops h.1 k.0 rest (k.2 ∙ ap (Done k.0) left) (ap (λ (c : A × B). open_ended c.1) pair ∙ o);
    }

pub ends_made : {A C : Type 0} {R : Rule A} {p : Parser A} {open_ended : A → Bool} {goes : List Sort} (f : A → C) (open_made : C → Bool) → ((a : A) → open_made (f a) ≡ open_ended a) → Ends R p open_ended goes → Ends (Made f R) (via f p) open_made goes
unfolding via
ends_made {C = C} {p = p} f open_made same ends = record {
  complete = λ front c rest r g h. rw (ends.complete front r.of rest r.rule g (λ o. h (ap open_made (sym r.is) ∙ same r.of ∙ o))) (ap (λ (x : C). Done x rest) r.is);
  stops = λ ts c rest e o. let h = via_done f (p ts) c rest e in ends.stops ts h.0 rest h.1 (sym (same h.0) ∙ ap open_made h.2 ∙ o);
}

pub ends_either : {A : Type 0} {R V S W : Rule A} {p p' q q' : Parser A} {s t : Shape} {open_ended : A → Bool} {g g' : List Sort} (sorts : List Sort) → Lawful 0 R V p p' s → Lawful 0 S W q q' t
    → s.sound ≡ true → t.sound ≡ true → not s.empty ≡ true → not t.empty ≡ true → covers sorts s.enter ≡ true → apart t.enter sorts ≡ true → Ends R p open_ended g → Ends S q open_ended g' → Ends (Either R S) (either sorts p q) open_ended (g ++ g')
ends_either {A} {R} {V} {S} {W} {p} {p'} {q} {q'} {s} {t} {open_ended} {g} {g'} sorts l m okl okm ns nt cover d ends other = record {
  complete = complete;
  stops = λ ts a rest e o. stops ts a rest (starts sorts ts) refl e o;
}
  where
    lp : Law 0 R V p p' s
    lp = l.law okl

    lq : Law 0 S W q q' t
    lq = m.law okm

    complete : (front : Toks) (a : A) (rest : Toks) → Either R S front a → starts (g ++ g') rest ≡ false → (open_ended a ≡ true → starts brace rest ≡ false) → either sorts p q (front ++ rest) ≡ Done a rest
    complete front a rest (inl r) k h = either_in sorts p q (front ++ rest) (enters sorts s front rest (lp.begins front a r) ns cover) ∙ ends.complete front a rest r (starts_left g g' rest k) h
    complete front a rest (inr r) k h = either_out sorts p q (front ++ rest) (starts_apart t.enter sorts (front ++ rest) d (starts_front t.enter front rest (entered t front (lq.begins front a r) nt))) ∙ other.complete front a rest r (starts_right g g' rest k) h

    stops : (ts : Toks) (a : A) (rest : Toks) (b : Bool) → starts sorts ts ≡ b → either sorts p q ts ≡ Done a rest → open_ended a ≡ true → starts brace rest ≡ false
    stops ts a rest true i e o = ends.stops ts a rest (sym (either_in sorts p q ts i) ∙ e) o
    stops ts a rest false i e o = other.stops ts a rest (sym (either_out sorts p q ts i) ∙ e) o

pub ends_here : {A : Type 0} {R V : Place → Rule A} {p p' : Place → Parser A} {s : Shape} {open_ended : A → Bool} {goes : List Sort} → ((place : Place) → Lawful 0 (R place) (V place) (p place) (p' place) s) → s.sound ≡ true → not s.empty ≡ true → ((place : Place) → Ends (R place) (p place) open_ended goes) → Ends (Here R) (here p) open_ended goes
unfolding here
ends_here {p = p} {s = s} l ok nonempty ends = record {
  complete = λ front a rest r g h.
      let e1 : place_of front ≡ place_of (front ++ rest) = sym (place_front s.enter front rest (entered s front (((l (place_of front)).law ok).begins front a r) nonempty)) in
      subst (λ (place : Place). p place (front ++ rest) ≡ Done a rest) e1 ((ends (place_of front)).complete front a rest r g h);
  stops = λ ts a rest e o. (ends (place_of ts)).stops ts a rest e o;
}

pub ends_fit : {A : Type 0} {R : Rule A} {p : Parser A} {open_ended : A → Bool} {g : List Sort} (g' : List Sort) → covers g' g ≡ true → Ends R p open_ended g → Ends R p open_ended g'
ends_fit {g = g} g' c ends = record {
  complete = λ front a rest r k h. ends.complete front a rest r (starts_less g' g rest c k) h;
  stops = ends.stops;
}
