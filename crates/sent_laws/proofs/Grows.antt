-- Trees that grow, and with them the tokens that derive them; the laws of the grammar's parts.
use Rattle.std.proofs.Common.{◌≡◌, Bool, false, List, [], ◌∷◌, ◌++◌, Option, Some, None, refl, sym, ap, ap₂, subst, ◌∙◌, inl, inr}
use Rattle.std.specs.Option.{option_map, option_or}
use Rattle.gql_tokens.specs.Tokens.{Token}
use Rattle.gql_tokens.specs.Places as places
use Rattle.gql_tokens.specs.declared.token.Place.{Place}
use Rattle.gql_spelling.specs.Spelling.{ArePrintable}
use Rattle.gql_model.specs.Sorts.{Sort, is_in, starts}
use Rattle.gql_model.specs.Rules.{Rule, The, Seq, Opt, Many, Made, Either, Here, Behind, Between, More, place_of}
use Rattle.gql_printing.specs.Tokens.{Toks}
use Rattle.gql_printing.proofs.Again.{printable_left, printable_right}

-- ---- the first token

abbrev pub first_token : Toks → Option Token
first_token [] = None
first_token (x ∷ ts) = Some x

first_append : (a b : Toks) → first_token (a ++ b) ≡ option_or (first_token a) (first_token b)
first_append [] b = refl
first_append (x ∷ a) b = refl

abbrev place_at : Option Token → Place
place_at None = places.first_place
place_at (Some x) = x.place

place_first : (ts : Toks) → place_of ts ≡ place_at (first_token ts)
place_first [] = refl
place_first (x ∷ ts) = refl

same_place : (a b : Toks) → first_token a ≡ first_token b → place_of a ≡ place_of b
same_place a b e = place_first a ∙ ap place_at e ∙ sym (place_first b)

abbrev starts_at : List Sort → Option Token → Bool
starts_at sorts None = false
starts_at sorts (Some x) = is_in sorts x

starts_first : (sorts : List Sort) (ts : Toks) → starts sorts ts ≡ starts_at sorts (first_token ts)
starts_first sorts [] = refl
starts_first sorts (x ∷ ts) = refl

pub same_starts : (sorts : List Sort) (a b : Toks) → first_token a ≡ first_token b → starts sorts a ≡ starts sorts b
same_starts sorts a b e = starts_first sorts a ∙ ap (starts_at sorts) e ∙ sym (starts_first sorts b)

pub printable_append : (a b : Toks) → ArePrintable a → ArePrintable b → ArePrintable (a ++ b)
printable_append [] b h k = k
printable_append (x ∷ a) b h k = (h.0, printable_append a b h.1 k)

-- the first token of two parts is that of two other parts
pub same_first : (a b x y front : Toks) → first_token x ≡ first_token a → first_token y ≡ first_token b → front ≡ a ++ b → first_token (x ++ y) ≡ first_token front
same_first a b x y front e f whole =
    first_append x y ∙ ap₂ (λ (p q : Option Token). option_or p q) e f ∙ sym (first_append a b) ∙ ap first_token (sym whole)

-- ---- trees that grow

-- tokens that can be printed derive the tree
pub record Stands {A : Type 0} (R : Rule A) (a : A) : Type 0 where
  pub tokens : Toks
  pub derives : R tokens a
  pub printable : ArePrintable tokens

-- and they begin with the same token
pub record Grown {A : Type 0} (R : Rule A) (front : Toks) (a : A) : Type 0 where
  pub tokens : Toks
  pub derives : R tokens a
  pub printable : ArePrintable tokens
  pub begins : first_token tokens ≡ first_token front

-- where printable tokens derive the one tree, others derive the other tree
pub record Swells {A : Type 0} (R : Rule A) (a b : A) : Type 0 where
  pub law : (front : Toks) → R front a → ArePrintable front → Stands R b

-- and begin with the same token
pub record Grows {A : Type 0} (R : Rule A) (a b : A) : Type 0 where
  pub law : (front : Toks) → R front a → ArePrintable front → Grown R front b

pub same : {A : Type 0} {R : Rule A} {a : A} → Grows R a a
same = record { law = λ front r h. record { tokens = front; derives = r; printable = h; begins = refl } }

pub grows_seq : {A B : Type 0} {R : Rule A} {S : Rule B} {a c : A} {b d : B} → Grows R a c → Grows S b d → Grows (Seq R S) (a, b) (c, d)
grows_seq l m = record {
  law = λ front r h.
      let parts = subst ArePrintable r.whole h in
      let x = l.law r.before r.first (printable_left r.before r.after parts) in
      let y = m.law r.after r.second (printable_right r.before r.after parts) in
      record {
        tokens = x.tokens ++ y.tokens;
        derives = record { before = x.tokens; after = y.tokens; whole = refl; first = x.derives; second = y.derives };
        printable = printable_append x.tokens y.tokens x.printable y.printable;
        begins = same_first r.before r.after x.tokens y.tokens front x.begins y.begins r.whole;
      };
}

pub grows_made : {A C : Type 0} {R : Rule A} (f : A → C) (g : A → A) (u : C → C) → ((a : A) → f (g a) ≡ u (f a)) → ((a : A) → Grows R a (g a)) → (c : C) → Grows (Made f R) c (u c)
grows_made f g u e l c = record {
  law = λ front r h.
      let x = (l r.of).law front r.rule h in
      record { tokens = x.tokens; derives = record { of = g r.of; is = e r.of ∙ ap u r.is; rule = x.derives }; printable = x.printable; begins = x.begins };
}

pub grows_either : {A : Type 0} {R S : Rule A} {a b : A} → Grows R a b → Grows S a b → Grows (Either R S) a b
grows_either {A} {R} {S} {a} {b} l m = record { law = chosen }
  where
    chosen : (front : Toks) → Either R S front a → ArePrintable front → Grown (Either R S) front b
    chosen front (inl r) h = let x = l.law front r h in record { tokens = x.tokens; derives = inl x.derives; printable = x.printable; begins = x.begins }
    chosen front (inr r) h = let x = m.law front r h in record { tokens = x.tokens; derives = inr x.derives; printable = x.printable; begins = x.begins }

pub grows_here : {A : Type 0} {R : Place → Rule A} {a b : A} → ((place : Place) → Grows (R place) a b) → Grows (Here R) a b
grows_here {A} {R} {a} {b} l = record {
  law = λ front r h.
      let x = (l (place_of front)).law front r h in
      record {
        tokens = x.tokens;
        derives = subst (λ (place : Place). R place x.tokens b) (sym (same_place x.tokens front x.begins)) x.derives;
        printable = x.printable;
        begins = x.begins;
      };
}

pub grows_opt : {A : Type 0} {R : Rule A} (g : A → A) → ((a : A) → Grows R a (g a)) → (o : Option A) → Grows (Opt R) o (option_map g o)
grows_opt g l None = same
grows_opt {R = R} g l (Some a) = record {
  law = λ front r h. let x = (l a).law front r h in record { tokens = x.tokens; derives = x.derives; printable = x.printable; begins = x.begins };
}

pub grows_nil : {A : Type 0} {R : Rule A} → Grows (Many R) [] []
grows_nil = same

pub grows_cons : {A : Type 0} {R : Rule A} {a b : A} {all more : List A} → Grows R a b → Grows (Many R) all more → Grows (Many R) (a ∷ all) (b ∷ more)
grows_cons l m = record {
  law = λ front r h.
      let parts = subst ArePrintable r.2 h in
      let x = l.law r.0 r.3 (printable_left r.0 r.1 parts) in
      let y = m.law r.1 r.4 (printable_right r.0 r.1 parts) in
      record {
        tokens = x.tokens ++ y.tokens;
        derives = (x.tokens, y.tokens, refl, x.derives, y.derives);
        printable = printable_append x.tokens y.tokens x.printable y.printable;
        begins = same_first r.0 r.1 x.tokens y.tokens front x.begins y.begins r.2;
      };
}

pub grows_behind : {A : Type 0} {R : Rule A} {a b : A} (sorts : List Sort) → Grows R a b → Grows (Behind sorts R) a b
grows_behind {A} {R} {a} {b} sorts l = record {
  law = λ front r h.
      let m : Grows (Seq (The sorts) R) (r.of.0, a) (r.of.0, b) = grows_seq same l in
      let x = m.law front (subst (λ (c : A). Seq (The sorts) R front (r.of.0, c)) r.is r.rule) h in
      record { tokens = x.tokens; derives = record { of = (r.of.0, b); is = refl; rule = x.derives }; printable = x.printable; begins = x.begins };
}

-- what stands between two tokens may swell at its front
pub grows_between : {A : Type 0} {R : Rule A} {a b : A} (left right : List Sort) → Swells R a b → Grows (Between left right R) a b
grows_between {A} {R} {a} {b} left right l = record {
  law = λ front r h.
      let begun = r.rule.before in
      let inner = r.rule.second.rule in
      let ended = inner.after in
      let parts = subst ArePrintable r.rule.whole h in
      let behind = subst ArePrintable inner.whole (printable_right begun r.rule.after parts) in
      let x = l.law inner.before (subst (R inner.before) (r.rule.second.is ∙ r.is) inner.first) (printable_left inner.before ended behind) in
      let more = x.tokens ++ ended in
      record {
        tokens = begun ++ more;
        derives = record {
          of = (r.of.0, b);
          is = refl;
          rule = record {
            before = begun;
            after = more;
            whole = refl;
            first = r.rule.first;
            second = record {
              of = (b, r.rule.second.of.1);
              is = refl;
              rule = record { before = x.tokens; after = ended; whole = refl; first = x.derives; second = inner.second };
            };
          };
        };
        printable = printable_append begun more (printable_left begun r.rule.after parts) (printable_append x.tokens ended x.printable (printable_right inner.before ended behind));
        begins = first_stays begun r.rule.first.0 more r.rule.after front r.rule.first.1 r.rule.whole;
      };
}
  where
    first_stays : (begun : Toks) (x : Token) (more after front : Toks) → begun ≡ x ∷ [] → front ≡ begun ++ after → first_token (begun ++ more) ≡ first_token front
    first_stays begun x more after front e whole = ap (λ (t : Toks). first_token (t ++ more)) e ∙ sym (ap (λ (t : Toks). first_token (t ++ after)) e) ∙ ap first_token (sym whole)

-- one or more are any number
pub many_of_more : {A : Type 0} {R : Rule A} {ts : Toks} {all : List A} → More R ts all → Many R ts all
many_of_more {R = R} {ts = ts} r = subst (Many R ts) r.is (r.rule.before, r.rule.after, r.rule.whole, r.rule.first, r.rule.second)
