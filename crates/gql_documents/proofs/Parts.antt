-- The laws of the other parts of a grammar.
use Rattle.std.proofs.Common.{◌≡◌, ℕ, zero, suc, ◌≤◌, ◌<◌, Bool, true, false, cond, not, ◌&&◌, ◌||◌, List, [], ◌∷◌, ◌++◌, length, Option, Some, None, refl, sym, ap, subst, ◌∙◌, append_assoc, append-nil, length-append, arith, inl, inr, ◌⊎◌}
use Rattle.gql_tokens.specs.Tokens.{Token}
use Rattle.gql_tokens.specs.declared.token.Place.{Place}
use Rattle.gql_model.specs.Sorts.{Sort, is_in, starts}
use Rattle.gql_model.specs.Rules.{Rule, One, The, the, Seq, Opt, Many, Made, Either, Unless, Here, Behind, Before, Between, More, Perhaps, Whether, last, former, cons, or_none, place_of}
use Rattle.gql_documents.specs.Parsing.{Outcome, Done, Fail, Parser, and_then, tok, token, seq, via, opt, either, many, unless, here, behind, before, between, more, perhaps, whether}
use Rattle.std.specs.Prelude.{is_some}
use Rattle.gql_documents.proofs.SortLaws.{apart, covers, starts_apart, starts_covers, starts_left, starts_right, starts_more, starts_also, starts_less, and_left, and_right, not_true}
use Rattle.gql_documents.proofs.Laws.{Exact, IsDone, IsFail, Viable, Sub, Agree, Shape, Begins, Law, Lawful, Inhabited, origin, has_last, last_free, plain_append, first, first-append, starts_first, place_first, done_value, done_rest, done_not_fail, fail_rest, tok_done, shortens, one_shape, seq_shape, law_the, law_seq, agree_then}
use Rattle.gql_documents.proofs.Manys.{starts_there, entered, repeated_shape, law_many}

abbrev Toks : Type 0
Toks = List Token

-- ---- what is made of a part

pub via_done : {A C : Type 0} (f : A → C) (o : Outcome A) (c : C) (rest : Toks) → and_then o (λ a r. Done (f a) r) ≡ Done c rest → (a : A) × (o ≡ Done a rest) × (f a ≡ c)
via_done f (Done a mid) c rest e = (a, ap (Done a) (done_rest _ _ _ _ e), done_value _ _ _ _ e)
via_done f (Fail r) c rest e = absurd cc

via_fail : {A C : Type 0} (f : A → C) (o : Outcome A) (rest : Toks) → and_then o (λ a r. Done (f a) r) ≡ Fail rest → o ≡ Fail rest
via_fail f (Done a mid) rest e = absurd cc
via_fail {C = C} f (Fail r) rest e = ap Fail (fail_rest C r rest e)

exact_made : {A C : Type 0} {R V : Rule A} {p : Parser A} {goes : List Sort} (f : A → C) → Exact R V p goes → Exact (Made f R) (Made f V) (via f p) goes
unfolding via
exact_made {A} {C} {R} {V} {p} {goes} f ep = record {
  done = λ ts c rest e.
      let h = via_done f (p ts) c rest e in
      let d = ep.done ts h.0 rest h.1 in
      record {
        front = d.front;
        whole = d.whole;
        rule = record { of = h.0; is = h.2; rule = d.rule };
        local = λ other same. rw (d.local other same) (ap (λ (x : C). Done x other) h.2);
      };
  fail = λ ts rest e.
      let h = ep.fail ts rest (via_fail f (p ts) rest e) in
      record {
        front = h.front;
        whole = h.whole;
        local = λ other same. rw (h.local other same) refl;
        viable = elim h.viable [ inl n ↦ inl n | inr v ↦ inr (record { more = v.more; tree = f v.tree; rule = record { of = v.tree; is = refl; rule = v.rule } }) ];
      };
  complete = λ front c rest r s. rw (ep.complete front r.of rest r.rule s) (ap (λ (x : C). Done x rest) r.is);
}

agree_via : {A C : Type 0} (n : ℕ) (f : A → C) {p p' : Parser A} → Agree n p p' → Agree n (via f p) (via f p')
unfolding via
agree_via n f h ts lt = rw (h ts lt) refl

pub law_made : {A C : Type 0} {n : ℕ} {R V : Rule A} {p p' : Parser A} {s : Shape} (f : A → C) → Lawful n R V p p' s → Lawful n (Made f R) (Made f V) (via f p) (via f p') s
law_made {n = n} f l = record {
  law = λ ok.
      let lp = l.law ok in
      record {
        exact = exact_made f lp.exact;
        begins = λ front c r. lp.begins front r.of r.rule;
        sub = λ front c r. record { of = r.of; is = r.is; rule = lp.sub front r.of r.rule };
        some = λ h. let i = lp.some h in record { text = i.text; tree = f i.tree; rule = record { of = i.tree; is = refl; rule = i.rule }; at = i.at };
        plain = λ front c r. lp.plain front r.of r.rule;
        agree = agree_via n f lp.agree;
      };
}

-- ---- a part or nothing

pub opt_in : {A : Type 0} (enter : List Sort) (p : Parser A) (ts : Toks) (o : Outcome A) → starts enter ts ≡ true → p ts ≡ o → opt enter p ts ≡ and_then o (λ a r. Done (Some a) r)
unfolding opt via
opt_in enter p ts o s e = rw (s, e) refl

pub opt_out : {A : Type 0} (enter : List Sort) (p : Parser A) (ts : Toks) → starts enter ts ≡ false → opt enter p ts ≡ Done None ts
unfolding opt
opt_out enter p ts s = rw s refl

opt_done : {A : Type 0} (R V : Rule A) (enter : List Sort) (p : Parser A) (goes : List Sort) → Exact R V p goes → (ts : Toks) (b : Bool) → starts enter ts ≡ b → (o : Option A) (rest : Toks) → opt enter p ts ≡ Done o rest → IsDone (Opt R) (opt enter p) ts o rest
opt_done {A} R V enter p goes ep ts true s o rest e =
    let h = via_done Some (p ts) o rest (sym (opt_in enter p ts (p ts) s refl) ∙ e) in
    let d = ep.done ts h.0 rest h.1 in
    record {
      front = d.front;
      whole = d.whole;
      rule = subst (Opt R d.front) h.2 d.rule;
      local = λ other same. opt_in enter p (d.front ++ other) (Done h.0 other) (starts_there enter d.front other rest same true (ap (starts enter) (sym d.whole) ∙ s)) (d.local other same) ∙ ap (λ (x : Option A). Done x other) h.2;
    }
opt_done {A} R V enter p goes ep ts false s o rest e =
    let is : Done None ts ≡ Done o rest = sym (opt_out enter p ts s) ∙ e in
    let o-is : None ≡ o = done_value _ _ _ _ is in
    let ts-is : ts ≡ rest = done_rest _ _ _ _ is in
    record {
      front = [];
      whole = ts-is;
      rule = subst (Opt R []) o-is refl;
      local = λ other same. opt_out enter p other (starts_first enter other ts (same ∙ ap first (sym ts-is)) ∙ s) ∙ ap (λ (x : Option A). Done x other) o-is;
    }

opt_fail : {A : Type 0} (R V : Rule A) (enter : List Sort) (p : Parser A) (goes : List Sort) → Exact R V p goes → (ts : Toks) (b : Bool) → starts enter ts ≡ b → (rest : Toks) → opt enter p ts ≡ Fail rest → IsFail (Opt V) (opt enter p) ts rest
opt_fail {A} R V enter p goes ep ts true s rest e =
    let h = ep.fail ts rest (via_fail Some (p ts) rest (sym (opt_in enter p ts (p ts) s refl) ∙ e)) in
    record {
      front = h.front;
      whole = h.whole;
      local = λ other same. opt_in enter p (h.front ++ other) (Fail other) (starts_there enter h.front other rest same true (ap (starts enter) (sym h.whole) ∙ s)) (h.local other same);
      viable = elim h.viable [ inl n ↦ inl n | inr v ↦ inr (record { more = v.more; tree = Some v.tree; rule = v.rule }) ];
    }
opt_fail {A} R V enter p goes ep ts false s rest e = absurd (done_not_fail None ts rest (sym (opt_out enter p ts s) ∙ e))

pub starts_front : (sorts : List Sort) (front rest : Toks) → starts sorts front ≡ true → starts sorts (front ++ rest) ≡ true
starts_front sorts [] rest e = absurd cc
starts_front sorts (x ∷ front) rest e = e

-- what isn't empty is entered
pub enters : (sorts : List Sort) (s : Shape) (front rest : Toks) → Begins s front → not s.empty ≡ true → covers sorts s.enter ≡ true → starts sorts (front ++ rest) ≡ true
enters sorts s front rest b n c = starts_covers sorts s.enter (front ++ rest) c (starts_front s.enter front rest (entered s front b n))

opt_complete : {A : Type 0} (R V : Rule A) (sorts : List Sort) (p : Parser A) (goes : List Sort) → Exact R V p goes → ((front : Toks) (a : A) (rest : Toks) → R front a → starts sorts (front ++ rest) ≡ true) → (front : Toks) (o : Option A) (rest : Toks) → Opt R front o → starts (sorts ++ goes) rest ≡ false → opt sorts p (front ++ rest) ≡ Done o rest
opt_complete R V sorts p goes ep begins front None rest r s = rw r (opt_out sorts p rest (starts_left sorts goes rest s))
opt_complete R V sorts p goes ep begins front (Some a) rest r s = opt_in sorts p (front ++ rest) (Done a rest) (begins front a rest r) (ep.complete front a rest r (starts_right sorts goes rest s))

abbrev pub opt_shape : List Sort → Shape → Shape
opt_shape sorts s = record {
  empty = true;
  enter = sorts;
  goes = sorts ++ s.goes;
  some = true;
  sound = s.sound && (not s.empty && covers sorts s.enter);
}

opt_begins : {A : Type 0} (R : Rule A) (sorts : List Sort) (s : Shape) → ((front : Toks) (a : A) → R front a → starts sorts front ≡ true) → (front : Toks) (o : Option A) → Opt R front o → Begins (opt_shape sorts s) front
opt_begins R sorts s h front None r = inr (refl, r)
opt_begins R sorts s h front (Some a) r = inl (h front a r)

sub_opt : {A : Type 0} {R V : Rule A} → Sub R V → Sub (Opt R) (Opt V)
sub_opt f front None r = r
sub_opt f front (Some a) r = f front a r

agree_opt : {A : Type 0} (n : ℕ) (sorts : List Sort) {p p' : Parser A} → Agree n p p' → Agree n (opt sorts p) (opt sorts p')
unfolding opt via
agree_opt n sorts h ts lt = rw (h ts lt) refl

opt_plain : {A : Type 0} {R : Rule A} → ((front : Toks) (a : A) → R front a → has_last front ≡ false) → (front : Toks) (o : Option A) → Opt R front o → has_last front ≡ false
opt_plain h front None r = rw r refl
opt_plain h front (Some a) r = h front a r

pub law_opt : {A : Type 0} {n : ℕ} {R V : Rule A} {p p' : Parser A} {s : Shape} (sorts : List Sort) → Lawful n R V p p' s → Lawful n (Opt R) (Opt V) (opt sorts p) (opt sorts p') (opt_shape sorts s)
law_opt {n = n} {R = R} {V = V} {p = p} {s = s} sorts l = record {
  law = λ ok.
      let lp = l.law (and_left _ _ ok) in
      let ok2 = and_right s.sound _ ok in
      let nonempty = and_left (not s.empty) _ ok2 in
      let cover = and_right (not s.empty) _ ok2 in
      record {
        exact = record {
          done = λ ts o rest e. opt_done R V sorts p s.goes lp.exact ts (starts sorts ts) refl o rest e;
          fail = λ ts rest e. opt_fail R V sorts p s.goes lp.exact ts (starts sorts ts) refl rest e;
          complete = opt_complete R V sorts p s.goes lp.exact (λ front a rest r. enters sorts s front rest (lp.begins front a r) nonempty cover);
        };
        begins = opt_begins R sorts s (λ front a r. starts_covers sorts s.enter front cover (entered s front (lp.begins front a r) nonempty));
        sub = sub_opt lp.sub;
        some = λ h. record { text = []; tree = None; rule = refl; at = refl };
        plain = opt_plain lp.plain;
        agree = agree_opt n sorts lp.agree;
      };
}

-- ---- one part or another

pub either_in : {A : Type 0} (enter : List Sort) (p q : Parser A) (ts : Toks) → starts enter ts ≡ true → either enter p q ts ≡ p ts
unfolding either
either_in enter p q ts s = rw s refl

pub either_out : {A : Type 0} (enter : List Sort) (p q : Parser A) (ts : Toks) → starts enter ts ≡ false → either enter p q ts ≡ q ts
unfolding either
either_out enter p q ts s = rw s refl

viable_either : {A : Type 0} (R S : Rule A) (front : Toks) → (front ≡ []) ⊎ Viable R front → (front ≡ []) ⊎ Viable (Either R S) front
viable_either R S front (inl e) = inl e
viable_either R S front (inr v) = inr (record { more = v.more; tree = v.tree; rule = inl v.rule })

viable_other : {A : Type 0} (R S : Rule A) (front : Toks) → (front ≡ []) ⊎ Viable S front → (front ≡ []) ⊎ Viable (Either R S) front
viable_other R S front (inl e) = inl e
viable_other R S front (inr v) = inr (record { more = v.more; tree = v.tree; rule = inr v.rule })

pub either_done : {A : Type 0} (R V S W : Rule A) (enter : List Sort) (p q : Parser A) (gp gq : List Sort) → Exact R V p gp → Exact S W q gq → (ts : Toks) (b : Bool) → starts enter ts ≡ b → (a : A) (rest : Toks) → either enter p q ts ≡ Done a rest → IsDone (Either R S) (either enter p q) ts a rest
either_done R V S W enter p q gp gq ep eq ts true s a rest e =
    let d = ep.done ts a rest (sym (either_in enter p q ts s) ∙ e) in
    record { front = d.front; whole = d.whole; rule = inl d.rule; local = λ other same. either_in enter p q (d.front ++ other) (starts_there enter d.front other rest same true (ap (starts enter) (sym d.whole) ∙ s)) ∙ d.local other same }
either_done R V S W enter p q gp gq ep eq ts false s a rest e =
    let d = eq.done ts a rest (sym (either_out enter p q ts s) ∙ e) in
    record { front = d.front; whole = d.whole; rule = inr d.rule; local = λ other same. either_out enter p q (d.front ++ other) (starts_there enter d.front other rest same false (ap (starts enter) (sym d.whole) ∙ s)) ∙ d.local other same }

either_fail : {A : Type 0} (R V S W : Rule A) (enter : List Sort) (p q : Parser A) (gp gq : List Sort) → Exact R V p gp → Exact S W q gq → (ts : Toks) (b : Bool) → starts enter ts ≡ b → (rest : Toks) → either enter p q ts ≡ Fail rest → IsFail (Either V W) (either enter p q) ts rest
either_fail R V S W enter p q gp gq ep eq ts true s rest e =
    let d = ep.fail ts rest (sym (either_in enter p q ts s) ∙ e) in
    record { front = d.front; whole = d.whole; local = λ other same. either_in enter p q (d.front ++ other) (starts_there enter d.front other rest same true (ap (starts enter) (sym d.whole) ∙ s)) ∙ d.local other same; viable = viable_either V W d.front d.viable }
either_fail R V S W enter p q gp gq ep eq ts false s rest e =
    let d = eq.fail ts rest (sym (either_out enter p q ts s) ∙ e) in
    record { front = d.front; whole = d.whole; local = λ other same. either_out enter p q (d.front ++ other) (starts_there enter d.front other rest same false (ap (starts enter) (sym d.whole) ∙ s)) ∙ d.local other same; viable = viable_other V W d.front d.viable }

either_complete : {A : Type 0} (R V S W : Rule A) (enter : List Sort) (p q : Parser A) (gp gq : List Sort) → Exact R V p gp → Exact S W q gq
    → ((front : Toks) (a : A) (rest : Toks) → R front a → starts enter (front ++ rest) ≡ true) → ((front : Toks) (a : A) (rest : Toks) → S front a → starts enter (front ++ rest) ≡ false)
    → (front : Toks) (a : A) (rest : Toks) → Either R S front a → starts (gp ++ gq) rest ≡ false → either enter p q (front ++ rest) ≡ Done a rest
either_complete R V S W enter p q gp gq ep eq bp bq front a rest (inl r) s = either_in enter p q (front ++ rest) (bp front a rest r) ∙ ep.complete front a rest r (starts_left gp gq rest s)
either_complete R V S W enter p q gp gq ep eq bp bq front a rest (inr r) s = either_out enter p q (front ++ rest) (bq front a rest r) ∙ eq.complete front a rest r (starts_right gp gq rest s)

abbrev pub either_shape : List Sort → Shape → Shape → Shape
either_shape sorts s t = record {
  empty = false;
  enter = s.enter ++ t.enter;
  goes = s.goes ++ t.goes;
  some = s.some || t.some;
  sound = s.sound && (t.sound && (not s.empty && (not t.empty && (covers sorts s.enter && apart t.enter sorts))));
}

either_begins : {A : Type 0} (R S : Rule A) (sorts : List Sort) (s t : Shape) → ((front : Toks) (a : A) → R front a → starts s.enter front ≡ true) → ((front : Toks) (a : A) → S front a → starts t.enter front ≡ true) → (front : Toks) (a : A) → Either R S front a → Begins (either_shape sorts s t) front
either_begins R S sorts s t h k front a (inl r) = inl (starts_more s.enter t.enter front (h front a r))
either_begins R S sorts s t h k front a (inr r) = inl (starts_also s.enter t.enter front (k front a r))

sub_either : {A : Type 0} {R V S W : Rule A} → Sub R V → Sub S W → Sub (Either R S) (Either V W)
sub_either f g front a (inl r) = inl (f front a r)
sub_either f g front a (inr r) = inr (g front a r)

some_either : {A : Type 0} (R S : Rule A) (a b : Bool) → (a ≡ true → Inhabited R) → (b ≡ true → Inhabited S) → a || b ≡ true → Inhabited (Either R S)
some_either R S true b f g h = let i = f refl in record { text = i.text; tree = i.tree; rule = inl i.rule; at = i.at }
some_either R S false b f g h = let i = g h in record { text = i.text; tree = i.tree; rule = inr i.rule; at = i.at }

agree_either : {A : Type 0} (n : ℕ) (sorts : List Sort) {p p' q q' : Parser A} → Agree n p p' → Agree n q q' → Agree n (either sorts p q) (either sorts p' q')
unfolding either
agree_either n sorts h k ts lt = rw (h ts lt, k ts lt) refl

either_plain : {A : Type 0} {R S : Rule A} → ((front : Toks) (a : A) → R front a → has_last front ≡ false) → ((front : Toks) (a : A) → S front a → has_last front ≡ false) → (front : Toks) (a : A) → Either R S front a → has_last front ≡ false
either_plain h k front a (inl r) = h front a r
either_plain h k front a (inr r) = k front a r

pub law_either : {A : Type 0} {n : ℕ} {R V S W : Rule A} {p p' q q' : Parser A} {s t : Shape} (sorts : List Sort) → Lawful n R V p p' s → Lawful n S W q q' t → Lawful n (Either R S) (Either V W) (either sorts p q) (either sorts p' q') (either_shape sorts s t)
law_either {n = n} {R = R} {V = V} {S = S} {W = W} {p = p} {q = q} {s = s} {t = t} sorts l m = record {
  law = λ ok.
      let ok2 = and_right s.sound _ ok in
      let ok3 = and_right t.sound _ ok2 in
      let ok4 = and_right (not s.empty) _ ok3 in
      let ok5 = and_right (not t.empty) _ ok4 in
      let lp = l.law (and_left _ _ ok) in
      let lq = m.law (and_left _ _ ok2) in
      let ns = and_left (not s.empty) _ ok3 in
      let nt = and_left (not t.empty) _ ok4 in
      let cover = and_left (covers sorts s.enter) _ ok5 in
      let d = and_right (covers sorts s.enter) _ ok5 in
      record {
        exact = record {
          done = λ ts a rest e. either_done R V S W sorts p q s.goes t.goes lp.exact lq.exact ts (starts sorts ts) refl a rest e;
          fail = λ ts rest e. either_fail R V S W sorts p q s.goes t.goes lp.exact lq.exact ts (starts sorts ts) refl rest e;
          complete = either_complete R V S W sorts p q s.goes t.goes lp.exact lq.exact
              (λ front a rest r. enters sorts s front rest (lp.begins front a r) ns cover)
              (λ front a rest r. starts_apart t.enter sorts (front ++ rest) d (starts_front t.enter front rest (entered t front (lq.begins front a r) nt)));
        };
        begins = either_begins R S sorts s t (λ front a r. entered s front (lp.begins front a r) ns) (λ front a r. entered t front (lq.begins front a r) nt);
        sub = sub_either lp.sub lq.sub;
        some = some_either V W s.some t.some lp.some lq.some;
        plain = either_plain lp.plain lq.plain;
        agree = agree_either n sorts lp.agree lq.agree;
      };
}

-- ---- a part that a flag may forbid

abbrev pub unless_shape : Shape → Shape
unless_shape s = record { empty = s.empty; enter = s.enter; goes = s.goes; some = false; sound = s.sound }

exact_unless : {A : Type 0} (flag : Bool) {R V : Rule A} {p : Parser A} {goes : List Sort} → Exact R V p goes → Exact (Unless flag R) (Unless flag V) (unless flag p) goes
unfolding unless
exact_unless {A} true ep = record {
  done = λ ts a rest e. absurd cc;
  fail = λ ts rest e. record { front = []; whole = fail_rest A ts rest e; local = λ other same. refl; viable = inl refl };
  complete = λ front a rest r s. let h : true ≡ false = r.0 in absurd cc;
}
exact_unless false ep = record {
  done = λ ts a rest e. let d = ep.done ts a rest e in record { front = d.front; whole = d.whole; rule = (refl, d.rule); local = d.local };
  fail = λ ts rest e. let d = ep.fail ts rest e in record { front = d.front; whole = d.whole; local = d.local; viable = elim d.viable [ inl n ↦ inl n | inr v ↦ inr (record { more = v.more; tree = v.tree; rule = (refl, v.rule) }) ] };
  complete = λ front a rest r s. ep.complete front a rest r.1 s;
}

agree_unless : {A : Type 0} (n : ℕ) (flag : Bool) {p p' : Parser A} → Agree n p p' → Agree n (unless flag p) (unless flag p')
unfolding unless
agree_unless n flag h ts lt = rw (h ts lt) refl

pub law_unless : {A : Type 0} {n : ℕ} {R V : Rule A} {p p' : Parser A} {s : Shape} (flag : Bool) → Lawful n R V p p' s → Lawful n (Unless flag R) (Unless flag V) (unless flag p) (unless flag p') (unless_shape s)
law_unless {n = n} flag l = record {
  law = λ ok.
      let lp = l.law ok in
      record {
        exact = exact_unless flag lp.exact;
        begins = λ front a r. lp.begins front a r.1;
        sub = λ front a r. (r.0, lp.sub front a r.1);
        some = λ h. absurd cc;
        plain = λ front a r. lp.plain front a r.1;
        agree = agree_unless n flag lp.agree;
      };
}

-- ---- a part that knows its place

abbrev pub here_shape : Shape → Shape
here_shape s = record { empty = s.empty; enter = s.enter; goes = s.goes; some = s.some; sound = s.sound && not s.empty }

pub place_front : (sorts : List Sort) (front rest : Toks) → starts sorts front ≡ true → place_of (front ++ rest) ≡ place_of front
place_front sorts [] rest e = absurd cc
place_front sorts (x ∷ front) rest e = refl

here_viable : {A : Type 0} (V : Place → Rule A) (front rest : Toks) → (front ≡ []) ⊎ Viable (V (place_of (front ++ rest))) front → (front ≡ []) ⊎ Viable (Here V) front
here_viable V [] rest v = inl refl
here_viable V (x ∷ front) rest (inl e) = inl e
here_viable V (x ∷ front) rest (inr v) = inr (record { more = v.more; tree = v.tree; rule = v.rule })

pub law_here : {A : Type 0} {n : ℕ} {R V : Place → Rule A} {p p' : Place → Parser A} {s : Shape} → ((place : Place) → Lawful n (R place) (V place) (p place) (p' place) s) → Lawful n (Here R) (Here V) (here p) (here p') (here_shape s)
unfolding here
law_here {n = n} {R = R} {V = V} {p = p} {s = s} l = record {
  law = λ ok.
      let lp = λ (place : Place). (l place).law (and_left _ _ ok) in
      let nonempty = and_right s.sound _ ok in
      record {
        exact = record {
          done = λ ts a rest e.
              let d = (lp (place_of ts)).exact.done ts a rest e in
              let e1 : place_of ts ≡ place_of d.front = ap place_of d.whole ∙ place_front s.enter d.front rest (entered s d.front ((lp (place_of ts)).begins d.front a d.rule) nonempty) in
              record {
                front = d.front;
                whole = d.whole;
                rule = subst (λ (place : Place). R place d.front a) e1 d.rule;
                local = λ other same.
                    let e2 : place_of ts ≡ place_of (d.front ++ other) = ap place_of d.whole ∙ sym (place_first (d.front ++ other) (d.front ++ rest) (first-append d.front other rest same)) in
                    subst (λ (place : Place). p place (d.front ++ other) ≡ Done a other) e2 (d.local other same);
              };
          fail = λ ts rest e.
              let d = (lp (place_of ts)).exact.fail ts rest e in
              record {
                front = d.front;
                whole = d.whole;
                local = λ other same.
                    let e2 : place_of ts ≡ place_of (d.front ++ other) = ap place_of d.whole ∙ sym (place_first (d.front ++ other) (d.front ++ rest) (first-append d.front other rest same)) in
                    subst (λ (place : Place). p place (d.front ++ other) ≡ Fail other) e2 (d.local other same);
                viable = here_viable V d.front rest (subst (λ (place : Place). (d.front ≡ []) ⊎ Viable (V place) d.front) (ap place_of d.whole) d.viable);
              };
          complete = λ front a rest r g.
              let e1 : place_of front ≡ place_of (front ++ rest) = sym (place_front s.enter front rest (entered s front ((lp (place_of front)).begins front a r) nonempty)) in
              subst (λ (place : Place). p place (front ++ rest) ≡ Done a rest) e1 ((lp (place_of front)).exact.complete front a rest r g);
        };
        begins = λ front a r. (lp (place_of front)).begins front a r;
        sub = λ front a r. (lp (place_of front)).sub front a r;
        some = λ h. let i = (lp origin).some h in record { text = i.text; tree = i.tree; rule = subst (λ (place : Place). V place i.text i.tree) (sym i.at) i.rule; at = i.at };
        plain = λ front a r. (lp (place_of front)).plain front a r;
        agree = λ ts lt. (lp (place_of ts)).agree ts lt;
      };
}

-- ---- behind a token, where there is one token less

behind_token : {A B : Type 0} (n : ℕ) (value : Token → Option A) {q q' : Parser B} → Agree n q q' → Agree (suc n) (seq (tok value) q) (seq (tok value) q')
unfolding seq
behind_token {A} {B} n value {q} {q'} hq ts lt =
    agree_then (tok value ts) q q' (λ a mid e.
    let d = tok_done value ts a mid e in
    let len : length ts ≡ length (d.front ++ mid) = ap length d.whole in
    let one : length d.front ≡ 1 = ap length d.rule.1 in
    hq mid (omega (arith, length-append d.front mid)))

pub law_behind_token : {A : Type 0} {n : ℕ} {R V : Rule A} {p p' : Parser A} {s : Shape} (sorts : List Sort) → last_free sorts ≡ true → (x : Token) → is_in sorts x ≡ true → x.place ≡ origin → Lawful n R V p p' s → Lawful (suc n) (Behind sorts R) (Behind sorts V) (behind sorts p) (behind sorts p') (seq_shape (one_shape sorts) s)
unfolding behind token
law_behind_token {n = n} {p = p} {p' = p'} sorts free x e at l = record {
  law = λ ok.
      let flat = law_made last (law_seq (law_the sorts free x e at) l) in
      let done = flat.law ok in
      let lp = l.law (and_left _ _ (and_right true _ ok)) in
      record {
        exact = done.exact;
        begins = done.begins;
        sub = done.sub;
        some = done.some;
        plain = done.plain;
        agree = agree_via (suc n) last (behind_token n (the sorts) lp.agree);
      };
}
