-- The laws of the forms that many productions share.
use Rattle.std.proofs.Common.{◌≡◌, ℕ, zero, suc, Bool, true, false, not, ◌&&◌, ◌||◌, List, [], ◌∷◌, ◌++◌, Option, Some, None, refl, sym, ap, inl, inr, ◌⊎◌}
use Rattle.std.specs.Prelude.{is_some}
use Rattle.gql_tokens.specs.Tokens.{Token}
use Rattle.gql_tokens.specs.declared.token.Kind.{Kind}
use Rattle.gql_tokens.specs.declared.token.Kind.TheVariants as kind
use Rattle.gql_tokens.specs.Heads.{is_last}
use Rattle.gql_model.specs.Sorts.{Sort, is_in, starts, mark, word, rank}
use Rattle.gql_model.specs.Rules.{Rule, The, Seq, Opt, Many, Made, Behind, Before, Between, More, Perhaps, Whether, last, former, cons, or_none}
use Rattle.gql_documents.specs.Parsing.{Parser, token, seq, via, opt, many, behind, before, between, more, perhaps, whether}
use Rattle.gql_documents.proofs.SortLaws.{covers, starts_covers, starts_less, and_left, and_right, rank_is, text_is}
use Rattle.gql_documents.proofs.Laws.{Exact, Shape, Begins, Law, Lawful, origin, last_free, one_shape, seq_shape, law_the, law_seq}
use Rattle.gql_documents.proofs.Manys.{repeated_shape, law_many}
use Rattle.gql_documents.proofs.Parts.{law_made, law_opt, opt_shape, law_behind_token}

-- ---- wider shapes

abbrev pub leads : Bool → Bool → Bool
leads true b = b
leads false b = true

-- the first shape is within the second, which is sound
abbrev pub fits : Shape → Shape → Bool
fits s t = s.sound && (s.some && (leads s.empty t.empty && (covers t.enter s.enter && covers t.goes s.goes)))

led : (a b : Bool) → leads a b ≡ true → a ≡ true → b ≡ true
led true b e h = e
led false b e h = absurd cc

fit_begins : (s t : Shape) (front : List Token) → leads s.empty t.empty ≡ true → covers t.enter s.enter ≡ true → Begins s front → Begins t front
fit_begins s t front l c (inl h) = inl (starts_covers t.enter s.enter front c h)
fit_begins s t front l c (inr k) = inr (led s.empty t.empty l k.0, k.1)

pub law_fit : {A : Type 0} {n : ℕ} {R V : Rule A} {p q : Parser A} {s : Shape} (t : Shape) → Lawful n R V p q s → fits s t ≡ true → Lawful n R V p q t
law_fit {n = n} {s = s} t l ok =
    let ok2 = and_right s.sound _ ok in
    let ok3 = and_right s.some _ ok2 in
    let ok4 = and_right (leads s.empty t.empty) _ ok3 in
    let lp = l.law (and_left _ _ ok) in
    record {
      law = λ h. record {
        exact = record {
          done = lp.exact.done;
          fail = lp.exact.fail;
          complete = λ front a rest r g. lp.exact.complete front a rest r (starts_less t.goes s.goes rest (and_right (covers t.enter s.enter) _ ok4) g);
        };
        begins = λ front a r. fit_begins s t front (and_left (leads s.empty t.empty) _ ok3) (and_left (covers t.enter s.enter) _ ok4) (lp.begins front a r);
        sub = lp.sub;
        plain = lp.plain;
        some = λ k. lp.some (and_left s.some _ ok2);
        agree = lp.agree;
      };
    }

-- texts that aren't empty
abbrev pub shape : List Sort → List Sort → Shape
shape enter goes = record { empty = false; enter = enter; goes = goes; some = true; sound = true }

-- texts that may be empty
abbrev pub loose : List Sort → List Sort → Shape
loose enter goes = record { empty = true; enter = enter; goes = goes; some = true; sound = true }

-- ---- one token

abbrev pub sample : Kind → List ℕ → Token
sample k text = record { kind = k; text = text; place = origin }

mark_free : (k : Kind) → is_last k ≡ false → last_free (mark k) ≡ true
mark_free k free = rw free refl

mark_sample : (k : Kind) → is_in (mark k) (sample k []) ≡ true
mark_sample k = rw (rank_is (rank k)) refl

word_sample : (w : List ℕ) → is_in (word w) (sample kind.Name w) ≡ true
word_sample w = rw (text_is w) refl

pub law_mark : {n : ℕ} (k : Kind) → is_last k ≡ false → Lawful n (The (mark k)) (The (mark k)) (token (mark k)) (token (mark k)) (one_shape (mark k))
law_mark k free = law_the (mark k) (mark_free k free) (sample k []) (mark_sample k) refl

pub law_word : {n : ℕ} (w : List ℕ) → Lawful n (The (word w)) (The (word w)) (token (word w)) (token (word w)) (one_shape (word w))
law_word w = law_the (word w) refl (sample kind.Name w) (word_sample w) refl

-- ---- behind, before and between tokens

pub law_behind : {A : Type 0} {n : ℕ} {R V : Rule A} {p p' : Parser A} {sorts : List Sort} {s : Shape} → Lawful n (The sorts) (The sorts) (token sorts) (token sorts) (one_shape sorts) → Lawful n R V p p' s → Lawful n (Behind sorts R) (Behind sorts V) (behind sorts p) (behind sorts p') (seq_shape (one_shape sorts) s)
unfolding behind
law_behind t l = law_made last (law_seq t l)

pub law_before : {A : Type 0} {n : ℕ} {R V : Rule A} {p p' : Parser A} {sorts : List Sort} {s : Shape} → Lawful n (The sorts) (The sorts) (token sorts) (token sorts) (one_shape sorts) → Lawful n R V p p' s → Lawful n (Before sorts R) (Before sorts V) (before sorts p) (before sorts p') (seq_shape s (one_shape sorts))
unfolding before
law_before t l = law_made former (law_seq l t)

pub law_between : {A : Type 0} {n : ℕ} {R V : Rule A} {p p' : Parser A} {s : Shape} (left right : Kind) → is_last left ≡ false → is_last right ≡ false → Lawful n R V p p' s → Lawful n (Between (mark left) (mark right) R) (Between (mark left) (mark right) V) (between (mark left) (mark right) p) (between (mark left) (mark right) p') (seq_shape (one_shape (mark left)) (seq_shape s (one_shape (mark right))))
unfolding between
law_between left right fl fr l = law_behind (law_mark left fl) (law_before (law_mark right fr) l)

-- between tokens the parsers agree on texts of one token more
pub law_between_deeper : {A : Type 0} {n : ℕ} {R V : Rule A} {p p' : Parser A} {s : Shape} (left right : Kind) → is_last left ≡ false → is_last right ≡ false → Lawful n R V p p' s → Lawful (suc n) (Between (mark left) (mark right) R) (Between (mark left) (mark right) V) (between (mark left) (mark right) p) (between (mark left) (mark right) p') (seq_shape (one_shape (mark left)) (seq_shape s (one_shape (mark right))))
unfolding between
law_between_deeper left right fl fr l = law_behind_token (mark left) (mark_free left fl) (sample left []) (mark_sample left) refl (law_before (law_mark right fr) l)

-- ---- lists and choices

pub law_more : {A : Type 0} {n : ℕ} {R V : Rule A} {p p' : Parser A} {s : Shape} (sorts : List Sort) → Lawful n R V p p' s → Lawful n (More R) (More V) (more sorts p) (more sorts p') (seq_shape s (repeated_shape sorts s))
unfolding more
law_more sorts l = law_made cons (law_seq l (law_many sorts l))

pub law_perhaps : {A : Type 0} {n : ℕ} {R V : Rule (List A)} {p p' : Parser (List A)} {s : Shape} (sorts : List Sort) → Lawful n R V p p' s → Lawful n (Perhaps R) (Perhaps V) (perhaps sorts p) (perhaps sorts p') (opt_shape sorts s)
unfolding perhaps
law_perhaps sorts l = law_made or_none (law_opt sorts l)

pub law_whether : {n : ℕ} {sorts : List Sort} → Lawful n (The sorts) (The sorts) (token sorts) (token sorts) (one_shape sorts) → Lawful n (Whether sorts) (Whether sorts) (whether sorts) (whether sorts) (opt_shape sorts (one_shape sorts))
unfolding whether
law_whether {sorts = sorts} t = law_made is_some (law_opt sorts t)
