-- How the text and the progress of some bytes come from those of their parts.
use Rattle.std.proofs.Common.{◌≡◌, ℕ, ◌+◌, ◌≤◌, List, [], ◌∷◌, ◌++◌, length, Bool, true, false, refl, sym, ap, ◌∙◌, append_assoc, append-nil, arith}
use Rattle.std.specs.Prelude.{◌==◌, if◌then◌else◌}
use Rattle.gateway.specs.Lines.{HasNoLineFeed}
use Rattle.gateway.specs.Progress.{Progress, grown_by, line_here, next_line, text_after, progress_after}

abbrev with_rest : Progress → List ℕ → Progress
with_rest p rest = record { number = p.number; rest = rest; state = p.state }

pub grown_by-nil : (p : Progress) → grown_by p [] ≡ p
grown_by-nil p = ap (with_rest p) (append-nil p.rest)

pub grown_by-grown_by : (p : Progress) (xs ys : List ℕ) → grown_by (grown_by p xs) ys ≡ grown_by p (xs ++ ys)
grown_by-grown_by p xs ys = ap (with_rest p) (append_assoc p.rest xs ys)

text_by : (is_feed : Bool) (p : Progress) (b : ℕ) (xs ys : List ℕ) → text_after (next_line p) (xs ++ ys) ≡ text_after (next_line p) xs ++ text_after (progress_after (next_line p) xs) ys
    → text_after (grown_by p (b ∷ [])) (xs ++ ys) ≡ text_after (grown_by p (b ∷ [])) xs ++ text_after (progress_after (grown_by p (b ∷ [])) xs) ys
    → (if is_feed then (line_here p).text ++ text_after (next_line p) (xs ++ ys) else text_after (grown_by p (b ∷ [])) (xs ++ ys))
    ≡ (if is_feed then (line_here p).text ++ text_after (next_line p) xs else text_after (grown_by p (b ∷ [])) xs)
    ++ text_after (if is_feed then progress_after (next_line p) xs else progress_after (grown_by p (b ∷ [])) xs) ys
text_by true p b xs ys at_feed at_other = ap (λ z. (line_here p).text ++ z) at_feed ∙ sym (append_assoc (line_here p).text _ _)
text_by false p b xs ys at_feed at_other = at_other

pub text_after-append : (p : Progress) (xs ys : List ℕ) → text_after p (xs ++ ys) ≡ text_after p xs ++ text_after (progress_after p xs) ys
text_after-append p [] ys = refl
text_after-append p (b ∷ xs) ys = text_by (b == 10) p b xs ys (text_after-append (next_line p) xs ys) (text_after-append (grown_by p (b ∷ [])) xs ys)

progress_by : (is_feed : Bool) (p q r s : Progress) (ys : List ℕ) → p ≡ progress_after q ys → r ≡ progress_after s ys → (if is_feed then p else r) ≡ progress_after (if is_feed then q else s) ys
progress_by true p q r s ys at_feed at_other = at_feed
progress_by false p q r s ys at_feed at_other = at_other

pub progress_after-append : (p : Progress) (xs ys : List ℕ) → progress_after p (xs ++ ys) ≡ progress_after (progress_after p xs) ys
progress_after-append p [] ys = refl
progress_after-append p (b ∷ xs) ys = progress_by (b == 10) _ _ _ _ ys (progress_after-append (next_line p) xs ys) (progress_after-append (grown_by p (b ∷ [])) xs ys)

-- with no line feed nothing is written
pub not_feed : {A : Type 0} (is_feed : Bool) (x y : A) → is_feed ≡ false → (if is_feed then x else y) ≡ y
not_feed true x y e = cc
not_feed false x y e = refl

pub text_after-front : (p : Progress) (front : List ℕ) → HasNoLineFeed front → text_after p front ≡ []
text_after-front p [] n = refl
text_after-front p (b ∷ front) n = not_feed (b == 10) _ _ n.0 ∙ text_after-front (grown_by p (b ∷ [])) front n.1

pub progress_after-front : (p : Progress) (front : List ℕ) → HasNoLineFeed front → progress_after p front ≡ grown_by p front
progress_after-front p [] n = sym (grown_by-nil p)
progress_after-front p (b ∷ front) n = not_feed (b == 10) _ _ n.0 ∙ progress_after-front (grown_by p (b ∷ [])) front n.1 ∙ grown_by-grown_by p (b ∷ []) front

-- a line feed ends the line
pub text_after-line : (p : Progress) (front : List ℕ) → HasNoLineFeed front → text_after p (front ++ 10 ∷ []) ≡ (line_here (grown_by p front)).text
text_after-line p front n =
    text_after-append p front (10 ∷ [])
    ∙ ap (λ z. z ++ text_after (progress_after p front) (10 ∷ [])) (text_after-front p front n)
    ∙ ap (λ z. text_after z (10 ∷ [])) (progress_after-front p front n)
    ∙ append-nil _

pub progress_after-line : (p : Progress) (front : List ℕ) → HasNoLineFeed front → progress_after p (front ++ 10 ∷ []) ≡ next_line (grown_by p front)
progress_after-line p front n = progress_after-append p front (10 ∷ []) ∙ ap (λ z. progress_after z (10 ∷ [])) (progress_after-front p front n)

-- what comes behind a part that was run: one more line, and then a rest without a line feed
module _ (p : Progress) (run : List ℕ) where
  pub text_after-next : (front : List ℕ) → HasNoLineFeed front → text_after p (run ++ (front ++ 10 ∷ [])) ≡ text_after p run ++ (line_here (grown_by (progress_after p run) front)).text
  text_after-next front n = text_after-append p run (front ++ 10 ∷ []) ∙ ap (λ z. text_after p run ++ z) (text_after-line (progress_after p run) front n)

  pub progress_after-next : (front : List ℕ) → HasNoLineFeed front → progress_after p (run ++ (front ++ 10 ∷ [])) ≡ next_line (grown_by (progress_after p run) front)
  progress_after-next front n = progress_after-append p run (front ++ 10 ∷ []) ∙ progress_after-line (progress_after p run) front n

  pub text_after-rest : (left : List ℕ) → HasNoLineFeed left → text_after p (run ++ left) ≡ text_after p run
  text_after-rest left n = text_after-append p run left ∙ ap (λ z. text_after p run ++ z) (text_after-front (progress_after p run) left n) ∙ append-nil (text_after p run)

  pub progress_after-rest : (left : List ℕ) → HasNoLineFeed left → progress_after p (run ++ left) ≡ grown_by (progress_after p run) left
  progress_after-rest left n = progress_after-append p run left ∙ progress_after-front (progress_after p run) left n

number_by : (is_feed : Bool) (p q : Progress) (n : ℕ) → p.number ≤ n → q.number ≤ n → (if is_feed then p else q).number ≤ n
number_by true p q n at_feed at_other = at_feed
number_by false p q n at_feed at_other = at_other

-- no more lines than bytes
pub number-le : (p : Progress) (bs : List ℕ) → (progress_after p bs).number ≤ p.number + length bs
number-le p [] = omega arith
number-le p (b ∷ bs) =
    let at_feed = number-le (next_line p) bs in
    let at_other = number-le (grown_by p (b ∷ [])) bs in
    number_by (b == 10) _ _ _ (omega arith) (omega arith)
