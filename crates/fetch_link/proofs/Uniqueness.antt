-- The same bytes come to one thing alone, at the close too, and ask one thing alone.
use Rattle.std.proofs.Common.{◌≡◌, inl, inr, ℕ, true, false, List, [], ◌∷◌, ◌++◌, All, refl, ap, ap₂, sym, subst, ◌∙◌, append_assoc}
use Rattle.std.proofs.lemmas.List.Elements.{All-head, All-tail}
use Rattle.std.specs.List.{flat_map}
use Rattle.httparse.specs.Grammar.{ResponseHead, print_response, status_code, RequestHead}
use Rattle.httparse.proofs.GrammarLemmas.{response_unique, request_unique}
use Rattle.gql_value.specs.Outcome.{Meaning}
use Rattle.http_model.specs.Heads.{IsWholeResponse}
use Rattle.http_model.specs.Requests.{Asking, Asks, asking, body_so_far, request_framing_of}
use Rattle.fetch_link.proofs.RequestLaws.{unread-whole}
use Rattle.http_model.specs.Message.{Progress, body_progress, closed_body, framing_of, is_interim, IsInterim, FinalGives, Decoded, ClosedGives, Closed}

-- what a final head comes to is one thing
final_once : (bytes : List ℕ) (p q : Progress) → FinalGives bytes p → FinalGives bytes q → p ≡ q
final_once bytes p q (inl a) (inl b) = a.1 ∙ sym b.1
final_once bytes p q (inl a) (inr (inl b)) = absurd (b.0.stuck a.0)
final_once bytes p q (inl a) (inr (inr b)) = absurd (a.0.none b.0 b.1 b.2.reads.reads)
final_once bytes p q (inr (inl a)) (inl b) = absurd (a.0.stuck b.0)
final_once bytes p q (inr (inl a)) (inr (inl b)) = a.1 ∙ sym b.1
final_once bytes p q (inr (inl a)) (inr (inr b)) = absurd (a.0.none b.0 b.1 b.2.reads)
final_once bytes p q (inr (inr a)) (inl b) = absurd (b.0.none a.0 a.1 a.2.reads.reads)
final_once bytes p q (inr (inr a)) (inr (inl b)) = absurd (b.0.none a.0 a.1 a.2.reads)
final_once bytes p q (inr (inr a)) (inr (inr b)) =
    let same = response_unique bytes a.0 b.0 a.1 b.1 a.2.reads.reads b.2.reads.reads in
    a.3 ∙ ap₂ (λ (h : ResponseHead) (came : List ℕ). body_progress (status_code h) (framing_of h) came) same.0 same.1 ∙ sym b.3

-- no final head stands where the head of an interim response does
interim_first : (bytes : List ℕ) (k : ResponseHead) (rest : List ℕ) (p : Progress) → IsWholeResponse bytes k rest → is_interim (status_code k) ≡ true → FinalGives bytes p → ⊥
interim_first bytes k rest p whole interim (inl a) = a.0.none k rest whole.reads
interim_first bytes k rest p whole interim (inr (inl a)) = a.0.none k rest whole
interim_first bytes k rest p whole interim (inr (inr a)) =
    let same = (response_unique bytes k a.0 rest a.1 whole.reads a.2.reads.reads).0 in
    let never : true ≡ false = sym interim ∙ ap (λ h. is_interim (status_code h)) same ∙ a.2.final in
    cc

-- the first of the interim responses is whole at the front
first_whole : (bytes : List ℕ) (h : ResponseHead) (hs : List ResponseHead) (rest : List ℕ) → bytes ≡ flat_map print_response (h ∷ hs) ++ rest → IsInterim h → IsWholeResponse bytes h (flat_map print_response hs ++ rest)
first_whole bytes h hs rest split is = record {
  reads = (is.0.reads.0, split ∙ append_assoc (print_response h) (flat_map print_response hs) rest);
  fields = is.0.fields;
  size = is.0.size;
}

once_from : (xs ys : List ResponseHead) (bytes r s : List ℕ) (p q : Progress) → bytes ≡ flat_map print_response xs ++ r → bytes ≡ flat_map print_response ys ++ s
    → All IsInterim xs → All IsInterim ys → FinalGives r p → FinalGives s q → p ≡ q
once_from [] [] bytes r s p q one other each all gives same = final_once r p q gives (subst (λ b. FinalGives b q) (sym other ∙ one) same)
once_from [] (k ∷ ys) bytes r s p q one other each all gives same =
    let is = All-head IsInterim k ys all in
    absurd (interim_first bytes k (flat_map print_response ys ++ s) p (first_whole bytes k ys s other is) is.1 (subst (λ b. FinalGives b p) (sym one) gives))
once_from (h ∷ xs) [] bytes r s p q one other each all gives same =
    let is = All-head IsInterim h xs each in
    absurd (interim_first bytes h (flat_map print_response xs ++ r) q (first_whole bytes h xs r one is) is.1 (subst (λ b. FinalGives b q) (sym other) same))
once_from (h ∷ xs) (k ∷ ys) bytes r s p q one other each all gives same =
    let first = first_whole bytes h xs r one (All-head IsInterim h xs each) in
    let second = first_whole bytes k ys s other (All-head IsInterim k ys all) in
    let behind = (response_unique bytes h k _ _ first.reads second.reads).1 in
    once_from xs ys (flat_map print_response xs ++ r) r s p q refl behind (All-tail IsInterim h xs each) (All-tail IsInterim k ys all) gives same

pub decoded_once : (bytes : List ℕ) (one other : Progress) → Decoded bytes one → Decoded bytes other → one ≡ other
decoded_once bytes one other a b = once_from a.behind.interim b.behind.interim bytes a.rest b.rest one other a.behind.split b.behind.split a.behind.each b.behind.each a.gives b.gives

-- the same at the close
closed_here : (bytes : List ℕ) (p q : Meaning) → ClosedGives bytes p → ClosedGives bytes q → p ≡ q
closed_here bytes p q (inl a) (inl b) = a.1 ∙ sym b.1
closed_here bytes p q (inl a) (inr b) = absurd (a.0 b.0 b.1 b.2.reads)
closed_here bytes p q (inr a) (inl b) = absurd (b.0 a.0 a.1 a.2.reads)
closed_here bytes p q (inr a) (inr b) =
    let same = response_unique bytes a.0 b.0 a.1 b.1 a.2.reads.reads b.2.reads.reads in
    a.3 ∙ ap₂ (λ (h : ResponseHead) (came : List ℕ). closed_body (status_code h) (framing_of h) came) same.0 same.1 ∙ sym b.3

-- where the head of an interim response stands, the bytes come to nothing before what follows it
interim_closed : (bytes : List ℕ) (k : ResponseHead) (rest : List ℕ) (p : Meaning) → IsWholeResponse bytes k rest → is_interim (status_code k) ≡ true → ClosedGives bytes p → ⊥
interim_closed bytes k rest p whole interim (inl a) = a.0 k rest whole
interim_closed bytes k rest p whole interim (inr a) =
    let same = (response_unique bytes k a.0 rest a.1 whole.reads a.2.reads.reads).0 in
    let never : true ≡ false = sym interim ∙ ap (λ h. is_interim (status_code h)) same ∙ a.2.final in
    cc

closed_from : (xs ys : List ResponseHead) (bytes r s : List ℕ) (p q : Meaning) → bytes ≡ flat_map print_response xs ++ r → bytes ≡ flat_map print_response ys ++ s
    → All IsInterim xs → All IsInterim ys → ClosedGives r p → ClosedGives s q → p ≡ q
closed_from [] [] bytes r s p q one other each all gives same = closed_here r p q gives (subst (λ b. ClosedGives b q) (sym other ∙ one) same)
closed_from [] (k ∷ ys) bytes r s p q one other each all gives same =
    let is = All-head IsInterim k ys all in
    absurd (interim_closed bytes k (flat_map print_response ys ++ s) p (first_whole bytes k ys s other is) is.1 (subst (λ b. ClosedGives b p) (sym one) gives))
closed_from (h ∷ xs) [] bytes r s p q one other each all gives same =
    let is = All-head IsInterim h xs each in
    absurd (interim_closed bytes h (flat_map print_response xs ++ r) q (first_whole bytes h xs r one is) is.1 (subst (λ b. ClosedGives b q) (sym other) same))
closed_from (h ∷ xs) (k ∷ ys) bytes r s p q one other each all gives same =
    let first = first_whole bytes h xs r one (All-head IsInterim h xs each) in
    let second = first_whole bytes k ys s other (All-head IsInterim k ys all) in
    let behind = (response_unique bytes h k _ _ first.reads second.reads).1 in
    closed_from xs ys (flat_map print_response xs ++ r) r s p q refl behind (All-tail IsInterim h xs each) (All-tail IsInterim k ys all) gives same

pub closed_once : (bytes : List ℕ) (one other : Meaning) → Closed bytes one → Closed bytes other → one ≡ other
closed_once bytes one other a b = closed_from a.behind.interim b.behind.interim bytes a.rest b.rest one other a.behind.split b.behind.split a.behind.each b.behind.each a.gives b.gives

pub asked_once : (bytes : List ℕ) (p q : Asking) → Asks bytes p → Asks bytes q → p ≡ q
asked_once bytes p q (inl a) (inl b) = a.1 ∙ sym b.1
asked_once bytes p q (inl a) (inr (inl b)) = a.1 ∙ sym b.1
asked_once bytes p q (inl a) (inr (inr (inl b))) = absurd (b.0.read a.0)
asked_once bytes p q (inl a) (inr (inr (inr b))) = absurd (unread-whole bytes b.0 b.1 a.0 b.2.reads)
asked_once bytes p q (inr (inl a)) (inl b) = a.1 ∙ sym b.1
asked_once bytes p q (inr (inl a)) (inr (inl b)) = a.1 ∙ sym b.1
asked_once bytes p q (inr (inl a)) (inr (inr (inl b))) = absurd (b.0.stuck a.0)
asked_once bytes p q (inr (inl a)) (inr (inr (inr b))) = absurd (a.0.none b.0 b.1 b.2.reads)
asked_once bytes p q (inr (inr (inl a))) (inl b) = absurd (a.0.read b.0)
asked_once bytes p q (inr (inr (inl a))) (inr (inl b)) = absurd (a.0.stuck b.0)
asked_once bytes p q (inr (inr (inl a))) (inr (inr (inl b))) = a.1 ∙ sym b.1
asked_once bytes p q (inr (inr (inl a))) (inr (inr (inr b))) = absurd (a.0.none b.0 b.1 b.2)
asked_once bytes p q (inr (inr (inr a))) (inl b) = absurd (unread-whole bytes a.0 a.1 b.0 a.2.reads)
asked_once bytes p q (inr (inr (inr a))) (inr (inl b)) = absurd (b.0.none a.0 a.1 a.2.reads)
asked_once bytes p q (inr (inr (inr a))) (inr (inr (inl b))) = absurd (b.0.none a.0 a.1 a.2)
asked_once bytes p q (inr (inr (inr a))) (inr (inr (inr b))) =
    let same = request_unique bytes a.0 b.0 a.1 b.1 a.2.reads b.2.reads in
    a.3 ∙ ap₂ (λ (h : RequestHead) (came : List ℕ). asking h (body_so_far (request_framing_of h) came)) same.0 same.1 ∙ sym b.3
