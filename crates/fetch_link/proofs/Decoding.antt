-- What all bytes so far come to, from what is kept of them.
use Rattle.std.proofs.Common.{◌≡◌, inr, ℕ, ◌+◌, ◌<◌, ◌≤◌, false, List, [], ◌∷◌, ◌++◌, length, drop, refl, ap, sym, subst, ◌∙◌, arith, append_assoc, append-nil}
use Rattle.std.proofs.lemmas.List.{length-append}
use Rattle.std.proofs.lemmas.Grind.{flat_map-append}
use Rattle.std.proofs.lemmas.List.Elements.{All-nil, All-cons, All-append}
use Rattle.std.specs.List.{flat_map}
use Rattle.httparse.specs.Grammar.{ResponseHead, print_response, status_code, ReadsResponse, IsResponseHead}
use Rattle.httparse.proofs.GrammarLemmas.{response_unique, ReadsResponse-append}
use Rattle.http_model.specs.Heads.{IsWholeResponse, lines_ended}
use Rattle.http_model.specs.Message.{Progress, body_progress, framing_of, is_interim, IsInterim, BehindInterim, IsFinal, Decoded}
use Rattle.fetch_link.specs.Fetching.{HasNoHead, IsInterimAt}
use Rattle.fetch_link.proofs.LineCounts.{lines_ended-response}

has_line : (bytes : List ℕ) (n : ℕ) → lines_ended bytes ≡ n + 2 → 0 < length bytes
has_line [] n lines = absurd (omega (arith, lines))
has_line (b ∷ bytes) n lines = omega arith

-- a whole head has bytes
pub length-response : (h : ResponseHead) → IsResponseHead h → 0 < length (print_response h)
length-response h is = has_line (print_response h) (length h.fields) (lines_ended-response h is)

-- and stands in the bytes that begin with it
pub length-whole : (bytes : List ℕ) (h : ResponseHead) (rest : List ℕ) → ReadsResponse bytes h rest → length (print_response h) ≤ length bytes
length-whole bytes h rest reads = let same = ap length reads.1 ∙ length-append (print_response h) rest in omega (arith, same)

-- nothing has no whole head
pub HasNoHead-nil : HasNoHead []
HasNoHead-nil h rest whole = omega (arith, length-response h whole.reads.0, length-whole [] h rest whole.reads)

-- more bytes stand behind a whole head
pub IsWholeResponse-append : (bytes : List ℕ) (h : ResponseHead) (rest more : List ℕ) → IsWholeResponse bytes h rest → IsWholeResponse (bytes ++ more) h (rest ++ more)
IsWholeResponse-append bytes h rest more whole = record { reads = ReadsResponse-append bytes h rest more whole.reads; fields = whole.fields; size = whole.size }

pub IsFinal-append : (bytes : List ℕ) (h : ResponseHead) (came more : List ℕ) → IsFinal bytes h came → IsFinal (bytes ++ more) h (came ++ more)
IsFinal-append bytes h came more final = record { reads = IsWholeResponse-append bytes h came more final.reads; final = final.final }

pub BehindInterim-append : (bytes rest more : List ℕ) → BehindInterim bytes rest → BehindInterim (bytes ++ more) (rest ++ more)
BehindInterim-append bytes rest more behind = record {
  interim = behind.interim;
  split = ap (λ b. b ++ more) behind.split ∙ append_assoc (flat_map print_response behind.interim) rest more;
  each = behind.each;
}

-- nothing stands behind no interim response
pub BehindInterim-nil : BehindInterim [] []
BehindInterim-nil = record { interim = []; split = refl; each = All-nil IsInterim }

-- one more head of an interim response
pub BehindInterim-more : (seen bytes : List ℕ) (size : ℕ) → IsInterimAt bytes size → BehindInterim seen bytes → BehindInterim seen (drop size bytes)
BehindInterim-more seen bytes size at behind =
    let h = at.0 in
    let rest = drop size bytes in
    let front = flat_map print_response behind.interim in
    let alone : IsWholeResponse (print_response h) h [] = record { reads = (at.1.reads.0, sym (append-nil (print_response h))); fields = at.1.fields; size = at.1.size } in
    let more = flat_map-append print_response behind.interim (h ∷ []) ∙ ap (λ b. front ++ b) (append-nil (print_response h)) in record {
      interim = behind.interim ++ h ∷ [];
      split = behind.split ∙ ap (λ b. front ++ b) at.1.reads.1 ∙ sym (append_assoc front (print_response h) rest) ∙ ap (λ b. b ++ rest) (sym more);
      each = All-append IsInterim behind.interim (h ∷ []) behind.each (All-cons IsInterim h [] (alone, at.2) (All-nil IsInterim));
    }

-- another head of the same bytes is the same
pub same_status : (bytes : List ℕ) (h k : ResponseHead) (rest more : List ℕ) → IsWholeResponse bytes h rest → IsWholeResponse bytes k more → is_interim (status_code h) ≡ false → is_interim (status_code k) ≡ false
same_status bytes h k rest more one other final = subst (λ g. is_interim (status_code g) ≡ false) (response_unique bytes h k rest more one.reads other.reads).0 final

-- a final head comes to what its body comes to
pub final-gives : (seen rest : List ℕ) (h : ResponseHead) (came : List ℕ) (progress : Progress) → BehindInterim seen rest → IsFinal rest h came → body_progress (status_code h) (framing_of h) came ≡ progress → Decoded seen progress
final-gives seen rest h came progress behind final gives = record { rest = rest; behind = behind; gives = inr (inr (h, came, final, sym gives)) }
