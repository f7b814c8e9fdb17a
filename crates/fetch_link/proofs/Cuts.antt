-- The front of a head, where its last bytes are still to come.
use Rattle.std.proofs.Common.{◌≡◌, ◌⊎◌, inl, inr, ℕ, ◌+◌, ◌≤◌, true, false, List, [], ◌∷◌, ◌++◌, length, drop, get_or, if◌then◌else◌, refl, ap, ap₂, sym, subst, ◌∙◌, arith, append_assoc, append-nil}
use Rattle.std.proofs.lemmas.List.{length-append}
use Rattle.std.specs.List.{flat_map}
use Rattle.httparse.specs.Pieces.{is_newline}
use Rattle.httparse.specs.Grammar.{LineEnd, crlf, lf, print_end, print_blank, print_version, Field, print_field, print_section, print_reason, RequestHead, print_request, ResponseHead, print_response}
use Rattle.httparse.proofs.GrammarLemmas.{print_request-append, request_prefix_free, print_response-append, response_prefix_free}
use Rattle.http_model.specs.Heads.{skip_empty_lines, lines_ended, IsWholeResponse, IsOpenResponse}
use Rattle.http_model.specs.Requests.{IsWholeRequest, IsOpenRequest}
use Rattle.head_scan.proofs.Counting.{feeds, feeds-append}
use Rattle.fetch_link.proofs.LineCounts.{lines_ended-response}
use Rattle.fetch_link.proofs.RequestLaws.{lines_ended-request}

-- of two fronts of the same bytes one begins the other: the second the first, or the first the second with bytes to spare
pub two_fronts : (front more text rest : List ℕ) → front ++ more ≡ text ++ rest
    → ((left : List ℕ) × (front ≡ text ++ left)) ⊎ ((b : ℕ) × (left : List ℕ) × (text ≡ front ++ b ∷ left))
two_fronts front more [] rest same = inl (front, refl)
two_fronts [] more (x ∷ text) rest same = inr (x, text, refl)
two_fronts (b ∷ front) more (x ∷ text) rest same =
    let first : b ≡ x = ap (λ l. get_or l 0 0) same in
    let behind : front ++ more ≡ text ++ rest = ap (drop 1) same in
    elim (two_fronts front more text rest behind) [
      | inl s ↦ inl (s.0, ap₂ (λ (c : ℕ) (l : List ℕ). c ∷ l) first s.1)
      | inr s ↦ inr (s.0, s.1, ap₂ (λ (c : ℕ) (l : List ℕ). c ∷ l) (sym first) s.2)
    ]

-- the last byte is a line feed
record EndsLine (text : List ℕ) : Type 0 where
  front : List ℕ
  split : text ≡ front ++ 10 ∷ []

ends-end : (end : LineEnd) → EndsLine (print_end end)
ends-end crlf = record { front = 13 ∷ []; split = refl }
ends-end lf = record { front = []; split = refl }

ends-append : (xs text : List ℕ) → EndsLine text → EndsLine (xs ++ text)
ends-append xs text ends = record { front = xs ++ ends.front; split = ap (λ t. xs ++ t) ends.split ∙ sym (append_assoc xs ends.front (10 ∷ [])) }

ends-section : (fields : List Field) (last : LineEnd) → EndsLine (print_section fields last ++ [])
ends-section fields last = subst EndsLine (sym (append-nil (print_section fields last))) (ends-append (flat_map print_field fields) (print_end last) (ends-end last))

ends-response : (h : ResponseHead) → EndsLine (print_response h)
ends-response h =
    let section = print_section h.fields h.last ++ [] in
    let behind_reason = print_end h.line_end ++ section in
    let behind_code = print_reason h.reason ++ behind_reason in
    let behind_version = 32 ∷ (h.digits ++ behind_code) in
    let line = print_version h.minor ++ behind_version in
    let same : print_response h ≡ print_blank h.blank ++ line = sym (append-nil _) ∙ print_response-append h [] in
    let fields : EndsLine behind_reason = ends-append (print_end h.line_end) section (ends-section h.fields h.last) in
    let code : EndsLine (h.digits ++ behind_code) = ends-append h.digits behind_code (ends-append (print_reason h.reason) behind_reason fields) in
    let version : EndsLine behind_version = ends-append (32 ∷ []) (h.digits ++ behind_code) code in
    subst EndsLine (sym same) (ends-append (print_blank h.blank) line (ends-append (print_version h.minor) behind_version version))

ends-request : (h : RequestHead) → EndsLine (print_request h)
ends-request h =
    let section = print_section h.fields h.last ++ [] in
    let behind_version = print_end h.line_end ++ section in
    let version = print_version h.minor ++ behind_version in
    let behind_target = 32 ∷ version in
    let behind_method = 32 ∷ (h.target ++ behind_target) in
    let line = h.method ++ behind_method in
    let same : print_request h ≡ print_blank h.blank ++ line = sym (append-nil _) ∙ print_request-append h [] in
    let fields : EndsLine behind_version = ends-append (print_end h.line_end) section (ends-section h.fields h.last) in
    let target : EndsLine behind_target = ends-append (32 ∷ []) version (ends-append (print_version h.minor) behind_version fields) in
    let method : EndsLine behind_method = ends-append (32 ∷ []) (h.target ++ behind_target) (ends-append h.target behind_target target) in
    subst EndsLine (sym same) (ends-append (print_blank h.blank) line (ends-append h.method behind_method method))

-- what ends in a line feed ends so behind any front
feeds-behind : (front left before : List ℕ) (b : ℕ) → front ++ b ∷ left ≡ before ++ 10 ∷ [] → 1 ≤ feeds (b ∷ left)
feeds-behind [] left before b same = let count = ap feeds same in let one : feeds (10 ∷ []) ≡ 1 = refl in omega (arith, count, one, feeds-append before (10 ∷ []))
feeds-behind (x ∷ front) left [] b same = let count = ap length same in absurd (omega (arith, count, length-append front (b ∷ left)))
feeds-behind (x ∷ front) left (y ∷ before) b same = feeds-behind front left before b (ap (drop 1) same)

-- no line of a front has ended, or each that ends behind it is one more
lines_ended-behind : (front behind : List ℕ) → (lines_ended front ≡ 0) ⊎ (lines_ended (front ++ behind) ≡ lines_ended front + feeds behind)
lines_ended-behind [] behind = inl refl
lines_ended-behind (b ∷ front) behind =
    elim (is_newline b) as (λ t. (feeds (if t then skip_empty_lines front else b ∷ front) ≡ 0)
    ⊎ (feeds (if t then skip_empty_lines (front ++ behind) else b ∷ (front ++ behind)) ≡ feeds (if t then skip_empty_lines front else b ∷ front) + feeds behind)) [
      | true ↦ lines_ended-behind front behind
      | false ↦ inr (feeds-append (b ∷ front) behind)
    ]

-- the last line of a head hasn't ended before its last byte
lines-before : (front text left : List ℕ) (b n : ℕ) → EndsLine text → lines_ended text ≡ n + 2 → text ≡ front ++ b ∷ left → lines_ended front ≤ n + 1
lines-before front text left b n ends lines split =
    let all = ap lines_ended split in
    let last = feeds-behind front left ends.front b (sym split ∙ ends.split) in
    elim (lines_ended-behind front (b ∷ left)) [ inl none ↦ omega (arith, none) | inr count ↦ omega (arith, all, count, last, lines) ]

-- before the last byte of a head within the limits no head is whole, and none of the limits is passed
pub IsOpenResponse-before : (bytes text rest left : List ℕ) (h : ResponseHead) (b : ℕ) → IsWholeResponse text h rest → print_response h ≡ bytes ++ b ∷ left → IsOpenResponse bytes
IsOpenResponse-before bytes text rest left h b whole split =
    let all = sym split ∙ sym (append-nil (print_response h)) in
    let size = ap length split in record {
      none = λ k more reads.
          let past = ap length (response_prefix_free bytes (b ∷ left) k h more [] reads (whole.reads.0, all)).1 in
          omega (arith, past, length-append more (b ∷ left));
      may = (b ∷ left, h, (whole.reads.0, all));
      size = omega (arith, size, length-append bytes (b ∷ left), whole.size);
      lines = omega (arith, lines-before bytes (print_response h) left b (length h.fields) (ends-response h) (lines_ended-response h whole.reads.0) split, whole.fields);
    }

pub IsOpenRequest-before : (bytes text rest left : List ℕ) (h : RequestHead) (b : ℕ) → IsWholeRequest text h rest → print_request h ≡ bytes ++ b ∷ left → IsOpenRequest bytes
IsOpenRequest-before bytes text rest left h b whole split =
    let all = sym split ∙ sym (append-nil (print_request h)) in
    let size = ap length split in record {
      none = λ k more reads.
          let past = ap length (request_prefix_free bytes (b ∷ left) k h more [] reads (whole.reads.0, all)).1 in
          omega (arith, past, length-append more (b ∷ left));
      may = inl (b ∷ left, h, (whole.reads.0, all));
      size = omega (arith, size, length-append bytes (b ∷ left), whole.size);
      lines = omega (arith, lines-before bytes (print_request h) left b (length h.fields) (ends-request h) (lines_ended-request h whole.reads.0) split, whole.fields);
    }
