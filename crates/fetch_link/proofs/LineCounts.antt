-- How many lines of a head have ended.
use Rattle.std.proofs.Common.{◌≡◌, ◌≢◌, ℕ, ◌+◌, ◌<◌, ◌≤◌, ◌==◌, Bool, true, false, IsTrue, All, List, [], ◌∷◌, ◌++◌, length, codes, Option, None, Some, if◌then◌else◌, cond, refl, ap, ap₂, sym, ◌∙◌, subst, arith, append-nil, zero-add}
use Rattle.std.proofs.lemmas.Bool.Decides.{nat_tests}
use Rattle.std.proofs.lemmas.List.Elements.{All-head, All-tail}
use Rattle.std.proofs.lemmas.List.Sums.{sum_by-cons}
use Rattle.std.specs.List.{flat_map}
use Rattle.std.specs.Char.{is_ascii_digit}
use Rattle.httparse.specs.Pieces.{is_newline}
use Rattle.httparse.specs.Grammar.{is_token_byte, is_value_byte, AllPass, LineEnd, crlf, lf, print_end, print_blank, print_version, Field, print_field, IsField, print_reason, reason_phrase, print_section, ResponseHead, print_response, IsResponseHead}
use Rattle.httparse.proofs.GrammarLemmas.{print_response-append}
use Rattle.httparse.specs.Spans.{ResponseExceeds}
use Rattle.http_model.specs.Heads.{skip_empty_lines, lines_ended}
use Rattle.head_scan.proofs.Counting.{feeds, feeds-append, lines_ended-append}

-- 1 for a line feed
abbrev one : ℕ → ℕ
one b = cond (b == 10) 1 0

pub feeds-cons : (b : ℕ) (bytes : List ℕ) → feeds (b ∷ bytes) ≡ one b + feeds bytes
feeds-cons b bytes = sum_by-cons one b bytes

one-le : (b : ℕ) → one b ≤ 1
one-le b = elim (b == 10) as (λ t. cond t 1 0 ≤ 1) [ true ↦ omega arith | false ↦ omega arith ]

feeds-one : (b : ℕ) → feeds (b ∷ []) ≤ 1
feeds-one b = omega (arith, feeds-cons b [], one-le b)

pub one-other : (b : ℕ) (bytes : List ℕ) → b ≢ 10 → feeds (b ∷ bytes) ≡ feeds bytes
one-other b bytes other =
    let no : (b == 10) ≡ false = grind (arith, nat_tests) in
    feeds-cons b bytes ∙ ap (λ t. cond t 1 0 + feeds bytes) no ∙ zero-add (feeds bytes)

-- bytes that pass a test which a line feed fails have none
pub feeds-none : (test : ℕ → Bool) (bytes : List ℕ) → test 10 ≡ false → AllPass test bytes → feeds bytes ≡ 0
feeds-none test [] fails all = refl
feeds-none test (b ∷ bytes) fails all =
    let P : ℕ → Type 0 = λ x. IsTrue (test x) in
    let passes : P b = All-head P b bytes all in
    let other : b ≢ 10 = λ same. let never : false ≡ true = sym fails ∙ subst P same passes in cc in
    one-other b bytes other ∙ feeds-none test bytes fails (All-tail P b bytes all)

pub feeds-end : (end : LineEnd) → feeds (print_end end) ≡ 1
feeds-end crlf = refl
feeds-end lf = refl

pub skip-blank : (ends : List LineEnd) (rest : List ℕ) → skip_empty_lines (print_blank ends ++ rest) ≡ skip_empty_lines rest
skip-blank [] rest = refl
skip-blank (crlf ∷ ends) rest = skip-blank ends rest
skip-blank (lf ∷ ends) rest = skip-blank ends rest

-- one more byte ends at most one line
pub lines_ended-push : (bytes : List ℕ) (b : ℕ) → lines_ended (bytes ++ b ∷ []) ≤ lines_ended bytes + 1
lines_ended-push [] b = elim (is_newline b) as (λ t. feeds (if t then [] else b ∷ []) ≤ 0 + 1) [ true ↦ omega arith | false ↦ omega (arith, feeds-one b) ]
lines_ended-push (x ∷ bytes) b =
    elim (is_newline x) as (λ t. feeds (if t then skip_empty_lines (bytes ++ b ∷ []) else x ∷ (bytes ++ b ∷ [])) ≤ feeds (if t then skip_empty_lines bytes else x ∷ bytes) + 1) [
      | true ↦ lines_ended-push bytes b
      | false ↦ omega (arith, feeds-append (x ∷ bytes) (b ∷ []), feeds-one b)
    ]

pub token-feed : is_token_byte 10 ≡ false
unfolding is_token_byte
token-feed = refl

feeds-field : (f : Field) → IsField f → feeds (print_field f) ≡ 1
feeds-field f is =
    let name = feeds-none is_token_byte f.name token-feed is.name.1 in
    let raw = feeds-none is_value_byte f.raw refl is.raw in
    let parts = feeds-append (f.name ++ 58 ∷ f.raw) (print_end f.end) in
    let front = feeds-append f.name (58 ∷ f.raw) in
    let colon = feeds-cons 58 f.raw in
    omega (arith, name, raw, parts, front, colon, feeds-end f.end)

feeds-fields : (fields : List Field) → All IsField fields → feeds (flat_map print_field fields) ≡ length fields
feeds-fields [] all = refl
feeds-fields (f ∷ fields) all = feeds-append (print_field f) (flat_map print_field fields) ∙ ap₂ (λ a b. a + b) (feeds-field f (All-head IsField f fields all)) (feeds-fields fields (All-tail IsField f fields all)) ∙ omega arith

pub feeds-section : (fields : List Field) (last : LineEnd) → All IsField fields → feeds (print_section fields last) ≡ length fields + 1
feeds-section fields last all = feeds-append (flat_map print_field fields) (print_end last) ∙ ap₂ (λ a b. a + b) (feeds-fields fields all) (feeds-end last)

feeds-reason : (reason : Option (List ℕ)) → AllPass is_value_byte (reason_phrase reason) → feeds (print_reason reason) ≡ 0
feeds-reason None all = refl
feeds-reason (Some phrase) all = feeds-none is_value_byte phrase refl all

pub version-feeds : (minor : ℕ) → minor ≤ 1 → feeds (print_version minor) ≡ 0
version-feeds minor small = feeds-append (codes "HTTP/1.") ((48 + minor) ∷ []) ∙ zero-add _ ∙ one-other (48 + minor) [] (λ same. omega (arith, small, same))

-- the lines of a whole head: its start line, its field lines and the empty one
pub lines_ended-response : (h : ResponseHead) → IsResponseHead h → lines_ended (print_response h) ≡ length h.fields + 2
lines_ended-response h is =
    let end = print_end h.line_end in
    let section = print_section h.fields h.last ++ [] in
    let behind_reason = end ++ section in
    let behind_code = print_reason h.reason ++ behind_reason in
    let behind_version = 32 ∷ (h.digits ++ behind_code) in
    let line = print_version h.minor ++ behind_version in
    let whole : print_response h ≡ print_blank h.blank ++ line = sym (append-nil _) ∙ print_response-append h [] in
    let skipped : skip_empty_lines (print_response h) ≡ line = ap skip_empty_lines whole ∙ skip-blank h.blank line in
    let minor = version-feeds h.minor is.minor in
    ap feeds skipped ∙ omega (
      arith,
      feeds-append (print_version h.minor) behind_version,
      minor,
      feeds-cons 32 (h.digits ++ behind_code),
      feeds-append h.digits behind_code,
      feeds-none is_ascii_digit h.digits refl is.digits.1,
      feeds-append (print_reason h.reason) behind_reason,
      feeds-reason h.reason is.reason,
      feeds-append end section,
      feeds-end h.line_end,
      feeds-append (print_section h.fields h.last) [],
      feeds-section h.fields h.last is.fields,
    )

-- where an empty line would make a head of more fields than there is room for, more lines have ended
pub lines_ended-exceeds : (room : ℕ) (bytes : List ℕ) → ResponseExceeds room bytes → room + 1 < lines_ended bytes
lines_ended-exceeds room bytes over =
    let front = over.0 in
    let h = over.3 in
    let same : lines_ended (front ++ 10 ∷ []) ≡ length h.fields + 2 = ap lines_ended (over.4.1 ∙ append-nil (print_response h)) ∙ lines_ended-response h over.4.0 in
    let all : lines_ended front ≤ lines_ended bytes = subst (λ b. lines_ended front ≤ lines_ended b) (sym over.2) (lines_ended-append front over.1) in
    omega (arith, same, all, lines_ended-push front 10, over.5)
