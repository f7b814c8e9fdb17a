-- Heads of requests that are whole, open or neither.
use Rattle.std.proofs.Common.{◌≡◌, ◌≢◌, ◌⊎◌, inl, inr, ℕ, ◌+◌, ◌<◌, ◌≤◌, true, false, IsTrue, List, [], ◌∷◌, ◌++◌, length, take, if◌then◌else◌, refl, ap, sym, ◌∙◌, subst, arith, append-nil, append_assoc}
use Rattle.std.proofs.lemmas.Bool.{cases_eq}
use Rattle.std.proofs.lemmas.Bool.Decides.{nat_tests}
use Rattle.std.proofs.lemmas.List.{length-map, length-take-le}
use Rattle.std.proofs.lemmas.List.Elements.{All-head}
use Rattle.httparse.specs.declared.Error.{Error}
use Rattle.httparse.specs.declared.Error.TheVariants.{TooManyHeaders}
use Rattle.httparse.specs.declared.spans.HeaderSpan.{HeaderSpan}
use Rattle.httparse.specs.declared.spans.RequestSpans.{RequestSpans}
use Rattle.httparse.specs.Pieces.{is_newline}
use Rattle.httparse.specs.Grammar.{is_token_byte, is_uri_byte, IsToken, print_blank, print_version, print_end, print_section, RequestHead, print_request, IsRequestHead, ReadsRequest, NeverHasRequest, EndsInTarget}
use Rattle.httparse.specs.Spans.{IsRequestAt, IsRequestWithin, RequestOverflows, RequestExceeds, header_bytes, name_and_value}
use Rattle.httparse.proofs.GrammarLemmas.{request_unique, print_request-append}
use Rattle.http_model.specs.Heads.{skip_empty_lines, lines_ended}
use Rattle.http_model.specs.Requests.{IsBadRequest, IsUnread}
use Rattle.fetch_link.proofs.HeadLaws.{known}
use Rattle.head_scan.proofs.Counting.{feeds, feeds-append, lines_ended-append}
use Rattle.fetch_link.proofs.LineCounts.{feeds-cons, feeds-none, feeds-end, feeds-section, token-feed, skip-blank, lines_ended-push, version-feeds}

lines_ended-le : (bytes : List ℕ) → lines_ended bytes ≤ feeds bytes
lines_ended-le [] = omega arith
lines_ended-le (b ∷ bytes) =
    elim (is_newline b) as (λ t. feeds (if t then skip_empty_lines bytes else b ∷ bytes) ≤ feeds (b ∷ bytes)) [
      | true ↦ omega (arith, lines_ended-le bytes, feeds-cons b bytes)
      | false ↦ omega arith
    ]

-- within a target no line has ended
pub in_target : (bytes : List ℕ) → EndsInTarget bytes → lines_ended bytes ≡ 0
in_target bytes ends =
    let blank = ends.0 in
    let method = ends.1 in
    let target = ends.2 in
    let behind = method ++ 32 ∷ target in
    let split : bytes ≡ print_blank blank ++ behind = ends.5 ∙ append_assoc (print_blank blank) method (32 ∷ target) in
    let same : lines_ended bytes ≡ lines_ended behind = ap lines_ended split ∙ ap feeds (skip-blank blank behind) in
    omega (arith, same, lines_ended-le behind, feeds-append method (32 ∷ target), feeds-cons 32 target, feeds-none is_token_byte method token-feed ends.3.1, feeds-none is_uri_byte target refl ends.4)

token-newline : (b : ℕ) → IsTrue (is_token_byte b) → is_newline b ≡ false
unfolding is_token_byte
token-newline b token = elim (cases_eq b 13) [
  | inl cr ↦ let never : IsTrue (is_token_byte 13) = subst (λ x. IsTrue (is_token_byte x)) cr token in cc
  | inr other ↦ elim (cases_eq b 10) [
    | inl lf ↦ let never : IsTrue (is_token_byte 10) = subst (λ x. IsTrue (is_token_byte x)) lf token in cc
    | inr neither ↦ grind (arith, nat_tests)
  ]
]

skip-token : (method rest : List ℕ) → IsToken method → skip_empty_lines (method ++ rest) ≡ method ++ rest
skip-token [] rest token = absurd (omega (arith, token.0))
skip-token (b ∷ method) rest token =
    let first = token-newline b (All-head (λ x. IsTrue (is_token_byte x)) b method token.1) in
    ap (λ t. if t then skip_empty_lines (method ++ rest) else b ∷ (method ++ rest)) first

-- the lines of a whole head: its start line, its field lines and the empty one
pub lines_ended-request : (h : RequestHead) → IsRequestHead h → lines_ended (print_request h) ≡ length h.fields + 2
lines_ended-request h is =
    let end = print_end h.line_end in
    let section = print_section h.fields h.last ++ [] in
    let behind_version = end ++ section in
    let behind_target = 32 ∷ (print_version h.minor ++ behind_version) in
    let behind_method = 32 ∷ (h.target ++ behind_target) in
    let line = h.method ++ behind_method in
    let whole : print_request h ≡ print_blank h.blank ++ line = sym (append-nil _) ∙ print_request-append h [] in
    let skipped : skip_empty_lines (print_request h) ≡ line = ap skip_empty_lines whole ∙ skip-blank h.blank line ∙ skip-token h.method behind_method is.method in
    let minor : feeds (print_version h.minor) ≡ 0 = version-feeds h.minor is.minor in
    ap feeds skipped ∙ omega (
      arith,
      feeds-append h.method behind_method,
      feeds-none is_token_byte h.method token-feed is.method.1,
      feeds-cons 32 (h.target ++ behind_target),
      feeds-append h.target behind_target,
      feeds-none is_uri_byte h.target refl is.target.1,
      feeds-cons 32 (print_version h.minor ++ behind_version),
      feeds-append (print_version h.minor) behind_version,
      minor,
      feeds-append end section,
      feeds-end h.line_end,
      feeds-append (print_section h.fields h.last) [],
      feeds-section h.fields h.last is.fields,
    )

-- where no line has ended no head is whole
pub unread-whole : (bytes : List ℕ) (h : RequestHead) (rest : List ℕ) → IsUnread bytes → ReadsRequest bytes h rest → ⊥
unread-whole bytes h rest unread reads =
    let all : lines_ended (print_request h) ≤ lines_ended bytes = subst (λ b. lines_ended (print_request h) ≤ lines_ended b) (sym reads.1) (lines_ended-append (print_request h) rest) in
    omega (arith, all, unread.0, lines_ended-request h reads.0)

lines_ended-exceeds : (room : ℕ) (bytes : List ℕ) → RequestExceeds room bytes → room + 1 < lines_ended bytes
lines_ended-exceeds room bytes over =
    let front = over.0 in
    let h = over.3 in
    let same : lines_ended (front ++ 10 ∷ []) ≡ length h.fields + 2 = ap lines_ended (over.4.1 ∙ append-nil (print_request h)) ∙ lines_ended-request h over.4.0 in
    let all : lines_ended front ≤ lines_ended bytes = subst (λ b. lines_ended front ≤ lines_ended b) (sym over.2) (lines_ended-append front over.1) in
    omega (arith, same, all, lines_ended-push front 10, over.5)

-- the parser counts the fields of the head
pub headers-count : (bytes : List ℕ) (headers : List HeaderSpan) (spans : RequestSpans) (h : RequestHead) → IsRequestWithin bytes headers spans → IsRequestAt bytes headers spans h → spans.headers ≡ length h.fields
headers-count bytes headers spans h within at =
    sym (length-take-le spans.headers headers within.section.count_fits)
    ∙ sym (length-map (take spans.headers headers) (header_bytes bytes))
    ∙ ap length at.fields
    ∙ length-map h.fields name_and_value

-- a whole head over a limit is bad
pub IsBad-over : (bytes : List ℕ) (h : RequestHead) (rest : List ℕ) → ¬ (IsUnread bytes) → ReadsRequest bytes h rest → (65536 < length (print_request h)) ⊎ (100 < length h.fields) → IsBadRequest bytes
IsBad-over bytes h rest read reads over = record {
  read = read;
  none = λ k more whole.
      let same = (request_unique bytes h k rest more reads whole.reads).0 in
      elim over [
        | inl long ↦ let short : length (print_request h) ≤ 65536 = subst (λ g. length (print_request g) ≤ 65536) (sym same) whole.size in absurd (omega arith)
        | inr many ↦ let few : length h.fields ≤ 100 = subst (λ g. length g.fields ≤ 100) (sym same) whole.fields in absurd (omega arith)
      ];
  stuck = λ pending. pending.none h rest reads;
}

-- what the parser refuses is bad
pub IsBad-refused : (bytes : List ℕ) (e : Error) → ¬ (IsUnread bytes) → (e ≢ TooManyHeaders → NeverHasRequest bytes) → RequestOverflows 101 bytes → (e ≡ TooManyHeaders → RequestExceeds 101 bytes) → IsBadRequest bytes
IsBad-refused bytes e read never overflows exceeds = record {
  read = read;
  none = λ k more whole.
      let many : 101 < length k.fields = overflows [] k more (subst (λ b. ReadsRequest b k more) (sym (append-nil bytes)) whole.reads) in
      absurd (omega (arith, whole.fields, many));
  stuck = λ pending. elim (known e) [
    | inl many ↦ absurd (omega (arith, pending.lines, lines_ended-exceeds 101 bytes (exceeds many)))
    | inr other ↦ elim pending.may [
      | inl may ↦ never other may.0 may.1 [] may.2
      | inr ends ↦ read (in_target bytes ends, pending.size)
    ]
  ];
}
