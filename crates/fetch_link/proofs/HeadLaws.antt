-- Heads that are whole, open or neither.
use Rattle.std.proofs.Common.{◌≡◌, ◌≢◌, ◌⊎◌, inl, inr, ℕ, ◌<◌, ◌≤◌, List, [], length, take, refl, ap, sym, ◌∙◌, subst, arith, append-nil}
use Rattle.std.proofs.lemmas.List.{length-map, length-take-le}
use Rattle.httparse.specs.declared.Error.{Error}
use Rattle.httparse.specs.declared.Error.TheVariants.{HeaderName, HeaderValue, NewLine, Status, Token, TooManyHeaders, Version}
use Rattle.httparse.specs.declared.spans.HeaderSpan.{HeaderSpan}
use Rattle.httparse.specs.declared.spans.ResponseSpans.{ResponseSpans}
use Rattle.httparse.specs.Grammar.{ResponseHead, print_response, ReadsResponse, HasNoResponse, NeverHasResponse}
use Rattle.httparse.specs.Spans.{IsResponseAt, IsResponseWithin, ResponseOverflows, ResponseExceeds, header_bytes, name_and_value}
use Rattle.httparse.proofs.GrammarLemmas.{response_unique}
use Rattle.http_model.specs.Heads.{IsBadResponse, lines_ended}
use Rattle.fetch_link.proofs.LineCounts.{lines_ended-exceeds}

-- the parser counts the fields of the head
pub headers-count : (bytes : List ℕ) (headers : List HeaderSpan) (spans : ResponseSpans) (h : ResponseHead) → IsResponseWithin bytes headers spans → IsResponseAt bytes headers spans h → spans.headers ≡ length h.fields
headers-count bytes headers spans h within at =
    sym (length-take-le spans.headers headers within.section.count_fits)
    ∙ sym (length-map (take spans.headers headers) (header_bytes bytes))
    ∙ ap length at.fields
    ∙ length-map h.fields name_and_value

-- a whole head over a limit is bad
pub IsBad-over : (bytes : List ℕ) (h : ResponseHead) (rest : List ℕ) → ReadsResponse bytes h rest → (65536 < length (print_response h)) ⊎ (100 < length h.fields) → IsBadResponse bytes
IsBad-over bytes h rest reads over = record {
  none = λ k more whole.
      let same = (response_unique bytes h k rest more reads whole.reads).0 in
      elim over [
        | inl long ↦ let short : length (print_response h) ≤ 65536 = subst (λ g. length (print_response g) ≤ 65536) (sym same) whole.size in absurd (omega arith)
        | inr many ↦ let few : length h.fields ≤ 100 = subst (λ g. length g.fields ≤ 100) (sym same) whole.fields in absurd (omega arith)
      ];
  stuck = λ pending. pending.none h rest reads;
}

-- a head that isn't whole is bad past a limit
pub IsBad-past : (bytes : List ℕ) → HasNoResponse bytes → (65536 < length bytes) ⊎ (101 < lines_ended bytes) → IsBadResponse bytes
IsBad-past bytes none past = record {
  none = λ k more whole. none k more whole.reads;
  stuck = λ pending. elim past [ inl long ↦ absurd (omega (arith, pending.size)) | inr many ↦ absurd (omega (arith, pending.lines)) ];
}

-- whether the parser had no room
pub known : (e : Error) → (e ≡ TooManyHeaders) ⊎ (e ≢ TooManyHeaders)
known HeaderName = inr (λ same. cc)
known HeaderValue = inr (λ same. cc)
known NewLine = inr (λ same. cc)
known Status = inr (λ same. cc)
known Token = inr (λ same. cc)
known TooManyHeaders = inl refl
known Version = inr (λ same. cc)

-- what the parser refuses is bad
pub IsBad-refused : (bytes : List ℕ) (e : Error) → (e ≢ TooManyHeaders → NeverHasResponse bytes) → ResponseOverflows 101 bytes → (e ≡ TooManyHeaders → ResponseExceeds 101 bytes) → IsBadResponse bytes
IsBad-refused bytes e never overflows exceeds = record {
  none = λ k more whole.
      let many : 101 < length k.fields = overflows [] k more (subst (λ b. ReadsResponse b k more) (sym (append-nil bytes)) whole.reads) in
      absurd (omega (arith, whole.fields, many));
  stuck = λ pending. elim (known e) [
    | inl many ↦ absurd (omega (arith, pending.lines, lines_ended-exceeds 101 bytes (exceeds many)))
    | inr other ↦ never other pending.may.0 pending.may.1 [] pending.may.2
  ];
}
