-- What bytes come to, or ask, stays under further bytes.
use Rattle.std.proofs.Common.{◌≡◌, ◌≢◌, inl, inr, ℕ, ◌≤◌, nat_le, nat_lt, Bool, true, false, List, [], ◌++◌, length, take, fold, if◌then◌else◌, refl, ap, sym, subst, ◌∙◌, arith, append_assoc}
use Rattle.std.proofs.lemmas.Bool.Decides.{nat_tests}
use Rattle.std.proofs.lemmas.List.{length-append, take-append-le}
use Rattle.std.proofs.lemmas.List.Sums.{fold-append}
use Rattle.httparse.specs.Grammar.{print_response, ReadsResponse, status_code, RequestHead, print_request, ReadsRequest}
use Rattle.httparse.proofs.GrammarLemmas.{ReadsRequest-append, ReadsResponse-append}
use Rattle.gql_value.specs.Outcome.{bad, outcome_meaning}
use Rattle.gql_value.specs.declared.outcome.Fault.TheVariants.{F8}
use Rattle.http_model.specs.declared.chunk.ChunkPhase.TheVariants.{Size}
use Rattle.http_model.specs.declared.framing.Framing.{Framing}
use Rattle.http_model.specs.declared.framing.Framing.TheVariants as framing
use Rattle.http_model.specs.Heads.{lines_ended, IsBadResponse}
use Rattle.http_model.specs.Framing.{body_limit}
use Rattle.http_model.specs.Chunks.{Chunked, reading, whole, malformed, too_long, chunk_after, chunked}
use Rattle.http_model.specs.Message.{Progress, wants, done, chunk_progress, body_progress, framing_of, FinalGives, Decoded}
use Rattle.http_model.specs.Requests as request
use Rattle.http_model.specs.Requests.{IsWholeRequest, IsUnread, IsBadRequest, chunked_so_far, body_so_far, Asking, wants_more, asking, request_framing_of, Asks}
use Rattle.head_scan.proofs.Counting.{lines_ended-append}
use Rattle.fetch_link.proofs.Folds.{chunk_after-whole, chunk_after-malformed, chunk_after-too_long}
use Rattle.fetch_link.proofs.RequestLaws.{in_target}
use Rattle.fetch_link.proofs.Decoding.{BehindInterim-append, IsFinal-append}
use Rattle.fetch_link.proofs.Cuts.{two_fronts, IsOpenResponse-before, IsOpenRequest-before}

-- a head that can't go on, or is over its limits, stays so
bad_response : (bytes more : List ℕ) → IsBadResponse bytes → IsBadResponse (bytes ++ more)
bad_response bytes more failed = record {
  none = λ h rest is. elim (two_fronts bytes more (print_response h) rest is.reads.1) [
    | inl s ↦ failed.none h s.0 (record { reads = (is.reads.0, s.1); fields = is.fields; size = is.size })
    | inr s ↦ failed.stuck (IsOpenResponse-before bytes (bytes ++ more) rest s.1 h s.0 is s.2)
  ];
  stuck = λ pending. failed.stuck (record {
    none = λ h rest reads. pending.none h (rest ++ more) (ReadsResponse-append bytes h rest more reads);
    may = (more ++ pending.may.0, pending.may.1, subst (λ t. ReadsResponse t pending.may.1 []) (append_assoc bytes more pending.may.0) pending.may.2);
    size = omega (arith, length-append bytes more, pending.size);
    lines = omega (arith, lines_ended-append bytes more, pending.lines);
  });
}

-- bytes that aren't looked at yet, with further ones, weren't before
unread_before : (bytes more : List ℕ) → lines_ended (bytes ++ more) ≡ 0 → length (bytes ++ more) ≤ 65536 → IsUnread bytes
unread_before bytes more none size = (omega (arith, none, lines_ended-append bytes more), omega (arith, size, length-append bytes more))

bad_request : (bytes more : List ℕ) → IsBadRequest bytes → IsBadRequest (bytes ++ more)
bad_request bytes more failed = record {
  read = λ unread. failed.read (unread_before bytes more unread.0 unread.1);
  none = λ h rest is. elim (two_fronts bytes more (print_request h) rest is.reads.1) [
    | inl s ↦ failed.none h s.0 (record { reads = (is.reads.0, s.1); fields = is.fields; size = is.size })
    | inr s ↦ failed.stuck (IsOpenRequest-before bytes (bytes ++ more) rest s.1 h s.0 is s.2)
  ];
  stuck = λ pending. elim pending.may [
    | inl may ↦ failed.stuck (record {
      none = λ h rest reads. pending.none h (rest ++ more) (ReadsRequest-append bytes h rest more reads);
      may = inl (more ++ may.0, may.1, subst (λ t. ReadsRequest t may.1 []) (append_assoc bytes more may.0) may.2);
      size = omega (arith, length-append bytes more, pending.size);
      lines = omega (arith, lines_ended-append bytes more, pending.lines);
    })
    | inr ends ↦ failed.read (unread_before bytes more (in_target (bytes ++ more) ends) pending.size)
  ];
}

-- a body of a stated length that is whole
exact_progress : (code size : ℕ) (came more : List ℕ) (test : Bool) → nat_le size (length came) ≡ test → (if test then done (outcome_meaning code (take size came)) else wants) ≢ wants
    → body_progress code (framing.Exact size) (came ++ more) ≡ (if test then done (outcome_meaning code (take size came)) else wants)
exact_progress code size came more false is told = absurd (told refl)
exact_progress code size came more true is told =
    let all = length-append came more in
    let fits : size ≤ length came = grind (arith, nat_tests) in
    let still : nat_le size (length (came ++ more)) ≡ true = grind (arith, nat_tests) in
    ap (λ t. if t then done (outcome_meaning code (take size (came ++ more))) else wants) still ∙ ap (λ b. done (outcome_meaning code b)) (take-append-le size came more fits)

exact_so_far : (size : ℕ) (came more : List ℕ) (test : Bool) → nat_le size (length came) ≡ test → (if test then request.complete (take size came) else request.wants) ≢ request.wants
    → body_so_far (framing.Exact size) (came ++ more) ≡ (if test then request.complete (take size came) else request.wants)
exact_so_far size came more false is told = absurd (told refl)
exact_so_far size came more true is told =
    let all = length-append came more in
    let fits : size ≤ length came = grind (arith, nat_tests) in
    let still : nat_le size (length (came ++ more)) ≡ true = grind (arith, nat_tests) in
    ap (λ t. if t then request.complete (take size (came ++ more)) else request.wants) still ∙ ap request.complete (take-append-le size came more fits)

-- a body until the close that is over the limit
long_progress : (code : ℕ) (came more : List ℕ) (test : Bool) → nat_lt body_limit (length came) ≡ test → (if test then done (bad F8) else wants) ≢ wants
    → body_progress code framing.UntilClose (came ++ more) ≡ (if test then done (bad F8) else wants)
long_progress code came more false is told = absurd (told refl)
long_progress code came more true is told =
    let all = length-append came more in
    let still : nat_lt body_limit (length (came ++ more)) ≡ true = grind (arith, nat_tests) in
    ap (λ t. if t then done (bad F8) else wants) still

-- a chunked body that has ended
chunks_progress : (code : ℕ) (state : Chunked) (more : List ℕ) → chunk_progress code state ≢ wants → chunk_progress code (fold chunk_after state more) ≡ chunk_progress code state
chunks_progress code (reading phase came) more told = absurd (told refl)
chunks_progress code (whole came) more told = ap (chunk_progress code) (chunk_after-whole came more)
chunks_progress code malformed more told = ap (chunk_progress code) (chunk_after-malformed more)
chunks_progress code too_long more told = ap (chunk_progress code) (chunk_after-too_long more)

chunks_so_far : (state : Chunked) (more : List ℕ) → chunked_so_far state ≢ request.wants → chunked_so_far (fold chunk_after state more) ≡ chunked_so_far state
chunks_so_far (reading phase came) more told = absurd (told refl)
chunks_so_far (whole came) more told = ap chunked_so_far (chunk_after-whole came more)
chunks_so_far malformed more told = ap chunked_so_far (chunk_after-malformed more)
chunks_so_far too_long more told = ap chunked_so_far (chunk_after-too_long more)

-- what a body comes to stays
body_stays : (code : ℕ) (ends : Framing) (came more : List ℕ) → body_progress code ends came ≢ wants → body_progress code ends (came ++ more) ≡ body_progress code ends came
body_stays code framing.Empty came more told = refl
body_stays code (framing.Exact size) came more told = exact_progress code size came more (nat_le size (length came)) refl told
body_stays code framing.Chunked came more told = ap (chunk_progress code) (fold-append chunk_after (reading (Size 0 0) []) came more) ∙ chunks_progress code (chunked came) more told
body_stays code framing.UntilClose came more told = long_progress code came more (nat_lt body_limit (length came)) refl told
body_stays code framing.Malformed came more told = refl
body_stays code framing.TooLong came more told = refl

request_body_stays : (ends : Framing) (came more : List ℕ) → body_so_far ends came ≢ request.wants → body_so_far ends (came ++ more) ≡ body_so_far ends came
request_body_stays framing.Empty came more told = refl
request_body_stays (framing.Exact size) came more told = exact_so_far size came more (nat_le size (length came)) refl told
request_body_stays framing.Chunked came more told = ap chunked_so_far (fold-append chunk_after (reading (Size 0 0) []) came more) ∙ chunks_so_far (chunked came) more told
request_body_stays framing.UntilClose came more told = refl
request_body_stays framing.Malformed came more told = refl
request_body_stays framing.TooLong came more told = refl

final_stays : (bytes more : List ℕ) (p : Progress) → p ≢ wants → FinalGives bytes p → FinalGives (bytes ++ more) p
final_stays bytes more p told (inl a) = absurd (told a.1)
final_stays bytes more p told (inr (inl a)) = inr (inl (bad_response bytes more a.0, a.1))
final_stays bytes more p told (inr (inr a)) =
    let same = body_stays (status_code a.0) (framing_of a.0) a.1 more (λ waits. told (a.3 ∙ waits)) in
    inr (inr (a.0, a.1 ++ more, IsFinal-append bytes a.0 a.1 more a.2, a.3 ∙ sym same))

pub decoded_for_good : (bytes more : List ℕ) (p : Progress) → p ≢ wants → Decoded bytes p → Decoded (bytes ++ more) p
decoded_for_good bytes more p told d = record { rest = d.rest ++ more; behind = BehindInterim-append bytes d.rest more d.behind; gives = final_stays d.rest more p told d.gives }

whole_request : (bytes more : List ℕ) (h : RequestHead) (rest : List ℕ) → IsWholeRequest bytes h rest → IsWholeRequest (bytes ++ more) h (rest ++ more)
whole_request bytes more h rest is = record { reads = ReadsRequest-append bytes h rest more is.reads; fields = is.fields; size = is.size }

pub asked_for_good : (bytes more : List ℕ) (p : Asking) → p ≢ wants_more → Asks bytes p → Asks (bytes ++ more) p
asked_for_good bytes more p told (inl a) = absurd (told a.1)
asked_for_good bytes more p told (inr (inl a)) = absurd (told a.1)
asked_for_good bytes more p told (inr (inr (inl a))) = inr (inr (inl (bad_request bytes more a.0, a.1)))
asked_for_good bytes more p told (inr (inr (inr a))) =
    let same = request_body_stays (request_framing_of a.0) a.1 more (λ waits. told (a.3 ∙ ap (asking a.0) waits)) in
    inr (inr (inr (a.0, a.1 ++ more, whole_request bytes more a.0 a.1 a.2, a.3 ∙ sym (ap (asking a.0) same))))
