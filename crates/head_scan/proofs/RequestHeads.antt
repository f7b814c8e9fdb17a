-- A request line and what stands at a place behind it are the beginning of a request's head.
use Rattle.std.proofs.Common.{◌≡◌, inl, ℕ, ◌<◌, ◌≤◌, List, [], ◌∷◌, ◌++◌, length, refl, ap, sym, subst, ◌∙◌, arith, append-nil, append_assoc, fold}
use Rattle.std.proofs.lemmas.List.{length-append, same_from_push}
use Rattle.std.proofs.lemmas.List.Sums.{fold-append}
use Rattle.httparse.specs.Grammar.{RequestHead, ReadsRequest, HasNoRequest, LineEnd, crlf, lf, print_blank, print_version, print_end, print_section}
use Rattle.httparse.proofs.GrammarLemmas.{print_request-append, request_prefix_free, cons-append}
use Rattle.head_scan.specs.Places.{placed, step_after}
use Rattle.http_model.specs.Requests.{IsOpenRequest}
use Rattle.head_scan.specs.Scans.{IsRequestLine, InFields, FieldsStand, ScansRequest}
use Rattle.head_scan.specs.declared.place.Place.{Place}
use Rattle.head_scan.specs.declared.place.Place.TheVariants.{LineStart}
use Rattle.head_scan.specs.declared.place.Step.TheVariants.{Stands}
use Rattle.head_scan.specs.declared.request.Fields.TheVariants.{Within}
use Rattle.head_scan.specs.declared.request.RequestScan.{RequestScan}
use Rattle.head_scan.proofs.Remains.{IsSection, remains}
use Rattle.head_scan.proofs.Finishes.{finishes, leads_on}

regroup : (blank method target version end behind : List ℕ)
    → (blank ++ (method ++ 32 ∷ (target ++ 32 ∷ (version ++ end)))) ++ behind ≡ blank ++ (method ++ 32 ∷ (target ++ 32 ∷ (version ++ (end ++ behind))))
regroup blank method target version end behind = simp (append_assoc, cons-append)

head_of : (line s : List ℕ) → IsRequestLine line → IsSection s → (h : RequestHead) × ReadsRequest (line ++ s) h []
head_of line s is section =
    let h : RequestHead = record {
      blank = is.blank;
      method = is.method;
      target = is.target;
      minor = is.minor;
      line_end = is.line_end;
      fields = section.fields;
      last = section.last;
    } in (
      h,
      (
        record { method = is.is_method; target = is.is_target; target_text = is.is_text; minor = is.is_minor; fields = section.each },
        ap (λ t. t ++ s) is.split
            ∙ regroup (print_blank is.blank) is.method is.target (print_version is.minor) (print_end is.line_end) s
            ∙ ap (λ t. print_blank is.blank ++ (is.method ++ 32 ∷ (is.target ++ 32 ∷ (print_version is.minor ++ (print_end is.line_end ++ t))))) (section.split ∙ sym (append-nil (print_section section.fields section.last)))
            ∙ sym (print_request-append h []),
      ),
    )

begins : (bytes more : List ℕ) (h : RequestHead) → 0 < length more → ReadsRequest (bytes ++ more) h [] → HasNoRequest bytes × ((more : List ℕ) × (h : RequestHead) × ReadsRequest (bytes ++ more) h [])
begins bytes more h some reads = (
  λ k rest whole. let same = ap length (request_prefix_free bytes more k h rest [] whole reads).1 in absurd (omega (arith, same, length-append rest more, some)),
  (more, h, reads),
)

pub fields_open : (seen : List ℕ) (place : Place) → InFields place seen → HasNoRequest seen × ((more : List ℕ) × (h : RequestHead) × ReadsRequest (seen ++ more) h [])
fields_open seen place is =
    let f = finishes place in
    let section = remains (is.behind ++ f.more) LineStart (leads_on LineStart place is.behind f.more is.stands f.leads) in
    let head = head_of is.front (is.behind ++ f.more) is.line section in
    let whole = ap (λ s. s ++ f.more) is.split ∙ append_assoc is.front is.behind f.more in
    begins seen f.more head.0 f.some (subst (λ s. ReadsRequest s head.0 []) (sym whole) head.1)

-- further bytes
pub InFields-more : (from place : Place) (seen bytes : List ℕ) → InFields from seen → placed from bytes ≡ Stands place → InFields place (seen ++ bytes)
InFields-more from place seen bytes is stands = record {
  front = is.front;
  behind = is.behind ++ bytes;
  line = is.line;
  split = ap (λ s. s ++ bytes) is.split ∙ append_assoc is.front is.behind bytes;
  stands = fold-append step_after (Stands LineStart) is.behind bytes ∙ ap (λ s. fold step_after s bytes) is.stands ∙ stands;
}

-- a request line, and no bytes behind it
pub InFields-line : (line : List ℕ) → IsRequestLine line → InFields LineStart line
InFields-line line is = record { front = line; behind = []; line = is; split = sym (append-nil line); stands = refl }

-- a line feed at the end of bytes that end in one
line_of : (last : LineEnd) (front start : List ℕ) → (front ++ 10 ∷ []) ++ 10 ∷ [] ≡ start ++ print_end last → front ++ 10 ∷ [] ≡ start
line_of lf front start same = (same_from_push (front ++ 10 ∷ []) start 10 10 same).0
line_of crlf front start same =
    let once = (same_from_push (front ++ 10 ∷ []) (start ++ 13 ∷ []) 10 10 (same ∙ sym (append_assoc start (13 ∷ []) (10 ∷ [])))).0 in
    let twice : 10 ≡ 13 = (same_from_push front start 10 13 once).1 in
    absurd (omega (arith, twice))

pub request_line : (front : List ℕ) (h : RequestHead) → ReadsRequest ((front ++ 10 ∷ []) ++ 10 ∷ []) h [] → h.fields ≡ [] → IsRequestLine (front ++ 10 ∷ [])
request_line front h reads none =
    let start = print_blank h.blank ++ (h.method ++ 32 ∷ (h.target ++ 32 ∷ (print_version h.minor ++ print_end h.line_end))) in
    let same : (front ++ 10 ∷ []) ++ 10 ∷ [] ≡ start ++ print_end h.last =
    reads.1 ∙ print_request-append h [] ∙ ap (λ (t : List ℕ). print_blank h.blank ++ (h.method ++ 32 ∷ (h.target ++ 32 ∷ (print_version h.minor ++ (print_end h.line_end ++ t)))))
    (append-nil (print_section h.fields h.last) ∙ ap (λ fs. print_section fs h.last) none)
    ∙ sym (regroup (print_blank h.blank) h.method h.target (print_version h.minor) (print_end h.line_end) (print_end h.last)) in record {
      blank = h.blank;
      method = h.method;
      target = h.target;
      minor = h.minor;
      line_end = h.line_end;
      is_method = reads.0.method;
      is_target = reads.0.target;
      is_text = reads.0.target_text;
      is_minor = reads.0.minor;
      split = line_of h.last front start same;
    }

pub is_open : (seen : List ℕ) (scan : RequestScan) (place : Place) → ScansRequest scan seen → scan.fields ≡ Within place → length seen ≤ 65536 → scan.lines.ended ≤ 101 → IsOpenRequest seen
is_open seen scan place scans is short few =
    let head = fields_open seen place (subst (λ fields. FieldsStand fields seen) is scans.fields) in record {
      none = head.0;
      may = inl head.1;
      size = short;
      lines = omega (arith, scans.lines.exact few, few);
    }
