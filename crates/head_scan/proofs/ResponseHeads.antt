-- What stands at a place is the beginning of a response's head.
use Rattle.std.proofs.Common.{◌≡◌, true, ℕ, ◌<◌, ◌≤◌, List, [], ◌∷◌, ◌++◌, length, refl, ap, sym, ◌∙◌, arith, append-nil}
use Rattle.std.proofs.lemmas.List.{length-append}
use Rattle.httparse.specs.Grammar.{ResponseHead, ReadsResponse, HasNoResponse, MayBecomeResponse, print_blank, print_version, print_end, print_reason, print_section}
use Rattle.http_model.specs.Heads.{IsOpenResponse}
use Rattle.std.specs.Option.{is_some}
use Rattle.httparse.proofs.GrammarLemmas.{print_response-append, response_prefix_free}
use Rattle.head_scan.specs.Places.{placed, place_of}
use Rattle.head_scan.specs.declared.place.Place.{Place}
use Rattle.head_scan.specs.declared.place.Place.TheVariants.{EmptyLines}
use Rattle.head_scan.specs.Scans.{ScansResponse}
use Rattle.head_scan.specs.declared.place.Step.{Step}
use Rattle.head_scan.specs.declared.place.Step.TheVariants.{Stands, Ends, Fails}
use Rattle.head_scan.specs.declared.response.ResponseScan.{ResponseScan}
use Rattle.head_scan.proofs.Remains.{IsFront, remains}
use Rattle.head_scan.proofs.Finishes.{finishes, leads_on}

head_of : (s : List ℕ) → IsFront s → (h : ResponseHead) × ReadsResponse s h []
head_of s front =
    let v = front.versioned in
    let c = v.spaced.coded in
    let r = c.reasoned in
    let h : ResponseHead = record {
      blank = front.blank;
      minor = v.minor;
      digits = c.digits;
      reason = r.reason;
      line_end = r.end;
      fields = r.section.fields;
      last = r.section.last;
    } in (
      h,
      (
        record { minor = v.small; digits = (c.count, c.each); reason = r.each; fields = r.section.each },
        front.split
            ∙ ap (λ t. print_blank front.blank ++ t) (v.split ∙ ap (λ t. print_version v.minor ++ t) (v.spaced.split ∙ ap (λ t. 32 ∷ t) (c.split ∙ ap (λ t. c.digits ++ t)
            (r.split ∙ ap (λ t. print_reason r.reason ++ (print_end r.end ++ t)) (r.section.split ∙ sym (append-nil (print_section r.section.fields r.section.last)))))))
            ∙ sym (print_response-append h []),
      ),
    )

-- what is a head only with more bytes is the beginning of one
begins : (bytes more : List ℕ) (h : ResponseHead) → 0 < length more → ReadsResponse (bytes ++ more) h [] → HasNoResponse bytes × MayBecomeResponse bytes
begins bytes more h some reads = (
  λ k rest whole. let same = ap length (response_prefix_free bytes more k h rest [] whole reads).1 in absurd (omega (arith, same, length-append rest more, some)),
  (more, h, reads),
)

pub stands_open : (seen : List ℕ) (place : Place) → placed EmptyLines seen ≡ Stands place → HasNoResponse seen × MayBecomeResponse seen
stands_open seen place stands =
    let f = finishes place in
    let head = head_of (seen ++ f.more) (remains (seen ++ f.more) EmptyLines (leads_on EmptyLines place seen f.more stands f.leads)) in
    begins seen f.more head.0 f.some head.1

at_step : (seen : List ℕ) (step : Step) → placed EmptyLines seen ≡ step → is_some (place_of step) ≡ true → HasNoResponse seen × MayBecomeResponse seen
at_step seen (Stands place) is some = stands_open seen place is
at_step seen Ends is some = cc
at_step seen Fails is some = cc

pub is_open : (seen : List ℕ) (scan : ResponseScan) → ScansResponse scan seen → length seen ≤ 65536 → scan.lines.ended ≤ 101 → is_some scan.place ≡ true → IsOpenResponse seen
is_open seen scan scans short few some =
    let head = at_step seen (placed EmptyLines seen) refl (sym (ap is_some scans.place) ∙ some) in record {
      none = head.0;
      may = head.1;
      size = short;
      lines = omega (arith, scans.lines.exact few, few);
    }
