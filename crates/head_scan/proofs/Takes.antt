-- The automaton takes each head of the grammar.
use Rattle.std.proofs.Common.{◌≡◌, ◌≢◌, ◌==◌, ℕ, zero, suc, ◌≤◌, true, All, List, [], ◌∷◌, ◌++◌, length, fold, if◌then◌else◌, Option, None, Some, Bool, refl, ap, sym, ◌∙◌, arith, append-nil}
use Rattle.std.proofs.lemmas.List.Sums.{fold-append}
use Rattle.std.proofs.lemmas.List.Elements.{All-head, All-tail}
use Rattle.std.specs.Char.{is_ascii_digit}
use Rattle.std.specs.List.{flat_map}
use Rattle.std.specs.Option.{is_some}
use Rattle.httparse.specs.Grammar.{is_token_byte, is_value_byte, AllPass, IsToken, LineEnd, crlf, lf, print_end, print_blank, print_version, Field, IsField, print_field, print_section, print_reason, reason_phrase, ResponseHead, print_response, IsResponseHead}
use Rattle.httparse.proofs.GrammarLemmas.{print_response-append}
use Rattle.http_model.specs.Heads.{IsOpenResponse}
use Rattle.head_scan.specs.Places.{at_line_end, expected, place_step, step_after, placed, place_of}
use Rattle.head_scan.specs.declared.place.Place.{Place}
use Rattle.head_scan.specs.declared.place.Place.TheVariants.{EmptyLines, VersionEnd, Status, Value, LineStart, LastCr, Name}
use Rattle.head_scan.specs.declared.place.Step.{Step}
use Rattle.head_scan.specs.declared.place.Step.TheVariants.{Stands, Ends, Fails}
use Rattle.head_scan.proofs.Remains.{ended, never, regroup}

-- a run of bytes that stay at a place
stays : (place : Place) (test : ℕ → Bool) (bytes s : List ℕ) → ((b : ℕ) → test b ≡ true → place_step place b ≡ Stands place) → AllPass test bytes → placed place (bytes ++ s) ≡ placed place s
stays place test [] s keeps all = refl
stays place test (b ∷ bytes) s keeps all =
    let P : ℕ → Type 0 = λ x. test x ≡ true in
    ap (λ step. fold step_after step (bytes ++ s)) (keeps b (All-head P b bytes all)) ∙ stays place test bytes s keeps (All-tail P b bytes all)

line_end : (end : LineEnd) (s : List ℕ) → placed Value (print_end end ++ s) ≡ placed LineStart s
line_end crlf s = refl
line_end lf s = refl

text : (raw : List ℕ) (end : LineEnd) (s : List ℕ) → AllPass is_value_byte raw → placed Value (raw ++ (print_end end ++ s)) ≡ placed LineStart s
text raw end s all = stays Value is_value_byte raw (print_end end ++ s) (λ b is. ap (λ t. if t then Stands Value else at_line_end b Fails) is) all ∙ line_end end s

colon : (s : List ℕ) → placed Name (58 ∷ s) ≡ placed Value s
unfolding is_token_byte
colon s = refl

field : (name raw : List ℕ) (end : LineEnd) (s : List ℕ) → IsToken name → AllPass is_value_byte raw → placed LineStart (name ++ 58 ∷ (raw ++ (print_end end ++ s))) ≡ placed LineStart s
field [] raw end s token all = absurd (omega (arith, token.0))
field (b ∷ name) raw end s token all =
    let P : ℕ → Type 0 = λ x. is_token_byte x ≡ true in
    let behind = 58 ∷ (raw ++ (print_end end ++ s)) in
    let first = ap (λ t. if t then Stands Name else (if b == 13 then Stands LastCr else (if b == 10 then Ends else Fails))) (All-head P b name token.1) in
    ap (λ step. fold step_after step (name ++ behind)) first
    ∙ stays Name is_token_byte name behind (λ x is. ap (λ t. if t then Stands Name else expected x 58 (Stands Value)) is) (All-tail P b name token.1)
    ∙ colon (raw ++ (print_end end ++ s))
    ∙ text raw end s all

last_line : (last : LineEnd) → placed LineStart (print_end last) ≡ Ends
unfolding is_token_byte
last_line crlf = refl
last_line lf = refl

pub section : (fields : List Field) (last : LineEnd) → All IsField fields → placed LineStart (print_section fields last) ≡ Ends
section [] last all = last_line last
section (f ∷ fields) last all =
    let is : IsField f = All-head IsField f fields all in
    ap (placed LineStart) (sym (regroup f.name f.raw (print_end f.end) (flat_map print_field fields) (print_end last)))
    ∙ field f.name f.raw f.end (print_section fields last) is.name is.raw
    ∙ section fields last (All-tail IsField f fields all)

reason : (phrase : Option (List ℕ)) (end : LineEnd) (s : List ℕ) → AllPass is_value_byte (reason_phrase phrase) → placed (Status 3) (print_reason phrase ++ (print_end end ++ s)) ≡ placed LineStart s
reason None crlf s all = refl
reason None lf s all = refl
reason (Some phrase) end s all = text phrase end s all

status : (digits s : List ℕ) → length digits ≡ 3 → AllPass is_ascii_digit digits → placed (Status 0) (digits ++ s) ≡ placed (Status 3) s
status [] s three all = absurd (omega (arith, three))
status (a ∷ []) s three all = absurd (omega (arith, three))
status (a ∷ b ∷ []) s three all = absurd (omega (arith, three))
status (a ∷ b ∷ c ∷ []) s three all =
    let digit = λ (came : ℕ) (t : Bool). if t then Stands (Status came) else Fails in
    ap (λ t. fold step_after (digit 1 t) (b ∷ c ∷ s)) (all 0 0 (omega arith))
    ∙ ap (λ t. fold step_after (digit 2 t) (c ∷ s)) (all 1 0 (omega arith))
    ∙ ap (λ t. fold step_after (digit 3 t) s) (all 2 0 (omega arith))
status (a ∷ b ∷ c ∷ d ∷ digits) s three all = absurd (omega (arith, three))

version : (minor : ℕ) (s : List ℕ) → minor ≤ 1 → placed EmptyLines (print_version minor ++ s) ≡ placed VersionEnd s
version zero s small = refl
version (suc zero) s small = refl
version (suc (suc n)) s small = absurd (omega (arith, small))

empty_lines : (blank : List LineEnd) (s : List ℕ) → placed EmptyLines (print_blank blank ++ s) ≡ placed EmptyLines s
empty_lines [] s = refl
empty_lines (crlf ∷ blank) s = empty_lines blank s
empty_lines (lf ∷ blank) s = empty_lines blank s

head : (h : ResponseHead) → IsResponseHead h → placed EmptyLines (print_response h ++ []) ≡ Ends
head h is =
    let lines = print_section h.fields h.last in
    let behind_code = print_reason h.reason ++ (print_end h.line_end ++ (lines ++ [])) in
    ap (placed EmptyLines) (print_response-append h [])
    ∙ empty_lines h.blank (print_version h.minor ++ 32 ∷ (h.digits ++ behind_code))
    ∙ version h.minor (32 ∷ (h.digits ++ behind_code)) is.minor
    ∙ status h.digits behind_code is.digits.0 is.digits.1
    ∙ reason h.reason h.line_end (lines ++ []) is.reason
    ∙ ap (placed LineStart) (append-nil lines)
    ∙ section h.fields h.last is.fields

-- what some bytes lead on to the end from is within a head
pub inside : (step : Step) (more : List ℕ) → fold step_after step more ≡ Ends → more ≢ [] → is_some (place_of step) ≡ true
inside (Stands place) more leads some = refl
inside Ends more leads some = absurd (some (ended more leads))
inside Fails more leads some = never more leads

-- the beginning of a head stands at a place
pub open_stands : (seen : List ℕ) → IsOpenResponse seen → is_some (place_of (placed EmptyLines seen)) ≡ true
open_stands seen is =
    let more = is.may.0 in
    let h = is.may.1 in
    let reads = is.may.2 in
    let leads = sym (fold-append step_after (Stands EmptyLines) seen more) ∙ ap (placed EmptyLines) reads.1 ∙ head h reads.0 in
    inside (placed EmptyLines seen) more leads (λ none. is.none h [] (reads.0, sym (append-nil seen) ∙ ap (λ m. seen ++ m) (sym none) ∙ reads.1))
