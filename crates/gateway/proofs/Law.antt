-- The text of bytes as they come is the text of their lines.
use Rattle.std.proofs.Common.{◌≡◌, ℕ, List, [], ◌∷◌, ◌++◌, ◌<◌, ◌≤◌, length, take, Bool, true, false, refl, sym, ap, ◌∙◌, append_assoc, append-nil, arith}
use Rattle.std.proofs.lemmas.Bool.Decides.{nat_tests}
use Rattle.std.proofs.Math.Seq.{take-append_seam}
use Rattle.std.specs.Prelude.{◌==◌, if◌then◌else◌, nat_le}
use Rattle.judged_dispatch.specs.declared.service.Service.{Service}
use Rattle.gate_machine.specs.Machine.{GatewayState, empty_state}
use Rattle.gate_machine.specs.Runs.{grown, lines_of, lines_run, line_run, run_text}
use Rattle.gateway.specs.Lines.{HasNoLineFeed, grown_first, whole_lines_of, whole_lines_text, first_lines_text, limited_text, full_text}
use Rattle.gateway.specs.Stopped.{limit_line}
use Rattle.gateway.specs.Progress.{Progress, start, grown_by, line_here, next_line, text_after, progress_after}
use Rattle.gateway.proofs.Steps.{not_feed, text_after-append}

HasNoLineFeed-push : (line : List ℕ) (b : ℕ) → HasNoLineFeed line → (b == 10) ≡ false → HasNoLineFeed (line ++ b ∷ [])
HasNoLineFeed-push [] b n e = (e, tt)
HasNoLineFeed-push (c ∷ line) b n e = (n.0, HasNoLineFeed-push line b n.1 e)

-- the lines where a line feed comes first
lines_of-feed : (line bs : List ℕ) → HasNoLineFeed line → lines_of (line ++ 10 ∷ bs) ≡ line ∷ lines_of bs
lines_of-feed [] bs n = refl
lines_of-feed (b ∷ line) bs n = not_feed (b == 10) _ _ n.0 ∙ ap (grown b) (lines_of-feed line bs n.1)

whole_lines_of-feed : (line bs : List ℕ) → HasNoLineFeed line → whole_lines_of (line ++ 10 ∷ bs) ≡ line ∷ whole_lines_of bs
whole_lines_of-feed [] bs n = refl
whole_lines_of-feed (b ∷ line) bs n = not_feed (b == 10) _ _ n.0 ∙ ap (grown_first b) (whole_lines_of-feed line bs n.1)

-- the lines where no line feed comes
lines_of-one : (b : ℕ) (line : List ℕ) → (b == 10) ≡ false → HasNoLineFeed line → lines_of (b ∷ line) ≡ (b ∷ line) ∷ []
lines_of-one b [] e n = not_feed (b == 10) _ _ e
lines_of-one b (c ∷ line) e n = not_feed (b == 10) _ _ e ∙ ap (grown b) (lines_of-one c line n.0 n.1)

whole_lines_of-none : (line : List ℕ) → HasNoLineFeed line → whole_lines_of line ≡ []
whole_lines_of-none [] n = refl
whole_lines_of-none (b ∷ line) n = not_feed (b == 10) _ _ n.0 ∙ ap (grown_first b) (whole_lines_of-none line n.1)

-- the text of whole lines
abbrev lines_from : Progress → List (List ℕ) → List ℕ
lines_from p lines = lines_run p.number p.state lines

abbrev IsWhole : Progress → List ℕ → Type 0
IsWhole p bs = text_after p bs ≡ lines_from p (whole_lines_of (p.rest ++ bs))

whole_by : (is_feed : Bool) (p : Progress) (b : ℕ) (bs : List ℕ) → (b == 10) ≡ is_feed → HasNoLineFeed p.rest → IsWhole (next_line p) bs → ((b == 10) ≡ false → IsWhole (grown_by p (b ∷ [])) bs)
    → (if is_feed then (line_here p).text ++ text_after (next_line p) bs else text_after (grown_by p (b ∷ [])) bs) ≡ lines_from p (whole_lines_of (p.rest ++ b ∷ bs))
whole_by true p b bs e n at_feed at_other =
    let feed : b ≡ 10 = grind (arith, nat_tests) in
    ap (λ z. (line_here p).text ++ z) at_feed ∙ ap (lines_from p) (sym (whole_lines_of-feed p.rest bs n)) ∙ ap (λ z. lines_from p (whole_lines_of (p.rest ++ z ∷ bs))) (sym feed)
whole_by false p b bs e n at_feed at_other = at_other e ∙ ap (λ z. lines_from p (whole_lines_of z)) (append_assoc p.rest (b ∷ []) bs)

whole : (p : Progress) (bs : List ℕ) → HasNoLineFeed p.rest → IsWhole p bs
whole p [] n = ap (lines_from p) (sym (whole_lines_of-none p.rest n)) ∙ ap (λ z. lines_from p (whole_lines_of z)) (sym (append-nil p.rest))
whole p (b ∷ bs) n = whole_by (b == 10) p b bs refl n (whole (next_line p) bs tt) (λ e. whole (grown_by p (b ∷ [])) bs (HasNoLineFeed-push p.rest b n e))

pub text_after-whole : (service : Service) (bs : List ℕ) → text_after (start service) bs ≡ whole_lines_text service bs
text_after-whole service bs = whole (start service) bs tt

-- the text of all lines, a last one without its line feed too
abbrev IsAll : Progress → List ℕ → Type 0
IsAll p bs = text_after p bs ++ (line_here (progress_after p bs)).text ≡ lines_from p (lines_of (p.rest ++ bs))

all_by : (is_feed : Bool) (p : Progress) (b : ℕ) (bs : List ℕ) → (b == 10) ≡ is_feed → HasNoLineFeed p.rest → IsAll (next_line p) bs → ((b == 10) ≡ false → IsAll (grown_by p (b ∷ [])) bs)
    → (if is_feed then (line_here p).text ++ text_after (next_line p) bs else text_after (grown_by p (b ∷ [])) bs)
    ++ (line_here (if is_feed then progress_after (next_line p) bs else progress_after (grown_by p (b ∷ [])) bs)).text
    ≡ lines_from p (lines_of (p.rest ++ b ∷ bs))
all_by true p b bs e n at_feed at_other =
    let feed : b ≡ 10 = grind (arith, nat_tests) in
    append_assoc (line_here p).text _ _ ∙ ap (λ z. (line_here p).text ++ z) at_feed ∙ ap (lines_from p) (sym (lines_of-feed p.rest bs n)) ∙ ap (λ z. lines_from p (lines_of (p.rest ++ z ∷ bs))) (sym feed)
all_by false p b bs e n at_feed at_other = at_other e ∙ ap (λ z. lines_from p (lines_of z)) (append_assoc p.rest (b ∷ []) bs)

last : (number : ℕ) (state : GatewayState) (line : List ℕ) → HasNoLineFeed line → (line_run number line state).text ≡ lines_run number state (lines_of line)
last number state [] n = refl
last number state (b ∷ line) n = sym (append-nil (line_run number (b ∷ line) state).text) ∙ ap (lines_run number state) (sym (lines_of-one b line n.0 n.1))

all : (p : Progress) (bs : List ℕ) → HasNoLineFeed p.rest → IsAll p bs
all p [] n = last p.number p.state p.rest n ∙ ap (λ z. lines_from p (lines_of z)) (sym (append-nil p.rest))
all p (b ∷ bs) n = all_by (b == 10) p b bs refl n (all (next_line p) bs tt) (λ e. all (grown_by p (b ∷ [])) bs (HasNoLineFeed-push p.rest b n e))

pub text_after-all : (service : Service) (bs : List ℕ) → text_after (start service) bs ++ (line_here (progress_after (start service) bs)).text ≡ run_text service bs
text_after-all service bs = all (start service) bs tt

-- the whole lines of a front come first
more_lines : (is_feed : Bool) (b : ℕ) (lines both : List (List ℕ)) → (more : List (List ℕ)) × (both ≡ lines ++ more)
    → (more : List (List ℕ)) × ((if is_feed then [] ∷ both else grown_first b both) ≡ (if is_feed then [] ∷ lines else grown_first b lines) ++ more)
more_lines true b lines both h = (h.0, ap (λ z. [] ∷ z) h.1)
more_lines false b [] both h = (grown_first b both, refl)
more_lines false b (line ∷ lines) both h = (h.0, ap (grown_first b) h.1)

whole_lines_of-front : (xs ys : List ℕ) → (more : List (List ℕ)) × (whole_lines_of (xs ++ ys) ≡ whole_lines_of xs ++ more)
whole_lines_of-front [] ys = (whole_lines_of ys, refl)
whole_lines_of-front (b ∷ xs) ys = more_lines (b == 10) b (whole_lines_of xs) (whole_lines_of (xs ++ ys)) (whole_lines_of-front xs ys)

-- the text of a front of the bytes within the limit is that of so many whole lines
pub text_after-first : (service : Service) (limit : ℕ) (bytes run left : List ℕ) → take limit bytes ≡ run ++ left → text_after (start service) run ≡ first_lines_text service limit (length (whole_lines_of run)) bytes
text_after-first service limit bytes run left within =
    let more = whole_lines_of-front run left in
    let count = length (whole_lines_of run) in
    text_after-whole service run
    ∙ ap (lines_run 1 (empty_state service)) (sym (take-append_seam (whole_lines_of run) more.0) ∙ ap (take count) (sym more.1) ∙ ap (λ z. take count (whole_lines_of z)) (sym within))

-- the text of what lies within the limit is a front of the full text
full_by : (fits : Bool) (service : Service) (limit : ℕ) (run left : List ℕ) → take limit (run ++ left) ≡ run
    → (rest : List ℕ) × ((if fits then run_text service (run ++ left) else limited_text service limit (run ++ left)) ≡ text_after (start service) run ++ rest)
full_by true service limit run left within =
    let last = (line_here (progress_after (start service) (run ++ left))).text in
    let behind = text_after (progress_after (start service) run) left in
    (behind ++ last, sym (text_after-all service (run ++ left)) ∙ ap (λ z. z ++ last) (text_after-append (start service) run left) ∙ append_assoc (text_after (start service) run) behind last)
full_by false service limit run left within = (limit_line, ap (λ z. z ++ limit_line) (ap (whole_lines_text service) within ∙ sym (text_after-whole service run)))

pub full_text-front : (service : Service) (limit : ℕ) (run left : List ℕ) → take limit (run ++ left) ≡ run → (rest : List ℕ) × (full_text service limit (run ++ left) ≡ text_after (start service) run ++ rest)
full_text-front service limit run left within = full_by _ service limit run left within

-- an input within the limit has the text of all its lines, and one past it ends with the stopped line
fits_by : {A : Type 0} (fits : Bool) (x y : A) → fits ≡ true → (if fits then x else y) ≡ x
fits_by true x y e = refl
fits_by false x y e = cc

passes_by : {A : Type 0} (fits : Bool) (x y : A) → fits ≡ false → (if fits then x else y) ≡ y
passes_by true x y e = cc
passes_by false x y e = refl

pub full_text-fits : (service : Service) (limit : ℕ) (bytes : List ℕ) → length bytes ≤ limit → full_text service limit bytes ≡ run_text service bytes
full_text-fits service limit bytes h = let fits : nat_le (length bytes) limit ≡ true = grind (arith, nat_tests) in fits_by _ _ _ fits

pub full_text-past : (service : Service) (limit : ℕ) (bytes : List ℕ) → limit < length bytes → full_text service limit bytes ≡ limited_text service limit bytes
full_text-past service limit bytes h = let fits : nat_le (length bytes) limit ≡ false = grind (arith, nat_tests) in passes_by _ _ _ fits
