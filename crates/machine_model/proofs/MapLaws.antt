-- The flattened map xs all writes in order, and results in any order of arrival.
use Rattle.std.proofs.Common.{◌≡◌, ◌≢◌, ℕ, suc, ◌-◌, ◌<◌, ◌≤◌, ◌==◌, Bool, true, false, if◌then◌else◌, List, [], ◌∷◌, ◌++◌, length, get_or, set, Option, Some, None, unwrap_or, refl, sym, ap, subst, ◌∙◌, arith, length-set, get_or-set_same, get_or-set_other, ext_get_or, true-eqb, false-eqb}
use Rattle.std.specs.Option.{option_or}
use Rattle.cache_model.specs.declared.write.Write.{Write}
use Rattle.cache_model.specs.Maps.{CellMap, no_cells, applied, all_applied, effect}
use Rattle.cache_model.specs.History.{History, Content, no_content, with_mark, flattened, flattened_over}
use Rattle.cache_model.proofs.EffectLaws.{applied_by_effect}
use Rattle.machine_model.specs.Laws.{all_writes, Arrival, arrived, all_arrived, result_for, AreForTickets}

all_applied_append : (m : CellMap) (ws vs : List Write) → all_applied m (ws ++ vs) ≡ all_applied (all_applied m ws) vs
all_applied_append m [] vs = refl
all_applied_append m (w ∷ ws) vs = all_applied_append (applied m w) ws vs

flattened_over_writes : (m : CellMap) (h : History) → flattened_over m h ≡ all_applied m (all_writes h)
flattened_over_writes m [] = refl
flattened_over_writes m (c ∷ h) = flattened_over_writes (all_applied m c.writes) h ∙ sym (all_applied_append m c.writes (all_writes h))

pub last_write_counts : (h : History) (e f : List ℕ) → flattened h e f ≡ unwrap_or (effect (all_writes h) e f) None
last_write_counts h e f =
    ap (λ (m : CellMap). m e f) (flattened_over_writes no_cells h) ∙ applied_by_effect no_cells (all_writes h) e f

-- what a result leaves at its ticket
abbrev pub final : Arrival → Content
final a = record { kind = a.kind; finished = true; writes = a.writes }

abbrev unfinished : Arrival → Content
unfinished a = record { kind = a.kind; finished = false; writes = a.writes }

pub arrived_here : (h : History) (a : Arrival) → a.ticket - 1 < length h → get_or (arrived h a) (a.ticket - 1) no_content ≡ final a
arrived_here h a l =
    let i = a.ticket - 1 in
    let filled_here : get_or (set h i (unfinished a)) i no_content ≡ unfinished a = get_or-set_same h i (unfinished a) no_content l in
    let long : i < length (set h i (unfinished a)) = rw (length-set h i (unfinished a)) l in
    get_or-set_same (set h i (unfinished a)) i (with_mark (get_or (set h i (unfinished a)) i no_content)) no_content long
    ∙ ap with_mark filled_here

arrived_elsewhere : (h : History) (a : Arrival) (j : ℕ) → j ≢ a.ticket - 1 → get_or (arrived h a) j no_content ≡ get_or h j no_content
arrived_elsewhere h a j n =
    let i = a.ticket - 1 in
    get_or-set_other (set h i (unfinished a)) i j (with_mark (get_or (set h i (unfinished a)) i no_content)) no_content n
    ∙ get_or-set_other h i j (unfinished a) no_content n

pub length_arrived : (h : History) (a : Arrival) → length (arrived h a) ≡ length h
length_arrived h a =
    let i = a.ticket - 1 in
    length-set (set h i (unfinished a)) i (with_mark (get_or (set h i (unfinished a)) i no_content)) ∙ length-set h i (unfinished a)

length_all_arrived : (xs : List Arrival) (h : History) → length (all_arrived h xs) ≡ length h
length_all_arrived [] h = refl
length_all_arrived (a ∷ xs) h = length_all_arrived xs (arrived h a) ∙ length_arrived h a

abbrev result_or : Option Arrival → Content → Content
result_or None c = c
result_or (Some a) c = final a

chosen : (r : Option Arrival) (b : Bool) (a : Arrival) (x y : Content) → (b ≡ true → x ≡ final a) → (b ≡ false → x ≡ y) → result_or r x ≡ result_or (option_or r (if b then Some a else None)) y
chosen (Some s) b a x y f g = refl
chosen None true a x y f g = f refl
chosen None false a x y f g = g refl

here_at : (h : History) (a : Arrival) (i : ℕ) → i < length h → a.ticket ≡ suc i → get_or (arrived h a) i no_content ≡ final a
here_at h a i l e =
    let same : a.ticket - 1 ≡ i = omega arith in
    let below : a.ticket - 1 < length h = omega arith in
    subst (λ j. get_or (arrived h a) j no_content ≡ final a) same (arrived_here h a below)

elsewhere_at : (h : History) (a : Arrival) (i : ℕ) → 1 ≤ a.ticket → a.ticket ≢ suc i → get_or (arrived h a) i no_content ≡ get_or h i no_content
elsewhere_at h a i d n = arrived_elsewhere h a i (λ e. n (omega arith))

contents : (xs : List Arrival) (h : History) → AreForTickets xs → (i : ℕ) → i < length h → get_or (all_arrived h xs) i no_content ≡ result_or (result_for (suc i) xs) (get_or h i no_content)
contents [] h d i l = refl
contents (a ∷ xs) h d i l =
    let still : i < length (arrived h a) = rw (length_arrived h a) l in
    contents xs (arrived h a) d.1 i still
    ∙ chosen (result_for (suc i) xs) (a.ticket == suc i) a (get_or (arrived h a) i no_content) (get_or h i no_content)
    (λ e. here_at h a i l (true-eqb a.ticket (suc i) (sym e)))
    (λ e. elsewhere_at h a i d.0 (false-eqb a.ticket (suc i) (sym e)))

pub arrivals_in_any_order : (h : History) (xs os : List Arrival) → AreForTickets xs → AreForTickets os → ((t : ℕ) → result_for t xs ≡ result_for t os) → all_arrived h xs ≡ all_arrived h os
arrivals_in_any_order h xs os d e same =
    ext_get_or no_content (all_arrived h xs) (all_arrived h os) (length_all_arrived xs h ∙ sym (length_all_arrived os h))
    (λ i l.
    let below : i < length h = rw (← length_all_arrived xs h) l in
    contents xs h d i below
    ∙ ap (λ (r : Option Arrival). result_or r (get_or h i no_content)) (same (suc i))
    ∙ sym (contents os h e i below))

pub arrivals_in_any_order_flattened : (h : History) (xs os : List Arrival) → AreForTickets xs → AreForTickets os → ((t : ℕ) → result_for t xs ≡ result_for t os) → (e f : List ℕ) → flattened (all_arrived h xs) e f ≡ flattened (all_arrived h os) e f
arrivals_in_any_order_flattened h xs os d e same entity field = ap (λ (g : History). flattened g entity field) (arrivals_in_any_order h xs os d e same)
