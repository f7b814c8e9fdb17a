-- The writes of several things one behind another, or the first place that doesn't fit.
use Rattle.std.proofs.Common.{◌≡◌, ℕ, zero, suc, ◌+◌, ◌<◌, ◌-◌, List, [], ◌∷◌, ◌++◌, length, map, drop, get_or, refl, sym, ap, subst, ◌∙◌, append_assoc, append-nil, arith}
use Rattle.std.specs.List.{flat_map}
use Rattle.std.specs.Result.{result_map_both, IfOk, IfErr}
use Rattle.std.specs.declared.result.Result.{Result}
use Rattle.std.specs.declared.result.Result.TheVariants.{Ok, Err}
use Rattle.cache_model.specs.declared.write.Write.{Write}
use Rattle.check_model.proofs.ListLaws.{next_left}
use Rattle.execution_model.specs.Collection.{SetId}
use Rattle.execution_model.specs.Asked.{Asked, asked_as_sent}
use Rattle.answer_model.specs.Paths.{Path, each, onto, path_text}
use Rattle.answer_model.specs.Writing.{Answered, Object, Writes, field_written, fields_written_within, written_of_each}
use Rattle.result_writer.specs.declared.error.WriteError.{WriteError}
use Rattle.result_writer.specs.declared.error.WriteError.TheVariants as error
use Rattle.result_writer.specs.Results.{told, told_behind, Tells, TellsError}
use Rattle.result_writer.specs.Ways.{asked_written}

-- writes behind others, unless one of the two doesn't fit
abbrev pub behind : Result (List Write) (List ℕ) → Result (List Write) (List ℕ) → Result (List Write) (List ℕ)
behind (Ok before) (Ok writes) = Ok (before ++ writes)
behind (Ok before) (Err path) = Err path
behind (Err path) _ = Err path

behind_assoc : (a b c : Result (List Write) (List ℕ)) → behind (behind a b) c ≡ behind a (behind b c)
behind_assoc (Err a) b c = refl
behind_assoc (Ok a) (Err b) c = refl
behind_assoc (Ok a) (Ok b) (Err c) = refl
behind_assoc (Ok a) (Ok b) (Ok c) = ap Ok (append_assoc a b c)

-- the first of several things
each_first : (w : Writes) (more : Result (List (List Write)) Path)
    → told (result_map_both (flat_map (λ (ws : List Write). ws)) (λ (path : Path). path) (onto w more))
    ≡ behind (told w) (told (result_map_both (flat_map (λ (ws : List Write). ws)) (λ (path : Path). path) more))
each_first (Err e) more = refl
each_first (Ok ws) (Err e) = refl
each_first (Ok ws) (Ok more) = refl

first_written : {X : Type 0} (f : X → Writes) (x : X) (xs : List X) → told (written_of_each f (x ∷ xs)) ≡ behind (told (f x)) (told (written_of_each f xs))
first_written f x xs = each_first (f x) (each f xs)

none_behind : (r : Result (List Write) (List ℕ)) → behind r (Ok []) ≡ r
none_behind (Ok ws) = ap Ok (append-nil ws)
none_behind (Err e) = refl

behind_none : (r : Result (List Write) (List ℕ)) → behind (Ok []) r ≡ r
behind_none (Ok ws) = refl
behind_none (Err e) = refl

-- the last of several things
pub last_written : {X : Type 0} (f : X → Writes) (xs : List X) (x : X) → told (written_of_each f (xs ++ x ∷ [])) ≡ behind (told (written_of_each f xs)) (told (f x))
last_written f [] x = first_written f x [] ∙ none_behind (told (f x)) ∙ sym (behind_none (told (f x)))
last_written f (y ∷ ys) x =
    first_written f y (ys ++ x ∷ [])
    ∙ ap (behind (told (f y))) (last_written f ys x)
    ∙ sym (behind_assoc (told (f y)) (told (written_of_each f ys)) (told (f x)))
    ∙ sym (ap (λ r. behind r (told (f x))) (first_written f y ys))

-- writes behind others, as a call tells them
told_as_behind : (before : List Write) (w : Writes) → told_behind before w ≡ behind (Ok before) (told w)
told_as_behind before (Ok ws) = refl
told_as_behind before (Err e) = refl

first_behind : {X : Type 0} (f : X → Writes) (x : X) (xs : List X) (before : List Write)
    → told_behind before (written_of_each f (x ∷ xs)) ≡ behind (told_behind before (f x)) (told (written_of_each f xs))
first_behind f x xs before =
    told_as_behind before (written_of_each f (x ∷ xs))
    ∙ ap (behind (Ok before)) (first_written f x xs)
    ∙ sym (behind_assoc (Ok before) (told (f x)) (told (written_of_each f xs)))
    ∙ sym (ap (λ r. behind r (told (written_of_each f xs))) (told_as_behind before (f x)))

-- ---- steps of a loop over several things

-- what is left, once one more has written
pub each_next : {X Y : Type 0} (f : Y → Writes) (view : X → Y) (xs : List X) (i : ℕ) (x : X) (before after : List Write) (whole : Result (List Write) (List ℕ))
    → i < length xs → x ≡ get_or xs i x → whole ≡ told_behind before (written_of_each f (map view (drop i xs)))
    → told_behind before (f (view x)) ≡ Ok after
    → whole ≡ told_behind after (written_of_each f (map view (drop (i + 1) xs)))
each_next f view xs i x before after whole within is so_far here =
    so_far
    ∙ ap (λ ys. told_behind before (written_of_each f (map view ys))) (next_left xs i x within is)
    ∙ first_behind f (view x) (map view (drop (i + 1) xs)) before
    ∙ ap (λ r. behind r (told (written_of_each f (map view (drop (i + 1) xs))))) here
    ∙ sym (told_as_behind after (written_of_each f (map view (drop (i + 1) xs))))

refused : (r more : Result (List Write) (List ℕ)) (e : WriteError) → TellsError r e → TellsError (behind r more) e
refused r more error.Memory tells = tt
refused (Ok ws) more (error.Shape path) tells = absurd (cc)
refused (Err p) more (error.Shape path) tells = tells

-- where one doesn't fit, the whole doesn't
pub each_stop : {X Y : Type 0} (f : Y → Writes) (view : X → Y) (xs : List X) (i : ℕ) (x : X) (before : List Write) (whole : Result (List Write) (List ℕ)) (e : WriteError)
    → i < length xs → x ≡ get_or xs i x → whole ≡ told_behind before (written_of_each f (map view (drop i xs)))
    → TellsError (told_behind before (f (view x))) e
    → TellsError whole e
each_stop f view xs i x before whole e within is so_far tells =
    subst (λ r. TellsError r e)
    (sym (so_far
    ∙ ap (λ ys. told_behind before (written_of_each f (map view ys))) (next_left xs i x within is)
    ∙ first_behind f (view x) (map view (drop (i + 1) xs)) before))
    (refused (told_behind before (f (view x))) (told (written_of_each f (map view (drop (i + 1) xs)))) e tells)

-- nothing is left
pub each_done : {X Y : Type 0} (f : Y → Writes) (view : X → Y) (rest : List X) (before : List Write) (whole : Result (List Write) (List ℕ))
    → rest ≡ [] → whole ≡ told_behind before (written_of_each f (map view rest)) → whole ≡ Ok before
each_done f view rest before whole none so_far =
    so_far ∙ ap (λ ys. told_behind before (written_of_each f (map view ys))) none ∙ ap Ok (append-nil before)

-- ---- what is asked of an object

-- objects so deep, by what is asked of them
pub by_what_is_asked : (n : ℕ) (answered : Answered) (sets : SetId) (object : Object)
    → asked_written n answered object (asked_as_sent answered.execution object.type.0 sets) ≡ fields_written_within n answered sets object
by_what_is_asked zero answered sets object = refl
by_what_is_asked (suc n) answered sets object = refl

-- where there is a level, what is asked of an object writes what its fields write
pub one_level : (n : ℕ) (answered : Answered) (object : Object) (asked : List Asked) → 0 < n
    → asked_written n answered object asked ≡ written_of_each (field_written (fields_written_within (n - 1) answered) answered object) asked
one_level zero answered object asked more = absurd (omega (arith, more))
one_level (suc n) answered object asked more =
    let less : n ≡ suc n - 1 = omega arith in
    ap (λ k. written_of_each (field_written (fields_written_within k answered) answered object) asked) less

pub no_level : (n : ℕ) (answered : Answered) (object : Object) (asked : List Asked) (before : List Write) → n ≡ 0
    → told_behind before (asked_written n answered object asked) ≡ Ok before
no_level n answered object asked before is =
    ap (λ k. told_behind before (asked_written k answered object asked)) is ∙ ap Ok (append-nil before)

-- an object that was found, its `__typename` first
pub typename_first : (before : List Write) (first : Write) (w : Writes)
    → told_behind (before ++ first ∷ []) w ≡ told_behind before (result_map_both (λ writes. first ∷ writes) (λ path. path) w)
typename_first before first (Ok ws) = ap Ok (append_assoc before (first ∷ []) ws)
typename_first before first (Err path) = refl

-- ---- what a call tells

pub tells_at : {X : Type 0} (result : Result X WriteError) (a b : Result X (List ℕ)) → a ≡ b → Tells result a → Tells result b
tells_at result a b is tells = subst (Tells result) is tells

abbrev writes_in : List Write → Result (List Write) (List ℕ) → List Write
writes_in other (Ok writes) = writes
writes_in other (Err path) = other

pub written_told : (w : Writes) (writes : List Write) → told_behind [] w ≡ Ok writes → w ≡ Ok writes
written_told (Ok ws) writes is = ap Ok (ap (writes_in ws) is)
written_told (Err path) writes is = absurd (cc)

pub misfit_told : (w : Writes) (e : WriteError) → TellsError (told_behind [] w) e → TellsError (told w) e
misfit_told (Ok ws) e tells = tells
misfit_told (Err path) e tells = tells

pub tells_written : (result : Result (List Write) WriteError) (w : Writes) → Tells result (told_behind [] w) → IfOk result (λ writes. w ≡ Ok writes)
tells_written (Ok writes) w is = written_told w writes is
tells_written (Err e) w is = tt

pub tells_misfit : (result : Result (List Write) WriteError) (w : Writes) → Tells result (told_behind [] w) → IfErr result (TellsError (told w))
tells_misfit (Ok writes) w is = tt
tells_misfit (Err e) w is = misfit_told w e is
