-- What several positions are together, in the order in which a walk finds them.
use Rattle.std.proofs.Common.{◌≡◌, ℕ, ◌+◌, List, [], ◌∷◌, ◌++◌, length, map, refl, sym, ap, ◌∙◌, append_assoc, append-nil, Bool, true, false, cond, ◌||◌}
use Rattle.std.proofs.lemmas.List.{length-append}
use Rattle.std.specs.Prelude.{Option, None, Some, is_some}
use Rattle.std.specs.List.{list_any, flat_map, zip}
use Rattle.std.specs.Option.{option_map}
use Rattle.gql_model.specs.declared.type_ref.TypeRef.{TypeRef, out-TypeRef, map-TypeRef, fold_out-TypeRef}
use Rattle.gql_model.specs.declared.type_ref.TypeRef.TheOpen.{TypeRef-F}
use Rattle.gql_value.specs.declared.value.Value.{Value}
use Rattle.schema_rules.specs.TypeRefs.{is_non_null, is_non_null_at}
use Rattle.execution_model.specs.Values.{Pairs, null_value, object_value, all_of}
use Rattle.answer_model.specs.Reading.{Found, Linked, Position, found_if, looked, or_null, link_step, of_positions, under_keys, member_found, has_something, reading_of}
use Rattle.partial_reader.specs.declared.trail.Trail.{Trail}
use Rattle.partial_reader.specs.declared.object.Object.{Object}
use Rattle.partial_reader.specs.Walks.{after, after_all, looks, with_value, with_values, with_member, with_position, with_positions, no_fields, object_of, told, value_or_null, trail_or_null, linked}

or_true : (b : Bool) → (b || true) ≡ true
or_true true = refl
or_true false = refl

or_assoc : (a b c : Bool) → ((a || b) || c) ≡ (a || (b || c))
or_assoc true b c = refl
or_assoc false b c = refl

or_false : (a : Bool) → (a || false) ≡ a
or_false true = refl
or_false false = refl

-- ---- a position of nullable type

value_case : (b : Bool) (found : Found) → (cond b found (record { value = Some null_value; partial = true; visited = found.visited })).value ≡ cond b found.value (Some null_value)
value_case true found = refl
value_case false found = refl

pub or_null_value : (required : Bool) (found : Found) → (or_null required found).value ≡ value_or_null required found.value
or_null_value required found = value_case (is_some found.value || required) found

visited_case : (b : Bool) (found : Found) → (cond b found (record { value = Some null_value; partial = true; visited = found.visited })).visited ≡ found.visited
visited_case true found = refl
visited_case false found = refl

pub or_null_visited : (required : Bool) (found : Found) → (or_null required found).visited ≡ found.visited
or_null_visited required found = visited_case (is_some found.value || required) found

trail_case : (b : Bool) (trail : Trail) (found : Found)
    → after trail (cond b found (record { value = Some null_value; partial = true; visited = found.visited })) ≡ cond b (after trail found) (record (after trail found) { partial = true })
trail_case true trail found = refl
trail_case false trail found = ap (λ p. record { visited = trail.visited ++ found.visited; partial = p }) (or_true trail.partial)

pub or_null_trail : (required : Bool) (trail : Trail) (found : Found) → after trail (or_null required found) ≡ trail_or_null required found.value (after trail found)
or_null_trail required trail found = trail_case (is_some found.value || required) trail found

-- ---- several positions

pub looks_all : (founds : List Found) → length (flat_map (λ f. f.visited) founds) ≡ looks founds
looks_all [] = refl
looks_all (found ∷ founds) = length-append found.visited (flat_map (λ f. f.visited) founds) ∙ ap (λ n. length found.visited + n) (looks_all founds)

pub trail_all : (trail : Trail) (founds : List Found)
    → after_all trail founds ≡ record { visited = trail.visited ++ flat_map (λ f. f.visited) founds; partial = trail.partial || list_any (λ f. f.partial) founds }
trail_all trail [] =
    sym (ap (λ v. record { visited = v; partial = trail.partial || false }) (append-nil trail.visited)
    ∙ ap (λ p. record { visited = trail.visited; partial = p }) (or_false trail.partial))
trail_all trail (found ∷ founds) =
    trail_all (after trail found) founds
    ∙ ap (λ v. record { visited = v; partial = (trail.partial || found.partial) || list_any (λ f. f.partial) founds }) (append_assoc trail.visited found.visited (flat_map (λ f. f.visited) founds))
    ∙ ap (λ p. record { visited = trail.visited ++ (found.visited ++ flat_map (λ f. f.visited) founds); partial = p }) (or_assoc trail.partial found.partial (list_any (λ f. f.partial) founds))

none_left : (founds : List Found) → with_values None founds ≡ None
none_left [] = refl
none_left (found ∷ founds) = none_left founds

regrouped : (values : List Value) (v : Value) (o : Option (List Value)) → option_map (λ more. (values ++ v ∷ []) ++ more) o ≡ option_map (λ more. values ++ more) (option_map (λ more. v ∷ more) o)
regrouped values v None = refl
regrouped values v (Some more) = ap Some (append_assoc values (v ∷ []) more)

value_more : (values : List Value) (founds : List Found) (o : Option Value)
    → ((v : Value) → with_values (Some (values ++ v ∷ [])) founds ≡ option_map (λ more. (values ++ v ∷ []) ++ more) (all_of (map (λ f. f.value) founds)))
    → with_values (with_value (Some values) o) founds ≡ option_map (λ more. values ++ more) (all_of (o ∷ map (λ f. f.value) founds))
value_more values founds None later = none_left founds
value_more values founds (Some v) later = later v ∙ regrouped values v (all_of (map (λ f. f.value) founds))

values_from : (values : List Value) (founds : List Found) → with_values (Some values) founds ≡ option_map (λ more. values ++ more) (all_of (map (λ f. f.value) founds))
values_from values [] = ap Some (sym (append-nil values))
values_from values (found ∷ founds) = value_more values founds found.value (λ v. values_from (values ++ v ∷ []) founds)

itself : (o : Option (List Value)) → option_map (λ more. [] ++ more) o ≡ o
itself None = refl
itself (Some more) = refl

pub values_all : (founds : List Found) → with_values (Some []) founds ≡ all_of (map (λ f. f.value) founds)
values_all founds = values_from [] founds ∙ itself (all_of (map (λ f. f.value) founds))

-- ---- looks at cells

-- where nothing more is looked at
pub nothing_more : (trail : Trail) (value : Option Value) → trail ≡ after trail (found_if value)
nothing_more trail value =
    sym (ap (λ v. record { visited = v; partial = trail.partial || false }) (append-nil trail.visited)
    ∙ ap (λ p. record { visited = trail.visited; partial = p }) (or_false trail.partial))

-- where a cell was looked at before
pub looked_trail : (trail : Trail) (entity field : List ℕ) (found : Found)
    → after (record { visited = trail.visited ++ (entity, field) ∷ []; partial = trail.partial }) found ≡ after trail (looked entity field found)
looked_trail trail entity field found =
    ap (λ v. record { visited = v; partial = trail.partial || found.partial }) (append_assoc trail.visited ((entity, field) ∷ []) found.visited)

-- where all fields of an object were read
pub object_trail : (trail : Trail) (positions : List Position) → after_all trail (map member_found positions) ≡ after trail (of_positions positions)
object_trail trail positions = trail_all trail (map member_found positions)

pub object_looks : (positions : List Position) → looks (map member_found positions) ≡ length (of_positions positions).visited
object_looks positions = sym (looks_all (map member_found positions))

-- ---- the fields of an object

abbrev keys_of : List Position → List (List ℕ)
keys_of positions = map (λ p. p.0.key) positions

abbrev values_of : List Position → List (Option Value)
values_of positions = map (λ f. f.value) (map member_found positions)

no_members : (something : Bool) (positions : List Position) → (with_positions (record { members = None; something = something }) positions).members ≡ None
no_members something [] = refl
no_members something (p ∷ ps) = no_members (something || has_something p) ps

keyed : (members : Pairs) (key : List ℕ) (keys : List (List ℕ)) (v : Value) (o : Option (List Value))
    → option_map (λ values. (members ++ (key, v) ∷ []) ++ zip keys values) o ≡ option_map (λ values. members ++ zip (key ∷ keys) values) (option_map (λ more. v ∷ more) o)
keyed members key keys v None = refl
keyed members key keys v (Some values) = ap Some (append_assoc members ((key, v) ∷ []) (zip keys values))

member_more : (members : Pairs) (something : Bool) (key : List ℕ) (ps : List Position) (o : Option Value)
    → ((v : Value) → (with_positions (record { members = Some (members ++ (key, v) ∷ []); something = something }) ps).members
    ≡ option_map (λ values. (members ++ (key, v) ∷ []) ++ zip (keys_of ps) values) (all_of (values_of ps)))
    → (with_positions (record { members = with_member (Some members) key o; something = something }) ps).members
    ≡ option_map (λ values. members ++ zip (key ∷ keys_of ps) values) (all_of (o ∷ values_of ps))
member_more members something key ps None later = no_members something ps
member_more members something key ps (Some v) later = later v ∙ keyed members key (keys_of ps) v (all_of (values_of ps))

members_from : (members : Pairs) (something : Bool) (positions : List Position)
    → (with_positions (record { members = Some members; something = something }) positions).members ≡ option_map (λ values. members ++ zip (keys_of positions) values) (all_of (values_of positions))
members_from members something [] = ap Some (sym (append-nil members))
members_from members something (p ∷ ps) =
    member_more members (something || has_something p) p.0.key ps (member_found p).value (λ v. members_from (members ++ (p.0.key, v) ∷ []) (something || has_something p) ps)

object_case : (positions : List Position) (o : Option (List Value)) → option_map object_value (option_map (λ values. [] ++ zip (keys_of positions) values) o) ≡ option_map (under_keys positions) o
object_case positions None = refl
object_case positions (Some values) = refl

-- the value of an object of all its fields
pub object_value_all : (positions : List Position) → object_of (with_positions no_fields positions) ≡ (of_positions positions).value
object_value_all positions = ap (option_map object_value) (members_from [] false positions) ∙ object_case positions (all_of (values_of positions))

something_from : (object : Object) (positions : List Position) → (with_positions object positions).something ≡ (object.something || list_any has_something positions)
something_from object [] = sym (or_false object.something)
something_from object (p ∷ ps) = something_from (with_position object p) ps ∙ or_assoc object.something (has_something p) (list_any has_something ps)

pub something_all : (positions : List Position) → (with_positions no_fields positions).something ≡ list_any has_something positions
something_all positions = something_from no_fields positions

-- ---- the root

abbrev pub nothing_yet : Trail
nothing_yet = record { visited = []; partial = false }

told_case : (positions : List Position) (value : Option Value) (partial : Bool) → told value (list_any has_something positions) partial ≡ reading_of positions (record { value = value; partial = partial; visited = [] })
told_case positions None partial = refl
told_case positions (Some value) partial = refl

reading_case : (positions : List Position) (found : Found) → reading_of positions (record { value = found.value; partial = found.partial; visited = [] }) ≡ reading_of positions found
reading_case positions found = refl

pub told_all : (positions : List Position) (object : Object) (trail : Trail) → object ≡ with_positions no_fields positions → trail ≡ after_all nothing_yet (map member_found positions)
    → told (object_of object) object.something trail.partial ≡ reading_of positions (of_positions positions)
told_all positions object trail object_is trail_is =
    ap (λ (o : Object). told (object_of o) o.something trail.partial) object_is
    ∙ ap (λ (t : Trail). told (object_of (with_positions no_fields positions)) (with_positions no_fields positions).something t.partial) (trail_is ∙ object_trail nothing_yet positions)
    ∙ ap (λ v. told v (with_positions no_fields positions).something (of_positions positions).partial) (object_value_all positions)
    ∙ ap (λ b. told (of_positions positions).value b (of_positions positions).partial) (something_all positions)
    ∙ told_case positions (of_positions positions).value (of_positions positions).partial
    ∙ reading_case positions (of_positions positions)

pub visited_all : (positions : List Position) (trail : Trail) → trail ≡ after_all nothing_yet (map member_found positions) → trail.visited ≡ (of_positions positions).visited
visited_all positions trail trail_is = ap (λ (t : Trail). t.visited) (trail_is ∙ object_trail nothing_yet positions)

-- ---- types

required_open : (entity : List ℕ → Found) (level : TypeRef-F TypeRef) → (link_step entity (map-TypeRef TypeRef Linked (linked entity) level)).0 ≡ is_non_null_at level
required_open entity (TypeRef-F.Named name required) = refl
required_open entity (TypeRef-F.List item required) = refl

-- whether a type is Non-Null, by what is found at it
pub required_is : (entity : List ℕ → Found) (type : TypeRef) → (linked entity type).0 ≡ is_non_null type
required_is entity type = ap (λ (l : Linked). l.0) (fold_out-TypeRef Linked (link_step entity) type) ∙ required_open entity (out-TypeRef type)
