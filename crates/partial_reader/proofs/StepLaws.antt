-- One position further in the loops of a walk.
use Rattle.std.proofs.Common.{◌≡◌, ℕ, zero, suc, ◌+◌, ◌-◌, ◌*◌, ◌<◌, ◌≤◌, List, [], ◌∷◌, ◌++◌, length, map, take, drop, get_or, refl, sym, ap, ◌∙◌, subst, arith, Bool, false, bytes_eq, ◌||◌}
use Rattle.std.proofs.lemmas.List.{map-append, take-append-drop}
use Rattle.std.specs.Prelude.{Option, None, Some, ⊤, OnErr}
use Rattle.std.specs.declared.result.Result.{Result}
use Rattle.std.specs.declared.result.Result.TheVariants.{Ok, Err}
use Rattle.std.specs.List.{AllByRecursion, IsDistinct, flat_map}
use Rattle.check_model.proofs.ListLaws.{next_left, next_taken}
use Rattle.text_types.specs.Names.{names_of}
use Rattle.gql_value.specs.declared.value.Value.{Value}
use Rattle.cache_model.specs.declared.cell.Link.{Link}
use Rattle.schema_model.specs.declared.schema.Schema.{Schema}
use Rattle.schema_model.specs.declared.schema.TypeId.{TypeId}
use Rattle.execution_model.specs.declared.group.Group.{Group}
use Rattle.execution_model.specs.Values.{Pairs, all_of, list_value}
use Rattle.execution_model.specs.Collection.{SetId}
use Rattle.execution_model.specs.Fronts.{Fronts}
use Rattle.execution_model.specs.Asked.{Execution, Asked, asked_of, asked_with, asked_by_client, written_of}
use Rattle.cache_model.specs.Maps.{CellMap}
use Rattle.answer_model.specs.Types.{ObjectType}
use Rattle.answer_model.specs.Reading.{Found, Position, Visits, found_if, has_something, is_required, together, member_found, or_null, position_of, positions_within}
use Rattle.answer_parts.specs.Heights.{height, type_height}
use Rattle.answer_parts.proofs.HeightLaws.{field_type_low}
use Rattle.field_asking.specs.declared.field.AskedField.{AskedField}
use Rattle.field_asking.specs.Asking.{HasOwnKeys, asked_field}
use Rattle.partial_reader.proofs.FoundLaws.{looks_all, or_null_value, or_null_trail, or_null_visited, trail_all, values_all}
use Rattle.partial_reader.specs.declared.trail.Trail.{Trail}
use Rattle.partial_reader.specs.declared.object.Object.{Object}
use Rattle.partial_reader.specs.Walks.{AreLow, LacksMember, after, after_all, found_within, looks, trail_or_null, value_or_null, with_value, with_values, with_member, with_position, with_positions, no_fields}

-- ---- items

-- the items that are left take a walk to where all of them take it
pub record Gone (find : Link → Found) (links : List Link) (at : ℕ) (values : Option (List Value)) (start trail : Trail) (first steps : ℕ) : Type 0 where
  pub given : with_values values (map find (drop at links)) ≡ with_values (Some []) (map find links)
  pub went : after_all trail (map find (drop at links)) ≡ after_all start (map find links)
  pub counted : steps + looks (map find (drop at links)) ≡ first + looks (map find links)

pub gone_next : (find : Link → Found) (links : List Link) (at : ℕ) (link : Link) (values more : Option (List Value)) (start trail behind : Trail) (first steps then : ℕ)
    → at < length links → link ≡ get_or links at link → Gone find links at values start trail first steps
    → more ≡ with_value values (find link).value → behind ≡ after trail (find link) → then ≡ steps + length (find link).visited
    → Gone find links (at + 1) more start behind first then
gone_next find links at link values more start trail behind first steps then within is gone value_is trail_is steps_is =
    let left = next_left links at link within is in
    let rest = map find (drop (at + 1) links) in
    let looked : looks (map find (drop at links)) ≡ length (find link).visited + looks rest = ap (λ xs. looks (map find xs)) left in
    record {
      given = ap (λ v. with_values v rest) value_is ∙ sym (ap (λ xs. with_values values (map find xs)) left) ∙ gone.given;
      went = ap (λ t. after_all t rest) trail_is ∙ sym (ap (λ xs. after_all trail (map find xs)) left) ∙ gone.went;
      counted = omega (arith, looked, steps_is, gone.counted);
    }

-- no more steps than all items take
pub gone_within : (find : Link → Found) (links : List Link) (at : ℕ) (link : Link) (values : Option (List Value)) (start trail : Trail) (first steps then : ℕ)
    → at < length links → link ≡ get_or links at link → Gone find links at values start trail first steps
    → then ≤ steps + length (find link).visited → then ≤ first + looks (map find links)
gone_within find links at link values start trail first steps then within is gone few =
    let rest = map find (drop (at + 1) links) in
    let looked : looks (map find (drop at links)) ≡ length (find link).visited + looks rest = ap (λ xs. looks (map find xs)) (next_left links at link within is) in
    omega (arith, looked, few, gone.counted)

pub drop_end : {X : Type 0} (xs : List X) (n : ℕ) → length xs ≤ n → drop n xs ≡ []
drop_end [] zero within = refl
drop_end [] (suc n) within = refl
drop_end (x ∷ xs) zero within = absurd (omega (arith, within))
drop_end (x ∷ xs) (suc n) within = drop_end xs n (omega (arith, within))

pub on_err : {A E P : Type 0} (r : Result A E) → P → OnErr r P
on_err (Ok a) p = tt
on_err (Err e) p = p

pub gone_given : (find : Link → Found) (links : List Link) (at : ℕ) (values : Option (List Value)) (start trail : Trail) (first steps : ℕ)
    → Gone find links at values start trail first steps → drop at links ≡ [] → values ≡ all_of (map (λ f. f.value) (map find links))
gone_given find links at values start trail first steps gone none = sym (ap (λ xs. with_values values (map find xs)) none) ∙ gone.given ∙ values_all (map find links)

pub gone_went : (find : Link → Found) (links : List Link) (at : ℕ) (values : Option (List Value)) (start trail : Trail) (first steps : ℕ)
    → Gone find links at values start trail first steps → drop at links ≡ [] → trail ≡ after start (together list_value (map find links))
gone_went find links at values start trail first steps gone none = sym (ap (λ xs. after_all trail (map find xs)) none) ∙ gone.went ∙ trail_all start (map find links)

pub gone_counted : (find : Link → Found) (links : List Link) (at : ℕ) (values : Option (List Value)) (start trail : Trail) (first steps : ℕ)
    → Gone find links at values start trail first steps → drop at links ≡ [] → steps ≡ first + length (flat_map (λ f. f.visited) (map find links))
gone_counted find links at values start trail first steps gone none =
    let nothing : looks (map find (drop at links)) ≡ 0 = ap (λ xs. looks (map find xs)) none in
    let all : length (flat_map (λ f. f.visited) (map find links)) ≡ looks (map find links) = looks_all (map find links) in
    omega (arith, nothing, all, gone.counted)

pub gone_bounded : (find : Link → Found) (links : List Link) (at : ℕ) (link : Link) (values : Option (List Value)) (start trail : Trail) (first steps then : ℕ)
    → at < length links → link ≡ get_or links at link → Gone find links at values start trail first steps
    → then ≤ steps + length (find link).visited → then ≤ first + length (flat_map (λ f. f.visited) (map find links))
gone_bounded find links at link values start trail first steps then within is gone few =
    let all : length (flat_map (λ f. f.visited) (map find links)) ≡ looks (map find links) = looks_all (map find links) in
    let h : then ≤ first + looks (map find links) = gone_within find links at link values start trail first steps then within is gone few in
    omega (arith, all, h)

pub or_null_few : (steps then : ℕ) (own : Bool) (found : Found) → then ≤ steps + length found.visited → then ≤ steps + length (or_null own found).visited
or_null_few steps then own found few = subst (λ (v : Visits). then ≤ steps + length v) (sym (or_null_visited own found)) few

-- ---- fields

-- the names of members, where there are members
abbrev pub HasKeys : Option Pairs → List (List ℕ) → Type 0
HasKeys (Some members) keys = names_of members ≡ keys
HasKeys None keys = ⊤

abbrev pub key_of : AskedField → List ℕ
key_of field = field.key

abbrev pub placed : (Asked → Position) → List AskedField → List Position
placed place fields = map place (map asked_field fields)

abbrev pub members_found : (Asked → Position) → List AskedField → List Found
members_found place fields = map member_found (placed place fields)

-- the fields that are left take a walk to where all of them take it
pub record Walked (place : Asked → Position) (fields : List AskedField) (at : ℕ) (object : Object) (start trail : Trail) (first steps : ℕ) : Type 0 where
  pub read : with_positions object (placed place (drop at fields)) ≡ with_positions no_fields (placed place fields)
  pub went : after_all trail (members_found place (drop at fields)) ≡ after_all start (members_found place fields)
  pub counted : steps + looks (members_found place (drop at fields)) ≡ first + looks (members_found place fields)
  pub keys : HasKeys object.members (map key_of (take at fields))

keys_case : (members : Option Pairs) (value : Option Value) (key : List ℕ) (before keys : List (List ℕ))
    → keys ≡ before ++ key ∷ [] → HasKeys members before → HasKeys (with_member members key value) keys
keys_case None value key before keys is had = tt
keys_case (Some members) None key before keys is had = tt
keys_case (Some members) (Some value) key before keys is had =
    map-append (λ (p : List ℕ × Value). p.0) members ((key, value) ∷ []) ∙ ap (λ ks. ks ++ key ∷ []) had ∙ sym is

pub walked_next : (place : Asked → Position) (fields : List AskedField) (at : ℕ) (field : AskedField) (object more : Object) (start trail behind : Trail) (first steps then : ℕ)
    → at < length fields → field ≡ get_or fields at field → (place (asked_field field)).0.key ≡ field.key → Walked place fields at object start trail first steps
    → more ≡ with_position object (place (asked_field field)) → behind ≡ after trail (member_found (place (asked_field field)))
    → then ≡ steps + length (member_found (place (asked_field field))).visited
    → Walked place fields (at + 1) more start behind first then
walked_next place fields at field object more start trail behind first steps then within is key walked object_is trail_is steps_is =
    let left = next_left fields at field within is in
    let rest = members_found place (drop (at + 1) fields) in
    let looked : looks (members_found place (drop at fields)) ≡ length (member_found (place (asked_field field))).visited + looks rest = ap (λ xs. looks (members_found place xs)) left in
    let own : map key_of (take (at + 1) fields) ≡ map key_of (take at fields) ++ (place (asked_field field)).0.key ∷ [] =
    ap (map key_of) (next_taken fields at field within is)
    ∙ map-append key_of (take at fields) (field ∷ [])
    ∙ ap (λ k. map key_of (take at fields) ++ k ∷ []) (sym key) in
    record {
      read = ap (λ o. with_positions o (placed place (drop (at + 1) fields))) object_is ∙ sym (ap (λ xs. with_positions object (placed place xs)) left) ∙ walked.read;
      went = ap (λ t. after_all t rest) trail_is ∙ sym (ap (λ xs. after_all trail (members_found place xs)) left) ∙ walked.went;
      counted = omega (arith, looked, steps_is, walked.counted);
      keys = subst (λ (o : Object). HasKeys o.members (map key_of (take (at + 1) fields))) (sym object_is)
          (keys_case object.members (member_found (place (asked_field field))).value (place (asked_field field)).0.key (map key_of (take at fields)) _ own walked.keys);
    }

-- no more steps than all fields take
pub walked_within : (place : Asked → Position) (fields : List AskedField) (at : ℕ) (field : AskedField) (object : Object) (start trail : Trail) (first steps then : ℕ)
    → at < length fields → field ≡ get_or fields at field → Walked place fields at object start trail first steps
    → then ≤ steps + length (member_found (place (asked_field field))).visited → then ≤ first + looks (members_found place fields)
walked_within place fields at field object start trail first steps then within is walked few =
    let rest = members_found place (drop (at + 1) fields) in
    let looked : looks (members_found place (drop at fields)) ≡ length (member_found (place (asked_field field))).visited + looks rest =
    ap (λ xs. looks (members_found place xs)) (next_left fields at field within is) in
    omega (arith, looked, few, walked.counted)

-- all fields are read
pub walked_read : (place : Asked → Position) (fields : List AskedField) (at : ℕ) (object : Object) (start trail : Trail) (first steps : ℕ)
    → Walked place fields at object start trail first steps → drop at fields ≡ [] → object ≡ with_positions no_fields (placed place fields)
walked_read place fields at object start trail first steps walked none = sym (ap (λ xs. with_positions object (placed place xs)) none) ∙ walked.read

pub walked_went : (place : Asked → Position) (fields : List AskedField) (at : ℕ) (object : Object) (start trail : Trail) (first steps : ℕ)
    → Walked place fields at object start trail first steps → drop at fields ≡ [] → trail ≡ after_all start (members_found place fields)
walked_went place fields at object start trail first steps walked none = sym (ap (λ xs. after_all trail (members_found place xs)) none) ∙ walked.went

pub walked_counted : (place : Asked → Position) (fields : List AskedField) (at : ℕ) (object : Object) (start trail : Trail) (first steps : ℕ)
    → Walked place fields at object start trail first steps → drop at fields ≡ [] → steps ≡ first + looks (members_found place fields)
walked_counted place fields at object start trail first steps walked none =
    let nothing : looks (members_found place (drop at fields)) ≡ 0 = ap (λ xs. looks (members_found place xs)) none in
    omega (arith, nothing, walked.counted)

-- what is read of one field, by what is found at its position
pub position_read : (object more : Object) (asked : Asked) (found : Found) (required : Bool) (got value : Option Value) (something : Bool)
    → required ≡ is_required asked → got ≡ found.value → value ≡ value_or_null required got → something ≡ has_something (asked, found_if got)
    → more ≡ record { members = with_member object.members asked.key value; something = object.something || something }
    → more ≡ with_position object (asked, found)
position_read object more asked found required got value something required_is got_is value_is something_is more_is =
    more_is
    ∙ ap (λ v. record { members = with_member object.members asked.key v; something = object.something || something })
    (value_is ∙ ap (λ r. value_or_null r got) required_is ∙ ap (value_or_null (is_required asked)) got_is ∙ sym (or_null_value (is_required asked) found))
    ∙ ap (λ b. record { members = with_member object.members asked.key (or_null (is_required asked) found).value; something = object.something || b })
    (something_is ∙ ap (λ o. has_something (asked, found_if o)) got_is)

pub position_went : (trail mid behind : Trail) (required own : Bool) (found : Found) (got : Option Value)
    → required ≡ own → got ≡ found.value → mid ≡ after trail found → behind ≡ trail_or_null required got mid
    → behind ≡ after trail (or_null own found)
position_went trail mid behind required own found got required_is got_is mid_is behind_is =
    behind_is
    ∙ ap (λ r. trail_or_null r got mid) required_is
    ∙ ap (λ o. trail_or_null own o mid) got_is
    ∙ ap (trail_or_null own found.value) mid_is
    ∙ sym (or_null_trail own trail found)

pub position_counted : (steps then : ℕ) (own : Bool) (found : Found) → then ≡ steps + length found.visited → then ≡ steps + length (or_null own found).visited
position_counted steps then own found is = is ∙ ap (λ v. steps + length v) (sym (or_null_visited own found))

pub item_given : (values more : Option (List Value)) (value got : Option Value) (required own : Bool) (found : Found)
    → required ≡ own → got ≡ found.value → value ≡ value_or_null required got → more ≡ with_value values value
    → more ≡ with_value values (or_null own found).value
item_given values more value got required own found required_is got_is value_is more_is =
    more_is ∙ ap (with_value values) (value_is ∙ ap (λ r. value_or_null r got) required_is ∙ ap (value_or_null own) got_is ∙ sym (or_null_value own found))

-- ---- response keys

lacks_before : (keys : List (List ℕ)) (key : List ℕ) (more : List (List ℕ)) → IsDistinct bytes_eq (keys ++ key ∷ more) → AllByRecursion (λ n. bytes_eq n key ≡ false) keys
unfolding IsDistinct
lacks_before [] key more distinct = tt
lacks_before (k ∷ keys) key more distinct = (differs keys distinct.0, lacks_before keys key more distinct.1)
  where
    differs : (ks : List (List ℕ)) → AllByRecursion (λ n. bytes_eq k n ≡ false) (ks ++ key ∷ more) → bytes_eq k key ≡ false
    differs [] all = all.0
    differs (n ∷ ns) all = differs ns all.1

lacks_case : (members : Option Pairs) (keys : List (List ℕ)) (key : List ℕ) → HasKeys members keys → AllByRecursion (λ n. bytes_eq n key ≡ false) keys → LacksMember members key
lacks_case None keys key had all = tt
lacks_case (Some members) keys key had all = subst (AllByRecursion (λ n. bytes_eq n key ≡ false)) (sym had) all

-- a field's own response key isn't that of an earlier field
pub lacks_taken : (fields : List AskedField) (at : ℕ) (field : AskedField) → at < length fields → field ≡ get_or fields at field → HasOwnKeys fields
    → AllByRecursion (λ n. bytes_eq n field.key ≡ false) (map key_of (take at fields))
lacks_taken fields at field within is distinct =
    let whole : map key_of fields ≡ map key_of (take at fields) ++ field.key ∷ map key_of (drop (at + 1) fields) =
    sym (ap (map key_of) (take-append-drop at fields))
    ∙ map-append key_of (take at fields) (drop at fields)
    ∙ ap (λ xs. map key_of (take at fields) ++ map key_of xs) (next_left fields at field within is) in
    lacks_before (map key_of (take at fields)) field.key (map key_of (drop (at + 1) fields)) (subst (IsDistinct bytes_eq) whole distinct)

pub lacks_own : (fields : List AskedField) (at : ℕ) (field : AskedField) (members : Option Pairs)
    → at < length fields → field ≡ get_or fields at field → HasOwnKeys fields → HasKeys members (map key_of (take at fields)) → LacksMember members field.key
lacks_own fields at field members within is distinct had =
    lacks_case members (map key_of (take at fields)) field.key had (lacks_taken fields at field within is distinct)

-- ---- heights

pub low_at : (schema : Schema) (fields : List AskedField) (at : ℕ) (field : AskedField) → at < length fields → field ≡ get_or fields at field
    → AreLow schema fields → type_height (asked_field field).type ≤ height schema
low_at schema [] at field within is low = absurd (omega (arith, within))
low_at schema (f ∷ fs) zero field within is low = subst (λ (x : AskedField). type_height (asked_field x).type ≤ height schema) (sym is) low.0
low_at schema (f ∷ fs) (suc at) field within is low = low_at schema fs at field (omega (arith, within)) is low.1

pub all_low : (execution : Execution) (object : TypeId) (fields : List AskedField) (groups : List Group) → map asked_field fields ≡ map (asked_of execution object) groups
    → AreLow execution.schema fields
all_low execution object [] groups is = tt
all_low execution object (f ∷ fs) [] is = absurd (cc)
all_low execution object (f ∷ fs) (g ∷ gs) is =
    let first : asked_field f ≡ asked_of execution object g = cc in
    let more : map asked_field fs ≡ map (asked_of execution object) gs = cc in (
      subst (λ (a : Asked). type_height a.type ≤ height execution.schema) (sym first) (field_type_low execution.schema object (written_of execution.document g).0),
      all_low execution object fs gs more,
    )

-- ---- the measure

-- more than the type of any field is high
abbrev pub weight : Schema → ℕ
weight schema = height schema + 3

pub falls : (depth w : ℕ) → 0 < depth → (depth - 1) * w + w ≡ depth * w
falls zero w some = absurd (omega (arith, some))
falls (suc n) w some =
    let e : suc n - 1 ≡ n = omega arith in
    let f : suc n ≡ n + 1 = omega arith in
    ap (λ k. k * w + w) e ∙ grown n w ∙ ap (λ k. k * w) (sym f)
  where
    grown : (n w : ℕ) → n * w + w ≡ (n + 1) * w
    grown n w = omega arith

-- ---- a level deeper

-- what is at the positions of an object, where it is read so deep
pub positions_are : (n : ℕ) (execution : Execution) (cells : CellMap) (sets : SetId) (type : ObjectType) (entity : List ℕ) (fronts : Fronts) (fields : List AskedField)
    → 0 < n → fronts ≡ [] → map asked_field fields ≡ asked_with fronts execution type.0 sets
    → positions_within n execution cells sets type entity ≡ map (position_of (found_within (n - 1) execution cells) execution.schema cells type entity) (map asked_field fields)
positions_are zero execution cells sets type entity fronts fields some own are = absurd (omega (arith, some))
positions_are (suc n) execution cells sets type entity fronts fields some own are =
    let less : n ≡ suc n - 1 = omega arith in
    ap (λ k. map (position_of (found_within k execution cells) execution.schema cells type entity) (asked_by_client execution type.0 sets)) less
    ∙ ap (λ fs. map (position_of (found_within (suc n - 1) execution cells) execution.schema cells type entity) fs)
    (sym (are ∙ ap (λ f. asked_with f execution type.0 sets) own))
