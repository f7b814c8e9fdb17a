-- The members of an object that is cut, one field further.
use Rattle.std.proofs.Common.{◌≡◌, ℕ, zero, suc, ◌+◌, ◌-◌, ◌<◌, List, [], ◌∷◌, ◌++◌, length, map, take, get_or, refl, sym, ap, ◌∙◌, subst, arith, false, bytes_eq}
use Rattle.std.proofs.lemmas.List.{map-append}
use Rattle.std.proofs.lemmas.List.Elements.{filter_map-append}
use Rattle.std.specs.Prelude.{Option, None, Some}
use Rattle.std.specs.List.{AllByRecursion, filter_map, cons_option}
use Rattle.std.specs.Option.{option_map, option_to_list}
use Rattle.check_model.proofs.ListLaws.{next_taken}
use Rattle.text_types.specs.Names.{Lacks}
use Rattle.gql_value.specs.declared.value.Value.{Value}
use Rattle.schema_model.specs.declared.schema.Schema.{Schema}
use Rattle.schema_model.specs.declared.schema.TypeId.{TypeId}
use Rattle.schema_model.specs.Tables.{entry}
use Rattle.execution_model.specs.Values.{Pairs}
use Rattle.execution_model.specs.Collection.{SetId}
use Rattle.execution_model.specs.Fronts.{Fronts}
use Rattle.execution_model.specs.Asked.{Execution, Asked, asked_with, asked_by_client}
use Rattle.answer_model.specs.Projection.{Cutting, field_cut, member_cut, cut_within}
use Rattle.field_asking.specs.declared.field.AskedField.{AskedField}
use Rattle.field_asking.specs.Asking.{HasOwnKeys, asked_field}
use Rattle.partial_reader.proofs.StepLaws.{key_of, lacks_taken}

abbrev pub cut_of : Cutting → Schema → Pairs → List AskedField → Pairs
cut_of cut schema members fields = filter_map (member_cut cut schema members) (map asked_field fields)

lacks_one : (cut : Cutting) (schema : Schema) (key : List ℕ) (f : AskedField) (rest : Pairs) (found : Option Value) → bytes_eq f.key key ≡ false → Lacks rest key
    → Lacks (cons_option (option_map (λ value. (f.key, field_cut cut schema (asked_field f) value)) found) rest) key
lacks_one cut schema key f rest None differs lacks = lacks
lacks_one cut schema key f rest (Some value) differs lacks = (differs, lacks)

lacks_from : (cut : Cutting) (schema : Schema) (members : Pairs) (key : List ℕ) (fields : List AskedField)
    → AllByRecursion (λ n. bytes_eq n key ≡ false) (map key_of fields) → Lacks (cut_of cut schema members fields) key
lacks_from cut schema members key [] all = tt
lacks_from cut schema members key (f ∷ fs) all =
    lacks_one cut schema key f (cut_of cut schema members fs) (entry members f.key) all.0 (lacks_from cut schema members key fs all.1)

-- a field's own response key isn't that of an earlier member
pub lacks_cut : (cut : Cutting) (schema : Schema) (members : Pairs) (fields : List AskedField) (at : ℕ) (field : AskedField) (out : Pairs)
    → at < length fields → field ≡ get_or fields at field → HasOwnKeys fields → out ≡ cut_of cut schema members (take at fields) → Lacks out field.key
lacks_cut cut schema members fields at field out within is distinct so_far =
    subst (λ (o : Pairs). Lacks o field.key) (sym so_far) (lacks_from cut schema members field.key (take at fields) (lacks_taken fields at field within is distinct))

cons_case : {Y : Type 0} (o : Option Y) → cons_option o [] ≡ option_to_list o
cons_case None = refl
cons_case (Some y) = refl

-- one field more
pub cut_next : (cut : Cutting) (schema : Schema) (members : Pairs) (fields : List AskedField) (at : ℕ) (field : AskedField)
    → at < length fields → field ≡ get_or fields at field
    → cut_of cut schema members (take (at + 1) fields) ≡ cut_of cut schema members (take at fields) ++ option_to_list (member_cut cut schema members (asked_field field))
cut_next cut schema members fields at field within is =
    let step = member_cut cut schema members in
    ap (cut_of cut schema members) (next_taken fields at field within is)
    ∙ ap (filter_map step) (map-append asked_field (take at fields) (field ∷ []))
    ∙ filter_map-append step (map asked_field (take at fields)) (asked_field field ∷ [])
    ∙ ap (λ ys. filter_map step (map asked_field (take at fields)) ++ ys) (cons_case (step (asked_field field)))

abbrev pair_of : List ℕ → Value → List ℕ × Value
pair_of key value = (key, value)

member_case : (cut : Cutting) (schema : Schema) (asked : Asked) (found : Option Value)
    → option_map (pair_of asked.key) (option_map (field_cut cut schema asked) found) ≡ option_map (λ value. pair_of asked.key (field_cut cut schema asked value)) found
member_case cut schema asked None = refl
member_case cut schema asked (Some value) = refl

-- what is pushed of one field
pub pushed : (cut : Cutting) (schema : Schema) (members : Pairs) (fields : List AskedField) (at : ℕ) (field : AskedField) (out more : Pairs) (found value : Option Value)
    → at < length fields → field ≡ get_or fields at field → out ≡ cut_of cut schema members (take at fields)
    → found ≡ entry members field.key → value ≡ option_map (field_cut cut schema (asked_field field)) found
    → more ≡ out ++ option_to_list (option_map (pair_of field.key) value)
    → more ≡ cut_of cut schema members (take (at + 1) fields)
pushed cut schema members fields at field out more found value within is so_far found_is value_is more_is =
    more_is
    ∙ ap (λ o. out ++ option_to_list (option_map (pair_of field.key) o)) (value_is ∙ ap (option_map (field_cut cut schema (asked_field field))) found_is)
    ∙ ap (λ o. out ++ option_to_list o) (member_case cut schema (asked_field field) (entry members field.key))
    ∙ ap (λ o. o ++ option_to_list (member_cut cut schema members (asked_field field))) so_far
    ∙ sym (cut_next cut schema members fields at field within is)

-- what an object is cut to, where it is cut so deep
pub cut_is : (n : ℕ) (execution : Execution) (sets : SetId) (type : TypeId) (members : Pairs) (fronts : Fronts) (fields : List AskedField)
    → 0 < n → fronts ≡ [] → map asked_field fields ≡ asked_with fronts execution type sets
    → cut_within n execution sets type members ≡ cut_of (cut_within (n - 1) execution) execution.schema members fields
cut_is zero execution sets type members fronts fields some own are = absurd (omega (arith, some))
cut_is (suc n) execution sets type members fronts fields some own are =
    let less : n ≡ suc n - 1 = omega arith in
    ap (λ k. filter_map (member_cut (cut_within k execution) execution.schema members) (asked_by_client execution type sets)) less
    ∙ ap (filter_map (member_cut (cut_within (suc n - 1) execution) execution.schema members)) (sym (are ∙ ap (λ f. asked_with f execution type sets) own))
