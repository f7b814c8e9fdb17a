-- What a field's links and their objects write, by the ways through its lists.
use Rattle.std.proofs.Common.{◌≡◌, ℕ, ◌+◌, ◌<◌, Bool, true, false, List, [], ◌∷◌, ◌++◌, length, drop, get_or, map, refl, sym, ap, subst, ◌∙◌, append_assoc, append-nil}
use Rattle.std.specs.Prelude.{Option, Some, None, cond, codes}
use Rattle.std.specs.Option.{option_map_or}
use Rattle.std.specs.List.{flat_map, enumerate_from}
use Rattle.std.specs.Result.{result_map_both}
use Rattle.std.specs.declared.result.Result.{Result}
use Rattle.std.specs.declared.result.Result.TheVariants.{Ok, Err}
use Rattle.gql_model.specs.declared.type_ref.TypeRef.{TypeRef, map-TypeRef, fold-roll-TypeRef, ind-TypeRef}
use Rattle.gql_model.specs.declared.type_ref.TypeRef.TheOpen.{TypeRef-F}
use Rattle.gql_value.specs.declared.value.Value.{Value, out-Value}
use Rattle.gql_value.specs.declared.value.Value.TheOpen.{Value-F}
use Rattle.check_model.proofs.ListLaws.{next_left}
use Rattle.cache_model.specs.declared.cell.Link.{Link}
use Rattle.cache_model.specs.declared.cell.Link.TheVariants as link
use Rattle.cache_model.specs.declared.cell.Cell.TheVariants as cell
use Rattle.cache_model.specs.declared.write.Write.{Write}
use Rattle.execution_model.specs.Values.{Pairs}
use Rattle.execution_model.specs.Collection.{SetId}
use Rattle.execution_model.specs.Asked.{Asked, asked_as_sent}
use Rattle.answer_model.specs.Paths.{Path, each, onto, path_text}
use Rattle.answer_model.specs.Types.{ObjectType, type_of_members}
use Rattle.answer_model.specs.Writing as spec
use Rattle.answer_model.specs.Writing.{Answered, FieldsWrites, Field, Object, Writes, Linked, Linking, written_of_each, typename_write}
use Rattle.result_writer.specs.declared.error.WriteError.{WriteError}
use Rattle.result_writer.specs.declared.error.WriteError.TheVariants as error
use Rattle.result_writer.specs.Results.{told, told_behind, TellsError}
use Rattle.result_writer.specs.Ways as ways
use Rattle.result_writer.specs.Ways.{Found, Way, Going, walked, with_link, linked_behind}
use Rattle.result_writer.proofs.WriteLaws.{behind, last_written, by_what_is_asked}

-- what objects that were found before write, and what a value behind them does
abbrev after_found : Result (List Write) (List ℕ) → Result Linked (List ℕ) → Result Linked (List ℕ)
after_found (Ok before) (Ok linked) = Ok (record { link = linked.link; writes = before ++ linked.writes })
after_found (Ok before) (Err path) = Err path
after_found (Err path) _ = Err path

misfit_case : (path : List ℕ) (r : Result (List Write) (List ℕ)) → with_link (Err path) r ≡ after_found r (Err path)
misfit_case path (Ok ws) = refl
misfit_case path (Err e) = refl

null_case : (l : Link) (r : Result (List Write) (List ℕ)) → with_link (Ok l) r ≡ after_found r (Ok (record { link = l; writes = [] }))
null_case l (Ok ws) = ap (λ more. Ok (record { link = l; writes = more })) (sym (append-nil ws))
null_case l (Err e) = refl

object_case : (l : Link) (first : Write) (r : Result (List Write) (List ℕ)) (w : Writes)
    → with_link (Ok l) (behind r (told (result_map_both (λ ws. first ∷ ws) (λ path. path) w)))
    ≡ after_found r (told (result_map_both (λ ws. record { link = l; writes = first ∷ ws }) (λ path. path) w))
object_case l first (Ok before) (Ok ws) = refl
object_case l first (Ok before) (Err e) = refl
object_case l first (Err e) w = refl

-- ---- items

-- links behind those so far, with the writes of their objects
abbrev listed : List Link → Result (List Linked) Path → Result Linked (List ℕ)
listed links items =
    result_map_both (λ ls. record { link = link.List (links ++ map (λ (l : Linked). l.link) ls); writes = flat_map (λ (l : Linked). l.writes) ls }) path_text items

nothing_left : (links : List Link) (r : Result (List Write) (List ℕ)) → with_link (Ok (link.List links)) r ≡ after_found r (listed links (Ok []))
nothing_left links (Ok ws) =
    ap (λ ls. Ok (record { link = link.List ls; writes = ws })) (sym (append-nil links))
    ∙ ap (λ more. Ok (record { link = link.List (links ++ []); writes = more })) (sym (append-nil ws))
nothing_left links (Err e) = refl

-- an item that doesn't fit
item_misfit : (p : List ℕ) (links : List Link) (wr r : Result (List Write) (List ℕ)) (q : Result Linked Path) (m : Result (List Linked) Path)
    → with_link (Err p) wr ≡ after_found r (told q) → with_link (Err p) wr ≡ after_found r (listed links (onto q m))
item_misfit p links wr (Err e) q m is = is
item_misfit p links wr (Ok b) (Err e) m is = is
item_misfit p links (Ok ws) (Ok b) (Ok l) m is = absurd (cc)
item_misfit p links (Err e) (Ok b) (Ok l) m is = absurd (cc)

abbrev link_in : Linked → Result Linked (List ℕ) → Linked
link_in other (Ok l) = l
link_in other (Err e) = other

item_fits : (l0 : Link) (links : List Link) (ws b : List Write) (l : Linked) (m : Result (List Linked) Path)
    → l0 ≡ l.link → ws ≡ b ++ l.writes
    → after_found (Ok ws) (listed (links ++ l0 ∷ []) m) ≡ after_found (Ok b) (listed links (onto (Ok l) m))
item_fits l0 links ws b l (Err e) link_is writes_are = refl
item_fits l0 links ws b l (Ok ms) link_is writes_are =
    ap (λ all. Ok (record { link = link.List all; writes = ws ++ flat_map (λ (x : Linked). x.writes) ms }))
    (append_assoc links (l0 ∷ []) (map (λ (x : Linked). x.link) ms) ∙ ap (λ k. links ++ k ∷ map (λ (x : Linked). x.link) ms) link_is)
    ∙ ap (λ all. Ok (record { link = link.List (links ++ l.link ∷ map (λ (x : Linked). x.link) ms); writes = all }))
    (ap (λ v. v ++ flat_map (λ (x : Linked). x.writes) ms) writes_are ∙ append_assoc b l.writes (flat_map (λ (x : Linked). x.writes) ms))

-- an item that leads somewhere
item_linked : (l0 : Link) (links : List Link) (wr r : Result (List Write) (List ℕ)) (q : Result Linked Path) (m : Result (List Linked) Path)
    → with_link (Ok l0) wr ≡ after_found r (told q)
    → after_found wr (listed (links ++ l0 ∷ []) m) ≡ after_found r (listed links (onto q m))
item_linked l0 links (Err e) (Err e') q m is = is
item_linked l0 links (Err e) (Ok b) (Err x) m is = is
item_linked l0 links (Err e) (Ok b) (Ok l) m is = absurd (cc)
item_linked l0 links (Ok ws) (Err e') q m is = absurd (cc)
item_linked l0 links (Ok ws) (Ok b) (Err x) m is = absurd (cc)
item_linked l0 links (Ok ws) (Ok b) (Ok l) m is =
    item_fits l0 links ws b l m (ap (λ r. (link_in l r).link) is) (ap (λ r. (link_in l r).writes) is)

module _ (write : Found → Writes) (follow : FieldsWrites) (answered : Answered) (field : Field)
    (same : (object : Object) → write (record { object = object; asked = asked_as_sent answered.execution object.type.0 field.asked.sets }) ≡ result_map_both (λ ws. typename_write object ∷ ws) (λ path. path) (follow field.asked.sets object)) where
  -- a way goes as the links do, with what was found before
  abbrev Agree : Going → Linking → Type 0
  Agree go link_by = (places : List ℕ) (value : Value) (found : List Found)
      → walked write (go places value found) ≡ after_found (told (written_of_each write found)) (told (link_by places value))

  abbrev before : List Found → Result (List Write) (List ℕ)
  before found = told (written_of_each write found)

  null_agrees : (places : List ℕ) (found : List Found) (required : Bool) → walked write (ways.null_way field places required found) ≡ after_found (before found) (told (spec.null_linked field places required))
  null_agrees places found true = misfit_case _ (before found)
  null_agrees places found false = null_case link.Null (before found)

  members_agree : (places : List ℕ) (members : Pairs) (found : List Found) (type : Option ObjectType)
      → walked write (option_map_or (ways.object_way answered field places members found) type (ways.misfit_way (spec.typename_path field places) found))
      ≡ after_found (before found) (told (option_map_or (λ t. spec.object_linked follow field.asked.sets (spec.object_of answered field t places members)) type (Err (spec.typename_path field places))))
  members_agree places members found None = misfit_case _ (before found)
  members_agree places members found (Some type) =
      let object = spec.object_of answered field type places members in
      let l = link.Entity (spec.entity_of answered field type places members) in
      ap (with_link (Ok l)) (last_written write found (ways.found_at answered field places members type))
      ∙ ap (λ w. with_link (Ok l) (behind (before found) (told w))) (same object)
      ∙ object_case l (typename_write object) (before found) (follow field.asked.sets object)

  named_agrees : (required : Bool) (places : List ℕ) (value : Value-F Value) (found : List Found)
      → walked write (ways.named_way answered field required places value found) ≡ after_found (before found) (told (spec.named_linked follow answered field places required value))
  named_agrees required places Value-F.Null found = null_agrees places found required
  named_agrees required places (Value-F.Obj members) found = members_agree places members found (type_of_members answered.execution.schema field.parent members)
  named_agrees required places (Value-F.Bool b) found = misfit_case _ (before found)
  named_agrees required places (Value-F.Int n) found = misfit_case _ (before found)
  named_agrees required places (Value-F.Text t) found = misfit_case _ (before found)
  named_agrees required places (Value-F.List items) found = misfit_case _ (before found)

  behind_agrees : (more : List Link → List Found → Way) (links : List Link) (found : List Found) (l : Result Link (List ℕ)) (r : Result (List Write) (List ℕ)) (q : Result Linked Path) (m : Result (List Linked) Path)
      → with_link l (before found) ≡ after_found r (told q)
      → ((l0 : Link) → walked write (more (links ++ l0 ∷ []) found) ≡ after_found (before found) (listed (links ++ l0 ∷ []) m))
      → walked write (ways.behind_item more links found l) ≡ after_found r (listed links (onto q m))
  behind_agrees more links found (Err p) r q m here later = item_misfit p links (before found) r q m here
  behind_agrees more links found (Ok l0) r q m here later = later l0 ∙ item_linked l0 links (before found) r q m here

  items_agree : (go : Going) (link_by : Linking) → Agree go link_by → (places : List ℕ) (at : ℕ) (values : List Value) (links : List Link) (found : List Found)
      → walked write (ways.items_way go places at values links found) ≡ after_found (before found) (listed links (each (spec.item_linked link_by places) (enumerate_from at values)))
  items_agree go link_by agree places at [] links found = nothing_left links (before found)
  items_agree go link_by agree places at (value ∷ values) links found =
      let w = go (places ++ at ∷ []) value found in
      behind_agrees (ways.items_way go places (at + 1) values) links w.found w.link (before found) (link_by (places ++ at ∷ []) value) (each (spec.item_linked link_by places) (enumerate_from (at + 1) values))
      (agree (places ++ at ∷ []) value found)
      (λ l0. items_agree go link_by agree places (at + 1) values (links ++ l0 ∷ []) w.found)

  in_list_case : (items : Result (List Linked) Path) → listed [] items ≡ told (result_map_both spec.in_list (λ path. path) items)
  in_list_case (Ok ls) = refl
  in_list_case (Err e) = refl

  list_agrees : (go : Going) (link_by : Linking) → Agree go link_by → (required : Bool) (places : List ℕ) (value : Value-F Value) (found : List Found)
      → walked write (ways.list_way go field required places value found) ≡ after_found (before found) (told (spec.list_linked link_by field places required value))
  list_agrees go link_by agree required places Value-F.Null found = null_agrees places found required
  list_agrees go link_by agree required places (Value-F.List items) found =
      items_agree go link_by agree places 0 items [] found
      ∙ ap (after_found (before found)) (in_list_case (each (spec.item_linked link_by places) (enumerate_from 0 items)))
  list_agrees go link_by agree required places (Value-F.Bool b) found = misfit_case _ (before found)
  list_agrees go link_by agree required places (Value-F.Int n) found = misfit_case _ (before found)
  list_agrees go link_by agree required places (Value-F.Text t) found = misfit_case _ (before found)
  list_agrees go link_by agree required places (Value-F.Obj members) found = misfit_case _ (before found)

  abbrev Claim : TypeRef → Type 0
  Claim type = Agree (ways.way answered field type) (spec.linked follow answered field type)

  layer : (y : TypeRef-F ((t : TypeRef) × Claim t))
      → Agree (ways.way_step answered field (map-TypeRef TypeRef Going (ways.way answered field) (map-TypeRef ((t : TypeRef) × Claim t) TypeRef (λ e. e.0) y)))
      (spec.link_step follow answered field (map-TypeRef TypeRef Linking (spec.linked follow answered field) (map-TypeRef ((t : TypeRef) × Claim t) TypeRef (λ e. e.0) y)))
  layer (TypeRef-F.Named name required) places value found = named_agrees required places (out-Value value) found
  layer (TypeRef-F.List e required) places value found = list_agrees (ways.way answered field e.0) (spec.linked follow answered field e.0) e.1 required places (out-Value value) found

  pub ways_agree : (type : TypeRef) → Claim type
  ways_agree = ind-TypeRef Claim (λ x y is.
      let here = subst (λ (z : TypeRef-F TypeRef). Agree (ways.way_step answered field (map-TypeRef TypeRef Going (ways.way answered field) z)) (spec.link_step follow answered field (map-TypeRef TypeRef Linking (spec.linked follow answered field) z))) is (layer y) in
      subst (λ g. Agree g (spec.linked follow answered field (Rattle.gql_model.specs.declared.type_ref.TypeRef.roll-TypeRef x))) (sym (fold-roll-TypeRef Going (ways.way_step answered field) x))
      (subst (λ l. Agree (ways.way_step answered field (map-TypeRef TypeRef Going (ways.way answered field) x)) l) (sym (fold-roll-TypeRef Linking (spec.link_step follow answered field) x)) here))

-- ---- a field of composite type

found_as_sent : (n : ℕ) (answered : Answered) (sets : SetId) (object : Object)
    → ways.found_written n answered (record { object = object; asked = asked_as_sent answered.execution object.type.0 sets })
    ≡ result_map_both (λ ws. typename_write object ∷ ws) (λ path. path) (spec.fields_written_within n answered sets object)
found_as_sent n answered sets object = ap (result_map_both (λ ws. typename_write object ∷ ws) (λ path. path)) (by_what_is_asked n answered sets object)

link_case : (before : List Write) (object : Object) (asked : Asked) (linked : Result Linked Path)
    → linked_behind before object asked (after_found (Ok []) (told linked)) ≡ told_behind before (spec.link_written object asked linked)
link_case before object asked (Ok l) = refl
link_case before object asked (Err path) = refl

pub composite_told : (n : ℕ) (answered : Answered) (field : Field) (type : TypeRef) (value : Value) (before : List Write)
    → linked_behind before field.object field.asked (walked (ways.found_written n answered) (ways.way answered field type [] value []))
    ≡ told_behind before (spec.composite_written (spec.fields_written_within n answered) answered field.object field.asked type value field.parent)
composite_told n answered field type value before =
    ap (linked_behind before field.object field.asked)
    (ways_agree (ways.found_written n answered) (spec.fields_written_within n answered) answered field (found_as_sent n answered field.asked.sets) type [] value [])
    ∙ link_case before field.object field.asked (spec.linked (spec.fields_written_within n answered) answered field type [] value)

-- ---- a way that was found

-- a link is set before the writes of its objects
pub link_first : (before : List Write) (object : Object) (asked : Asked) (l : Link) (w : Writes)
    → told_behind (before ++ spec.set_cell object asked (cell.Link l)) w ≡ linked_behind before object asked (with_link (Ok l) (told w))
link_first before object asked l (Ok ws) = ap Ok (append_assoc before (spec.set_cell object asked (cell.Link l)) ws)
link_first before object asked l (Err path) = refl

-- a misfit on the way is told where the objects before it fit
pub misfit_last : (before after : List Write) (object : Object) (asked : Asked) (path : List ℕ) (w : Writes)
    → told_behind before w ≡ Ok after → linked_behind before object asked (with_link (Err path) (told w)) ≡ Err path
misfit_last before after object asked path (Ok ws) is = refl
misfit_last before after object asked path (Err p) is = absurd (cc)

-- and else the one in the objects before it
pub misfit_before : (before : List Write) (object : Object) (asked : Asked) (path : List ℕ) (w : Writes) (e : WriteError)
    → TellsError (told_behind before w) e → TellsError (linked_behind before object asked (with_link (Err path) (told w))) e
misfit_before before object asked path w error.Memory tells = tt
misfit_before before object asked path (Ok ws) (error.Shape p) tells = absurd (cc)
misfit_before before object asked path (Err q) (error.Shape p) tells = tells

-- ---- one item further

items_step : (go : Going) (places inner : List ℕ) (values : List Value) (i : ℕ) (value : Value) (links : List Link) (found : List Found) (whole w : Way)
    → i < length values → value ≡ get_or values i value → whole ≡ ways.items_way go places i (drop i values) links found
    → inner ≡ places ++ i ∷ [] → w ≡ go inner value found
    → whole ≡ ways.behind_item (ways.items_way go places (i + 1) (drop (i + 1) values)) links w.found w.link
items_step go places inner values i value links found whole w within is so_far inner_is w_is =
    so_far
    ∙ ap (λ vs. ways.items_way go places i vs links found) (next_left values i value within is)
    ∙ ap (λ (v : Way). ways.behind_item (ways.items_way go places (i + 1) (drop (i + 1) values)) links v.found v.link)
    (ap (λ p. go p value found) (sym inner_is) ∙ sym w_is)

pub items_next : (go : Going) (places inner : List ℕ) (values : List Value) (i : ℕ) (value : Value) (links : List Link) (found : List Found) (whole w : Way) (l : Link)
    → i < length values → value ≡ get_or values i value → whole ≡ ways.items_way go places i (drop i values) links found
    → inner ≡ places ++ i ∷ [] → w ≡ go inner value found → w.link ≡ Ok l
    → whole ≡ ways.items_way go places (i + 1) (drop (i + 1) values) (links ++ l ∷ []) w.found
items_next go places inner values i value links found whole w l within is so_far inner_is w_is link_is =
    items_step go places inner values i value links found whole w within is so_far inner_is w_is
    ∙ ap (ways.behind_item (ways.items_way go places (i + 1) (drop (i + 1) values)) links w.found) link_is

pub items_stop : (go : Going) (places inner : List ℕ) (values : List Value) (i : ℕ) (value : Value) (links : List Link) (found : List Found) (whole w : Way) (path : List ℕ)
    → i < length values → value ≡ get_or values i value → whole ≡ ways.items_way go places i (drop i values) links found
    → inner ≡ places ++ i ∷ [] → w ≡ go inner value found → w.link ≡ Err path
    → whole ≡ record { link = Err path; found = w.found }
items_stop go places inner values i value links found whole w path within is so_far inner_is w_is link_is =
    items_step go places inner values i value links found whole w within is so_far inner_is w_is
    ∙ ap (ways.behind_item (ways.items_way go places (i + 1) (drop (i + 1) values)) links w.found) link_is

-- nothing is left
pub items_done : (go : Going) (places : List ℕ) (i : ℕ) (rest : List Value) (links : List Link) (found : List Found) (whole : Way)
    → rest ≡ [] → whole ≡ ways.items_way go places i rest links found → whole ≡ record { link = Ok (link.List links); found = found }
items_done go places i rest links found whole none so_far = so_far ∙ ap (λ vs. ways.items_way go places i vs links found) none
