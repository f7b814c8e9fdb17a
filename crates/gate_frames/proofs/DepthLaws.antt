-- What stands inside of JSON is less deep.
use Rattle.std.proofs.Common.{◌≡◌, ℕ, suc, ◌<◌, ◌≤◌, max, List, [], ◌∷◌, length, get_or, zero, Option, Some, None, Ordering, Less, Equal, Greater, nat_cmp, sym, subst, arith}
use Rattle.std.specs.Cmp.Lexicographic.{slice_cmp}
use Rattle.std.specs.Ordering.{match_ordering}
use Rattle.serde_json.specs.Data.{Data, null, boolean, number, string, array, object, Members, no_members, member, depth, members_depth, items_depth}
use Rattle.serde_json.specs.Find.{get, get_member}
use Rattle.serde_json.specs.View.{view, items_view}
use Rattle.serde_json.specs.declared.value.Value as json

-- what was found is at most so deep
abbrev pub AtMost : ℕ → Option Data → Type 0
AtMost n None = Unit {0}
AtMost n (Some d) = depth d ≤ n

AtMost-wider : (a b : ℕ) (o : Option Data) → a ≤ b → AtMost a o → AtMost b o
AtMost-wider a b None h at = tt
AtMost-wider a b (Some d) h at = omega (arith, h, at)

either : (o : Ordering) (n : ℕ) (rest : Option Data) (d : Data) → AtMost n rest → AtMost (max (depth d) n) (match_ordering o rest (Some d) rest)
either Less n rest d at = AtMost-wider n (max (depth d) n) rest (omega arith) at
either Equal n rest d at = omega arith
either Greater n rest d at = AtMost-wider n (max (depth d) n) rest (omega arith) at

AtMost-member : (name : List ℕ) (ms : Members) → AtMost (members_depth ms) (get_member name ms)
AtMost-member name no_members = tt
AtMost-member name (member l d ms) = either (slice_cmp nat_cmp name l) (members_depth ms) (get_member name ms) d (AtMost-member name ms)

-- a member is less deep than its object
abbrev pub Below : ℕ → Option Data → Type 0
Below n None = Unit {0}
Below n (Some d) = depth d < n

below : (n : ℕ) (o : Option Data) → AtMost n o → Below (suc n) o
below n None at = tt
below n (Some d) at = omega (arith, at)

pub member_below : (name : List ℕ) (frame : Data) → Below (depth frame) (get name frame)
member_below name null = tt
member_below name (boolean b) = tt
member_below name (number n) = tt
member_below name (string s) = tt
member_below name (array ds) = tt
member_below name (object ms) = below (members_depth ms) (get_member name ms) (AtMost-member name ms)

-- the member that was found is less deep than the frame
pub found_below : (name : List ℕ) (frame d : Data) → Some d ≡ get name frame → depth d < depth frame
found_below name frame d is = subst (Below (depth frame)) (sym is) (member_below name frame)

within : (items : List json.Value) (i : ℕ) (x : json.Value) → i < length items → depth (view (get_or items i x)) ≤ items_depth (items_view items)
within [] i x h =
    let bad : ⊥ = omega arith in
    absurd bad
within (y ∷ items) zero x h = omega arith
within (y ∷ items) (suc i) x h =
    let later : depth (view (get_or items i x)) ≤ items_depth (items_view items) = within items i x (omega arith) in
    omega (arith, later)

-- an item is at most as deep as the list says
pub item_within : (items : List json.Value) (i : ℕ) (x : json.Value) → i < length items → x ≡ get_or items i x → depth (view x) ≤ items_depth (items_view items)
item_within items i x h at = subst (λ (y : json.Value). depth (view y) ≤ items_depth (items_view items)) (sym at) (within items i x h)
