-- When two readings differ.
use Rattle.std.specs.Prelude.{ℕ, Bool, true, false, cond, not, ◌&&◌, List, [], ◌∷◌, bytes_eq}
use Rattle.std.specs.Ordering.{int_eq}
use Rattle.gql_value.specs.declared.value.Value.{Value, fold-Value, out-Value}
use Rattle.gql_value.specs.declared.value.Value.TheOpen.{Value-F}
use Rattle.send_rules.specs.declared.policy.ReadingKind.{ReadingKind}
use Rattle.send_rules.specs.declared.policy.ReadingKind.TheVariants.{Hit, Partial, Miss}
use Rattle.machine_model.specs.Operations.{Reading}

-- whether a value is this one
abbrev pub Likeness : Type 0
Likeness = Value → Bool

-- items of two lists: there are as many, and each is equal to the one at its place
abbrev pub like_items : List Likeness → List Value → Bool
like_items [] [] = true
like_items [] (value ∷ values) = false
like_items (like ∷ more) [] = false
like_items (like ∷ more) (value ∷ values) = like value && like_items more values

-- members of two objects: there are as many, and each has the name and the value of the one at its place
abbrev pub like_members : List (List ℕ × Likeness) → List (List ℕ × Value) → Bool
like_members [] [] = true
like_members [] (member ∷ members) = false
like_members (like ∷ more) [] = false
like_members (like ∷ more) (member ∷ members) = bytes_eq like.0 member.0 && like.1 member.1 && like_members more members

-- two values are of one form, and their parts are equal
abbrev pub like_level : Value-F Likeness → Value-F Value → Bool
like_level Value-F.Null Value-F.Null = true
like_level (Value-F.Bool b) (Value-F.Bool other) = cond b other (not other)
like_level (Value-F.Int n) (Value-F.Int other) = int_eq n other
like_level (Value-F.Text text) (Value-F.Text other) = bytes_eq text other
like_level (Value-F.List items) (Value-F.List others) = like_items items others
like_level (Value-F.Obj members) (Value-F.Obj others) = like_members members others
like_level _ _ = false

-- which values are this one, where it is known for each of its parts which values are that part
abbrev pub like_step : Value-F Likeness → Likeness
like_step level other = like_level level (out-Value other)

-- two values are equal, members in their order
abbrev pub same_value : Value → Value → Bool
same_value = fold-Value Likeness like_step

-- both are hits, both are partial, or both are misses
abbrev pub same_kind : ReadingKind → ReadingKind → Bool
same_kind Hit Hit = true
same_kind Partial Partial = true
same_kind Miss Miss = true
same_kind _ _ = false

-- everything that was asked for is cached
abbrev pub is_hit : Reading → Bool
is_hit reading = same_kind reading.kind Hit

-- everything that was asked for is cached but some fields that may be null (after urql's Graphcache, partial results)
abbrev pub is_partial : Reading → Bool
is_partial reading = same_kind reading.kind Partial

-- nothing is cached that can be shown
abbrev pub is_miss : Reading → Bool
is_miss reading = same_kind reading.kind Miss

-- a client sees no difference between two readings; which cells were looked at doesn't matter
abbrev pub same_reading : Reading → Reading → Bool
same_reading reading other = same_kind reading.kind other.kind && same_value reading.value other.value
