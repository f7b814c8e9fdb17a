-- Where no item passes a test.
use Rattle.std.proofs.Common.{◌≡◌, Bool, true, false, cond, not, ◌||◌, List, [], ◌∷◌, ◌++◌, map, filter, flat_map, find, Option, Some, is_some, refl, true≢false}
use Rattle.std.specs.List.{list_any}
use Rattle.std.specs.Option.{option_map_or}

pub or_split : (a b : Bool) → (a || b) ≡ false → (a ≡ false) × (b ≡ false)
or_split true b h = absurd (true≢false h)
or_split false b h = (refl, h)

pub or_join : (a b : Bool) → a ≡ false → b ≡ false → (a || b) ≡ false
or_join true b x y = absurd (true≢false x)
or_join false b x y = y

pub any_append : {X : Type 0} (f : X → Bool) (xs ys : List X) → list_any f xs ≡ false → list_any f ys ≡ false → list_any f (xs ++ ys) ≡ false
any_append f [] ys a b = b
any_append f (x ∷ xs) ys a b =
    let s = or_split (f x) (list_any f xs) a in
    or_join (f x) (list_any f (xs ++ ys)) s.0 (any_append f xs ys s.1 b)

pub any_front : {X : Type 0} (f : X → Bool) (xs ys : List X) → list_any f (xs ++ ys) ≡ false → list_any f xs ≡ false
any_front f [] ys a = refl
any_front f (x ∷ xs) ys a =
    let s = or_split (f x) (list_any f (xs ++ ys)) a in
    or_join (f x) (list_any f xs) s.0 (any_front f xs ys s.1)

pub any_rest : {X : Type 0} (f : X → Bool) (xs ys : List X) → list_any f (xs ++ ys) ≡ false → list_any f ys ≡ false
any_rest f [] ys a = a
any_rest f (x ∷ xs) ys a = any_rest f xs ys (or_split (f x) (list_any f (xs ++ ys)) a).1

any_cond : {X : Type 0} (f : X → Bool) (b : Bool) (x : X) (ys : List X) → f x ≡ false → list_any f ys ≡ false → list_any f (cond b (x ∷ ys) ys) ≡ false
any_cond f true x ys a h = or_join (f x) (list_any f ys) a h
any_cond f false x ys a h = h

pub any_filter : {X : Type 0} (f g : X → Bool) (xs : List X) → list_any f xs ≡ false → list_any f (filter g xs) ≡ false
any_filter f g [] a = refl
any_filter f g (x ∷ xs) a =
    let s = or_split (f x) (list_any f xs) a in
    any_cond f (g x) x (filter g xs) s.0 (any_filter f g xs s.1)

any_kept : {X : Type 0} (f : X → Bool) (x : X) (ys : List X) (b : Bool) → f x ≡ b → list_any f ys ≡ false → list_any f (cond (not b) (x ∷ ys) ys) ≡ false
any_kept f x ys true e a = a
any_kept f x ys false e a = or_join (f x) (list_any f ys) e a

pub any_filter_not : {X : Type 0} (f : X → Bool) (xs : List X) → list_any f (filter (λ x. not (f x)) xs) ≡ false
any_filter_not f [] = refl
any_filter_not f (x ∷ xs) = any_kept f x (filter (λ y. not (f y)) xs) (f x) refl (any_filter_not f xs)

pub any_map : {X Y : Type 0} (h : X → Bool) (g : X → Y) (f : Y → Bool) → ((x : X) → h x ≡ false → f (g x) ≡ false) → (xs : List X) → list_any h xs ≡ false → list_any f (map g xs) ≡ false
any_map h g f k [] a = refl
any_map h g f k (x ∷ xs) a =
    let s = or_split (h x) (list_any h xs) a in
    or_join (f (g x)) (list_any f (map g xs)) (k x s.0) (any_map h g f k xs s.1)

pub any_flat_map : {X Y : Type 0} (h : X → Bool) (g : X → List Y) (f : Y → Bool) → ((x : X) → h x ≡ false → list_any f (g x) ≡ false) → (xs : List X) → list_any h xs ≡ false → list_any f (flat_map g xs) ≡ false
any_flat_map h g f k [] a = refl
any_flat_map h g f k (x ∷ xs) a =
    let s = or_split (h x) (list_any h xs) a in
    any_append f (g x) (flat_map g xs) (k x s.0) (any_flat_map h g f k xs s.1)

found : {X : Type 0} (b a : Bool) (x : X) (r : Option X) → is_some r ≡ a → is_some (cond b (Some x) r) ≡ (b || a)
found true a x r e = refl
found false a x r e = e

-- an item is found where one passes
pub find_any : {X : Type 0} (f : X → Bool) (xs : List X) → is_some (find f xs) ≡ list_any f xs
find_any f [] = refl
find_any f (x ∷ xs) = found (f x) (list_any f xs) x (find f xs) (find_any f xs)

found_not : {X : Type 0} (q : X → Bool) (b : Bool) (x : X) (r : Option X) → q x ≡ false → option_map_or q r false ≡ false → option_map_or q (cond b (Some x) r) false ≡ false
found_not q true x r a e = a
found_not q false x r a e = e

-- what is found doesn't pass another test that none passes
pub find_not : {X : Type 0} (q f : X → Bool) (xs : List X) → list_any q xs ≡ false → option_map_or q (find f xs) false ≡ false
find_not q f [] a = refl
find_not q f (x ∷ xs) a =
    let s = or_split (q x) (list_any q xs) a in
    found_not q (f x) x (find f xs) s.0 (find_not q f xs s.1)
