-- Lists whose numbers ascend, or are single.
use Rattle.std.proofs.Common.{◌≡◌, ◌≢◌, ℕ, suc, ◌<◌, ◌≤◌, ◌==◌, ◌||◌, Bool, true, false, not, cond, List, [], ◌∷◌, ◌++◌, map, filter, find, Option, Some, None, is_none, unwrap_or, refl, sym, ap, ◌∙◌, subst, arith, true-eqb, false-eqb, true≢false}
use Rattle.std.proofs.lemmas.Bool.{eq-eqb}
use Rattle.std.specs.List.{list_any, AllByRecursion}
use Rattle.machine_model.proofs.Lists.{or_split, or_join, any_filter}
use Rattle.machine_laws.specs.Tickets.{Ascend, AreSingle}

pub all_weaker : {X : Type 0} (P Q : X → Type 0) → ((x : X) → P x → Q x) → (xs : List X) → AllByRecursion P xs → AllByRecursion Q xs
all_weaker P Q k [] a = tt
all_weaker P Q k (x ∷ xs) a = (k x a.0, all_weaker P Q k xs a.1)

pub all_push : {X : Type 0} (P : X → Type 0) (xs : List X) (x : X) → AllByRecursion P xs → P x → AllByRecursion P (xs ++ x ∷ [])
all_push P [] x a p = (p, tt)
all_push P (y ∷ xs) x a p = (a.0, all_push P xs x a.1 p)

all_cond : {X : Type 0} (P : X → Type 0) (b : Bool) (x : X) (ys : List X) → P x → AllByRecursion P ys → AllByRecursion P (cond b (x ∷ ys) ys)
all_cond P true x ys p a = (p, a)
all_cond P false x ys p a = a

pub all_filter : {X : Type 0} (P : X → Type 0) (test : X → Bool) (xs : List X) → AllByRecursion P xs → AllByRecursion P (filter test xs)
all_filter P test [] a = tt
all_filter P test (x ∷ xs) a = all_cond P (test x) x (filter test xs) a.0 (all_filter P test xs a.1)

pub all_map : {X Y : Type 0} (P : Y → Type 0) (g : X → Y) (xs : List X) → AllByRecursion (λ x. P (g x)) xs → AllByRecursion P (map g xs)
all_map P g [] a = tt
all_map P g (x ∷ xs) a = (a.0, all_map P g xs a.1)

-- what is found is one of them
IfFound : {X : Type 0} → (X → Type 0) → Option X → Type 0
IfFound P None = Unit {0}
IfFound P (Some x) = P x

found_cond : {X : Type 0} (P : X → Type 0) (b : Bool) (x : X) (rest : Option X) → P x → IfFound P rest → IfFound P (cond b (Some x) rest)
unfolding IfFound
found_cond P true x rest p a = p
found_cond P false x rest p a = a

all_found : {X : Type 0} (P : X → Type 0) (test : X → Bool) (xs : List X) → AllByRecursion P xs → IfFound P (find test xs)
unfolding IfFound
all_found P test [] a = tt
all_found P test (x ∷ xs) a = found_cond P (test x) x (find test xs) a.0 (all_found P test xs a.1)

pub found_one : {X : Type 0} (P : X → Type 0) (test : X → Bool) (xs : List X) (x : X) → find test xs ≡ Some x → AllByRecursion P xs → P x
unfolding IfFound
found_one P test xs x e a = subst (IfFound P) e (all_found P test xs a)

ascend_lower : {X : Type 0} (number : X → ℕ) (low lower : ℕ) (xs : List X) → lower < low → Ascend number low xs → Ascend number lower xs
ascend_lower number low lower [] l a = tt
ascend_lower number low lower (x ∷ xs) l a = (omega (arith, l, a.0), a.1)

pub ascend_push : {X : Type 0} (number : X → ℕ) (low : ℕ) (xs : List X) (x : X) → Ascend number low xs → AllByRecursion (λ y. number y < number x) xs → low < number x → Ascend number low (xs ++ x ∷ [])
ascend_push number low [] x a all l = (l, tt)
ascend_push number low (y ∷ xs) x a all l = (a.0, ascend_push number (number y) xs x a.1 all.1 all.0)

ascend_cond : {X : Type 0} (number : X → ℕ) (low : ℕ) (b : Bool) (x : X) (ys : List X) → low < number x → Ascend number (number x) ys → Ascend number low (cond b (x ∷ ys) ys)
ascend_cond number low true x ys l a = (l, a)
ascend_cond number low false x ys l a = ascend_lower number (number x) low ys l a

pub ascend_filter : {X : Type 0} (number : X → ℕ) (low : ℕ) (test : X → Bool) (xs : List X) → Ascend number low xs → Ascend number low (filter test xs)
ascend_filter number low test [] a = tt
ascend_filter number low test (x ∷ xs) a = ascend_cond number low (test x) x (filter test xs) a.0 (ascend_filter number (number x) test xs a.1)

pub ascend_map : {X : Type 0} (number : X → ℕ) (g : X → X) → ((x : X) → number (g x) ≡ number x) → (low : ℕ) (xs : List X) → Ascend number low xs → Ascend number low (map g xs)
ascend_map number g k low [] a = tt
ascend_map number g k low (x ∷ xs) a =
    (subst (λ n. low < n) (sym (k x)) a.0, subst (λ n. Ascend number n (map g xs)) (sym (k x)) (ascend_map number g k (number x) xs a.1))

filter_cond : {X : Type 0} (among : X → Bool) (b : Bool) (x : X) (xs : List X) → filter among (cond b (x ∷ xs) xs) ≡ cond b (cond (among x) (x ∷ filter among xs) (filter among xs)) (filter among xs)
filter_cond among true x xs = refl
filter_cond among false x xs = refl

among_cond : {X : Type 0} (number : X → ℕ) (low : ℕ) (b c : Bool) (x : X) (ys zs : List X) → ((above : ℕ) → Ascend number above ys → Ascend number above zs)
    → Ascend number low (cond c (x ∷ ys) ys) → Ascend number low (cond b (cond c (x ∷ zs) zs) zs)
among_cond number low true true x ys zs k a = (a.0, k (number x) a.1)
among_cond number low true false x ys zs k a = k low a
among_cond number low false true x ys zs k a = ascend_lower number (number x) low zs a.0 (k (number x) a.1)
among_cond number low false false x ys zs k a = k low a

-- some of them ascend where others leave
pub ascend_among : {X : Type 0} (number : X → ℕ) (among test : X → Bool) (xs : List X) (low : ℕ) → Ascend number low (filter among xs) → Ascend number low (filter among (filter test xs))
ascend_among number among test [] low a = tt
ascend_among number among test (x ∷ xs) low a =
    subst (Ascend number low) (sym (filter_cond among (test x) x (filter test xs)))
    (among_cond number low (test x) (among x) x (filter among xs) (filter among (filter test xs)) (ascend_among number among test xs) a)

pub any_push : {X : Type 0} (f : X → Bool) (xs : List X) (x : X) → list_any f xs ≡ false → f x ≡ false → list_any f (xs ++ x ∷ []) ≡ false
any_push f [] x a b = or_join (f x) false b refl
any_push f (y ∷ xs) x a b =
    let s = or_split (f y) (list_any f xs) a in
    or_join (f y) (list_any f (xs ++ x ∷ [])) s.0 (any_push f xs x s.1 b)

pub single_push : {X : Type 0} (number : X → ℕ) (xs : List X) (x : X) → AreSingle number xs → list_any (λ y. number y == number x) xs ≡ false → AreSingle number (xs ++ x ∷ [])
single_push number [] x a b = (refl, tt)
single_push number (y ∷ xs) x a b =
    let s = or_split (number y == number x) (list_any (λ z. number z == number x) xs) b in
    (any_push (λ other. number y == number other) xs x a.0 s.0, single_push number xs x a.1 s.1)

single_cond : {X : Type 0} (number : X → ℕ) (b : Bool) (x : X) (ys : List X) → list_any (λ other. number x == number other) ys ≡ false → AreSingle number ys → AreSingle number (cond b (x ∷ ys) ys)
single_cond number true x ys n a = (n, a)
single_cond number false x ys n a = a

pub single_filter : {X : Type 0} (number : X → ℕ) (test : X → Bool) (xs : List X) → AreSingle number xs → AreSingle number (filter test xs)
single_filter number test [] a = tt
single_filter number test (x ∷ xs) a =
    single_cond number (test x) x (filter test xs) (any_filter (λ other. number x == number other) test xs a.0) (single_filter number test xs a.1)

pub differs : (a c : ℕ) → a ≢ c → (a == c) ≡ false
differs a c n = by_test (a == c) refl
  where
    by_test : (b : Bool) → (a == c) ≡ b → b ≡ false
    by_test true e = absurd (n (true-eqb a c (sym e)))
    by_test false e = refl

-- a number above all of them is none of them
pub none_above : {X : Type 0} (number : X → ℕ) (high : ℕ) (xs : List X) → AllByRecursion (λ y. number y ≤ high) xs → list_any (λ y. number y == suc high) xs ≡ false
none_above number high [] a = refl
none_above number high (x ∷ xs) a =
    let apart : number x ≢ suc high = λ e. omega (arith, a.0, e) in
    or_join (number x == suc high) (list_any (λ y. number y == suc high) xs) (differs (number x) (suc high) apart) (none_above number high xs a.1)

-- ---- the one that is found

pub some_is : {X : Type 0} (x y : X) → Some x ≡ Some y → x ≡ y
some_is x y e = ap (λ o. unwrap_or o x) e

pub all_both : {X : Type 0} (P Q : X → Type 0) (xs : List X) → AllByRecursion P xs → AllByRecursion Q xs → AllByRecursion (λ x. P x × Q x) xs
all_both P Q [] a b = tt
all_both P Q (x ∷ xs) a b = ((a.0, b.0), all_both P Q xs a.1 b.1)

pub none_all : {X : Type 0} (f : X → Bool) (xs : List X) → list_any f xs ≡ false → AllByRecursion (λ x. f x ≡ false) xs
none_all f [] a = tt
none_all f (x ∷ xs) a =
    let s = or_split (f x) (list_any f xs) a in
    (s.0, none_all f xs s.1)

pub all_none : {X : Type 0} (f : X → Bool) (xs : List X) → AllByRecursion (λ x. f x ≡ false) xs → list_any f xs ≡ false
all_none f [] a = refl
all_none f (x ∷ xs) a = or_join (f x) (list_any f xs) a.0 (all_none f xs a.1)

passed_cond : {X : Type 0} (Q : X → Type 0) (test : X → Bool) (x : X) (ys : List X) (b : Bool) → test x ≡ b → (test x ≡ true → Q x) → AllByRecursion Q ys → AllByRecursion Q (cond b (x ∷ ys) ys)
passed_cond Q test x ys true e q a = (q e, a)
passed_cond Q test x ys false e q a = a

-- what passes the test of a filter
pub all_passed : {X : Type 0} (P Q : X → Type 0) (test : X → Bool) → ((x : X) → P x → test x ≡ true → Q x) → (xs : List X) → AllByRecursion P xs → AllByRecursion Q (filter test xs)
all_passed P Q test k [] a = tt
all_passed P Q test k (x ∷ xs) a = passed_cond Q test x (filter test xs) (test x) refl (k x a.0) (all_passed P Q test k xs a.1)

passes_cond : {X : Type 0} (test : X → Bool) (y x : X) (rest : Option X) (b : Bool) → test y ≡ b → (rest ≡ Some x → test x ≡ true) → cond b (Some y) rest ≡ Some x → test x ≡ true
passes_cond test y x rest true passes k is = subst (λ z. test z ≡ true) (some_is y x is) passes
passes_cond test y x rest false passes k is = k is

pub found_passes : {X : Type 0} (test : X → Bool) (xs : List X) (x : X) → find test xs ≡ Some x → test x ≡ true
found_passes test [] x e = absurd (true≢false (ap is_none e))
found_passes test (y ∷ ys) x e = passes_cond test y x (find test ys) (test y) refl (found_passes test ys x) e

pub found_any : {X : Type 0} (f test : X → Bool) (xs : List X) (x : X) → find test xs ≡ Some x → f x ≡ true → list_any f xs ≡ true
found_any f test xs x found passes = by_test (list_any f xs) refl
  where
    by_test : (b : Bool) → list_any f xs ≡ b → b ≡ true
    by_test true e = refl
    by_test false e = absurd (true≢false (sym passes ∙ found_one (λ y. f y ≡ false) test xs x found (none_all f xs e)))

alone_cond : {X : Type 0} (number : X → ℕ) (test : X → Bool) (y : X) (ys : List X) (x : X) (b : Bool) → AreSingle number (y ∷ ys)
    → (find test ys ≡ Some x → AllByRecursion (λ z. number z ≡ number x → z ≡ x) ys)
    → cond b (Some y) (find test ys) ≡ Some x → AllByRecursion (λ z. number z ≡ number x → z ≡ x) (y ∷ ys)
alone_cond number test y ys x true a k is =
    let same : y ≡ x = some_is y x is in (
      (λ s. same),
      all_weaker (λ z. (number y == number z) ≡ false) (λ z. number z ≡ number x → z ≡ x)
          (λ z n s. absurd (false-eqb (number y) (number z) (sym n) (ap number same ∙ sym s))) ys (none_all (λ z. number y == number z) ys a.0),
    )
alone_cond number test y ys x false a k is =
    let apart = found_one (λ z. (number y == number z) ≡ false) test ys x is (none_all (λ z. number y == number z) ys a.0) in
    ((λ s. absurd (false-eqb (number y) (number x) (sym apart) s)), k is)

-- of things with single numbers only the one that is found has its number
pub found_alone : {X : Type 0} (number : X → ℕ) (test : X → Bool) (xs : List X) (x : X) → AreSingle number xs → find test xs ≡ Some x → AllByRecursion (λ y. number y ≡ number x → y ≡ x) xs
found_alone number test [] x a e = tt
found_alone number test (y ∷ ys) x a e = alone_cond number test y ys x (test y) a (found_alone number test ys x a.1) e

pub ascend_above : {X : Type 0} (number : X → ℕ) (low : ℕ) (xs : List X) → Ascend number low xs → AllByRecursion (λ x. low < number x) xs
ascend_above number low [] a = tt
ascend_above number low (x ∷ xs) a = (a.0, all_weaker (λ y. number x < number y) (λ y. low < number y) (λ y l. omega (arith, l, a.0)) xs (ascend_above number (number x) xs a.1))

pub ascend_single : {X : Type 0} (number : X → ℕ) (low : ℕ) (xs : List X) → Ascend number low xs → AreSingle number xs
ascend_single number low [] a = tt
ascend_single number low (x ∷ xs) a = (
  all_none (λ y. number x == number y) xs
      (all_weaker (λ y. number x < number y) (λ y. (number x == number y) ≡ false) (λ y l. differs (number x) (number y) (λ e. omega (arith, l, e))) xs (ascend_above number (number x) xs a.1)),
  ascend_single number (number x) xs a.1,
)

-- ---- whether one has a number

pub any_last : {X : Type 0} (f : X → Bool) (xs : List X) (x : X) → f x ≡ true → list_any f (xs ++ x ∷ []) ≡ true
any_last f [] x e = ap (λ b. b || false) e
any_last f (y ∷ xs) x e = either (f y) (list_any f (xs ++ x ∷ [])) (any_last f xs x e)
  where
    either : (a b : Bool) → b ≡ true → (a || b) ≡ true
    either true b h = refl
    either false b h = h

pub any_push_same : {X : Type 0} (f : X → Bool) (xs : List X) (x : X) → f x ≡ false → list_any f (xs ++ x ∷ []) ≡ list_any f xs
any_push_same f [] x e = ap (λ b. b || false) e
any_push_same f (y ∷ xs) x e = ap (λ b. f y || b) (any_push_same f xs x e)

pub any_mapped : {X : Type 0} (number : X → ℕ) (g : X → X) → ((x : X) → number (g x) ≡ number x) → (test : ℕ → Bool) (xs : List X) → list_any (λ x. test (number x)) (map g xs) ≡ list_any (λ x. test (number x)) xs
any_mapped number g k test [] = refl
any_mapped number g k test (x ∷ xs) =
    ap (λ n. test n || list_any (λ y. test (number y)) (map g xs)) (k x) ∙ ap (λ b. test (number x) || b) (any_mapped number g k test xs)

without_cond : {X : Type 0} (number : X → ℕ) (a b : ℕ) (x : X) (xs ys : List X) (t : Bool) → a ≢ b → (number x == b) ≡ t → list_any (λ y. number y == a) ys ≡ list_any (λ y. number y == a) xs
    → list_any (λ y. number y == a) (cond (not t) (x ∷ ys) ys) ≡ (number x == a || list_any (λ y. number y == a) xs)
without_cond number a b x xs ys true n e k =
    let other : (number x == a) ≡ false = differs (number x) a (λ s. n (sym s ∙ true-eqb (number x) b (sym e))) in
    k ∙ sym (ap (λ t. t || list_any (λ y. number y == a) xs) other)
without_cond number a b x xs ys false n e k = ap (λ t. number x == a || t) k

-- another number is still there after those of one have left
pub any_without : {X : Type 0} (number : X → ℕ) (a b : ℕ) → a ≢ b → (xs : List X) → list_any (λ x. number x == a) (filter (λ x. not (number x == b)) xs) ≡ list_any (λ x. number x == a) xs
any_without number a b n [] = refl
any_without number a b n (x ∷ xs) = without_cond number a b x xs (filter (λ y. not (number y == b)) xs) (number x == b) n refl (any_without number a b n xs)

pub any_front : {X : Type 0} (f : X → Bool) (xs : List X) (x : X) → list_any f (xs ++ x ∷ []) ≡ false → (list_any f xs ≡ false) × (f x ≡ false)
any_front f [] x a = (refl, (or_split (f x) false a).0)
any_front f (y ∷ xs) x a =
    let s = or_split (f y) (list_any f (xs ++ x ∷ [])) a in
    let t = any_front f xs x s.1 in
    (or_join (f y) (list_any f xs) s.0 t.0, t.1)

unfiltered_cond : {X : Type 0} (f : X → Bool) (x : X) (xs ys : List X) (b : Bool) → (b ≡ false → f x ≡ false) → (list_any f ys ≡ false → list_any f xs ≡ false) → list_any f (cond b (x ∷ ys) ys) ≡ false → (f x || list_any f xs) ≡ false
unfiltered_cond f x xs ys true n k a =
    let s = or_split (f x) (list_any f ys) a in
    or_join (f x) (list_any f xs) s.0 (k s.1)
unfiltered_cond f x xs ys false n k a = or_join (f x) (list_any f xs) (n refl) (k a)

-- what none passes that stays, and none that leaves, none passes
pub any_unfiltered : {X : Type 0} (f test : X → Bool) (xs : List X) → AllByRecursion (λ x. test x ≡ false → f x ≡ false) xs → list_any f (filter test xs) ≡ false → list_any f xs ≡ false
any_unfiltered f test [] n a = refl
any_unfiltered f test (x ∷ xs) n a = unfiltered_cond f x xs (filter test xs) (test x) n.0 (any_unfiltered f test xs n.1) a

pub all_of : {X : Type 0} (P : X → Type 0) → ((x : X) → P x) → (xs : List X) → AllByRecursion P xs
all_of P k [] = tt
all_of P k (x ∷ xs) = (k x, all_of P k xs)

pub not_same : (a b : ℕ) → not (a == b) ≡ true → a ≢ b
not_same a b h e = absurd (true≢false (sym h ∙ ap not (eq-eqb a b e)))

pub not_apart : (a b : ℕ) → not (a == b) ≡ false → a ≡ b
not_apart a b h = true-eqb a b (sym (by_test (a == b) h))
  where
    by_test : (t : Bool) → not t ≡ false → t ≡ true
    by_test true e = refl
    by_test false e = absurd (true≢false e)
