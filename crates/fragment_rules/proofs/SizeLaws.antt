-- Tables of sizes, round by round.
use Rattle.std.proofs.Common.{◌≡◌, ℕ, zero, suc, ◌+◌, ◌<◌, List, [], ◌∷◌, length, map, drop, get_or, refl, ap, sym, ◌∙◌, arith}
use Rattle.std.specs.Prelude.{Option, None, Some, slice_get}
use Rattle.std.specs.Option.{option_and_then, option_map_or}
use Rattle.std.specs.List.{fold}
use Rattle.gql_model.specs.declared.executable.Fragment.{Fragment}
use Rattle.gql_model.specs.declared.document.Document.{Document}
use Rattle.gql_model.specs.declared.document.Definition.{Definition}
use Rattle.gql_model.specs.declared.document.Definition.TheVariants as definition
use Rattle.check_model.specs.Executables.{as_fragment}
use Rattle.check_model.specs.Followed.{Follow, followed_within}
use Rattle.check_model.specs.Sizes.{Bounded, no_size, beside, one_deeper, size_in_fragment}
use Rattle.check_model.specs.declared.size.Size.{Size}
use Rattle.check_model.proofs.ListLaws.{next_left}
use Rattle.fragment_rules.specs.declared.fragments.FragmentIndex.{FragmentIndex}
use Rattle.fragment_rules.specs.Indexes.{Indexes, place_in}
use Rattle.fragment_rules.specs.Tables.{size_at, size_in, definition_size, unsized_table, table_after}
use Rattle.fragment_rules.proofs.IndexLaws.{fragment_by_place}

-- what passed a limit stays so
pub fold_none : (xs : List Bounded) → fold beside None xs ≡ None
fold_none [] = refl
fold_none (x ∷ xs) = fold_none xs

-- ---- the rounds

-- nothing is followed
unsized_at : (ds : List Definition) (k : ℕ) → size_at (unsized_table ds) k ≡ no_size
unsized_at [] k = refl
unsized_at (d ∷ ds) zero = refl
unsized_at (d ∷ ds) (suc k) = unsized_at ds k

unsized_in : (ds : List Definition) (o : Option ℕ) → option_map_or (size_at (unsized_table ds)) o no_size ≡ no_size
unsized_in ds None = refl
unsized_in ds (Some k) = unsized_at ds k

-- the size at the place of a definition
sized_at : (follow : Follow Bounded) (ds : List Definition) (k : ℕ)
    → size_at (map (definition_size follow) ds) k ≡ option_map_or (size_in_fragment follow) (option_and_then as_fragment (slice_get ds k)) no_size
sized_at follow [] k = refl
sized_at follow (definition.Operation o ∷ ds) zero = refl
sized_at follow (definition.Fragment f ∷ ds) zero = refl
sized_at follow (definition.TypeSystem t ∷ ds) zero = refl
sized_at follow (d ∷ ds) (suc k) = sized_at follow ds k

sized_in : (follow : Follow Bounded) (ds : List Definition) (o : Option ℕ)
    → option_map_or (size_at (map (definition_size follow) ds)) o no_size
    ≡ option_map_or (size_in_fragment follow) (option_and_then (λ k. option_and_then as_fragment (slice_get ds k)) o) no_size
sized_in follow ds None = refl
sized_in follow ds (Some k) = sized_at follow ds k

-- a table has the sizes that its round follows to
pub round_sizes : (n : ℕ) (index : FragmentIndex) (document : Document) → Indexes index document.definitions → (name : List ℕ)
    → size_in index (table_after n index document.definitions) name ≡ followed_within n no_size size_in_fragment document name
round_sizes zero index document h name = unsized_in document.definitions (place_in index name)
round_sizes (suc n) index document h name =
    ap (λ (follow : Follow Bounded). size_in index (map (definition_size follow) document.definitions) name) (λ i x. round_sizes n index document h x i)
    ∙ sized_in (followed_within n no_size size_in_fragment document) document.definitions (place_in index name)
    ∙ ap (λ (o : Option Fragment). option_map_or (size_in_fragment (followed_within n no_size size_in_fragment document)) o no_size)
    (fragment_by_place name document.definitions (place_in index name) (h name))

-- a table that stays in one round stays
pub stays : (k r : ℕ) (index : FragmentIndex) (ds : List Definition) → table_after (suc r) index ds ≡ table_after r index ds → table_after (k + r) index ds ≡ table_after r index ds
stays zero r index ds same = ap (λ n. table_after n index ds) (omega arith)
stays (suc k) r index ds same =
    let next : suc k + r ≡ suc (k + r) = omega arith in
    ap (λ n. table_after n index ds) next
    ∙ ap (λ t. map (definition_size (size_in index t)) ds) (stays k r index ds same)
    ∙ same

-- ---- the selections of a set, one further

pub size_next : {X : Type 0} (f : X → Bounded) (xs : List X) (i : ℕ) (x : X) (total : Size) (o whole : Bounded)
    → i < length xs → x ≡ get_or xs i x
    → whole ≡ option_and_then one_deeper (fold beside (Some total) (map f (drop i xs)))
    → beside (Some total) (f x) ≡ o
    → whole ≡ option_and_then one_deeper (fold beside o (map f (drop (i + 1) xs)))
size_next f xs i x total o whole within is so_far here =
    so_far
    ∙ ap (λ ys. option_and_then one_deeper (fold beside (Some total) (map f ys))) (next_left xs i x within is)
    ∙ ap (λ p. option_and_then one_deeper (fold beside p (map f (drop (i + 1) xs)))) here

pub size_stops : {X : Type 0} (f : X → Bounded) (xs : List X) (i : ℕ) (x : X) (total : Size) (whole : Bounded)
    → i < length xs → x ≡ get_or xs i x
    → whole ≡ option_and_then one_deeper (fold beside (Some total) (map f (drop i xs)))
    → beside (Some total) (f x) ≡ None
    → None ≡ whole
size_stops f xs i x total whole within is so_far here =
    sym (size_next f xs i x total None whole within is so_far here ∙ ap (option_and_then one_deeper) (fold_none (map f (drop (i + 1) xs))))
