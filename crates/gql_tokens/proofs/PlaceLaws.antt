-- Places and rests of a text, byte by byte and stretch by stretch.
use Rattle.std.proofs.Common.{◌≡◌, ◌≤◌, ◌<◌, ℕ, zero, suc, ◌+◌, ◌-◌, ◌==◌, Bool, true, false, List, [], ◌∷◌, length, take, drop, refl, sym, ap, subst, ◌∙◌, arith, length-drop}
use Rattle.std.specs.List.{prefix_len}
use Rattle.std.proofs.lemmas.Bool.Decides.{nat_tests}
use Rattle.std.proofs.lemmas.List.{drop-drop}
use Rattle.gql_tokens.specs.declared.token.Place.{Place}
use Rattle.gql_tokens.specs.Characters.{ends_line}
use Rattle.gql_tokens.specs.Places.{is_inside_character, takes_column, place_behind, place_after}
use Rattle.gql_tokens.specs.Readings.{HasRoom}
use Rattle.gql_tokens.specs.Heads.{IsBehind}
use Rattle.gql_tokens.proofs.Choices.{choice}

-- one byte further
pub place_turn : (len k : ℕ) (place : Place) (text : List ℕ) (b : ℕ) (more : List ℕ) → k < len → text ≡ b ∷ more
    → place_after (len - (k + 1)) (place_behind place b more) more ≡ place_after (len - k) place text
place_turn len k place text b more h e =
    let one : len - k ≡ suc (len - (k + 1)) = omega arith in
    rw (e, one) refl

pub rest_turn : (k : ℕ) (text rest : List ℕ) (b : ℕ) (more : List ℕ) → rest ≡ drop k text → rest ≡ b ∷ more → more ≡ drop (k + 1) text
rest_turn k text rest b more e f = ap (drop 1) (sym f ∙ e) ∙ drop-drop 1 k text

-- stretch by stretch
pub place_after-add : (m n : ℕ) (place : Place) (text : List ℕ) → place_after (m + n) place text ≡ place_after n (place_after m place text) (drop m text)
place_after-add zero n place text = let e : zero + n ≡ n = omega arith in rw e refl
place_after-add (suc m) n place [] = past (suc m + n) ∙ sym (past n)
  where
    past : (k : ℕ) → place_after k place [] ≡ place
    past zero = refl
    past (suc k) = refl
place_after-add (suc m) n place (b ∷ rest) =
    let e : suc m + n ≡ suc (m + n) = omega arith in
    rw e (place_after-add m n (place_behind place b rest) rest)

pub IsBehind-none : (start : Place) (text : List ℕ) → IsBehind start text 0 start text
IsBehind-none start text = record { within = omega arith; rest_is = refl; place_is = refl }

pub IsBehind-more : (start : Place) (text : List ℕ) (taken : ℕ) (place : Place) (rest : List ℕ) (n : ℕ) → IsBehind start text taken place rest → n ≤ length rest
    → IsBehind start text (taken + n) (place_after n place rest) (drop n rest)
IsBehind-more start text taken place rest n h w =
    let l : length rest ≡ length text - taken = ap length h.rest_is ∙ length-drop taken text in
    let inside = h.within in
    record {
      within = omega arith;
      rest_is = ap (drop n) h.rest_is ∙ drop-drop n taken text;
      place_is = rw (h.rest_is, h.place_is) (sym (place_after-add taken n start text));
    }

-- rows and columns keep their room
pub behind_room : (place : Place) (b : ℕ) (more : List ℕ) → HasRoom place (b ∷ more) → HasRoom (place_behind place b more) more
behind_room place b more h =
    choice (λ (later : Place). HasRoom later more) (ends_line b more) (record { row = place.row + 1; column = 1 }) _
    (λ e. (omega arith, omega arith))
    (λ e. choice (λ (later : Place). HasRoom later more) (is_inside_character b) place (record { row = place.row; column = place.column + 1 })
    (λ i. (omega arith, omega arith))
    (λ i. (omega arith, omega arith)))

-- what is left of a text is known by its length
pub IsBehind-further : (start : Place) (text : List ℕ) (place : Place) (rest : List ℕ) (n : ℕ) → IsBehind start text (length text - length rest) place rest → n ≤ length rest
    → IsBehind start text (length text - length (drop n rest)) (place_after n place rest) (drop n rest)
IsBehind-further start text place rest n h w =
    let inside = h.within in
    let whole : length rest ≡ length text - (length text - length rest) = ap length h.rest_is ∙ length-drop (length text - length rest) text in
    let cut : length (drop n rest) ≡ length rest - n = length-drop n rest in
    let count : (length text - length rest) + n ≡ length text - length (drop n rest) = omega arith in
    subst (λ (taken : ℕ). IsBehind start text taken (place_after n place rest) (drop n rest)) count (IsBehind-more start text (length text - length rest) place rest n h w)

pub IsBehind-then : (start : Place) (text : List ℕ) (n : ℕ) (place : Place) (rest : List ℕ) → n ≤ length text
    → IsBehind (place_after n start text) (drop n text) (length (drop n text) - length rest) place rest
    → IsBehind start text (length text - length rest) place rest
IsBehind-then start text n place rest w h =
    let k = length (drop n text) - length rest in
    let inside = h.within in
    let whole : length rest ≡ length (drop n text) - k = ap length h.rest_is ∙ length-drop k (drop n text) in
    let cut : length (drop n text) ≡ length text - n = length-drop n text in
    let count : n + k ≡ length text - length rest = omega arith in
    let rest_is : rest ≡ drop (n + k) text = h.rest_is ∙ drop-drop k n text in
    let place_is : place ≡ place_after (n + k) start text = h.place_is ∙ sym (place_after-add n k start text) in
    subst (λ (taken : ℕ). IsBehind start text taken place rest) count (record { within = omega arith; rest_is = rest_is; place_is = place_is })

pub IsBehind-trans : (start : Place) (text : List ℕ) (place : Place) (rest : List ℕ) (later : Place) (more : List ℕ)
    → IsBehind start text (length text - length rest) place rest → IsBehind place rest (length rest - length more) later more
    → IsBehind start text (length text - length more) later more
IsBehind-trans start text place rest later more h g =
    let n = length text - length rest in
    let moved = subst (λ (r : List ℕ). IsBehind place r (length r - length more) later more) h.rest_is g in
    IsBehind-then start text n later more h.within (subst (λ (p : Place). IsBehind p (drop n text) (length (drop n text) - length more) later more) h.place_is moved)

pub IsBehind-shorter : (start : Place) (text : List ℕ) (place : Place) (rest : List ℕ) (n whole : ℕ) → length text + n ≡ whole
    → IsBehind start text (length text - length rest) place rest → length rest + n ≤ whole
IsBehind-shorter start text place rest n whole e h =
    let cut : length rest ≡ length text - (length text - length rest) = ap length h.rest_is ∙ length-drop (length text - length rest) text in
    omega arith

-- a stretch of bytes that take a column each
abbrev pub columns_in : ℕ → List ℕ → ℕ
columns_in len text = prefix_len takes_column (take len text)

abbrev pub further : ℕ → Place → Place
further n place = record { row = place.row; column = place.column + n }

column_behind : (place : Place) (b : ℕ) (rest : List ℕ) → takes_column b ≡ true → place_behind place b rest ≡ further 1 place
column_behind place b rest h =
    let line : (b == 10) ≡ false = grind (arith, nat_tests) in
    let carriage : (b == 13) ≡ false = grind (arith, nat_tests) in
    let whole : is_inside_character b ≡ false = grind (arith, nat_tests) in
    rw (line, carriage, whole) refl

further-none : (place : Place) → place ≡ further 0 place
further-none place = let e : place.column + 0 ≡ place.column = omega arith in rw e refl

further-more : (n : ℕ) (place : Place) → further n (further 1 place) ≡ further (suc n) place
further-more n place = let e : place.column + 1 + n ≡ place.column + suc n = omega arith in rw e refl

pub columns_after : (len : ℕ) (place : Place) (text : List ℕ) → place_after (columns_in len text) place text ≡ further (columns_in len text) place
columns_after zero place text = further-none place
columns_after (suc len) place [] = further-none place
columns_after (suc len) place (b ∷ rest) = here (takes_column b) refl (columns_after len (further 1 place) rest)
  where
    here : (t : Bool) → takes_column b ≡ t → place_after (columns_in len rest) (further 1 place) rest ≡ further (columns_in len rest) (further 1 place)
        → place_after (columns_in (suc len) (b ∷ rest)) place (b ∷ rest) ≡ further (columns_in (suc len) (b ∷ rest)) place
    here false e more = rw e (further-none place)
    here true e more =
        let one : 1 + columns_in len rest ≡ suc (columns_in len rest) = omega arith in
        let behind = ap (λ (there : Place). place_after (columns_in len rest) there rest) (column_behind place b rest e) in
        rw (e, one) (behind ∙ more ∙ further-more (columns_in len rest) place)

pub columns_then : (len columns : ℕ) (start : Place) (text : List ℕ) → columns ≡ columns_in len text → columns ≤ len
    → place_after (len - columns) (further columns start) (drop columns text) ≡ place_after len start text
columns_then len columns start text e h =
    let whole : columns + (len - columns) ≡ len = omega arith in
    let there : place_after columns start text ≡ further columns start = rw e (columns_after len start text) in
    ap (λ (place : Place). place_after (len - columns) place (drop columns text)) (sym there) ∙ sym (place_after-add columns (len - columns) start text) ∙ ap (λ (n : ℕ). place_after n start text) whole
