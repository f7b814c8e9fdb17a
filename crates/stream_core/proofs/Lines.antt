-- What two exchanges in a line give, one flow after another.
use Rattle.std.proofs.Common.{◌≡◌, List, [], ◌∷◌, ◌++◌, refl, ap, subst, sym, ◌∙◌, append_assoc}
use Rattle.std.proofs.lemmas.List.{append-nil}
use Rattle.stream_core.specs.declared.flow.Flow.{Flow}
use Rattle.stream_core.specs.declared.flow.Flow.TheVariants.{Down, Up, Again}
use Rattle.stream_core.specs.Exchanges.{Onto}
use Rattle.stream_core.specs.Lines.{Lowers, Raises, AnswersThrough}

further : {A : Type 0} (there given more mid all : List A) → mid ≡ there ++ given → all ≡ mid ++ more → all ≡ there ++ (given ++ more)
further there given more mid all e f = f ∙ ap (λ l. l ++ more) e ∙ append_assoc there given more

module _ {X D U C : Type 0} (operates : X → D → X → List (Flow D U C) → Type 0) where
  -- one more operation, that goes down
  lowers_down : (x : X) (from : List (Flow D U C)) (y : X) (given : List (Flow D U C)) → Lowers operates x from y given → (op : D) (z : X) (more : List (Flow D U C)) → operates y op z more → Lowers operates x (from ++ Down op ∷ []) z (given ++ more)
  lowers_down x [] y given (e, f) op z more m = (z, more, [], subst (λ v. operates v op z more) (sym e) m, ap (λ l. l ++ more) f ∙ sym (append-nil more), (refl, refl))
  lowers_down x (Down d ∷ from) y given (mid, now, rest, o, e, k) op z more m = (mid, now, rest ++ more, o, ap (λ l. l ++ more) e ∙ append_assoc now rest more, lowers_down mid from y rest k op z more m)
  lowers_down x (Up u ∷ from) y given (rest, e, k) op z more m = (rest ++ more, ap (λ l. l ++ more) e, lowers_down x from y rest k op z more m)
  lowers_down x (Again c ∷ from) y given (rest, e, k) op z more m = (rest ++ more, ap (λ l. l ++ more) e, lowers_down x from y rest k op z more m)

  lowers_one : (y : X) (flow : Flow D U C) → ((op : D) → flow ≡ Down op → ⊥) → Lowers operates y (flow ∷ []) y (flow ∷ [])
  lowers_one y (Down op) not = absurd (not op refl)
  lowers_one y (Up u) not = ([], refl, (refl, refl))
  lowers_one y (Again c) not = ([], refl, (refl, refl))

  -- one more that is no operation, and goes on
  lowers_on : (x : X) (from : List (Flow D U C)) (y : X) (given : List (Flow D U C)) → Lowers operates x from y given → (flow : Flow D U C) → ((op : D) → flow ≡ Down op → ⊥) → Lowers operates x (from ++ flow ∷ []) y (given ++ flow ∷ [])
  lowers_on x [] y given (e, f) flow not = subst (λ l. Lowers operates x (flow ∷ []) y (l ++ flow ∷ [])) (sym f) (subst (λ v. Lowers operates v (flow ∷ []) y (flow ∷ [])) (sym e) (lowers_one y flow not))
  lowers_on x (Down d ∷ from) y given (mid, now, rest, o, e, k) flow not = (mid, now, rest ++ flow ∷ [], o, ap (λ l. l ++ flow ∷ []) e ∙ append_assoc now rest (flow ∷ []), lowers_on mid from y rest k flow not)
  lowers_on x (Up u ∷ from) y given (rest, e, k) flow not = (rest ++ flow ∷ [], ap (λ l. l ++ flow ∷ []) e, lowers_on x from y rest k flow not)
  lowers_on x (Again c ∷ from) y given (rest, e, k) flow not = (rest ++ flow ∷ [], ap (λ l. l ++ flow ∷ []) e, lowers_on x from y rest k flow not)

  abbrev pub LowersOnto : X → List (Flow D U C) → X → List (Flow D U C) → List (Flow D U C) → Type 0
  LowersOnto x from y there all = Onto (Lowers operates x from y) there all

  pub lowered_down : (x : X) (from : List (Flow D U C)) (y : X) (there mid all : List (Flow D U C)) → LowersOnto x from y there mid → (op : D) (z : X) → Onto (operates y op z) mid all → (flow : Flow D U C) → flow ≡ Down op → LowersOnto x (from ++ flow ∷ []) z there all
  lowered_down x from y there mid all (given, e, k) op z (more, f, m) flow is =
      (given ++ more, further there given more mid all e f, subst (λ v. Lowers operates x (from ++ v ∷ []) z (given ++ more)) (sym is) (lowers_down x from y given k op z more m))

  pub lowered_on : (x : X) (from : List (Flow D U C)) (y : X) (there mid all : List (Flow D U C)) → LowersOnto x from y there mid → (flow : Flow D U C) → ((op : D) → flow ≡ Down op → ⊥) → all ≡ mid ++ flow ∷ [] → LowersOnto x (from ++ flow ∷ []) y there all
  lowered_on x from y there mid all (given, e, k) flow not f = (given ++ flow ∷ [], further there given (flow ∷ []) mid all e f, lowers_on x from y given k flow not)

  pub none_lowered : (x : X) (there : List (Flow D U C)) → LowersOnto x [] x there there
  none_lowered x there = ([], sym (append-nil there), (refl, refl))

module _ {A B D U C : Type 0} (answers : A → U → A → List (Flow D U C) → Type 0) (operates : B → D → B → List (Flow D U C) → Type 0) where
  -- one more result, that goes up
  raises_up : (a : A) (b : B) (from : List (Flow D U C)) (a' : A) (b' : B) (given : List (Flow D U C)) → Raises answers operates a b from a' b' given → (u : U) (a2 : A) (own : List (Flow D U C)) → answers a' u a2 own → (b2 : B) (more : List (Flow D U C)) → Lowers operates b' own b2 more → Raises answers operates a b (from ++ Up u ∷ []) a2 b2 (given ++ more)
  raises_up a b [] a' b' given (e, f, h) u a2 own n b2 more m = (a2, b2, own, more, [], subst (λ v. answers v u a2 own) (sym e) n, subst (λ v. Lowers operates v own b2 more) (sym f) m, ap (λ l. l ++ more) h ∙ sym (append-nil more), (refl, refl, refl))
  raises_up a b (Up r ∷ from) a' b' given (am, bm, o, now, rest, x, y, e, k) u a2 own n b2 more m = (am, bm, o, now, rest ++ more, x, y, ap (λ l. l ++ more) e ∙ append_assoc now rest more, raises_up am bm from a' b' rest k u a2 own n b2 more m)
  raises_up a b (Down d ∷ from) a' b' given (rest, e, k) u a2 own n b2 more m = (rest ++ more, ap (λ l. l ++ more) e, raises_up a b from a' b' rest k u a2 own n b2 more m)
  raises_up a b (Again c ∷ from) a' b' given (rest, e, k) u a2 own n b2 more m = (rest ++ more, ap (λ l. l ++ more) e, raises_up a b from a' b' rest k u a2 own n b2 more m)

  raises_one : (a : A) (b : B) (flow : Flow D U C) → ((u : U) → flow ≡ Up u → ⊥) → Raises answers operates a b (flow ∷ []) a b (flow ∷ [])
  raises_one a b (Up u) not = absurd (not u refl)
  raises_one a b (Down d) not = ([], refl, (refl, refl, refl))
  raises_one a b (Again c) not = ([], refl, (refl, refl, refl))

  -- one more that is no result, and goes on
  raises_on : (a : A) (b : B) (from : List (Flow D U C)) (a' : A) (b' : B) (given : List (Flow D U C)) → Raises answers operates a b from a' b' given → (flow : Flow D U C) → ((u : U) → flow ≡ Up u → ⊥) → Raises answers operates a b (from ++ flow ∷ []) a' b' (given ++ flow ∷ [])
  raises_on a b [] a' b' given (e, f, h) flow not = subst (λ l. Raises answers operates a b (flow ∷ []) a' b' (l ++ flow ∷ [])) (sym h) (subst (λ v. Raises answers operates v b (flow ∷ []) a' b' (flow ∷ [])) (sym e) (subst (λ v. Raises answers operates a' v (flow ∷ []) a' b' (flow ∷ [])) (sym f) (raises_one a' b' flow not)))
  raises_on a b (Up r ∷ from) a' b' given (am, bm, o, now, rest, x, y, e, k) flow not = (am, bm, o, now, rest ++ flow ∷ [], x, y, ap (λ l. l ++ flow ∷ []) e ∙ append_assoc now rest (flow ∷ []), raises_on am bm from a' b' rest k flow not)
  raises_on a b (Down d ∷ from) a' b' given (rest, e, k) flow not = (rest ++ flow ∷ [], ap (λ l. l ++ flow ∷ []) e, raises_on a b from a' b' rest k flow not)
  raises_on a b (Again c ∷ from) a' b' given (rest, e, k) flow not = (rest ++ flow ∷ [], ap (λ l. l ++ flow ∷ []) e, raises_on a b from a' b' rest k flow not)

  abbrev pub RaisesOnto : A → B → List (Flow D U C) → A → B → List (Flow D U C) → List (Flow D U C) → Type 0
  RaisesOnto a b from a' b' there all = Onto (Raises answers operates a b from a' b') there all

  pub raised_up : (a : A) (b : B) (from : List (Flow D U C)) (a' : A) (b' : B) (there mid all : List (Flow D U C)) → RaisesOnto a b from a' b' there mid → (u : U) (a2 : A) (start own : List (Flow D U C)) → start ≡ [] → Onto (answers a' u a2) start own → (b2 : B) → Onto (Lowers operates b' own b2) mid all → (flow : Flow D U C) → flow ≡ Up u → RaisesOnto a b (from ++ flow ∷ []) a2 b2 there all
  raised_up a b from a' b' there mid all (given, e, k) u a2 start own none (more, f, n) b2 (now, h, m) flow is =
      let whole : own ≡ more = f ∙ ap (λ l. l ++ more) none in
      (given ++ now, further there given now mid all e h, subst (λ v. Raises answers operates a b (from ++ v ∷ []) a2 b2 (given ++ now)) (sym is) (raises_up a b from a' b' given k u a2 own (subst (answers a' u a2) (sym whole) n) b2 now m))

  pub raised_on : (a : A) (b : B) (from : List (Flow D U C)) (a' : A) (b' : B) (there mid all : List (Flow D U C)) → RaisesOnto a b from a' b' there mid → (flow : Flow D U C) → ((u : U) → flow ≡ Up u → ⊥) → all ≡ mid ++ flow ∷ [] → RaisesOnto a b (from ++ flow ∷ []) a' b' there all
  raised_on a b from a' b' there mid all (given, e, k) flow not f = (given ++ flow ∷ [], further there given (flow ∷ []) mid all e f, raises_on a b from a' b' given k flow not)

  pub none_up : (a : A) (b : B) (there : List (Flow D U C)) → RaisesOnto a b [] a b there there
  none_up a b there = ([], sym (append-nil there), (refl, refl, refl))

-- a result that went through both parts
pub answers_through : {A B D U C : Type 0} (first : A → U → A → List (Flow D U C) → Type 0) (second : B → U → B → List (Flow D U C) → Type 0) (operates : B → D → B → List (Flow D U C) → Type 0) (above : A) (below : B) (res : U) (mid : B) (start between : List (Flow D U C)) → start ≡ [] → Onto (second below res mid) start between → (above' : A) (below' : B) (there all : List (Flow D U C)) → Onto (Raises first operates above mid between above' below') there all → Onto (AnswersThrough first second operates above below res above' below') there all
answers_through first second operates above below res mid start between none (more, f, m) above' below' there all (given, e, k) =
    let whole : between ≡ more = f ∙ ap (λ l. l ++ more) none in
    (given, e, (mid, between, subst (second below res mid) (sym whole) m, k))
