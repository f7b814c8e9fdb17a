-- Each text that the automaton takes from a place to the end is one of the grammar.
use Rattle.std.proofs.Common.{◌≡◌, ◌⊎◌, inl, inr, ℕ, ◌+◌, ◌-◌, ◌<◌, ◌≤◌, ◌==◌, ◌||◌, nat_lt, Bool, true, false, All, List, [], ◌∷◌, ◌++◌, length, drop, get_or, fold, if◌then◌else◌, Option, None, Some, refl, ap, ap₂, sym, ◌∙◌, arith, append_assoc}
use Rattle.std.proofs.lemmas.Bool.Decides.{nat_tests}
use Rattle.std.proofs.lemmas.Bool.{or_cases}
use Rattle.std.proofs.lemmas.List.{drop_more, drop_all}
use Rattle.std.proofs.lemmas.List.Elements.{All-nil, All-cons}
use Rattle.std.specs.Char.{is_ascii_digit}
use Rattle.std.specs.List.{flat_map}
use Rattle.httparse.proofs.GrammarLemmas.{cons-append}
use Rattle.httparse.specs.Grammar.{is_token_byte, is_value_byte, AllPass, LineEnd, crlf, lf, print_end, print_blank, Field, IsField, print_field, print_section, print_reason, reason_phrase}
use Rattle.head_scan.specs.Places.{version_front, expected, at_line_end, place_step, step_after}
use Rattle.head_scan.specs.declared.place.Place.{Place}
use Rattle.head_scan.specs.declared.place.Place.TheVariants.{EmptyLines, EmptyLineCr, Version, VersionEnd, Status, Value, LineCr, LineStart, Name, LastCr}
use Rattle.head_scan.specs.declared.place.Step.{Step}
use Rattle.head_scan.specs.declared.place.Step.TheVariants.{Stands, Ends, Fails}

-- field lines, and the line that ends them
pub record IsSection (s : List ℕ) : Type 0 where
  pub fields : List Field
  pub last : LineEnd
  pub each : All IsField fields
  pub split : s ≡ print_section fields last

-- what is left of a value, and the lines behind it
pub record IsText (s : List ℕ) : Type 0 where
  pub raw : List ℕ
  pub end : LineEnd
  pub behind : List ℕ
  pub each : AllPass is_value_byte raw
  pub section : IsSection behind
  pub split : s ≡ raw ++ (print_end end ++ behind)

-- what is left of a name, and what follows it
pub record IsNamed (s : List ℕ) : Type 0 where
  pub name : List ℕ
  pub behind : List ℕ
  pub each : AllPass is_token_byte name
  pub text : IsText behind
  pub split : s ≡ name ++ 58 ∷ behind

-- what follows a line's carriage return
pub record IsLineFed (P : List ℕ → Type 0) (s : List ℕ) : Type 0 where
  pub behind : List ℕ
  pub rest : P behind
  pub split : s ≡ 10 ∷ behind

-- what follows the digits of a status
pub record IsReasoned (s : List ℕ) : Type 0 where
  pub reason : Option (List ℕ)
  pub end : LineEnd
  pub behind : List ℕ
  pub each : AllPass is_value_byte (reason_phrase reason)
  pub section : IsSection behind
  pub split : s ≡ print_reason reason ++ (print_end end ++ behind)

-- what follows so many digits of a status
pub record IsCoded (came : ℕ) (s : List ℕ) : Type 0 where
  pub digits : List ℕ
  pub behind : List ℕ
  pub count : length digits ≡ 3 - came
  pub each : AllPass is_ascii_digit digits
  pub reasoned : IsReasoned behind
  pub split : s ≡ digits ++ behind

-- what follows a version
pub record IsSpaced (s : List ℕ) : Type 0 where
  pub behind : List ℕ
  pub coded : IsCoded 0 behind
  pub split : s ≡ 32 ∷ behind

-- what follows so many bytes of a version
pub record IsVersioned (matched : ℕ) (s : List ℕ) : Type 0 where
  pub minor : ℕ
  pub behind : List ℕ
  pub small : minor ≤ 1
  pub spaced : IsSpaced behind
  pub split : s ≡ drop matched version_front ++ ((48 + minor) ∷ behind)

-- what follows empty lines
pub record IsFront (s : List ℕ) : Type 0 where
  pub blank : List LineEnd
  pub behind : List ℕ
  pub versioned : IsVersioned 0 behind
  pub split : s ≡ print_blank blank ++ behind

abbrev pub Remains : Place → List ℕ → Type 0
Remains EmptyLines s = IsFront s
Remains EmptyLineCr s = IsLineFed IsFront s
Remains (Version matched) s = IsVersioned matched s
Remains VersionEnd s = IsSpaced s
Remains (Status digits) s = IsCoded digits s
Remains Value s = IsText s
Remains LineCr s = IsLineFed IsSection s
Remains LineStart s = IsSection s
Remains Name s = IsNamed s
Remains LastCr s = s ≡ 10 ∷ []

-- bytes lead from a step to the end
abbrev pub To : Step → List ℕ → Type 0
To step s = fold step_after step s ≡ Ends

failed : (s : List ℕ) → fold step_after Fails s ≡ Fails
failed [] = refl
failed (b ∷ s) = failed s

pub never : {A : Type 0} (s : List ℕ) → To Fails s → A
never s to = let no : Fails ≡ Ends = sym (failed s) ∙ to in cc

-- nothing follows the end
pub ended : (s : List ℕ) → To Ends s → s ≡ []
ended [] to = refl
ended (b ∷ s) to = never s to

-- a byte that was tested
is_byte : (b c : ℕ) → (b == c) ≡ true → b ≡ c
is_byte b c same = grind (arith, nat_tests)

abbrev Hypothesis : List ℕ → Type 0
Hypothesis s = (place : Place) → To (Stands place) s → Remains place s

-- behind one byte and no other
after_expected : (b c : ℕ) (next : Step) (s : List ℕ) (t : Bool) → (b == c) ≡ t → To (if t then next else Fails) s → (b ≡ c) × To next s
after_expected b c next s true same to = (is_byte b c same, to)
after_expected b c next s false same to = never s to

text_cons : (b : ℕ) (s : List ℕ) → is_value_byte b ≡ true → IsText s → IsText (b ∷ s)
text_cons b s value r = record {
  raw = b ∷ r.raw;
  end = r.end;
  behind = r.behind;
  each = All-cons (λ x. is_value_byte x ≡ true) b r.raw value r.each;
  section = r.section;
  split = ap (λ t. b ∷ t) r.split;
}

-- a line end and the lines behind it
line_end : (b : ℕ) (other : Step) (s : List ℕ) (cr feed : Bool) → (b == 13) ≡ cr → (b == 10) ≡ feed → Hypothesis s
    → To (if cr then Stands LineCr else (if feed then Stands LineStart else other)) s
    → ((end : LineEnd) × (behind : List ℕ) × IsSection behind × (b ∷ s ≡ print_end end ++ behind)) ⊎ To other s
line_end b other s true feed is_cr is_feed ih to = let r = ih LineCr to in inl (crlf, r.behind, r.rest, ap₂ (λ x t. x ∷ t) (is_byte b 13 is_cr) r.split)
line_end b other s false true is_cr is_feed ih to = inl (lf, s, ih LineStart to, ap (λ x. x ∷ s) (is_byte b 10 is_feed))
line_end b other s false false is_cr is_feed ih to = inr to

after_value : (b : ℕ) (s : List ℕ) (value : Bool) → is_value_byte b ≡ value → Hypothesis s → To (if value then Stands Value else at_line_end b Fails) s → IsText (b ∷ s)
after_value b s true is ih to = text_cons b s is (ih Value to)
after_value b s false is ih to = elim (line_end b Fails s (b == 13) (b == 10) refl refl ih to) [
  | inl r ↦ record { raw = []; end = r.0; behind = r.1; each = All-nil (λ x. is_value_byte x ≡ true); section = r.2; split = r.3 }
  | inr other ↦ never s other
]

after_digits : (b : ℕ) (s : List ℕ) → Hypothesis s → To (at_line_end b (expected b 32 (Stands Value))) s → IsReasoned (b ∷ s)
after_digits b s ih to = elim (line_end b (expected b 32 (Stands Value)) s (b == 13) (b == 10) refl refl ih to) [
  | inl r ↦ record { reason = None; end = r.0; behind = r.1; each = All-nil (λ x. is_value_byte x ≡ true); section = r.2; split = r.3 }
  | inr spaced ↦
      let is = after_expected b 32 (Stands Value) s (b == 32) refl spaced in
      let r = ih Value is.1 in
      record { reason = Some r.raw; end = r.end; behind = r.behind; each = r.each; section = r.section; split = ap₂ (λ x t. x ∷ t) is.0 r.split }
]

after_status : (came b : ℕ) (s : List ℕ) (few digit : Bool) → nat_lt came 3 ≡ few → is_ascii_digit b ≡ digit → Hypothesis s
    → To (if few then (if digit then Stands (Status (came + 1)) else Fails) else at_line_end b (expected b 32 (Stands Value))) s → IsCoded came (b ∷ s)
after_status came b s true true is_few is_digit ih to =
    let r = ih (Status (came + 1)) to in
    let small : came < 3 = grind (arith, nat_tests) in record {
      digits = b ∷ r.digits;
      behind = r.behind;
      count = omega (arith, r.count, small);
      each = All-cons (λ x. is_ascii_digit x ≡ true) b r.digits is_digit r.each;
      reasoned = r.reasoned;
      split = ap (λ t. b ∷ t) r.split;
    }
after_status came b s true false is_few is_digit ih to = never s to
after_status came b s false digit is_few is_digit ih to =
    let large : 3 ≤ came = grind (arith, nat_tests) in record {
      digits = [];
      behind = b ∷ s;
      count = omega (arith, large);
      each = All-nil (λ x. is_ascii_digit x ≡ true);
      reasoned = after_digits b s ih to;
      split = refl;
    }

minor_of : (b : ℕ) → (b == 48 || b == 49) ≡ true → (minor : ℕ) × (minor ≤ 1) × (b ≡ 48 + minor)
minor_of b is = elim (or_cases (b == 48) (b == 49) is) [
  | inl low ↦ (0, omega arith, is_byte b 48 low)
  | inr high ↦ (1, omega arith, is_byte b 49 high)
]

after_minor : (matched b : ℕ) (s : List ℕ) (digit : Bool) → 7 ≤ matched → (b == 48 || b == 49) ≡ digit → Hypothesis s → To (if digit then Stands VersionEnd else Fails) s → IsVersioned matched (b ∷ s)
after_minor matched b s true all is ih to =
    let m = minor_of b is in record {
      minor = m.0;
      behind = s;
      small = m.1;
      spaced = ih VersionEnd to;
      split = ap (λ x. x ∷ s) m.2 ∙ ap (λ t. t ++ ((48 + m.0) ∷ s)) (sym (drop_all matched version_front all));
    }
after_minor matched b s false all is ih to = never s to

after_version : (matched b : ℕ) (s : List ℕ) (few : Bool) → nat_lt matched 7 ≡ few → Hypothesis s
    → To (if few then expected b (get_or version_front matched 0) (Stands (Version (matched + 1))) else (if b == 48 || b == 49 then Stands VersionEnd else Fails)) s
    → IsVersioned matched (b ∷ s)
after_version matched b s true is_few ih to =
    let small : matched < 7 = grind (arith, nat_tests) in
    let c = get_or version_front matched 0 in
    let is = after_expected b c (Stands (Version (matched + 1))) s (b == c) refl to in
    let r = ih (Version (matched + 1)) is.1 in record {
      minor = r.minor;
      behind = r.behind;
      small = r.small;
      spaced = r.spaced;
      split = ap₂ (λ x t. x ∷ t) is.0 r.split ∙ ap (λ t. t ++ ((48 + r.minor) ∷ r.behind)) (sym (drop_more version_front matched 0 small));
    }
after_version matched b s false is_few ih to = after_minor matched b s (b == 48 || b == 49) (grind (arith, nat_tests)) refl ih to

pub regroup : (name raw end fields last : List ℕ) → name ++ 58 ∷ (raw ++ (end ++ (fields ++ last))) ≡ ((name ++ 58 ∷ raw ++ end) ++ fields) ++ last
regroup name raw end fields last = simp (append_assoc, cons-append)

-- a field's line in front of the others
section_cons : (b : ℕ) (s : List ℕ) → is_token_byte b ≡ true → IsNamed s → IsSection (b ∷ s)
section_cons b s token r =
    let name = b ∷ r.name in
    let field : Field = record { name = name; raw = r.text.raw; end = r.text.end } in
    let is : IsField field = record { name = (omega arith, All-cons (λ x. is_token_byte x ≡ true) b r.name token r.each); raw = r.text.each } in record {
      fields = field ∷ r.text.section.fields;
      last = r.text.section.last;
      each = All-cons IsField field r.text.section.fields is r.text.section.each;
      split = ap (λ t. b ∷ t) (r.split ∙ ap (λ t. r.name ++ 58 ∷ t) (r.text.split ∙ ap (λ t. r.text.raw ++ (print_end r.text.end ++ t)) r.text.section.split))
          ∙ regroup name r.text.raw (print_end r.text.end) (flat_map print_field r.text.section.fields) (print_end r.text.section.last);
    }

after_line_start : (b : ℕ) (s : List ℕ) (token cr feed : Bool) → is_token_byte b ≡ token → (b == 13) ≡ cr → (b == 10) ≡ feed → Hypothesis s
    → To (if token then Stands Name else (if cr then Stands LastCr else (if feed then Ends else Fails))) s → IsSection (b ∷ s)
after_line_start b s true cr feed is is_cr is_feed ih to = section_cons b s is (ih Name to)
after_line_start b s false true feed is is_cr is_feed ih to = record {
  fields = [];
  last = crlf;
  each = All-nil IsField;
  split = ap₂ (λ x t. x ∷ t) (is_byte b 13 is_cr) (ih LastCr to);
}
after_line_start b s false false true is is_cr is_feed ih to = record {
  fields = [];
  last = lf;
  each = All-nil IsField;
  split = ap₂ (λ x t. x ∷ t) (is_byte b 10 is_feed) (ended s to);
}
after_line_start b s false false false is is_cr is_feed ih to = never s to

after_name : (b : ℕ) (s : List ℕ) (token : Bool) → is_token_byte b ≡ token → Hypothesis s → To (if token then Stands Name else expected b 58 (Stands Value)) s → IsNamed (b ∷ s)
after_name b s true is ih to =
    let r = ih Name to in record {
      name = b ∷ r.name;
      behind = r.behind;
      each = All-cons (λ x. is_token_byte x ≡ true) b r.name is r.each;
      text = r.text;
      split = ap (λ t. b ∷ t) r.split;
    }
after_name b s false is ih to =
    let colon = after_expected b 58 (Stands Value) s (b == 58) refl to in record {
      name = [];
      behind = s;
      each = All-nil (λ x. is_token_byte x ≡ true);
      text = ih Value colon.1;
      split = ap (λ x. x ∷ s) colon.0;
    }

after_front : (b : ℕ) (s : List ℕ) (cr feed : Bool) → (b == 13) ≡ cr → (b == 10) ≡ feed → Hypothesis s
    → To (if cr then Stands EmptyLineCr else (if feed then Stands EmptyLines else expected b 72 (Stands (Version 1)))) s → IsFront (b ∷ s)
after_front b s true feed is_cr is_feed ih to =
    let r = ih EmptyLineCr to in record {
      blank = crlf ∷ r.rest.blank;
      behind = r.rest.behind;
      versioned = r.rest.versioned;
      split = ap₂ (λ x t. x ∷ t) (is_byte b 13 is_cr) (r.split ∙ ap (λ t. 10 ∷ t) r.rest.split);
    }
after_front b s false true is_cr is_feed ih to =
    let r = ih EmptyLines to in record {
      blank = lf ∷ r.blank;
      behind = r.behind;
      versioned = r.versioned;
      split = ap₂ (λ x t. x ∷ t) (is_byte b 10 is_feed) r.split;
    }
after_front b s false false is_cr is_feed ih to =
    let is = after_expected b 72 (Stands (Version 1)) s (b == 72) refl to in
    let r = ih (Version 1) is.1 in record {
      blank = [];
      behind = b ∷ s;
      versioned = record { minor = r.minor; behind = r.behind; small = r.small; spaced = r.spaced; split = ap₂ (λ x t. x ∷ t) is.0 r.split };
      split = refl;
    }

one_more : (place : Place) (b : ℕ) (s : List ℕ) → Hypothesis s → To (place_step place b) s → Remains place (b ∷ s)
one_more EmptyLines b s ih to = after_front b s (b == 13) (b == 10) refl refl ih to
one_more EmptyLineCr b s ih to = let is = after_expected b 10 (Stands EmptyLines) s (b == 10) refl to in record { behind = s; rest = ih EmptyLines is.1; split = ap (λ x. x ∷ s) is.0 }
one_more (Version matched) b s ih to = after_version matched b s (nat_lt matched 7) refl ih to
one_more VersionEnd b s ih to = let is = after_expected b 32 (Stands (Status 0)) s (b == 32) refl to in record { behind = s; coded = ih (Status 0) is.1; split = ap (λ x. x ∷ s) is.0 }
one_more (Status came) b s ih to = after_status came b s (nat_lt came 3) (is_ascii_digit b) refl refl ih to
one_more Value b s ih to = after_value b s (is_value_byte b) refl ih to
one_more LineCr b s ih to = let is = after_expected b 10 (Stands LineStart) s (b == 10) refl to in record { behind = s; rest = ih LineStart is.1; split = ap (λ x. x ∷ s) is.0 }
one_more LineStart b s ih to = after_line_start b s (is_token_byte b) (b == 13) (b == 10) refl refl refl ih to
one_more Name b s ih to = after_name b s (is_token_byte b) refl ih to
one_more LastCr b s ih to = let is = after_expected b 10 Ends s (b == 10) refl to in ap₂ (λ x t. x ∷ t) is.0 (ended s is.1)

-- what leads to the end is what may follow
pub remains : (s : List ℕ) (place : Place) → To (Stands place) s → Remains place s
remains [] place to = let no : Stands place ≡ Ends = to in cc
remains (b ∷ s) place to = one_more place b s (remains s) to
