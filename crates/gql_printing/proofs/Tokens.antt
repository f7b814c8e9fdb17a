-- The tokens that stand for themselves, and names.
use Rattle.std.proofs.Common.{◌≡◌, ℕ, Bool, true, false, cond, ◌&&◌, ◌||◌, not, List, [], ◌∷◌, Some, None, refl, sym, ap, ap₂, subst, ◌∙◌}
use Rattle.std.specs.Prelude.{codes, nat_eq}
use Rattle.gql_tokens.specs.Tokens.{Token}
use Rattle.gql_tokens.specs.Heads.{is_last}
use Rattle.gql_tokens.specs.Places.{first_place}
use Rattle.gql_tokens.specs.Names.{IsName}
use Rattle.gql_tokens.specs.declared.token.Kind.{Kind}
use Rattle.gql_tokens.specs.declared.token.Kind.TheVariants as kind
use Rattle.gql_tokens.specs.declared.token.Place.{Place}
use Rattle.gql_spelling.specs.Spelling.{bare, mark_of, IsTextOf, printed_text, ArePrintable}
use Rattle.gql_model.specs.declared.name.Name.{Name}
use Rattle.gql_model.specs.Sorts.{Sort, Mark, Word, Unlike, rank, has_kind, is_among, is_of, is_in, mark, word}
use Rattle.gql_model.specs.Rules.{One}
use Rattle.gql_model.specs.Names.{name_in, any_name, fragment_name, enum_name, NameRule, FragmentNameRule, EnumNameRule}
use Rattle.gql_printing.specs.Tokens as written
use Rattle.gql_printing.specs.Executables.{name_tokens}
use Rattle.gql_printing.specs.Places.{bare_name}
use Rattle.gql_printing.proofs.Joining.{is_calm, joins_one}
use Rattle.gql_printing.proofs.Again.{Again, Spells, Fixed, single}

-- ---- punctuators and keywords

-- neither an integer nor `...`
pub plain_calm : (c : Bool) (k : Kind) → is_calm true k ≡ true → is_calm false k ≡ true → is_calm c k ≡ true
plain_calm true k h f = h
plain_calm false k h f = f

abbrev pub Punctuator : Kind → Type 0
Punctuator k = (c : Bool) → Fixed c (mark k) k (mark_of k)

pub bang : Punctuator kind.Bang
bang c = record { spelled = refl; calm = plain_calm c kind.Bang refl refl; is = λ place. refl }

pub dollar : Punctuator kind.Dollar
dollar c = record { spelled = refl; calm = plain_calm c kind.Dollar refl refl; is = λ place. refl }

pub ampersand : Punctuator kind.Ampersand
ampersand c = record { spelled = refl; calm = plain_calm c kind.Ampersand refl refl; is = λ place. refl }

pub paren_open : Punctuator kind.ParenOpen
paren_open c = record { spelled = refl; calm = plain_calm c kind.ParenOpen refl refl; is = λ place. refl }

pub paren_close : Punctuator kind.ParenClose
paren_close c = record { spelled = refl; calm = plain_calm c kind.ParenClose refl refl; is = λ place. refl }

pub colon : Punctuator kind.Colon
colon c = record { spelled = refl; calm = plain_calm c kind.Colon refl refl; is = λ place. refl }

pub equals : Punctuator kind.Equals
equals c = record { spelled = refl; calm = plain_calm c kind.Equals refl refl; is = λ place. refl }

pub at : Punctuator kind.At
at c = record { spelled = refl; calm = plain_calm c kind.At refl refl; is = λ place. refl }

pub bracket_open : Punctuator kind.BracketOpen
bracket_open c = record { spelled = refl; calm = plain_calm c kind.BracketOpen refl refl; is = λ place. refl }

pub bracket_close : Punctuator kind.BracketClose
bracket_close c = record { spelled = refl; calm = plain_calm c kind.BracketClose refl refl; is = λ place. refl }

pub brace_open : Punctuator kind.BraceOpen
brace_open c = record { spelled = refl; calm = plain_calm c kind.BraceOpen refl refl; is = λ place. refl }

pub brace_close : Punctuator kind.BraceClose
brace_close c = record { spelled = refl; calm = plain_calm c kind.BraceClose refl refl; is = λ place. refl }

pub pipe : Punctuator kind.Pipe
pipe c = record { spelled = refl; calm = plain_calm c kind.Pipe refl refl; is = λ place. refl }

-- `...` stands where no integer may stand before it
pub spread : Fixed true (mark kind.Spread) kind.Spread (mark_of kind.Spread)
spread = record { spelled = refl; calm = refl; is = λ place. refl }

pub keyword : (c : Bool) (text : List ℕ) → IsName text → ((place : Place) → is_in (word text) (record { kind = kind.Name; text = text; place = place }) ≡ true) → Fixed c (word text) kind.Name text
keyword c text h is = record { spelled = h; calm = plain_calm c kind.Name refl refl; is = is }

-- ---- names

same_sort : (s : Sort) (k : Kind) (text : List ℕ) (p q : Place) → is_of s (record { kind = k; text = text; place = p }) ≡ is_of s (record { kind = k; text = text; place = q })
same_sort (Mark j) k text p q = refl
same_sort (Word w) k text p q = refl
same_sort (Unlike ws) k text p q = refl

pub same_sorts : (sorts : List Sort) (k : Kind) (text : List ℕ) (p q : Place) → is_in sorts (record { kind = k; text = text; place = p }) ≡ is_in sorts (record { kind = k; text = text; place = q })
same_sorts [] k text p q = refl
same_sorts (s ∷ sorts) k text p q = ap₂ (λ (a b : Bool). a || b) (same_sort s k text p q) (same_sorts sorts k text p q)

-- the sorts of a token don't depend on where it stands
pub bare_sorts : (sorts : List Sort) (x y : Token) → bare x ≡ bare y → is_in sorts x ≡ is_in sorts y
bare_sorts sorts x y e =
    ap (λ (b : Kind × List ℕ). is_in sorts (record { kind = b.0; text = b.1; place = x.place })) e
    ∙ same_sorts sorts y.kind y.text x.place y.place

named : (b : Bool) (place : Place) (text : List ℕ) (n : Name) → cond b (Some (record { place = place; text = text })) None ≡ Some n → (b ≡ true) × (text ≡ n.text)
named true place text n e = (refl, text_is place text n e)
  where
    text_is : (place : Place) (text : List ℕ) (n : Name) → Some (record { place = place; text = text }) ≡ Some n → text ≡ n.text
    text_is place text n e = cc
named false place text n e = absurd cc

name_text : (k : Kind) (text : List ℕ) → k ≡ kind.Name → (is_last k ≡ false → IsTextOf k (printed_text k text)) → IsName text
name_text k text e h = (subst (λ (j : Kind). is_last j ≡ false → IsTextOf j (printed_text j text)) e h) refl

spells_names : {c : Bool} (sorts : List Sort) → ((x : Token) → is_in sorts x ≡ true → x.kind ≡ kind.Name) → Spells c (One (name_in sorts)) (One (name_in sorts)) bare_name name_tokens
spells_names {c} sorts is_name = record { law = λ front n r h. given n r.0 r.2 (subst ArePrintable r.1 h) }
  where
    again_name : (n : Name) (x : Token) → bare x ≡ (kind.Name, n.text) → is_in sorts x ≡ true → IsName n.text → Again c (One (name_in sorts)) bare_name (bare_name n) (name_tokens n)
    again_name n x b is h = record {
      again = λ ts e.
          let one = single (kind.Name, n.text) ts e in
          let sort : is_in sorts one.0 ≡ true = bare_sorts sorts one.0 x (one.2 ∙ sym b) ∙ is in
          let text : one.0.text ≡ n.text = ap (λ (k : Kind × List ℕ). k.1) one.2 in
          let name : Name = record { place = one.0.place; text = one.0.text } in
          (name, (one.0, one.1, ap (λ (s : Bool). cond s (Some name) None) sort), ap (λ (t : List ℕ). bare_name (record { place = first_place; text = t })) text);
      spelled = (h, tt);
      joins = joins_one c (written.word n.text) (plain_calm c kind.Name refl refl);
    }

    given : (n : Name) (x : Token) → name_in sorts x ≡ Some n → ArePrintable (x ∷ []) → Again c (One (name_in sorts)) bare_name (bare_name n) (name_tokens n)
    given n x e h =
        let is = named (is_in sorts x) x.place x.text n e in
        let k = is_name x is.0 in
        again_name n x (ap₂ (λ (j : Kind) (t : List ℕ). bare (record { kind = j; text = t; place = x.place })) k is.1) is.0 (subst IsName is.1 (name_text x.kind x.text k h.0))

name_kind : (k : Kind) → nat_eq (rank k) 14 ≡ true → k ≡ kind.Name
name_kind kind.Name e = refl
name_kind _ e = absurd cc

first_true : (a b : Bool) → (a && b) ≡ true → a ≡ true
first_true true b e = refl
first_true false b e = absurd cc

alone : (a : Bool) → (a || false) ≡ true → a ≡ true
alone true e = refl
alone false e = absurd cc

unlike_kind : (words : List (List ℕ)) (x : Token) → is_in (Unlike words ∷ []) x ≡ true → x.kind ≡ kind.Name
unlike_kind words x e = name_kind x.kind (first_true (has_kind kind.Name x) (not (is_among words x.text)) (alone (is_of (Unlike words) x) e))

pub spells_name : {c : Bool} → Spells c NameRule NameRule bare_name name_tokens
spells_name = spells_names any_name (λ x e. name_kind x.kind (alone (has_kind kind.Name x) e))

pub spells_fragment_name : {c : Bool} → Spells c FragmentNameRule FragmentNameRule bare_name name_tokens
spells_fragment_name = spells_names fragment_name (unlike_kind (codes "on" ∷ []))

pub spells_enum_name : {c : Bool} → Spells c EnumNameRule EnumNameRule bare_name name_tokens
spells_enum_name = spells_names enum_name (unlike_kind (codes "true" ∷ codes "false" ∷ codes "null" ∷ []))
