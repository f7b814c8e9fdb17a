-- A loop over the parts of a list, one turn at a time.
use Rattle.std.proofs.Common.{◌≡◌, Bool, true, false, not, List, [], ◌∷◌, ◌++◌, refl, sym, ap, ◌∙◌, append_assoc, append-nil, length, ◌<◌}
use Rattle.std.specs.Prelude.{Result, Ok, Err}
use Rattle.gql_tokens.specs.Tokens.{Token}
use Rattle.gql_model.specs.Sorts.{Sort, starts}
use Rattle.gql_model.specs.Rules.{Rule}
use Rattle.gql_documents.specs.declared.error.ParseError.{ParseError}
use Rattle.gql_documents.specs.declared.error.ParseError.TheVariants.{Memory, Syntax}
use Rattle.gql_documents.specs.Parsing.{Reads, Outcome, Done, Fail, Parser, and_then, token, many, seq, via, behind, onto}
use Rattle.gql_documents.proofs.SortLaws.{and_left, and_right, not_true}
use Rattle.gql_documents.proofs.Laws.{Shape, Law, Lawful}
use Rattle.gql_documents.proofs.Manys.{Eats, many_none, many_one, many_bad, eats_of}

abbrev Toks : Type 0
Toks = List Token

onto_cons : {A : Type 0} (all : List A) (a : A) (o : Outcome (List A)) → onto all (and_then o (λ more rest. Done (a ∷ more) rest)) ≡ onto (all ++ a ∷ []) o
onto_cons all a (Done more rest) = ap (λ (x : List _). Done x rest) (sym (append_assoc all (a ∷ []) more))
onto_cons all a (Fail rest) = refl

-- nothing is read before the first turn
pub onto_start : {A : Type 0} (o : Outcome (List A)) → onto [] o ≡ o
onto_start (Done more rest) = refl
onto_start (Fail rest) = refl

pub onto_one : {A : Type 0} (enter : List Sort) (p : Parser A) → Eats p → (all : List A) (ts : Toks) (a : A) (mid : Toks) → starts enter ts ≡ true → p ts ≡ Done a mid → onto (all ++ a ∷ []) (many enter p mid) ≡ onto all (many enter p ts)
onto_one enter p eat all ts a mid s e = sym (ap (onto all) (many_one enter p eat ts a mid s e) ∙ onto_cons all a (many enter p mid))

pub onto_bad : {A : Type 0} (enter : List Sort) (p : Parser A) (all : List A) (ts rest : Toks) → starts enter ts ≡ true → p ts ≡ Fail rest → onto all (many enter p ts) ≡ Fail rest
onto_bad enter p all ts rest s e = ap (onto all) (many_bad enter p ts rest s e)

pub onto_none : {A : Type 0} (enter : List Sort) (p : Parser A) (all : List A) (ts : Toks) → starts enter ts ≡ false → onto all (many enter p ts) ≡ Done all ts
onto_none enter p all ts s = ap (onto all) (many_none enter p ts s) ∙ ap (λ (x : List _). Done x ts) (append-nil all)

-- a turn that fails
pub turn_bad : {A : Type 0} (enter : List Sort) (p : Parser A) (all : List A) (ts new : Toks) (start : Outcome (List A)) (e : ParseError) → starts enter ts ≡ true → Reads (p ts) (Err e) new → onto all (many enter p ts) ≡ start → Reads start (Err e) new
turn_bad enter p all ts new start Memory s r i = tt
turn_bad enter p all ts new start Syntax s r i = sym i ∙ onto_bad enter p all ts new s r

-- what isn't empty takes a token
pub eats_lawful : {A : Type 0} {R V : Rule A} {p p' : Parser A} {s : Shape} → Lawful 0 R V p p' s → s.sound ≡ true → s.empty ≡ false → Eats p
eats_lawful l ok n = eats_of (l.law ok) n

-- ---- what stands behind a token

pub reads_stopped : {A : Type 0} (sorts : List Sort) (p : Parser A) (ts new : Toks) (e : ParseError) → Reads (token sorts ts) (Err e) new → Reads (behind sorts p ts) (Err e) new
unfolding behind via seq
reads_stopped sorts p ts new Memory r = tt
reads_stopped sorts p ts new Syntax r = rw r refl

pub reads_behind : {A : Type 0} (sorts : List Sort) (p : Parser A) (ts mid : Toks) (result : Result A ParseError) (new : Toks) → token sorts ts ≡ Done tt mid → Reads (p mid) result new → Reads (behind sorts p ts) result new
unfolding behind via seq
reads_behind sorts p ts mid (Ok a) new e r = rw (e, r) refl
reads_behind sorts p ts mid (Err Memory) new e r = tt
reads_behind sorts p ts mid (Err Syntax) new e r = rw (e, r) refl
