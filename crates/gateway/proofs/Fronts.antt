-- What was written of a text, part by part.
use Rattle.std.proofs.Common.{◌≡◌, ℕ, List, [], ◌++◌, take, drop, Option, sym, ap, ◌∙◌, append_assoc, append-nil}
use Rattle.std.proofs.lemmas.List.{take-append-drop}
use Rattle.std.specs.Io.KnownBytes.{Appends}
use Rattle.std.proofs.KnownBytes.{Appends-trans}
use Rattle.gateway.specs.Run.{WritesFront}

pub WritesFront-take : (a b : Option (List ℕ)) (n : ℕ) (buffer text : List ℕ) → buffer ≡ text → Appends a b (take n buffer) → WritesFront a b text
WritesFront-take a b n buffer text same h = record { front = take n buffer; rest = drop n buffer; parts = sym same ∙ sym (take-append-drop n buffer); written = h }

pub WritesFront-all : (a b : Option (List ℕ)) (text : List ℕ) → Appends a b text → WritesFront a b text
WritesFront-all a b text h = record { front = text; rest = []; parts = sym (append-nil text); written = h }

pub WritesFront-more : (a b : Option (List ℕ)) (text more : List ℕ) → WritesFront a b text → WritesFront a b (text ++ more)
WritesFront-more a b text more h = record { front = h.front; rest = h.rest ++ more; parts = ap (λ z. z ++ more) h.parts ∙ append_assoc h.front h.rest more; written = h.written }

pub WritesFront-after : (a b c : Option (List ℕ)) (before text : List ℕ) → Appends a b before → WritesFront b c text → WritesFront a c (before ++ text)
WritesFront-after a b c before text p h = record {
  front = before ++ h.front;
  rest = h.rest;
  parts = ap (λ z. before ++ z) h.parts ∙ sym (append_assoc before h.front h.rest);
  written = Appends-trans a b c before h.front p h.written;
}
