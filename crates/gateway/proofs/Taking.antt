-- One more line of some bytes, of which a part was run before.
use Rattle.std.proofs.Common.{◌≡◌, ℕ, List, [], ◌∷◌, ◌++◌, Option, sym, ap, ◌∙◌, append_assoc}
use Rattle.std.specs.Io.KnownBytes.{Appends}
use Rattle.gateway.specs.Lines.{HasNoLineFeed}
use Rattle.gateway.specs.Progress.{Progress, grown_by, line_here, text_after, progress_after}
use Rattle.gateway.specs.Run.{WritesFront}
use Rattle.gateway.proofs.Fronts.{WritesFront-more, WritesFront-after}
use Rattle.gateway.proofs.Steps.{text_after-append, text_after-next}

module _ (bytes run left front behind : List ℕ) (whole : bytes ≡ run ++ left) (cut : left ≡ front ++ 10 ∷ behind) where
  pub with_line : bytes ≡ (run ++ (front ++ 10 ∷ [])) ++ behind
  with_line = whole ∙ ap (λ z. run ++ z) (cut ∙ sym (append_assoc front (10 ∷ []) behind)) ∙ sym (append_assoc run (front ++ 10 ∷ []) behind)

  pub WritesFront-line : (p : Progress) (a b c : Option (List ℕ)) → HasNoLineFeed front → Appends a b (text_after p run)
      → WritesFront b c (line_here (grown_by (progress_after p run) front)).text → WritesFront a c (text_after p bytes)
  WritesFront-line p a b c n before line =
      let text = text_after-append p (run ++ (front ++ 10 ∷ [])) behind in
      rw (with_line, text, text_after-next p run front n)
      (WritesFront-more a c _ _ (WritesFront-after a b c _ _ before line))
