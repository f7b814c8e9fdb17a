-- What is so of documents that are sent and of the numbers of identities.
use Rattle.std.specs.Prelude.{◌≡◌, ◌↔◌, ℕ, Some, fold}
use Rattle.op_keys.specs.declared.identity.Identity.{Identity}
use Rattle.op_keys.specs.Identities.{Identities, number_of, interned}

-- equal identities have equal numbers and others have others, however many were interned between
abbrev pub EqualNumbersForEqualIdentities : Type 0
EqualNumbersForEqualIdentities = (held between : Identities) (a b : Identity) (m n : ℕ)
    → number_of held a ≡ Some m → number_of (fold interned held between) b ≡ Some n → (m ≡ n ↔ a ≡ b)
