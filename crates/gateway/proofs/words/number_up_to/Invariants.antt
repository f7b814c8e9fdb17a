use Rattle.std.proofs.Common.{◌≡◌, ◌+◌, take, min}
use Rattle.gateway.specs.Words.{number_of, greatest_limit}
use Rattle.gateway.proofs.words.number_up_to.Given as goal

abbrev pub invariant-digits : goal.invariant-digits
invariant-digits l = l.number ≡ min (number_of (take l.digit-index l.word)) (greatest_limit + 1)
