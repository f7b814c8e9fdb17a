-- A count that rose in a part of a run rose in the whole run, since it never falls.
use Rattle.std.proofs.Common.{ℕ, ◌≤◌, arith}
use Rattle.fault_causes.specs.Causes.{Rose}

pub Rose-after : (a b c : ℕ) → a ≤ b → Rose b c → Rose a c
Rose-after a b c h r = omega arith

pub Rose-before : (a b c : ℕ) → Rose a b → b ≤ c → Rose a c
Rose-before a b c r h = omega arith
