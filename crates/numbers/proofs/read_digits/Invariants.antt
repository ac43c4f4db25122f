use Rattle.std.proofs.Common.{◌≡◌, ◌^◌, ◌≤◌, drop}
use Rattle.numbers.specs.Fields.{reading}
use Rattle.numbers.proofs.read_digits.Given as goal

abbrev pub invariant-loop-byte : goal.invariant-loop-byte
invariant-loop-byte l = (l.number ≤ 2 ^ 31) × (reading l.number (drop l.byte-index l.digits) ≡ reading 0 l.digits)
