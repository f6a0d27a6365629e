use Rattle.std.proofs.Common.{◌≡◌, min, take}
use Rattle.unit_rules.specs.Numbers.{number_of}
use Rattle.unit_rules.proofs.numbers.number_of.Given as goal

abbrev pub invariant-loop-byte : goal.invariant-loop-byte
invariant-loop-byte l = l.value ≡ min (number_of l.base (take l.byte-index l.digits)) l.most
