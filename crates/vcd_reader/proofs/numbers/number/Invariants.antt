use Rattle.std.proofs.Common.{◌≡◌, true, take}
use Rattle.std.specs.List.{list_all}
use Rattle.std.specs.Str.Parse.{digits_value}
use Rattle.vcd_reader.specs.Numbers.{is_digit}
use Rattle.vcd_reader.proofs.numbers.number.Given as goal

abbrev pub invariant-loop-digit : goal.invariant-loop-digit
invariant-loop-digit l = (list_all is_digit (take l.digit-index l.text) ≡ true)
    × (l.value ≡ digits_value 10 (take l.digit-index l.text))
