use Rattle.std.proofs.Common.{◌≡◌, ◌<◌, ◌+◌, ℕ, sym, arith, take}
use Rattle.std.specs.List.{list_all}
use Rattle.std.specs.Str.Parse.{digits_value}
use Rattle.std.proofs.lemmas.Bool.Decides.{nat_tests}
use Rattle.std.proofs.lemmas.List.Folds.{list_all_more}
use Rattle.vcd_reader.specs.Numbers.{is_digit}
use Rattle.vcd_reader.proofs.NumberLemmas.{above_a_front, one_more_digit}
use Rattle.vcd_reader.proofs.numbers.number.Goals as goal

pub returns-in-None : goal.returns-in-None
returns-in-None c =
    let one = one_more_digit c.args.text.now c.loop-digit.digit-index (omega arith) (omega arith) (omega arith) in
    let above : c.args.limit < digits_value 10 (take (c.loop-digit.digit-index + 1) c.args.text.now) =
    omega (arith, one, c.in-None.ensures.more) in
    record { value = sym (above_a_front c.args.limit c.args.text.now (c.loop-digit.digit-index + 1) above) }

pub loop-digit-preserved : goal.loop-digit-preserved
loop-digit-preserved c =
    let one = one_more_digit c.args.text.now c.loop-digit.digit-index (omega arith) (omega arith) (omega arith) in
    let more = list_all_more is_digit c.args.text.now c.loop-digit.digit-index 0 (omega arith) in
    (grind (arith, nat_tests, more), omega (arith, one, c.in-Some.ensures.more))
