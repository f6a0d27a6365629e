use Rattle.std.proofs.Common.{◌≡◌, ◌<◌, ◌^◌, take}
use Rattle.vcd_replay.specs.Values.{AreKnown, bits_value}
use Rattle.vcd_replay.proofs.values.number.Given as goal

abbrev pub invariant-loop-digit : goal.invariant-loop-digit
invariant-loop-digit l = AreKnown (take l.digit-index l.digits) × (l.value ≡ bits_value (take l.digit-index l.digits))
    × (l.value < 2 ^ l.digit-index)
