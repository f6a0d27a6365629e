use Rattle.std.proofs.Common.{◌≡◌, ◌+◌, ◌^◌, ◌*◌, ◌/◌, List, sym, subst, refl}
use Rattle.std.proofs.Common.{arith}
use Rattle.weak_determinise.specs.Nodes.{number_of}
use Rattle.weak_determinise.proofs.Digits.{digit_taken, half_small, none_left}
use Rattle.weak_determinise.proofs.bits.bits_of.Goals as goal

pub loop-place-preserved : goal.loop-place-preserved
loop-place-preserved c = record {
  count = omega (arith, c.in_ok-push.ensures.len, c.loop-place.invariant.count);
  value = subst (λ (s : List _). number_of s + 2 ^ (c.loop-place._place + 1) * (c.loop-place.rest / 2) ≡ c.args.number)
      (sym c.in_ok-push.ensures.items)
      (digit_taken c.args.number c.loop-place.rest (c.loop-place.rest / 2) c.loop-place._place c.loop-place.bits.items _
      c.loop-place.invariant.count c.loop-place.invariant.value refl refl);
  small = half_small c.loop-place.rest c.args.count c.loop-place._place c.loop-place-test.true
      c.loop-place.invariant.small;
}

pub returns-clause-value : goal.returns-clause-value
returns-clause-value c = none_left c.args.number c.loop-place.rest c.args.count c.loop-place._place
    (number_of c.loop-place.bits.items) c.loop-place-test.false c.loop-place.invariant.value
    c.loop-place.invariant.small
