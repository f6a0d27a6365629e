use Rattle.std.proofs.Common.{ℕ, ◌≡◌, ◌<◌, length, get_or, ap, subst, arith}
use Rattle.std.proofs.lemmas.Option.{slice_get-get_or}
use Rattle.sequence_circuits.specs.Guards.{numbers}
use Rattle.sequence_circuits.specs.inner.Nets.{AreSet}
use Rattle.sequence_circuits.proofs.Nets.{no_net, number_of}
use Rattle.sequence_circuits.proofs.Registers.{set_none, next_open, next_set}
use Rattle.sequence_circuits.proofs.states.set_nexts.Goals as goal

pub loop-place-init : goal.loop-place-init
loop-place-init c base start uncleared are = set_none c.args.net.now base (numbers c.args.nexts.now)

pub set_next-requires-clause-next : goal.set_next-requires-clause-next
set_next-requires-clause-next c =
    let given = c.requires.states in
    let so_far = c.loop-place.invariant given.0 given.1 given.2 given.3 in
    let there : (get_or c.args.nexts.now c.loop-place.place no_net).0 < length c.args.net.now.nodes =
    c.requires.nexts c.loop-place.place no_net (omega (arith, c.requires.size)) in
    omega (arith, there, ap (λ ns. length ns) so_far.nodes)

pub set_next-requires-clause-unset : goal.set_next-requires-clause-unset
set_next-requires-clause-unset c =
    let given = c.requires.states in
    next_open c.args.net.now c.loop-place.net given.0 given.1 given.2 c.args.states.now (numbers c.args.nexts.now)
    c.loop-place.place _ given.3 (slice_get-get_or c.args.states.now c.loop-place.place _ c.loop-place-test.true)
    (c.loop-place.invariant given.0 given.1 given.2 given.3)

pub loop-place-preserved : goal.loop-place-preserved
loop-place-preserved c base start uncleared are =
    next_set c.args.net.now c.loop-place.net c.set_next.new.self base start uncleared c.args.states.now
    (numbers c.args.nexts.now) c.loop-place.place _ _ are
    (slice_get-get_or c.args.states.now c.loop-place.place _ c.loop-place-test.true)
    (c.loop-place.invariant base start uncleared are) (number_of c.args.nexts.now c.loop-place.place)
    c.set_next.ensures

pub returns : goal.returns
returns c base start uncleared are =
    let all : c.loop-place.place ≡ length c.args.states.now = omega arith in
    subst (λ (k : ℕ). AreSet c.args.net.now base k (numbers c.args.nexts.now) c.loop-place.net) all
    (c.loop-place.invariant base start uncleared are)
