use Rattle.std.proofs.Common.{◌≡◌, ◌<◌, ◌+◌, ℕ, All, length, get_or, List, sym, ap, ◌∙◌, subst}
use Rattle.std.proofs.Common.{arith}
use Rattle.auto_core.specs.Graph.{Graph}
use Rattle.circuit_core.specs.declared.nodes.Net.{Net}
use Rattle.circuit_core.specs.Netlist.{IsNet}
use Rattle.circuit_core.specs.Growth.{Extends, Grows}
use Rattle.sequence_circuits.specs.declared.states.State.{State}
use Rattle.sequence_circuits.specs.Guards.{numbers}
use Rattle.sequence_circuits.specs.inner.Nets.{AreStates, AreSet}
use Rattle.sequence_circuits.proofs.Kept.{extends_trans, cycles_kept}
use Rattle.sequence_circuits.proofs.Registers.{are_kept_in, live_all, grows_set}
use Rattle.sequence_circuits.proofs.Paths.{AreBetween}
use Rattle.sequence_circuits.proofs.Detecting.{detected}
use Rattle.sequence_circuits.proofs.detection.detect.Goals as goal

pub arrival_nets-requires-clause-states : goal.arrival_nets-requires-clause-states
arrival_nets-requires-clause-states c =
    let m = c.make_states.new.net in
    subst (All (λ (h : State). IsNet m h.live.0)) (sym c.as_slice.ensures.value)
    (live_all m _ _ _ c.in_ok-states.states.items c.in_ok-states.ensures.states)

pub arrival_nets-requires-clause-between : goal.arrival_nets-requires-clause-between
arrival_nets-requires-clause-between c k d lt =
    let b = c.edges-edges.ensures.between k d lt in
    let size : length c.as_slice.result.now ≡ length c.args.table.now.accepting =
    ap (λ (hs : List State). length hs) c.as_slice.ensures.value ∙ c.in_ok-states.ensures.size ∙ c.states.ensures in
    (omega (arith, b.0, size), omega (arith, b.1, size))

pub accepted_net-requires-clause-arrivals : goal.accepted_net-requires-clause-arrivals
accepted_net-requires-clause-arrivals c =
    subst (All (λ (k : Net). IsNet c.arrival_nets.new.net k.0)) (sym c.as_slice-2.ensures.value)
    c.in_ok-arrivals.ensures.nets

pub accepted_net-requires-clause-size : goal.accepted_net-requires-clause-size
accepted_net-requires-clause-size c =
    ap (λ (ks : List Net). length ks) c.as_slice-2.ensures.value ∙ c.in_ok-arrivals.ensures.size
    ∙ ap (λ (hs : List State). length hs) c.as_slice.ensures.value ∙ c.in_ok-states.ensures.size ∙ c.states.ensures

pub returns-in_err-found-clause-kept : goal.returns-in_err-found-clause-kept
returns-in_err-found-clause-kept c =
    extends_trans _ _ _ c.in_ok-uncleared.ensures.kept (extends_trans _ _ _ c.in_ok-states.ensures.kept
    (extends_trans _ _ _ c.in_ok-arrivals.ensures.kept c.in_err-found.ensures.kept))

pub set_nexts-requires-clause-states : goal.set_nexts-requires-clause-states
set_nexts-requires-clause-states c =
    let x24 = extends_trans _ _ _ c.in_ok-arrivals.ensures.kept c.in_ok-found.ensures.kept in (
      length c.not.new.self.registers,
      c.args.start.0,
      c.in_ok-uncleared.uncleared.0,
      are_kept_in c.make_states.new.net c.accepted_net.new.net _ _ _ c.in_ok-states.states.items c.as_slice-3.result.now
          c.as_slice-3.ensures.value x24 c.in_ok-states.ensures.states,
    )

pub set_nexts-requires-clause-nexts : goal.set_nexts-requires-clause-nexts
set_nexts-requires-clause-nexts c =
    subst (All (λ (k : Net). IsNet c.accepted_net.new.net k.0)) (sym c.as_slice-4.ensures.value)
    (λ k d lt. let old : (get_or c.in_ok-arrivals.arrivals.items k d).0 < length c.arrival_nets.new.net.nodes =
    c.in_ok-arrivals.ensures.nets k d lt in
    omega (arith, old, c.in_ok-found.ensures.kept.more_nodes))

pub set_nexts-requires-clause-size : goal.set_nexts-requires-clause-size
set_nexts-requires-clause-size c =
    let first = ap (λ (hs : List State). length hs) c.as_slice.ensures.value in
    let third = ap (λ (hs : List State). length hs) c.as_slice-3.ensures.value in
    let fourth = ap (λ (ks : List Net). length ks) c.as_slice-4.ensures.value in
    omega (arith, first, third, fourth, c.in_ok-arrivals.ensures.size)

pub returns-clause-grows : goal.returns-clause-grows
returns-clause-grows c =
    let m0 = c.args.net.now in
    let m1 = c.not.new.self in
    let m2 = c.make_states.new.net in
    let m4 = c.accepted_net.new.net in
    let m5 = c.set_nexts.new.net in
    let states = c.as_slice-3.result.now in
    let base = length c.not.new.self.registers in
    let uncleared = c.in_ok-uncleared.uncleared.0 in
    let are : AreStates c.accepted_net.new.net base c.args.start.0 uncleared c.as_slice-3.result.now =
    are_kept_in c.make_states.new.net c.accepted_net.new.net base c.args.start.0 uncleared c.in_ok-states.states.items
    c.as_slice-3.result.now c.as_slice-3.ensures.value
    (extends_trans _ _ _ c.in_ok-arrivals.ensures.kept c.in_ok-found.ensures.kept) c.in_ok-states.ensures.states in
    let set : AreSet m4 (length m1.registers) (length states) (numbers c.as_slice-4.result.now) m5 =
    c.set_nexts.ensures base c.args.start.0 uncleared are in
    let x04 : Extends m0 m4 =
    extends_trans _ _ _ c.in_ok-uncleared.ensures.kept (extends_trans _ _ _ c.in_ok-states.ensures.kept
    (extends_trans _ _ _ c.in_ok-arrivals.ensures.kept c.in_ok-found.ensures.kept)) in
    let begun : m1.registers ≡ m0.registers = c.in_ok-uncleared.ensures.registers in
    let same : m4.registers ≡ m2.registers =
    c.in_ok-found.ensures.registers ∙ c.in_ok-arrivals.ensures.registers in
    let counted : length states ≡ length c.args.table.now.accepting =
    ap (λ (hs : List State). length hs) c.as_slice-3.ensures.value ∙ c.in_ok-states.ensures.size ∙ c.states.ensures in
    let made : length m2.registers ≡ length m1.registers + c.states.result = c.in_ok-states.ensures.registers in
    let size : length m4.registers ≡ length m0.registers + length states =
    (let e = ap (λ rs. length rs) same in let f = ap (λ rs. length rs) begun in
    omega (arith, e, f, made, counted, c.states.ensures)) in
    subst (λ (k : ℕ). Grows m0 m5 k) counted
    (grows_set m0 m4 m5 (length states) (numbers c.as_slice-4.result.now) x04 size
    (subst (λ (k : ℕ). AreSet m4 k (length states) (numbers c.as_slice-4.result.now) m5)
    (ap (λ rs. length rs) begun) set))

pub returns-clause-kept : goal.returns-clause-kept
returns-clause-kept c = (returns-clause-grows c).kept

pub returns-clause-net : goal.returns-clause-net
returns-clause-net c =
    let base = length c.not.new.self.registers in
    let uncleared = c.in_ok-uncleared.uncleared.0 in
    let are : AreStates c.accepted_net.new.net base c.args.start.0 uncleared c.as_slice-3.result.now =
    are_kept_in c.make_states.new.net c.accepted_net.new.net base c.args.start.0 uncleared c.in_ok-states.states.items
    c.as_slice-3.result.now c.as_slice-3.ensures.value
    (extends_trans _ _ _ c.in_ok-arrivals.ensures.kept c.in_ok-found.ensures.kept) c.in_ok-states.ensures.states in
    let set = c.set_nexts.ensures base c.args.start.0 uncleared are in
    omega (arith, c.in_ok-found.ensures.net, ap (λ ns. length ns) set.nodes)

pub returns-clause-stream : goal.returns-clause-stream
returns-clause-stream c =
    let m1 = c.not.new.self in
    let m2 = c.make_states.new.net in
    let m3 = c.arrival_nets.new.net in
    let m4 = c.accepted_net.new.net in
    let m5 = c.set_nexts.new.net in
    let g : Graph = c.args.table.now in
    let states = c.in_ok-states.states.items in
    let base = length c.not.new.self.registers in
    let uncleared = c.in_ok-uncleared.uncleared.0 in
    let are : AreStates c.accepted_net.new.net base c.args.start.0 uncleared c.as_slice-3.result.now =
    are_kept_in c.make_states.new.net c.accepted_net.new.net base c.args.start.0 uncleared c.in_ok-states.states.items
    c.as_slice-3.result.now c.as_slice-3.ensures.value
    (extends_trans _ _ _ c.in_ok-arrivals.ensures.kept c.in_ok-found.ensures.kept) c.in_ok-states.ensures.states in
    let x34 : Extends m3 m4 = c.in_ok-found.ensures.kept in
    let x24 : Extends m2 m4 = extends_trans _ _ _ c.in_ok-arrivals.ensures.kept x34 in
    let x14 : Extends m1 m4 = extends_trans _ _ _ c.in_ok-states.ensures.kept x24 in
    let counted : length states ≡ length g.accepting = c.in_ok-states.ensures.size ∙ c.states.ensures in
    let between : AreBetween (length g.accepting) g.edges =
    subst (AreBetween (length g.accepting)) c.edges-edges.ensures.value c.edges-edges.ensures.between in
    detected g m4 m5 base c.args.start.0 c.args.clear.0 uncleared states c.as_slice.result.now
    c.as_slice-3.result.now c.in_ok-arrivals.arrivals.items c.as_slice-2.result.now c.as_slice-4.result.now
    (numbers c.args.guards.now) c.in_ok-found.found.0 c.edges-edges.result.now
    c.as_slice.ensures.value c.as_slice-3.ensures.value c.as_slice-2.ensures.value c.as_slice-4.ensures.value
    c.edges-edges.ensures.value counted between are (c.set_nexts.ensures base c.args.start.0 uncleared are)
    (cycles_kept m1 m4 _ x14 c.in_ok-uncleared.ensures.stream)
    (cycles_kept m3 m4 _ x34 c.in_ok-arrivals.ensures.stream) c.in_ok-found.ensures.stream
