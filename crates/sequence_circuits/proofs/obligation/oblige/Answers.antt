use Rattle.std.proofs.Common.{◌≡◌, ◌<◌, ◌+◌, ℕ, All, length, get_or, List, sym, ap, ◌∙◌, subst, arith}
use Rattle.circuit_core.specs.declared.nodes.Net.{Net}
use Rattle.circuit_core.specs.Netlist.{IsNet}
use Rattle.circuit_core.specs.Growth.{Extends, Grows}
use Rattle.first_failure.specs.declared.automaton.FailRow.{FailRow}
use Rattle.first_failure.specs.declared.automaton.FailAuto.{FailAuto}
use Rattle.sequence_circuits.specs.declared.states.State.{State}
use Rattle.sequence_circuits.specs.Guards.{numbers}
use Rattle.sequence_circuits.specs.inner.Nets.{AreStates, AreSet}
use Rattle.sequence_circuits.specs.inner.Moves.{IsRowIn}
use Rattle.sequence_circuits.proofs.Kept.{extends_trans, cycles_kept}
use Rattle.sequence_circuits.proofs.Registers.{are_kept_in, live_all, grows_set}
use Rattle.sequence_circuits.proofs.Obliging.{rows_in, inside_of}
use Rattle.sequence_circuits.proofs.WholeObligation.{obliged}
use Rattle.sequence_circuits.proofs.obligation.oblige.Goals as goal

pub row_arrivals-requires-clause-states : goal.row_arrivals-requires-clause-states
row_arrivals-requires-clause-states c =
    let m = c.make_states.new.net in
    subst (All (λ (h : State). IsNet m h.live.0)) (sym c.as_slice.ensures.value)
    (live_all m _ _ _ c.in_ok-states.states.items c.in_ok-states.ensures.states)

pub row_arrivals-requires-clause-each : goal.row_arrivals-requires-clause-each
row_arrivals-requires-clause-each c =
    ap (λ (hs : List State). length hs) c.as_slice.ensures.value ∙ c.in_ok-states.ensures.size

pub row_arrivals-requires-clause-rows : goal.row_arrivals-requires-clause-rows
row_arrivals-requires-clause-rows c =
    let symbols = length c.args.guards.now in
    subst (λ (rs : List FailRow). All (IsRowIn symbols (length rs)) rs) (sym c.as_slice-rows.ensures)
    (rows_in c.args.automaton.now symbols c.requires.whole c.requires.symbols)

pub any_net-requires-clause-nets : goal.any_net-requires-clause-nets
any_net-requires-clause-nets c =
    subst (All (λ (k : Net). IsNet c.row_arrivals.new.net k.0)) (sym c.as_slice-2.ensures.value)
    c.in_ok-arrivals.ensures.nets

pub any_net-requires-clause-count : goal.any_net-requires-clause-count
any_net-requires-clause-count c =
    let e = ap (λ (ks : List Net). length ks) c.as_slice-2.ensures.value in
    omega (arith, e, c.in_ok-arrivals.ensures.size)

pub returns-in_err-pend-clause-kept : goal.returns-in_err-pend-clause-kept
returns-in_err-pend-clause-kept c =
    extends_trans _ _ _ c.in_ok-uncleared.ensures.kept (extends_trans _ _ _ c.in_ok-states.ensures.kept
    (extends_trans _ _ _ c.in_ok-arrivals.ensures.kept c.in_err-pend.ensures.kept))

pub set_nexts-requires-clause-states : goal.set_nexts-requires-clause-states
set_nexts-requires-clause-states c =
    let x24 = extends_trans _ _ _ c.in_ok-arrivals.ensures.kept c.in_ok-pend.ensures.kept in (
      length c.not.new.self.registers,
      c.args.start.0,
      c.in_ok-uncleared.uncleared.0,
      are_kept_in c.make_states.new.net c.any_net.new.net _ _ _ c.in_ok-states.states.items c.as_slice-3.result.now
          c.as_slice-3.ensures.value x24 c.in_ok-states.ensures.states,
    )

pub set_nexts-requires-clause-nexts : goal.set_nexts-requires-clause-nexts
set_nexts-requires-clause-nexts c =
    subst (All (λ (k : Net). IsNet c.any_net.new.net k.0)) (sym c.as_slice-4.ensures.value)
    (λ k d lt. let old : (get_or c.in_ok-arrivals.arrivals.items k d).0 < length c.row_arrivals.new.net.nodes =
    c.in_ok-arrivals.ensures.nets k d lt in
    omega (arith, old, c.in_ok-pend.ensures.kept.more_nodes))

pub set_nexts-requires-clause-size : goal.set_nexts-requires-clause-size
set_nexts-requires-clause-size c =
    let third = ap (λ (hs : List State). length hs) c.as_slice-3.ensures.value in
    let fourth = ap (λ (ks : List Net). length ks) c.as_slice-4.ensures.value in
    omega (arith, third, fourth, c.in_ok-arrivals.ensures.size, c.in_ok-states.ensures.size)

pub returns-clause-grows : goal.returns-clause-grows
returns-clause-grows c =
    let m0 = c.args.net.now in
    let m1 = c.not.new.self in
    let m2 = c.make_states.new.net in
    let m4 = c.any_net.new.net in
    let m5 = c.set_nexts.new.net in
    let states = c.as_slice-3.result.now in
    let base = length c.not.new.self.registers in
    let uncleared = c.in_ok-uncleared.uncleared.0 in
    let are : AreStates c.any_net.new.net base c.args.start.0 uncleared c.as_slice-3.result.now =
    are_kept_in c.make_states.new.net c.any_net.new.net base c.args.start.0 uncleared c.in_ok-states.states.items
    c.as_slice-3.result.now c.as_slice-3.ensures.value
    (extends_trans _ _ _ c.in_ok-arrivals.ensures.kept c.in_ok-pend.ensures.kept) c.in_ok-states.ensures.states in
    let set : AreSet m4 (length m1.registers) (length states) (numbers c.as_slice-4.result.now) m5 =
    c.set_nexts.ensures base c.args.start.0 uncleared are in
    let x04 : Extends m0 m4 =
    extends_trans _ _ _ c.in_ok-uncleared.ensures.kept (extends_trans _ _ _ c.in_ok-states.ensures.kept
    (extends_trans _ _ _ c.in_ok-arrivals.ensures.kept c.in_ok-pend.ensures.kept)) in
    let begun : m1.registers ≡ m0.registers = c.in_ok-uncleared.ensures.registers in
    let same : m4.registers ≡ m2.registers =
    c.in_ok-pend.ensures.registers ∙ c.in_ok-arrivals.ensures.registers in
    let rows : length c.as_slice-rows.result.now ≡ length c.args.automaton.now.rows =
    ap (λ (rs : List FailRow). length rs) c.as_slice-rows.ensures in
    let counted : length states ≡ length c.args.automaton.now.rows =
    ap (λ (hs : List State). length hs) c.as_slice-3.ensures.value ∙ c.in_ok-states.ensures.size ∙ rows in
    let size : length m4.registers ≡ length m0.registers + length states =
    (let e = ap (λ rs. length rs) same in let f = ap (λ rs. length rs) begun in
    omega (arith, e, f, c.in_ok-states.ensures.registers, counted, rows)) in
    subst (λ (k : ℕ). Grows m0 m5 k) counted
    (grows_set m0 m4 m5 (length states) (numbers c.as_slice-4.result.now) x04 size
    (subst (λ (k : ℕ). AreSet m4 k (length states) (numbers c.as_slice-4.result.now) m5)
    (ap (λ rs. length rs) begun) set))

pub returns-clause-kept : goal.returns-clause-kept
returns-clause-kept c = (returns-clause-grows c).kept

pub returns-clause-pend_net : goal.returns-clause-pend_net
returns-clause-pend_net c =
    let base = length c.not.new.self.registers in
    let uncleared = c.in_ok-uncleared.uncleared.0 in
    let are : AreStates c.any_net.new.net base c.args.start.0 uncleared c.as_slice-3.result.now =
    are_kept_in c.make_states.new.net c.any_net.new.net base c.args.start.0 uncleared c.in_ok-states.states.items
    c.as_slice-3.result.now c.as_slice-3.ensures.value
    (extends_trans _ _ _ c.in_ok-arrivals.ensures.kept c.in_ok-pend.ensures.kept) c.in_ok-states.ensures.states in
    let set = c.set_nexts.ensures base c.args.start.0 uncleared are in
    omega (arith, c.in_ok-pend.ensures.net, ap (λ ns. length ns) set.nodes)

pub returns-clause-fail_net : goal.returns-clause-fail_net
returns-clause-fail_net c =
    let base = length c.not.new.self.registers in
    let uncleared = c.in_ok-uncleared.uncleared.0 in
    let are : AreStates c.any_net.new.net base c.args.start.0 uncleared c.as_slice-3.result.now =
    are_kept_in c.make_states.new.net c.any_net.new.net base c.args.start.0 uncleared c.in_ok-states.states.items
    c.as_slice-3.result.now c.as_slice-3.ensures.value
    (extends_trans _ _ _ c.in_ok-arrivals.ensures.kept c.in_ok-pend.ensures.kept) c.in_ok-states.ensures.states in
    let set = c.set_nexts.ensures base c.args.start.0 uncleared are in
    let place = length c.as_slice-rows.result.now in
    let lt : place < length c.in_ok-arrivals.arrivals.items = omega (arith, c.in_ok-arrivals.ensures.size) in
    let there : c.index-fail.result.now.0 < length c.row_arrivals.new.net.nodes =
    subst (λ (k : Net). k.0 < length c.row_arrivals.new.net.nodes) (sym c.index-fail.ensures)
    (c.in_ok-arrivals.ensures.nets place c.index-fail.result.now lt) in
    omega (arith, there, c.in_ok-pend.ensures.kept.more_nodes, ap (λ ns. length ns) set.nodes)

pub returns-clause-check : goal.returns-clause-check
returns-clause-check c =
    let m1 = c.not.new.self in
    let m2 = c.make_states.new.net in
    let m3 = c.row_arrivals.new.net in
    let m4 = c.any_net.new.net in
    let m5 = c.set_nexts.new.net in
    let auto : FailAuto = c.args.automaton.now in
    let symbols = length c.args.guards.now in
    let base = length c.not.new.self.registers in
    let uncleared = c.in_ok-uncleared.uncleared.0 in
    let are : AreStates c.any_net.new.net base c.args.start.0 uncleared c.as_slice-3.result.now =
    are_kept_in c.make_states.new.net c.any_net.new.net base c.args.start.0 uncleared c.in_ok-states.states.items
    c.as_slice-3.result.now c.as_slice-3.ensures.value
    (extends_trans _ _ _ c.in_ok-arrivals.ensures.kept c.in_ok-pend.ensures.kept) c.in_ok-states.ensures.states in
    let x34 : Extends m3 m4 = c.in_ok-pend.ensures.kept in
    let x24 : Extends m2 m4 = extends_trans _ _ _ c.in_ok-arrivals.ensures.kept x34 in
    let x14 : Extends m1 m4 = extends_trans _ _ _ c.in_ok-states.ensures.kept x24 in
    let rows : length c.as_slice-rows.result.now ≡ length auto.rows =
    ap (λ (rs : List FailRow). length rs) c.as_slice-rows.ensures in
    obliged auto m4 m5 base c.args.start.0 c.args.clear.0 uncleared c.in_ok-states.states.items c.as_slice.result.now
    c.as_slice-3.result.now c.in_ok-arrivals.arrivals.items c.as_slice-2.result.now c.as_slice-4.result.now
    (numbers c.args.guards.now) c.index-fail.result.now c.in_ok-pend.pend.0 c.as_slice-rows.result.now
    c.as_slice.ensures.value c.as_slice-3.ensures.value c.as_slice-2.ensures.value c.as_slice-4.ensures.value
    c.as_slice-rows.ensures (c.in_ok-states.ensures.size ∙ rows)
    (c.in_ok-arrivals.ensures.size ∙ ap (λ (k : ℕ). k + 1) rows) c.index-fail.ensures
    (inside_of auto symbols (rows_in auto symbols c.requires.whole c.requires.symbols)) c.requires.whole.first are
    (c.set_nexts.ensures base c.args.start.0 uncleared are)
    (cycles_kept m1 m4 _ x14 c.in_ok-uncleared.ensures.stream)
    (cycles_kept m3 m4 _ x34 c.in_ok-arrivals.ensures.stream) c.in_ok-pend.ensures.stream
