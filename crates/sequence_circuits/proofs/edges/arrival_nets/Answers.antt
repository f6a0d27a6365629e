use Rattle.std.proofs.Common.{◌≡◌, ◌<◌, All, length, List, sym, ap, ◌∙◌, subst, arith, get_or}
use Rattle.std.proofs.lemmas.List.{length-replicate}
use Rattle.circuit_core.specs.declared.nodes.Net.{Net}
use Rattle.circuit_core.specs.Netlist.{IsNet}
use Rattle.circuit_core.specs.Run.{On}
use Rattle.sequence_circuits.specs.declared.edges.Way.{Way}
use Rattle.sequence_circuits.specs.Guards.{numbers}
use Rattle.sequence_circuits.specs.Detection.{letter_at}
use Rattle.sequence_circuits.specs.inner.Nets.{stream_at}
use Rattle.sequence_circuits.specs.inner.Edges.{IsWithin}
use Rattle.sequence_circuits.proofs.Nets.{repeated_off}
use Rattle.sequence_circuits.proofs.Ways.{all_arrived}
use Rattle.sequence_circuits.proofs.edges.arrival_nets.Goals as goal

pub gather-requires-clause-from : goal.gather-requires-clause-from
gather-requires-clause-from c k d lt = (c.requires.between k d lt).0

pub take_ways-requires-clause-sources : goal.take_ways-requires-clause-sources
take_ways-requires-clause-sources c =
    let m = c.bit.new.self in
    subst (All (λ (k : Net). IsNet m k.0)) (sym c.as_slice-2.ensures.value)
    (λ k d lt. let old : (get_or c.in_ok-gathered.gathered.sources.items k d).0 < length c.gather.new.net.nodes =
    c.in_ok-gathered.ensures.sources k d lt in
    omega (arith, old, c.in_ok-off.ensures.kept.more_nodes))

pub take_ways-requires-clause-each : goal.take_ways-requires-clause-each
take_ways-requires-clause-each c =
    ap (λ (ks : List Net). length ks) c.as_slice-2.ensures.value ∙ c.in_ok-gathered.ensures.size
    ∙ sym (ap (λ (ws : List Way). length ws) c.as_slice.ensures.keys)

pub take_ways-requires-clause-within : goal.take_ways-requires-clause-within
take_ways-requires-clause-within c =
    let symbols = length c.args.guards.now in
    let targets = length c.in_ok-arrivals.arrivals.items in
    let size : targets ≡ length c.args.states.now =
    ap (λ (ks : List Net). length ks) c.in_ok-arrivals.ensures
    ∙ length-replicate (length c.args.states.now) c.in_ok-off.off in
    subst (All (IsWithin symbols targets)) (sym c.as_slice.ensures.keys)
    (c.in_ok-gathered.ensures.within symbols targets (λ k d lt. record {
      symbols_below = c.requires.symbols k d lt;
      to_below = (let b = c.requires.between k d lt in omega (arith, b.1, size));
    }))

pub returns-clause-size : goal.returns-clause-size
returns-clause-size c =
    c.in_ok-take_ways.ensures.size ∙ ap (λ (ks : List Net). length ks) c.in_ok-arrivals.ensures
    ∙ length-replicate (length c.args.states.now) c.in_ok-off.off

pub returns-clause-stream : goal.returns-clause-stream
returns-clause-stream c inputs run h n within s below =
    let first = c.in_ok-arrivals.arrivals.items in
    let r1 = c.in_ok-take_ways.ensures.kept.runs inputs run h in
    let r0 = c.in_ok-off.ensures.kept.runs inputs run r1 in
    let a = letter_at run (numbers c.args.guards.now) n in
    all_arrived run n c.as_slice.result.now c.in_ok-gathered.gathered.ways.keys c.in_ok-gathered.gathered.sources.items
    c.as_slice-2.result.now a s (On (stream_at run (numbers first) s) n) _ _ c.as_slice.ensures.keys
    c.as_slice-2.ensures.value
    (repeated_off run n c.in_ok-off.off (length c.args.states.now) s first c.in_ok-arrivals.ensures below
    (c.in_ok-off.ensures.stream inputs run r1 n within))
    (c.in_ok-take_ways.ensures.stream inputs run h n within s)
    (c.in_ok-gathered.ensures.stream inputs run r0 n within a s)
