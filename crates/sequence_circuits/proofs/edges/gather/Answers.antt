use Rattle.std.proofs.Common.{◌≡◌, ◌↔◌, ◌<◌, All, length, List, refl, sym, ap, ◌∙◌, subst}
use Rattle.std.proofs.lemmas.List.{take_all}
use Rattle.std.proofs.lemmas.List.Elements.{All-nil}
use Rattle.auto_core.specs.declared.tables.Edge.{Edge}
use Rattle.circuit_core.specs.declared.nodes.Net.{Net}
use Rattle.circuit_core.specs.Netlist.{IsNet}
use Rattle.sequence_circuits.specs.declared.edges.Way.{Way}
use Rattle.sequence_circuits.specs.Guards.{numbers}
use Rattle.sequence_circuits.specs.inner.Nets.{live_nets, stream_at}
use Rattle.sequence_circuits.specs.inner.Edges.{way_of, IsWithin, Arrives, IsOneTaken}
use Rattle.sequence_circuits.proofs.Kept.{extends_self, extends_trans}
use Rattle.sequence_circuits.proofs.Ways.{none_taken, all_put_in, gather_more}
use Rattle.sequence_circuits.proofs.edges.gather.Goals as goal

pub loop-edge-init : goal.loop-edge-init
loop-edge-init c =
    let m = c.args.net.now in
    let none = c.no_ways-ways.ensures.ways in
    let no_source = c.no_ways-ways.ensures.sources in
    record {
      kept = extends_self m;
      registers = refl;
      size = ap (λ (ks : List Net). length ks) no_source ∙ sym (ap (λ (ws : List Way). length ws) none);
      sources = subst (All (λ (k : Net). IsNet m k.0)) (sym no_source) (All-nil (λ (k : Net). IsNet m k.0));
      within = λ symbols targets all.
          subst (All (IsWithin symbols targets)) (sym none) (All-nil (IsWithin symbols targets));
      stream = λ inputs run h n within a s.
          none_taken run n _ _ c.args.edges.now (stream_at run (live_nets c.args.states.now)) a s none;
    }

pub loop-edge-preserved : goal.loop-edge-preserved
loop-edge-preserved c =
    let i = c.loop-edge.edge-index in
    let edges = c.args.edges.now in
    let e = c.edge-item.result in
    let way = c.in_ok-way.way in
    let is : way ≡ way_of e = c.in_ok-way.ensures in
    let lt = c.loop-edge-test.true in
    let from : e.from < length c.args.states.now =
    subst (λ (d : Edge). d.from < length c.args.states.now) (sym c.edge-item.is) (c.requires.from i e lt) in
    record {
      kept = extends_trans _ _ _ c.loop-edge.invariant.kept c.in_ok-put_way.ensures.kept;
      registers = c.in_ok-put_way.ensures.registers ∙ c.loop-edge.invariant.registers;
      size = c.in_ok-put_way.ensures.size;
      sources = c.in_ok-put_way.ensures.sources;
      within = λ symbols targets all.
          all_put_in (IsWithin symbols targets) c.loop-edge.ways.ways.keys way _ c.in_ok-put_way.ensures.ways
          (c.loop-edge.invariant.within symbols targets all)
          (subst (IsWithin symbols targets) (sym is)
          (subst (λ (d : Edge). IsWithin symbols targets (way_of d)) (sym c.edge-item.is) (all i e lt)));
      stream = λ inputs run h n within a s.
          gather_more run n edges i e c.args.states.now way _ a s _ _ lt c.edge-item.is is from
          (c.loop-edge.invariant.stream inputs run (c.in_ok-put_way.ensures.kept.runs inputs run h) n within a s)
          (c.in_ok-put_way.ensures.stream inputs run h n within a s);
    }

pub returns-clause-stream : goal.returns-clause-stream
returns-clause-stream c inputs run h n within a s =
    let ways = c.loop-edge.ways in
    subst (λ (es : List Edge).
    IsOneTaken (length ways.ways.keys) ways.ways.keys run (numbers ways.sources.items) a s n
    ↔ Arrives es (stream_at run (live_nets c.args.states.now)) a s n)
    (take_all c.loop-edge.edge-index _ c.loop-edge-test.false)
    (c.loop-edge.invariant.stream inputs run h n within a s)
