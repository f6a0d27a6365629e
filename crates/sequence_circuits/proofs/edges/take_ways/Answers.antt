use Rattle.std.proofs.Common.{◌≡◌, ◌↔◌, ◌⊎◌, ◌<◌, ℕ, All, Some, length, slice_get, sym, ap, ◌∙◌, subst, arith}
use Rattle.std.proofs.lemmas.Option.{slice_get-get_or}
use Rattle.circuit_core.specs.Run.{On}
use Rattle.sequence_circuits.specs.declared.edges.Way.{Way}
use Rattle.sequence_circuits.specs.Guards.{numbers}
use Rattle.sequence_circuits.specs.Detection.{letter_at}
use Rattle.sequence_circuits.specs.inner.Nets.{stream_at}
use Rattle.sequence_circuits.specs.inner.Edges.{IsOneTaken}
use Rattle.sequence_circuits.proofs.Kept.{extends_trans}
use Rattle.sequence_circuits.proofs.Ways.{ways_more}
use Rattle.sequence_circuits.proofs.edges.take_ways.Goals as goal

pub take_way-requires-clause-symbols : goal.take_way-requires-clause-symbols
take_way-requires-clause-symbols c =
    let way = c.index-ways-place.result in
    subst (λ (w : Way). All (λ l. l.symbol < length c.args.guards.now) w.label) (sym c.index-ways-place.is)
    (c.requires.within c.loop-place.place way c.loop-place-test.true).symbols_below

pub take_way-requires-clause-to : goal.take_way-requires-clause-to
take_way-requires-clause-to c =
    let way = c.index-ways-place.result in
    let below : way.to < length c.args.arrivals.now.items =
    subst (λ (w : Way). w.to < length c.args.arrivals.now.items) (sym c.index-ways-place.is)
    (c.requires.within c.loop-place.place way c.loop-place-test.true).to_below in
    omega (arith, c.loop-place.invariant.size)

pub loop-place-preserved : goal.loop-place-preserved
loop-place-preserved c =
    let i = c.loop-place.place in
    let ways = c.args.ways.now in
    let way = c.index-ways-place.result in
    let at : slice_get ways i ≡ Some way =
    slice_get-get_or ways i way c.loop-place-test.true ∙ ap (λ (w : Way). Some w) (sym c.index-ways-place.is) in
    record {
      kept = extends_trans _ _ _ c.loop-place.invariant.kept c.in_ok-take_way.ensures.kept;
      registers = c.in_ok-take_way.ensures.registers ∙ c.loop-place.invariant.registers;
      size = c.in_ok-take_way.ensures.size ∙ c.loop-place.invariant.size;
      nets = c.in_ok-take_way.ensures.nets;
      stream = λ inputs run h n within s.
          ways_more run n ways i way c.args.sources.now (letter_at run (numbers c.args.guards.now) n) s _ _ _ at
          (c.loop-place.invariant.stream inputs run (c.in_ok-take_way.ensures.kept.runs inputs run h) n within s)
          (c.in_ok-take_way.ensures.stream inputs run h n within s);
    }

pub returns-clause-stream : goal.returns-clause-stream
returns-clause-stream c inputs run h n within s =
    let all : c.loop-place.place ≡ length c.args.ways.now = omega arith in
    subst (λ (i : ℕ). On (stream_at run (numbers c.loop-place.arrivals.items) s) n
    ↔ (On (stream_at run (numbers c.args.arrivals.now.items) s) n
    ⊎ IsOneTaken i c.args.ways.now run (numbers c.args.sources.now)
    (letter_at run (numbers c.args.guards.now) n) s n)) all
    (c.loop-place.invariant.stream inputs run h n within s)
