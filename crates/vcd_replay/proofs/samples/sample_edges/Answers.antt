use Rattle.std.proofs.Common.{◌≡◌, Some, None, get_or, subst, arith}
use Rattle.std.specs.Prelude.{slice_get}
use Rattle.std.proofs.lemmas.Option.{slice_get-get_or}
use Rattle.vcd_replay.specs.declared.edges.Edge.{Edge}
use Rattle.vcd_replay.specs.inner.Walk.{IsTable, IsRowOf}
use Rattle.vcd_replay.proofs.Sampled.{sampling_goes_on, first_blank}
use Rattle.vcd_replay.proofs.samples.sample_edges.Goals as goal

abbrev zero_edge : Edge
zero_edge = record { time = 0; start = 0 }

pub put_in-requires-clause-rises : goal.put_in-requires-clause-rises
put_in-requires-clause-rises c =
    let edges = c.args.edges.now in
    let k = c.loop-cycle.cycle in
    c.loop-cycle.invariant.ahead k (get_or edges k zero_edge) (slice_get-get_or edges k zero_edge (omega arith))
    (omega arith)

pub put_in-requires-clause-within : goal.put_in-requires-clause-within
put_in-requires-clause-within c =
    let edges = c.args.edges.now in
    let k = c.loop-cycle.cycle in
    c.requires.fronts.within k (get_or edges k zero_edge) (slice_get-get_or edges k zero_edge (omega arith))

pub put_row-requires-clause-known : goal.put_row-requires-clause-known
put_row-requires-clause-known c =
    ((get_or c.args.edges.now c.loop-cycle.cycle zero_edge).start, c.put_in.ensures.table c.loop-cycle.invariant.table)

pub returns-in-Some : goal.returns-in-Some
returns-in-Some c =
    let changes = c.args.changes.now in
    let codes = c.args.codes.now in
    let edges = c.args.edges.now in
    let k = c.loop-cycle.cycle in
    let edge : Edge = get_or edges k zero_edge in
    let here : slice_get edges k ≡ Some edge = slice_get-get_or edges k zero_edge (omega arith) in
    let table : IsTable changes c.put_in.new.last edge.start = c.put_in.ensures.table c.loop-cycle.invariant.table in
    let row : IsRowOf changes codes edge.start c.loop-cycle.values.items c.put_row.new.values.items
    (Some c.in-Some.port) =
    subst (λ o. IsRowOf changes codes edge.start c.loop-cycle.values.items c.put_row.new.values.items o) c.in-Some.is
    (c.in_ok-port.ensures.row edge.start table) in
    record {
      samples = first_blank changes edges codes k c.in-Some.port c.loop-cycle.values.items edge
          c.loop-cycle.invariant.sampled here row.0 row.1;
    }

pub loop-cycle-preserved : goal.loop-cycle-preserved
loop-cycle-preserved c =
    let changes = c.args.changes.now in
    let codes = c.args.codes.now in
    let edges = c.args.edges.now in
    let l = c.loop-cycle in
    let edge : Edge = get_or edges l.cycle zero_edge in
    let here : slice_get edges l.cycle ≡ Some edge = slice_get-get_or edges l.cycle zero_edge (omega arith) in
    let table : IsTable changes c.put_in.new.last edge.start = c.put_in.ensures.table l.invariant.table in
    let row : IsRowOf changes codes edge.start l.values.items c.put_row.new.values.items None =
    subst (λ o. IsRowOf changes codes edge.start l.values.items c.put_row.new.values.items o) c.in-None.is
    (c.in_ok-port.ensures.row edge.start table) in
    sampling_goes_on changes edges codes c.args.last.now l.cycle l.done l.last c.put_in.new.last l.values.items
    c.put_row.new.values.items edge c.requires.fronts l.invariant here table c.put_in.ensures.kept row
