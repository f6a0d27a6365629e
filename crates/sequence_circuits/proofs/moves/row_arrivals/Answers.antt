use Rattle.std.proofs.Common.{◌+◌, length, List, ap, ◌∙◌}
use Rattle.std.proofs.lemmas.List.{length-replicate}
use Rattle.circuit_core.specs.declared.nodes.Net.{Net}
use Rattle.circuit_core.specs.Run.{On}
use Rattle.sequence_circuits.specs.Guards.{numbers}
use Rattle.sequence_circuits.specs.inner.Nets.{stream_at}
use Rattle.sequence_circuits.proofs.Nets.{repeated_off}
use Rattle.sequence_circuits.proofs.Targeting.{none_first}
use Rattle.sequence_circuits.proofs.moves.row_arrivals.Goals as goal

pub take_rows-requires-clause-places : goal.take_rows-requires-clause-places
take_rows-requires-clause-places c =
    ap (λ (ks : List Net). length ks) c.in_ok-arrivals.ensures
    ∙ length-replicate (length c.args.rows.now + 1) c.in_ok-off.off

pub returns-clause-size : goal.returns-clause-size
returns-clause-size c =
    c.in_ok-take_rows.ensures.size ∙ ap (λ (ks : List Net). length ks) c.in_ok-arrivals.ensures
    ∙ length-replicate (length c.args.rows.now + 1) c.in_ok-off.off

pub returns-clause-stream : goal.returns-clause-stream
returns-clause-stream c inputs run h n within s below =
    let first = c.in_ok-arrivals.arrivals.items in
    let r0 = c.in_ok-take_rows.ensures.kept.runs inputs run h in
    none_first (On (stream_at run (numbers first) s) n) _ _
    (repeated_off run n c.in_ok-off.off (length c.args.rows.now + 1) s first c.in_ok-arrivals.ensures below
    (c.in_ok-off.ensures.stream inputs run r0 n within))
    (c.in_ok-take_rows.ensures.stream inputs run h n within s)
