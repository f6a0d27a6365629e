use Rattle.std.proofs.Common.{◌^◌, length, List, ap, ◌∙◌, sym, subst, All, ℕ, ◌<◌}
use Rattle.circuit_core.specs.declared.nodes.Net.{Net}
use Rattle.circuit_core.specs.Run.{On}
use Rattle.first_failure.specs.declared.automaton.Next.{Next}
use Rattle.sequence_circuits.specs.Guards.{numbers, values_at}
use Rattle.sequence_circuits.proofs.Targeting.{row_moves, targets_inside}
use Rattle.sequence_circuits.proofs.moves.take_row.Goals as goal

pub valuation_nets-requires-clause-symbols : goal.valuation_nets-requires-clause-symbols
valuation_nets-requires-clause-symbols c =
    subst (All (λ (s : ℕ). s < length c.args.guards.now)) (sym c.as_slice.ensures) c.requires.row.guarded

pub take_moves-requires-clause-size : goal.take_moves-requires-clause-size
take_moves-requires-clause-size c =
    ap (λ (ks : List Net). length ks) c.as_slice-3.ensures.value ∙ c.in_ok-taken.ensures.size
    ∙ ap (λ (ss : List ℕ). 2 ^ length ss) c.as_slice.ensures ∙ sym c.requires.row.size
    ∙ sym (ap (λ (xs : List Next). length xs) c.as_slice-2.ensures)

pub take_moves-requires-clause-targets : goal.take_moves-requires-clause-targets
take_moves-requires-clause-targets c =
    targets_inside (length c.args.guards.now) c.args.failure (length c.args.arrivals.now.items) c.args.row.now
    c.as_slice-2.result.now c.requires.row c.requires.places c.as_slice-2.ensures

pub returns-clause-stream : goal.returns-clause-stream
returns-clause-stream c inputs run h n within s =
    row_moves _ _ (On (run c.args.live.0) n) run n c.args.row.now c.as_slice-2.result.now c.as_slice.result.now
    c.in_ok-taken.taken.items c.as_slice-3.result.now (values_at run (numbers c.args.guards.now) n) c.args.failure s
    c.as_slice-2.ensures c.as_slice.ensures c.as_slice-3.ensures.value c.requires.row.size
    (c.in_ok-taken.ensures.stream inputs run (c.in_ok-take_moves.ensures.kept.runs inputs run h) n within)
    (c.in_ok-take_moves.ensures.stream inputs run h n within s)
