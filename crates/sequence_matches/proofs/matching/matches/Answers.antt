use Rattle.std.proofs.Common.{◌≡◌, ◌<◌, ℕ, List, Some, length, slice_get, sym, subst}
use Rattle.psl_model.specs.View.{sere_of}
use Rattle.auto_core.specs.Machine.{value_in}
use Rattle.symbol_alphabet.specs.Symbols.{truths}
use Rattle.circuit_core.specs.declared.nodes.Net.{Net}
use Rattle.sequence_circuits.specs.Guards.{numbers, values_at}
use Rattle.sequence_matches.proofs.Accepting.{matched}
use Rattle.sequence_matches.proofs.matching.matches.Goals as goal

pub guard_nets-requires : goal.guard_nets-requires
guard_nets-requires c = record { guards = c.in_ok-table.ensures.guards c.args.net.now.widths c.requires.guards }

pub returns-clause-stream : goal.returns-clause-stream
returns-clause-stream c inputs run h n lt =
    let symbols = c.table_of.new.symbols in
    let widths = c.args.net.now.widths in
    let shown = subst (λ (ks : List Net). (n : ℕ) (values : List ℕ) → slice_get inputs.trace n ≡ Some values →
    (s : ℕ) → s < length symbols →
    values_at run (numbers ks) n s ≡ value_in (truths widths symbols values) s) (sym c.as_slice.ensures.value)
    (c.in_ok-guards.ensures.shown inputs run (c.in_ok-found.ensures.kept.runs inputs run h)) in
    let same = matched widths symbols c.in_ok-table.table (sere_of c.args.sere.now) c.in_ok-table.ensures.numbered
    c.in_ok-table.ensures.words inputs.trace run (numbers c.as_slice.result.now) shown (run c.args.start.0)
    (run c.args.clear.0) n lt in
    let found = c.in_ok-found.ensures.stream inputs run h n lt in
    ((λ on. same.0 (found.0 on)), (λ some. found.1 (same.1 some)))
