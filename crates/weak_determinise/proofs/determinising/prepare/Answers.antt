use Rattle.std.proofs.Common.{refl}
use Rattle.weak_determinise.proofs.Done.{prepared_from}
use Rattle.weak_determinise.proofs.determinising.prepare.Goals as goal

pub returns : goal.returns
returns c = prepared_from c.args.table.now c.edges-edges.result.now c.edges-edges.ensures.value
    c.edges-edges.ensures.between c.args.places.now _ _ _ _ _ _ _ c.in_ok-labels.ensures.gathered
    c.in_ok-labels.ensures.steps c.as_slice.ensures.keys c.in_ok-symbols.ensures c.as_slice-2.ensures.value
    c.as_slice-3.ensures.keys c.in_ok-renamed.ensures refl
