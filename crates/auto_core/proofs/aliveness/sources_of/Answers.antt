use Rattle.std.proofs.Common.{◌≡◌, ◌∙◌, sym, ap, ℕ, List, [], ◌∷◌, ◌++◌, ◌<◌, length, map, set, get_or, vec_items}
use Rattle.std.proofs.Common.{arith, subst}
use Rattle.std.proofs.lemmas.List.{length-set, get_or-map, map-set, length-map}
use Rattle.std.proofs.lemmas.List.Elements.{All-get_or}
use Rattle.auto_core.specs.declared.tables.Edge.{Edge}
use Rattle.auto_core.proofs.Marking.{source_more}
use Rattle.auto_core.proofs.aliveness.sources_of.Goals as goal

at : (c : goal.In_ok-put_source) → c.edge-item.result.to < c.args.count
at c = subst (λ (e : Edge). e.to < c.args.count) (sym c.edge-item.is)
    (All-get_or (λ e. e.to < c.args.count) c.args.edges.now c.loop-edge.edge-index c.edge-item.result
    c.loop-edge-test.true c.requires)

below : (c : goal.In_ok-put_source) → c.edge-item.result.to < length c.loop-edge.rows.items
below c = let l = at c in omega (arith, c.loop-edge.invariant.size)

stored : (c : goal.In_ok-put_source)
    → map vec_items (set c.loop-edge.rows.items c.edge-item.result.to c.put_source.new.row)
    ≡ set (map vec_items c.loop-edge.rows.items) c.edge-item.result.to
    (get_or (map vec_items c.loop-edge.rows.items) c.edge-item.result.to [] ++ c.edge-item.result.from ∷ [])
stored c =
    map-set vec_items c.loop-edge.rows.items c.edge-item.result.to c.put_source.new.row
    ∙ ap (λ (s : List ℕ). set (map vec_items c.loop-edge.rows.items) c.edge-item.result.to s)
    (c.in_ok-put_source.ensures
    ∙ ap (λ (s : List ℕ). s ++ c.edge-item.result.from ∷ [])
    (ap vec_items c.index_mut.ensures.value
    ∙ sym (get_or-map vec_items c.loop-edge.rows.items c.edge-item.result.to c.index_mut.result.now [] (below c))))

pub loop-edge-preserved : goal.loop-edge-preserved
loop-edge-preserved c = record {
  size = length-set c.loop-edge.rows.items c.edge-item.result.to c.put_source.new.row ∙ c.loop-edge.invariant.size;
  sources = source_more c.args.edges.now c.loop-edge.edge-index c.edge-item.result
      (map vec_items c.loop-edge.rows.items) _ c.loop-edge-test.true c.edge-item.is c.loop-edge.invariant.sources
      (let l = length-map c.loop-edge.rows.items vec_items in let b = below c in omega arith)
      (stored c);
}
