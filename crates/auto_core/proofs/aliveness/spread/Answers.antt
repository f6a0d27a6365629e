use Rattle.std.proofs.Common.{◌≡◌, ◌∙◌, sym, ap, subst, ℕ, List, [], ◌<◌, length, map, get_or, vec_items, arith, All}
use Rattle.std.proofs.lemmas.List.{get_or-map, length-map}
use Rattle.auto_core.specs.declared.tables.Edge.{Edge}
use Rattle.auto_core.specs.Graph.{Graph}
use Rattle.auto_core.specs.inner.Searching.{HasSources}
use Rattle.auto_core.proofs.Marking.{state_inside, row_inside, spread_step}
use Rattle.auto_core.proofs.aliveness.spread.Goals as goal

-- the row of the state that is taken
row_in : {V : Type 0} (f : V → List ℕ) (g : Graph) (items : List V) (count state : ℕ) (v : V) (row : List ℕ) →
    state < length g.accepting → length items ≡ count → count ≡ length g.accepting
    → row ≡ f v → v ≡ get_or items state v → row ≡ get_or (map f items) state []
row_in f g items count state v row below size states is at =
    let goes : state < length items = omega arith in
    is ∙ ap f at ∙ sym (get_or-map f items state v [] goes)

between_in : (g : Graph) (edges : List Edge) → edges ≡ g.edges →
    All (λ e. e.from < length g.accepting × e.to < length g.accepting) edges →
    All (λ e. e.from < length g.accepting × e.to < length g.accepting) g.edges
between_in g edges same all = subst (All (λ (e : Edge). e.from < length g.accepting × e.to < length g.accepting))
    same all

sources_in : (g : Graph) (edges : List Edge) (rows : List (List ℕ)) → edges ≡ g.edges → HasSources edges rows →
    HasSources g.edges rows
sources_in g edges rows same has = subst (λ (s : List Edge). HasSources s rows) same has

pub index-requires : goal.index-requires
index-requires c =
    let l = state_inside c.args.table.now c.loop-state.marked.items c.loop-state.work.items c.pop.new.self.items
    c.in-Some.state c.loop-state.invariant c.in-Some.ensures.items in
    let s : length c.in_ok-sources.sources.items ≡ c.states.result = c.in_ok-sources.ensures.size in
    let k : c.states.result ≡ length c.args.table.now.accepting = c.states.ensures in
    let o = c.in_ok-sources.sources.ok in
    let goes : c.in-Some.state < length c.in_ok-sources.sources.items = omega arith in
    omega (arith, goes, o)

pub mark_all-requires : goal.mark_all-requires
mark_all-requires c =
    row_inside c.args.table.now (map vec_items c.in_ok-sources.sources.items) c.in-Some.state c.as_slice.result.now
    c.loop-state.marked.items
    (sources_in c.args.table.now _ _ c.edges.ensures.value c.in_ok-sources.ensures.sources)
    (row_in vec_items c.args.table.now c.in_ok-sources.sources.items _ c.in-Some.state c.index.result.now _
    (state_inside c.args.table.now c.loop-state.marked.items c.loop-state.work.items c.pop.new.self.items
    c.in-Some.state c.loop-state.invariant c.in-Some.ensures.items)
    c.in_ok-sources.ensures.size c.states.ensures c.as_slice.ensures.value c.index.ensures)
    (between_in c.args.table.now _ c.edges.ensures.value c.edges.ensures.between) c.loop-state.invariant.size

pub loop-state-preserved : goal.loop-state-preserved
loop-state-preserved c =
    spread_step c.args.table.now (map vec_items c.in_ok-sources.sources.items) c.in-Some.state c.as_slice.result.now
    c.loop-state.marked.items c.loop-state.work.items c.pop.new.self.items _ _
    (sources_in c.args.table.now _ _ c.edges.ensures.value c.in_ok-sources.ensures.sources)
    (length-map c.in_ok-sources.sources.items vec_items ∙ c.in_ok-sources.ensures.size ∙ c.states.ensures)
    (row_in vec_items c.args.table.now c.in_ok-sources.sources.items _ c.in-Some.state c.index.result.now _
    (state_inside c.args.table.now c.loop-state.marked.items c.loop-state.work.items c.pop.new.self.items
    c.in-Some.state c.loop-state.invariant c.in-Some.ensures.items)
    c.in_ok-sources.ensures.size c.states.ensures c.as_slice.ensures.value c.index.ensures)
    (between_in c.args.table.now _ c.edges.ensures.value c.edges.ensures.between) c.loop-state.invariant
    c.in-Some.ensures.items c.in_ok-mark_all.ensures
