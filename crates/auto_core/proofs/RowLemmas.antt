-- A state's edges stand in its row.
use Rattle.std.proofs.Common.{◌≡◌, ℕ, zero, suc, ◌+◌, ◌-◌, ◌<◌, eqb, List, [], ◌∷◌, length, map, filter, get_or}
use Rattle.std.proofs.Common.{take, drop, slice_get, Some, false, refl, sym, ap, ◌∙◌, subst, arith, length-take}
use Rattle.std.proofs.Common.{length-drop, All}
use Rattle.std.proofs.lemmas.Option.{slice_get-map, slice_get_read}
use Rattle.std.proofs.lemmas.List.Elements.{All-same, All-weaker}
use Rattle.std.specs.Option.{option_map}
use Rattle.auto_core.specs.declared.tables.Edge.{Edge}
use Rattle.auto_core.specs.declared.tables.Row.{Row}
use Rattle.auto_core.specs.Graph.{Graph, edges_from}
use Rattle.auto_core.specs.inner.Rows.{HasEdgesOf, IsFiled}

pub length-map : {X Y : Type 0} (f : X → Y) (xs : List X) → length (map f xs) ≡ length xs
length-map f [] = refl
length-map f (x ∷ xs) = ap suc (length-map f xs)

pub get_or-map : {X Y : Type 0} (f : X → Y) (xs : List X) (i : ℕ) (x : X) (y : Y) → i < length xs →
    get_or (map f xs) i y ≡ f (get_or xs i x)
get_or-map f [] i x y h = absurd (omega arith)
get_or-map f (z ∷ xs) zero x y h = refl
get_or-map f (z ∷ xs) (suc i) x y h = get_or-map f xs i x y (omega arith)

pub slice_get-take : {X : Type 0} (xs : List X) (n i : ℕ) → i < n → slice_get (take n xs) i ≡ slice_get xs i
slice_get-take xs zero i h = absurd (omega arith)
slice_get-take [] (suc n) i h = refl
slice_get-take (x ∷ xs) (suc n) zero h = refl
slice_get-take (x ∷ xs) (suc n) (suc i) h = slice_get-take xs n i (omega arith)

pub slice_get-drop : {X : Type 0} (xs : List X) (n i : ℕ) → slice_get (drop n xs) i ≡ slice_get xs (n + i)
slice_get-drop xs zero i = let e : i ≡ 0 + i = omega arith in ap (slice_get xs) e
slice_get-drop [] (suc n) i = refl
slice_get-drop (x ∷ xs) (suc n) i = let e : suc n + i ≡ suc (n + i) = omega arith in slice_get-drop xs n i
    ∙ sym (ap (slice_get (x ∷ xs)) e)

abbrev pub view_of : List Row → List Edge → Graph
view_of rows edges = record { accepting = map (λ r. r.accepts) rows; edges = edges }

module _ (rows : List Row) (edges : List Edge) (g : Graph) (view : view_of rows edges ≡ g) where
  pub states-view : length g.accepting ≡ length rows
  states-view = ap (λ (h : Graph). length h.accepting) (sym view) ∙ length-map (λ (r : Row). r.accepts) rows

  pub edges-view : edges ≡ g.edges
  edges-view = ap (λ (h : Graph). h.edges) view

module _ (edges : List Edge) (n : ℕ) (row : Row) (has : HasEdgesOf edges n row) where
  of_n : List Edge
  of_n = filter (λ e. eqb e.from n) edges

  pub length-row : length (edges_from n edges) ≡ row.end - row.first
  length-row =
      length-map (λ (e : Edge). (e.label, e.to)) (filter (λ e. eqb e.from n) edges)
      ∙ ap (λ (s : List Edge). length s) (sym has.there)
      ∙ length-take (row.end - row.first) (drop row.first edges)
      ∙ (let d : length (drop row.first edges) ≡ length edges - row.first = length-drop row.first edges in
      omega (arith, has.in_order, has.within))

  pub edge_in_row : (place : ℕ) → place < row.end - row.first → slice_get (filter (λ e. eqb e.from n) edges) place ≡
      slice_get edges (row.first + place)
  edge_in_row place h =
      ap (λ (s : List Edge). slice_get s place) (sym has.there)
      ∙ slice_get-take (drop row.first edges) (row.end - row.first) place h
      ∙ slice_get-drop edges row.first place

-- the two facts that `Table::row` ensures
pub row_facts : (rows : List Row) (edges : List Edge) (g : Graph) (view : view_of rows edges ≡ g)
    (filed : IsFiled rows edges) (n : ℕ) (row : Row)
    → n < length g.accepting → row ≡ get_or rows n row → HasEdgesOf g.edges n row ×
    (row.accepts ≡ get_or g.accepting n false)
row_facts rows edges g view filed n row lt is =
    let states : length g.accepting ≡ length rows = states-view rows edges g view in
    let below : n < length rows = omega arith in (
      subst (λ (s : List Edge). HasEdgesOf s n row) (edges-view rows edges g view)
          (filed.rows_there n row (slice_get_read rows (length rows) n row refl below is)),
      ap (λ (r : Row). r.accepts) is ∙ sym (get_or-map (λ (r : Row). r.accepts) rows n row false below)
          ∙ ap (λ (h : Graph). get_or h.accepting n false) view,
    )

-- what `Table::edges` ensures
pub between-view : (rows : List Row) (edges : List Edge) (g : Graph) (view : view_of rows edges ≡ g)
    (filed : IsFiled rows edges) (shown : List Edge) → shown ≡ edges
    → All (λ e. e.from < length g.accepting × e.to < length g.accepting) shown
between-view rows edges g view filed shown same =
    let states : length g.accepting ≡ length rows = states-view rows edges g view in
    All-same (λ (e : Edge). e.from < length g.accepting × e.to < length g.accepting) shown edges same
    (All-weaker (λ (e : Edge). e.from < length rows × e.to < length rows)
    (λ (e : Edge). e.from < length g.accepting × e.to < length g.accepting)
    (λ e h. (omega (arith, h.0), omega (arith, h.1))) edges filed.between)

-- the edge that `Table::edge` finds
pub edge_facts : (g : Graph) (n place : ℕ) (row : Row) (edges : List Edge) (edge : Edge) →
    HasEdgesOf g.edges n row → edges ≡ g.edges → place < length (edges_from n g.edges)
    → (row.first + place < length edges) ×
    (edge ≡ get_or edges (row.first + place) edge → slice_get (filter (λ e. eqb e.from n) g.edges) place ≡ Some
    edge)
edge_facts g n place row edges edge has same there =
    let count : length (edges_from n g.edges) ≡ row.end - row.first = length-row g.edges n row has in
    let long : length edges ≡ length g.edges = ap (λ (s : List Edge). length s) same in
    let inside : row.first + place < length edges = omega (arith, has.in_order, has.within) in (
      inside,
      λ is. edge_in_row g.edges n row has place (omega arith)
          ∙ ap (λ (s : List Edge). slice_get s (row.first + place)) (sym same) ∙ slice_get_read edges (length edges)
          (row.first + place) edge refl inside is,
    )

-- that edge in the machine of the table
pub edge_of_machine : (edges : List Edge) (n place : ℕ) (edge : Edge) →
    slice_get (filter (λ e. eqb e.from n) edges) place ≡ Some edge → slice_get (edges_from n edges) place ≡ Some
    (edge.label, edge.to)
edge_of_machine edges n place edge h = slice_get-map (λ (e : Edge). (e.label, e.to))
    (filter (λ e. eqb e.from n) edges) place ∙ ap (option_map (λ (e : Edge). (e.label, e.to))) h
