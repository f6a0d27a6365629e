-- The table of a reached part accepts what the machine accepts.
use Rattle.std.proofs.Common.{◌≡◌, ℕ, zero, suc, Bool, false, eqb, List, [], ◌∷◌, map, filter, get_or, slice_get, Some}
use Rattle.std.proofs.Common.{◌↔◌, refl, sym, ap, ◌∙◌, subst, Contains}
use Rattle.std.proofs.lemmas.Bool.Decides.{Decides-eqb}
use Rattle.std.proofs.lemmas.Option.{same_Some}
use Rattle.auto_core.specs.declared.labels.Literal.{Literal}
use Rattle.auto_core.specs.declared.tables.Edge.{Edge}
use Rattle.auto_core.specs.Machine.{Machine, Letter, AcceptsFrom, Accepts}
use Rattle.auto_core.specs.Graph.{Graph, by_edge, IsReachedPart, IsStepOf, edges_from, graph_machine}
use Rattle.auto_core.proofs.Members.{Among, Contains-from_Among, Among-from_Contains}
use Rattle.auto_core.proofs.Once.{Among-slice_get, slice_get-Among, Among-filter, Among-filter_back}
use Rattle.auto_core.proofs.Steps.{Among-map, map-Among}

-- an edge of a state is an edge of the table, and the other way round
pub edge_to : (edges : List Edge) (i : ℕ) (l : List Literal) (t : ℕ) →
    Among (edges_from i edges) (l, t) → Among edges (record { from = i; label = l; to = t })
edge_to edges i l t h =
    let r = map-Among (λ (e : Edge). (e.label, e.to)) (filter (λ e. eqb e.from i) edges) (l, t) h in
    let s = Among-filter (λ (e : Edge). eqb e.from i) edges r.0 r.1 in
    let same : ◌≡◌ {A = Edge} r.0 (record { from = i; label = l; to = t }) =
    ap (λ (k : ℕ). record { from = k; label = r.0.label; to = r.0.to }) ((Decides-eqb r.0.from i).0 s.1)
    ∙ ap (λ (x : List Literal × ℕ). record { from = i; label = x.0; to = x.1 }) r.2 in
    subst (Among edges) same s.0

pub edge_from : (edges : List Edge) (i : ℕ) (l : List Literal) (t : ℕ) →
    Among edges (record { from = i; label = l; to = t }) → Among (edges_from i edges) (l, t)
edge_from edges i l t h =
    let e : Edge = record { from = i; label = l; to = t } in
    Among-map (λ (e : Edge). (e.label, e.to)) (filter (λ e. eqb e.from i) edges) e
    (Among-filter_back (λ (e : Edge). eqb e.from i) edges e h ((Decides-eqb i i).1 refl))

module _ {S : Type 0} (m : Machine S) (states : List S) (g : Graph) (part : IsReachedPart m states g) where
  accepts-at : (ss : List S) (n : ℕ) (s : S) → slice_get ss n ≡ Some s → get_or (map m.accepts ss) n false ≡ m.accepts s
  accepts-at [] n s h = absurd (let e = h in cc)
  accepts-at (t ∷ ss) zero s h = ap m.accepts (same_Some t s h)
  accepts-at (t ∷ ss) (suc n) s h = accepts-at ss n s h

  -- an edge of the table is one of the machine
  edge_back : (n k : ℕ) (s : S) (label : List Literal) → slice_get states n ≡ Some s →
      Contains (edges_from n g.edges) (label, k) →
      (next : S) × Contains (m.edges s) (label, next) × (slice_get states k ≡ Some next)
  edge_back n k s label at h =
      let e : Edge = record { from = n; label = label; to = k } in
      let stands = edge_to g.edges n label k (Among-from_Contains (edges_from n g.edges) (label, k) h) in
      let step : IsStepOf m states e = (part.edges e).0 (Contains-from_Among g.edges e stands) in
      let same : step.0 ≡ s = same_Some step.0 s (sym step.2 ∙ at) in
      (step.1, subst (λ (z : S). Contains (m.edges z) (label, step.1)) same step.4, step.3)

  -- an edge of the machine stands in the table
  edge_on : (n : ℕ) (s : S) (label : List Literal) (next : S) → slice_get states n ≡ Some s →
      Contains (m.edges s) (label, next) →
      (k : ℕ) × Contains (edges_from n g.edges) (label, k) × (slice_get states k ≡ Some next)
  edge_on n s label next at h =
      let here = (part.reached s).0 (Contains-from_Among states s (Among-slice_get states n s at)) in
      let there = (part.reached next).1 (by_edge label next here h) in
      let place = slice_get-Among states next (Among-from_Contains states next there) in
      let e : Edge = record { from = n; label = label; to = place.0 } in
      let stands = (part.edges e).1 (s, next, at, place.2, h) in
      let listed = edge_from g.edges n label place.0 (Among-from_Contains g.edges e stands) in
      (place.0, Contains-from_Among (edges_from n g.edges) (label, place.0) listed, place.2)

  words_back : (w : List Letter) (n : ℕ) (s : S) → slice_get states n ≡ Some s →
      AcceptsFrom (graph_machine g) n w → AcceptsFrom m s w
  words_back [] n s at h =
      sym (accepts-at states n s at) ∙ ap (λ (b : List Bool). get_or b n false) (sym part.accepting) ∙ h
  words_back (a ∷ w) n s at (label, k, edge, passes, rest) =
      let (next, there, named) = edge_back n k s label at edge in
      (label, next, there, passes, words_back w k next named rest)

  words_on : (w : List Letter) (n : ℕ) (s : S) → slice_get states n ≡ Some s →
      AcceptsFrom m s w → AcceptsFrom (graph_machine g) n w
  words_on [] n s at h = ap (λ (b : List Bool). get_or b n false) part.accepting ∙ accepts-at states n s at ∙ h
  words_on (a ∷ w) n s at (label, next, edge, passes, rest) =
      let (k, there, named) = edge_on n s label next at edge in
      (label, k, there, passes, words_on w k next named rest)

  pub same_words : (w : List Letter) → Accepts (graph_machine g) w ↔ Accepts m w
  same_words w = (words_back w 0 m.start part.start, words_on w 0 m.start part.start)

-- machines with one reached part accept the same lists
pub same_part : {S T : Type 0} (m : Machine S) (n : Machine T) (states : List S) (others : List T) (g : Graph)
    (w : List Letter) → IsReachedPart m states g → IsReachedPart n others g → Accepts m w ↔ Accepts n w
same_part m n states others g w h k =
    let p = same_words m states g h w in
    let q = same_words n others g k w in
    ((λ a. q.0 (p.1 a)), (λ a. p.0 (q.1 a)))
