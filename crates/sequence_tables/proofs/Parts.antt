-- From the list of a table's places to the renaming of its states, and back.
use Rattle.std.proofs.Common.{◌≡◌, ◌∙◌, refl, sym, ap, subst, ℕ, zero, suc, ◌<◌, Bool, false, eqb, List, [], ◌∷◌}
use Rattle.std.proofs.Common.{map, filter, length, get_or, slice_get, Some, inl, inr, arith, All, Contains}
use Rattle.std.specs.Option.{option_map}
use Rattle.std.proofs.lemmas.Bool.Decides.{Decides-eqb}
use Rattle.std.proofs.lemmas.List.{length-map, get_or-map}
use Rattle.std.proofs.lemmas.Option.{same_Some, get_or_from_slice_get, slice_get-get_or, slice_get_within}
use Rattle.std.proofs.lemmas.Option.{slice_get-map}
use Rattle.auto_core.specs.declared.labels.Literal.{Literal}
use Rattle.auto_core.specs.declared.tables.Edge.{Edge}
use Rattle.auto_core.specs.Graph.{Graph, graph_machine, edges_from, IsReachedPart, IsStepOf}
use Rattle.auto_core.specs.Machine.{Machine}
use Rattle.sequence_tables.specs.PlaceTable.{ReachedBy, by_step, IsStepIn, IsPartOf}
use Rattle.sequence_tables.proofs.Into.{Into, reached_there, reached_back}
use Rattle.sequence_tables.proofs.Members.{Among, Contains-from_Among, Among-from_Contains, Apart, AllPairs-from_Apart}
use Rattle.sequence_tables.proofs.Members.{Apart-from_AllPairs, Among-slice_get, Among-filter, Among-filter_back}
use Rattle.sequence_tables.proofs.Members.{Among-map, map-Among, map-agree, All-among, one_place}

-- an edge of a state is an edge of the table, and the other way round
edge_to : (edges : List Edge) (i : ℕ) (l : List Literal) (t : ℕ) → Among (edges_from i edges) (l, t) →
    Among edges (record { from = i; label = l; to = t })
edge_to edges i l t h =
    let r = map-Among (λ (e : Edge). (e.label, e.to)) (filter (λ e. eqb e.from i) edges) (l, t) h in
    let s = Among-filter (λ (e : Edge). eqb e.from i) edges r.0 r.1 in
    let same : ◌≡◌ {A = Edge} r.0 (record { from = i; label = l; to = t }) =
    ap (λ (k : ℕ). record { from = k; label = r.0.label; to = r.0.to }) ((Decides-eqb r.0.from i).0 s.1)
    ∙ ap (λ (x : List Literal × ℕ). record { from = i; label = x.0; to = x.1 }) r.2 in
    subst (Among edges) same s.0

edge_from : (edges : List Edge) (i : ℕ) (l : List Literal) (t : ℕ) →
    Among edges (record { from = i; label = l; to = t }) → Among (edges_from i edges) (l, t)
edge_from edges i l t h =
    let edge : Edge = record { from = i; label = l; to = t } in
    Among-map (λ (e : Edge). (e.label, e.to)) (filter (λ e. eqb e.from i) edges) edge
    (Among-filter_back (λ (e : Edge). eqb e.from i) edges edge h ((Decides-eqb i i).1 refl))

-- the place that a state has in the list
abbrev pub place_at : {T : Type 0} → T → List T → ℕ → T
place_at start places i = get_or places i start

module _ {T : Type 0} {start : T} {accepting : T → Bool} {step : T → List Literal → T → Type 0} where
  module _ (places : List T) (g : Graph) (part : IsPartOf start accepting step places g) where
    as_many : length g.accepting ≡ length places
    as_many = ap (λ (s : List Bool). length s) part.accepts ∙ length-map places accepting

    at : (i : ℕ) → i < length g.accepting → slice_get places i ≡ Some (get_or places i start)
    at i lt = slice_get-get_or places i start (omega (arith, lt, as_many))

    apart : Apart places
    apart = Apart-from_AllPairs places part.different

    step_at : (i : ℕ) (l : List Literal) (t : ℕ) → Among (edges_from i g.edges) (l, t) →
        IsStepIn step places (record { from = i; label = l; to = t })
    step_at i l t h =
        let edge : Edge = record { from = i; label = l; to = t } in
        (part.edges edge).0 (Contains-from_Among g.edges edge (edge_to g.edges i l t h))

    pub into_of_part : Into (λ i. i < length g.accepting) (graph_machine g) start accepting step (place_at start places)
    into_of_part = record {
      begins = get_or_from_slice_get places 0 start start part.first;
      owned = (let some = slice_get_within places 0 start part.first in omega (arith, some, as_many));
      different = λ i j lt below e.
          one_place places i j (get_or places i start) apart (at i lt) (at j below ∙ ap (λ (p : T). Some p) (sym e));
      accepts = λ i lt. ap (λ (s : List Bool). get_or s i false) part.accepts
          ∙ get_or-map accepting places i start false (omega (arith, lt, as_many));
      steps = λ i lt. record {
        owned = λ l t k.
            let r = step_at i l t k in
            let below = slice_get_within places t r.1 r.3 in
            omega (arith, below, as_many);
        there = λ l t k.
            let r = step_at i l t k in
            let from : get_or places i start ≡ r.0 = get_or_from_slice_get places i r.0 start r.2 in
            let to : get_or places t start ≡ r.1 = get_or_from_slice_get places t r.1 start r.3 in
            subst (λ (z : T). step z l (get_or places t start)) (sym from)
            (subst (λ (z : T). step r.0 l z) (sym to) r.4);
        back = λ l u k.
            let p : T = get_or places i start in
            let here : ReachedBy start step p =
            (part.reached p).0 (Contains-from_Among places p (Among-slice_get places i p (at i lt))) in
            let next = (part.reached u).1 (by_step l u here k) in
            let found : slice_get places next.0 ≡ Some u =
            slice_get-get_or places next.0 u next.1 ∙ ap (λ (q : T). Some q) next.2 in
            let edge : Edge = record { from = i; label = l; to = next.0 } in
            let stands = Among-from_Contains g.edges edge ((part.edges edge).1 (p, u, at i lt, found, k)) in
            (next.0, edge_from g.edges i l next.0 stands, get_or_from_slice_get places next.0 u start found);
      };
    }

  module _ {S : Type 0} {own : S → Type 0} {m : Machine S} (f : S → T) (e : Into own m start accepting step f)
      (names : List S) (g : Graph) (all : All own names) (part : IsReachedPart m names g) where
    owned : (i : ℕ) (s : S) → slice_get names i ≡ Some s → own s
    owned i s h = All-among own names s all (Among-slice_get names i s h)

    mapped : (i : ℕ) (s : S) → slice_get names i ≡ Some s → slice_get (map f names) i ≡ Some (f s)
    mapped i s h = slice_get-map f names i ∙ ap (option_map f) h

    unmapped : (xs : List S) (i : ℕ) (u : T) → slice_get (map f xs) i ≡ Some u →
        (s : S) × (slice_get xs i ≡ Some s) × (f s ≡ u)
    unmapped [] i u h = absurd (let e = h in cc)
    unmapped (x ∷ xs) zero u h = (x, refl, same_Some (f x) u h)
    unmapped (x ∷ xs) (suc i) u h = unmapped xs i u h

    apart-map : (xs : List S) → ((s : S) → Among xs s → own s) → Apart xs → Apart (map f xs)
    apart-map [] o h = tt
    apart-map (x ∷ xs) o h = (
      (λ k.
          let r = map-Among f xs (f x) k in
          h.0 (subst (Among xs) (e.different r.0 x (o r.0 (inr r.1)) (o x (inl refl)) r.2) r.1)),
      apart-map xs (λ s k. o s (inr k)) h.1,
    )

    -- the table of a machine is that of each graph that it is part of
    pub part_through : IsPartOf start accepting step (map f names) g
    part_through = record {
      first = mapped 0 m.start part.start ∙ ap (λ (u : T). Some u) e.begins;
      different = AllPairs-from_Apart (map f names)
          (apart-map names (λ s k. All-among own names s all k) (Apart-from_AllPairs names part.different));
      reached = λ u. (
        (λ h.
            let r = map-Among f names u (Among-from_Contains (map f names) u h) in
            let reached = (part.reached r.0).0 (Contains-from_Among names r.0 r.1) in
            subst (ReachedBy start step) r.2 (reached_there e r.0 reached).1),
        (λ h.
            let r = reached_back e u h in
            let known = Among-from_Contains names r.0 ((part.reached r.0).1 r.1) in
            subst (Contains (map f names)) r.2 (Contains-from_Among (map f names) (f r.0)
            (Among-map f names r.0 known))),
      );
      accepts = part.accepting
          ∙ map-agree m.accepts (λ s. accepting (f s)) names (λ s k. e.accepts s (All-among own names s all k))
          ∙ map-map names;
      edges = λ x. ((λ h. edge_there x ((part.edges x).0 h)), (λ h. (part.edges x).1 (edge_back x h)));
      once = part.once;
    }
      where
        map-map : (xs : List S) → map (λ s. accepting (f s)) xs ≡ map accepting (map f xs)
        map-map [] = refl
        map-map (x ∷ xs) = ap (λ (s : List Bool). accepting (f x) ∷ s) (map-map xs)

        edge_there : (x : Edge) → IsStepOf m names x → IsStepIn step (map f names) x
        edge_there x (p, q, from, to, there) = (
          f p,
          f q,
          mapped x.from p from,
          mapped x.to q to,
          (e.steps p (owned x.from p from)).there x.label q (Among-from_Contains (m.edges p) (x.label, q) there),
        )

        edge_back : (x : Edge) → IsStepIn step (map f names) x → IsStepOf m names x
        edge_back x (u, v, from, to, there) =
            let p = unmapped names x.from u from in
            let q = unmapped names x.to v to in
            let steps = e.steps p.0 (owned x.from p.0 p.1) in
            let here : step (f p.0) x.label (f q.0) =
            subst (λ (z : T). step z x.label (f q.0)) (sym p.2) (subst (λ (z : T). step u x.label z) (sym q.2) there) in
            let b = steps.back x.label (f q.0) here in
            let same : b.0 ≡ q.0 = e.different b.0 q.0 (steps.owned x.label b.0 b.1) (owned x.to q.0 q.1) b.2 in
            let stands : Among (m.edges p.0) (x.label, q.0) =
            subst (λ (z : S). Among (m.edges p.0) (x.label, z)) same b.1 in
            (p.0, q.0, p.1, q.1, Contains-from_Among (m.edges p.0) (x.label, q.0) stands)
