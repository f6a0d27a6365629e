-- Steps over places, and sets that are expanded one after the other.
use Rattle.std.proofs.Common.{◌≡◌, ℕ, zero, suc, ◌+◌, ◌<◌, ◌≤◌, Bool, eqb, List, [], ◌∷◌, ◌++◌, length}
use Rattle.std.proofs.Common.{map, take, filter, get_or, slice_get, Some, All, AllPairs, inl, inr}
use Rattle.std.proofs.Common.{refl, sym, ap, ◌∙◌, subst, arith, length-append}
use Rattle.std.proofs.lemmas.Option.{slice_get_within, slice_get-get_or}
use Rattle.auto_core.specs.declared.labels.Literal.{Literal}
use Rattle.auto_core.specs.declared.tables.Edge.{Edge}
use Rattle.auto_core.specs.Graph.{Graph, graph_machine, edges_from}
use Rattle.weak_determinise.proofs.Members.{Among, Among-get_or, Contains-from_Among, Among-from_Contains}
use Rattle.weak_determinise.proofs.Once.{Among-append, Among-slice_get, slice_get-Among, Among-filter}
use Rattle.weak_determinise.proofs.Once.{position-Among, position-absent, Apart-push}
use Rattle.weak_determinise.proofs.Lists.{map-Among, All-among, All-from_among, take-next}
use Rattle.weak_determinise.specs.declared.marking.Steps.{Steps}
use Rattle.weak_determinise.specs.inner.Stepping.{step_to, steps_in, IsGathered}
use Rattle.weak_determinise.specs.inner.Stepping.{AreSymbolsOf, AreRenamedLabels}
use Rattle.weak_determinise.specs.declared.sets.SetNode.{SetNode}
use Rattle.weak_determinise.specs.declared.sets.Move.{Move}
use Rattle.weak_determinise.specs.declared.sets.Move.TheVariants.{Empty, Accepting, Set}
use Rattle.weak_determinise.specs.inner.Numbers.{IsRising}
use Rattle.weak_determinise.specs.inner.Stepping.{AreSteps, AreRenamed}
use Rattle.weak_determinise.specs.inner.Moving.{Apart, same_places}
use Rattle.weak_determinise.specs.ReachedSets.{HasSameStates, IsReachedSet, by_values}
use Rattle.weak_determinise.specs.ReachedSets.{IsTooLarge}
use Rattle.weak_determinise.specs.inner.Expanding.{IsNextSet, Widens, TellsSet, IsNodeOf, IsTooLargeAt, IsPrepared}
use Rattle.weak_determinise.specs.inner.Expanding.{IsPartWay}
use Rattle.weak_determinise.proofs.Gathering.{default_same, steps_in-Among, symbols_are, all_renamed, renamed_even}
use Rattle.weak_determinise.proofs.Gathering.{renamed_from}
use Rattle.weak_determinise.proofs.Rising.{rising_determined}
use Rattle.weak_determinise.proofs.Moves.{same_places-Decides}

slice_get-left : {X : Type 0} (xs ys : List X) (i : ℕ) (x : X) → slice_get xs i ≡ Some x →
    slice_get (xs ++ ys) i ≡ Some x
slice_get-left [] ys i x h = absurd (let e = h in cc)
slice_get-left (y ∷ xs) ys zero x h = h
slice_get-left (y ∷ xs) ys (suc i) x h = slice_get-left xs ys i x h

pub pairs : (x : List ℕ) (xs : List (List ℕ)) → (Among xs x → ⊥) → ((s : List ℕ) → Among (x ∷ xs) s → IsRising s) →
    AllPairs (λ a b. ¬ HasSameStates a b) xs → AllPairs (λ a b. ¬ HasSameStates a b) (x ∷ xs)
pairs x xs out rising rest zero zero d lt within = absurd (omega arith)
pairs x xs out rising rest zero (suc j) d lt within = λ same.
    let there : Among xs (get_or xs j d) = Among-get_or xs j (get_or xs j d) (omega arith) (sym (default_same xs j d
    (omega arith))) in
    let one : x ≡ get_or xs j d = rising_determined x (get_or xs j d) (rising x (inl refl)) (rising (get_or xs j d)
    (inr there))
    (λ z h. Among-from_Contains (get_or xs j d) z ((same z).0 (Contains-from_Among x z h)))
    (λ z h. Among-from_Contains x z ((same z).1 (Contains-from_Among (get_or xs j d) z h))) in
    out (subst (Among xs) (sym one) there)
pairs x xs out rising rest (suc i) zero d lt within = absurd (omega arith)
pairs x xs out rising rest (suc i) (suc j) d lt within = rest i j d (omega arith) (omega arith)

module _ (g : Graph) (between : All (λ e. e.from < length g.accepting × e.to < length g.accepting) g.edges) where
  target_owned : (s : ℕ) (label : List Literal) (t : ℕ) → Among (edges_from s g.edges) (label, t) →
      t < length g.accepting
  target_owned s label t h =
      let (edge, filtered, parts) = map-Among (λ (e : Edge). (e.label, e.to)) (filter (λ e. eqb e.from s) g.edges)
      (label, t) h in
      let kept = Among-filter (λ (e : Edge). eqb e.from s) g.edges edge filtered in
      subst (λ (n : ℕ). n < length g.accepting) (ap (λ (p : List Literal × ℕ). p.1) parts) (All-among (λ
      (e : Edge). e.from < length g.accepting × e.to < length g.accepting) g.edges edge between kept.0).1

  -- each row has states of the table
  pub rows_owned : (set : List ℕ) (labels : List (List Literal)) (rows : List (List ℕ)) → IsGathered labels rows →
      AreSteps (graph_machine g) set (steps_in labels rows) → All (λ row. All (λ s. s < length g.accepting) row) rows
  rows_owned set labels rows gathered are = All-from_among (λ row. All (λ s. s < length g.accepting) row) rows (λ row h.
      All-from_among (λ s. s < length g.accepting) row (λ t k.
      let (n, lt, stands) = slice_get-Among rows row h in
      let below : n < length labels = omega (arith, lt, gathered.even) in
      let at = slice_get-get_or labels n [] below in
      let step : Among (steps_in labels rows) (step_to (get_or labels n []) t) =
      steps_in-Among labels rows n (get_or labels n []) row t at stands k in
      let (s, member, edge, alive) = (are.members (step_to (get_or labels n []) t)).0 step in
      target_owned s (get_or labels n []) t edge))

  pub prepared_by : (set symbols : List ℕ) (labels : List (List Literal)) (rows : List (List ℕ)) (prepared : Steps) →
      IsGathered labels rows → AreSteps (graph_machine g) set (steps_in labels rows) → AreSymbolsOf labels symbols →
      AreRenamedLabels symbols labels prepared.labels.items → prepared.rows.items ≡ rows →
      IsPrepared (graph_machine g) (length g.accepting) set symbols prepared
  prepared_by set symbols labels rows prepared gathered are known renamed same = record {
    steps = steps_in labels rows;
    are = are;
    known = symbols_are labels rows symbols gathered known;
    same = subst (λ (s : List (List ℕ)). AreRenamed symbols (steps_in labels rows) (steps_in prepared.labels.items s))
        (sym same) (all_renamed symbols labels prepared.labels.items rows renamed);
    fits = record {
      even = renamed_even symbols labels prepared.labels.items renamed ∙ gathered.even
          ∙ ap (λ (s : List (List ℕ)). length s) (sym same);
      known = All-from_among (λ label. All (λ l. l.symbol < length symbols) label) prepared.labels.items (λ r h.
          let (label, is) = renamed_from symbols labels prepared.labels.items renamed r h in
          All-from_among (λ l. l.symbol < length symbols) r (λ l k.
          let (n, among, at, sign) = (is.members l).0 k in slice_get_within symbols l.symbol n.symbol at));
      owned = subst (All (λ row. All (λ s. s < length g.accepting) row)) (sym same) (rows_owned set labels rows gathered
          are);
    };
  }

  next_owned : (set next : List ℕ) → IsNextSet (graph_machine g) set next → All (λ p. p < length g.accepting) next
  next_owned set next is = All-from_among (λ (p : ℕ). p < length g.accepting) next (λ t h.
      let (label, (s, member, edge, alive), passes) = (is.gives t).0 (Contains-from_Among next t h) in
      target_owned s label t (Among-from_Contains (edges_from s g.edges) (label, t) edge))

  -- ---- one more set is expanded

  tells_wider : (names more : List (List ℕ)) (set : List ℕ) (values : ℕ → Bool) (move : Move) →
      TellsSet (graph_machine g) names set values move → TellsSet (graph_machine g) (names ++ more) set values move
  tells_wider names more set values Empty h = h
  tells_wider names more set values Accepting h = h
  tells_wider names more set values (Set n) (next, at, gives, some, none) = (
    next,
    slice_get-left names more n next at,
    gives,
    some,
    none,
  )

  node_wider : (names more : List (List ℕ)) (max_symbols : ℕ) (set : List ℕ) (node : SetNode) →
      IsNodeOf (graph_machine g) names max_symbols set node → IsNodeOf (graph_machine g) (names ++ more) max_symbols set
      node
  node_wider names more max_symbols set node is = record {
    places = is.places;
    rising = is.rising;
    leaves = is.leaves;
    small = is.small;
    count = is.count;
    moves = λ values. let (move, at, tells) = is.moves values in (
      move,
      at,
      tells_wider names more set values move
          tells,
    );
  }

  module _ (limit max_symbols : ℕ) where
    -- a set that was seen, or that some values give from a reached one, is reached
    next_reached : (set next : List ℕ) → IsReachedSet (graph_machine g) set → IsNextSet (graph_machine g) set next →
        IsReachedSet (graph_machine g) next
    next_reached set next reached is = by_values set next is.values reached is.gives is.some is.none

    pub set_expanded : (from : ℕ) (names names' : List (List ℕ)) (nodes nodes' : List SetNode) (set : List ℕ)
        (node : SetNode) → IsPartWay (graph_machine g) (length g.accepting) limit max_symbols from names nodes
        → slice_get names from ≡ Some set → Widens (graph_machine g) set limit names names' →
        IsNodeOf (graph_machine g) names' max_symbols set node → nodes' ≡ nodes ++ node ∷ []
        → IsPartWay (graph_machine g) (length g.accepting) limit max_symbols (from + 1) names' nodes'
    set_expanded from names names' nodes nodes' set node part at widens is pushed =
        let (more, grown) = widens.kept in
        let there : Among names set = Among-slice_get names from set at in
        subst (IsPartWay (graph_machine g) (length g.accepting) limit max_symbols (from + 1) names') (sym pushed)
        (record {
          first = subst (λ (s : List (List ℕ)). slice_get s 0 ≡ Some (0 ∷ [])) (sym grown) (slice_get-left names more 0
              (0 ∷ []) part.first);
          reached = λ next h. elim (widens.new next h) [
            | inl k ↦ part.reached next k
            | inr n ↦ next_reached set next
                (part.reached set there) n
          ];
          rising = λ next h. elim (widens.new next h) [ inl k ↦ part.rising next k | inr n ↦ n.rising ];
          owned = λ next h. elim (widens.new next h) [ inl k ↦ part.owned next k | inr n ↦ next_owned set next n ];
          apart = widens.apart part.apart;
          few = widens.few part.few;
          places = map-push nodes node ∙ ap (λ (p : List ℕ). map (λ (n : SetNode). n.places) nodes ++ p ∷ []) is.places
              ∙ ap (λ (s : List (List ℕ)). s ++ set ∷ []) part.places
              ∙ sym (take-next names from set at) ∙ take-wider names more (from + 1) (let l = slice_get_within names
              from set at in omega (arith, l)) ∙ ap (take (from + 1)) (sym grown);
          made = λ other h. elim (Among-append nodes (node ∷ []) other h) [
            | inl k ↦ subst (λ (s : List (List ℕ)). IsNodeOf (graph_machine g) s max_symbols other.places other)
                (sym grown) (node_wider names more max_symbols other.places other (part.made other k))
            | inr k ↦ elim k [
              | inl e ↦ subst (λ (n : SetNode). IsNodeOf (graph_machine g) names' max_symbols n.places n) e (subst (λ
                  (s : List ℕ). IsNodeOf (graph_machine g) names' max_symbols s node) (sym is.places) is)
              | inr n ↦ absurd n
            ]
          ];
        })
      where
        map-push : (ns : List SetNode) (n : SetNode) → map (λ (n : SetNode). n.places) (ns ++ n ∷ []) ≡ map (λ
            (n : SetNode). n.places) ns ++ n.places ∷ []
        map-push [] n = refl
        map-push (x ∷ xs) n = ap (λ (s : List (List ℕ)). x.places ∷ s) (map-push xs n)

        take-wider : (xs ys : List (List ℕ)) (k : ℕ) → k ≤ length xs → take k xs ≡ take k (xs ++ ys)
        take-wider [] ys zero le = refl
        take-wider [] ys (suc k) le = absurd (omega arith)
        take-wider (x ∷ xs) ys zero le = refl
        take-wider (x ∷ xs) ys (suc k) le = ap (λ (s : List (List ℕ)). x ∷ s) (take-wider xs ys k (omega arith))

    -- ---- too large

    pub different_sets : (names : List (List ℕ)) → Apart names → ((s : List ℕ) → Among names s → IsRising s) →
        AllPairs (λ a b. ¬ HasSameStates a b) names
    different_sets [] apart rising = λ i j d lt within. absurd (omega arith)
    different_sets (x ∷ xs) apart rising = pairs x xs apart.0 rising (different_sets xs apart.1 (λ s h. rising s
        (inr h)))

    pub too_large_after : (from : ℕ) (names : List (List ℕ)) (nodes : List SetNode) (set : List ℕ) →
        IsPartWay (graph_machine g) (length g.accepting) limit max_symbols from names nodes
        → slice_get names from ≡ Some set → IsTooLargeAt (graph_machine g) limit max_symbols set names →
        IsTooLarge (graph_machine g) limit max_symbols
    too_large_after from names nodes set part at (inl more) = inr (
      set,
      part.reached set (Among-slice_get names from set
          at),
      more,
    )
    too_large_after from names nodes set part at (inr (names', widens, (next, is, full))) =
        let there : Among names set = Among-slice_get names from set at in
        let few : length names' ≤ limit = widens.few part.few in
        let apart' : Apart names' = widens.apart part.apart in
        let absent : Among names' next → ⊥ = λ h. let l = (position-Among same_places same_places-Decides names' next
        h).0 in omega (arith, l, few, full) in
        let at_end = position-absent same_places same_places-Decides names' next absent in
        let long = length-append names' (next ∷ []) in
        let rising : (s : List ℕ) → Among (names' ++ next ∷ []) s → IsRising s = λ s h. elim (Among-append names'
        (next ∷ []) s h) [
          | inl k ↦ elim (widens.new s k) [ inl j ↦ part.rising s j | inr n ↦ n.rising ]
          | inr k ↦ elim k [ inl e ↦ subst IsRising e is.rising | inr n ↦ absurd n ]
        ] in
        let reached : (s : List ℕ) → Among (names' ++ next ∷ []) s → IsReachedSet (graph_machine g) s = λ s h. elim
        (Among-append names' (next ∷ []) s h) [
          | inl k ↦ elim (widens.new s k) [
            | inl j ↦ part.reached s j
            | inr n ↦ next_reached set s
                (part.reached set there) n
          ]
          | inr k ↦ elim k [
            | inl e ↦ subst (IsReachedSet (graph_machine g)) e (next_reached set next
                (part.reached set there) is)
            | inr n ↦ absurd n
          ]
        ] in
        inl (
          names' ++ next ∷ [],
          different_sets (names' ++ next ∷ []) (Apart-push names' next apart' absent) rising,
          All-from_among (IsReachedSet (graph_machine g)) (names' ++ next ∷ []) reached,
          omega (arith, at_end, long, full),
        )
