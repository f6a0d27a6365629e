-- Nodes that begin with the start's set and whose moves lead to nodes are all reached sets.
use Rattle.std.proofs.Common.{◌≡◌, ◌≢◌, ℕ, zero, suc, ◌≤◌, Bool, IsTrue, List, [], ◌∷◌, length, map}
use Rattle.std.proofs.Common.{slice_get, Some, All, AllPairs, Contains, inl, inr, ◌↔◌, refl, sym, ap, ◌∙◌}
use Rattle.std.proofs.Common.{subst, arith}
use Rattle.std.proofs.lemmas.Option.{same_Some}
use Rattle.std.proofs.lemmas.List.Elements.{All-contains}
use Rattle.auto_core.specs.declared.labels.Literal.{Literal}
use Rattle.auto_core.specs.Machine.{Machine, Passes, value_in}
use Rattle.weak_determinise.proofs.Members.{Among, Contains-from_Among, Among-from_Contains, ByRecursion-among}
use Rattle.weak_determinise.proofs.Members.{ByRecursion-from}
use Rattle.weak_determinise.proofs.Once.{Apart, Among-slice_get, slice_get-Among, Apart-from_AllPairs}
use Rattle.weak_determinise.proofs.Lists.{Among-map, All-among}
use Rattle.weak_determinise.proofs.Lists.{no_longer}
use Rattle.weak_determinise.specs.declared.sets.SetNode.{SetNode}
use Rattle.weak_determinise.specs.declared.sets.Move.{Move}
use Rattle.weak_determinise.specs.declared.sets.Move.TheVariants.{Empty, Accepting, Set}
use Rattle.weak_determinise.specs.inner.Stepping.{Step}
use Rattle.weak_determinise.specs.Nodes.{IsMove, IsNode}
use Rattle.weak_determinise.specs.ReachedSets.{HasSameStates, HasStep, LeadsTo, Gives, IsReachedSet, at_start}
use Rattle.weak_determinise.specs.ReachedSets.{by_values, Leaves, HasMoreSets, HasMoreLeaving, IsTooLarge}
use Rattle.weak_determinise.specs.inner.Stepping.{AreSteps, AreSymbols, IsRenamed, AreRenamed, AreTargets}

-- ---- what the values give, from the steps

slice_get-map : {X Y : Type 0} (f : X → Y) (xs : List X) (n : ℕ) (x : X) → slice_get xs n ≡ Some x →
    slice_get (map f xs) n ≡ Some (f x)
slice_get-map f [] n x h = absurd (let e = h in cc)
slice_get-map f (y ∷ ys) zero x h = ap (λ z. Some (f z)) (same_Some y x h)
slice_get-map f (y ∷ ys) (suc n) x h = slice_get-map f ys n x h

bit_at : (bits : List Bool) (n : ℕ) (b : Bool) → slice_get bits n ≡ Some b → value_in bits n ≡ b
bit_at [] n b h = absurd (let e = h in cc)
bit_at (c ∷ cs) zero b h = same_Some c b h
bit_at (c ∷ cs) (suc n) b h = bit_at cs n b h

module _ (symbols : List ℕ) (label renamed : List Literal) (is : IsRenamed symbols label renamed) (values : ℕ →
    Bool) where
  value_at : (k x : ℕ) → slice_get symbols k ≡ Some x → value_in (map values symbols) k ≡ values x
  value_at k x at = bit_at (map values symbols) k (values x) (slice_get-map values symbols k x at)

  passes_renamed : Passes label (Some values) → Passes renamed (Some (value_in (map values symbols)))
  passes_renamed passes = ByRecursion-from (λ r. value_in (map values symbols) r.symbol ≡ r.positive) renamed (λ r h.
      let (l, there, at, sign) = (is.members r).0 h in
      value_at r.symbol l.symbol at ∙ ByRecursion-among (λ (n : Literal). values n.symbol ≡ n.positive) label l passes
      there ∙ sym sign)

  passes_back : ((l : Literal) → Among label l → Among symbols l.symbol) → Passes renamed (Some (value_in
      (map values symbols))) → Passes label (Some values)
  passes_back known passes = ByRecursion-from (λ l. values l.symbol ≡ l.positive) label (λ l h.
      let (k, lt, at) = slice_get-Among symbols l.symbol (known l h) in
      let r : Among renamed (record { symbol = k; positive = l.positive }) = (is.members (record {
        symbol = k;
        positive
            = l.positive;
      })).1 (l, h, at, refl) in
      sym (value_at k l.symbol at) ∙ ByRecursion-among (λ (n : Literal). value_in (map values symbols) n.symbol ≡
      n.positive) renamed (record { symbol = k; positive = l.positive }) passes r)

module _ (m : Machine ℕ) (set : List ℕ) (steps : List Step) (symbols : List ℕ) (renamed : List Step)
    (are : AreSteps m set steps) (known : AreSymbols steps symbols) (same : AreRenamed symbols steps renamed) where
  has_step : (step : Step) → Among steps step → HasStep m set step.label step.to
  has_step step h = let (s, there, edge, alive) = (are.members step).0 h in (
    s,
    Contains-from_Among set s there,
    Contains-from_Among (m.edges s) (step.label, step.to) edge,
    alive,
  )

  step_has : (label : List Literal) (t : ℕ) → HasStep m set label t → Among steps (record { label = label; to = t })
  step_has label t (s, there, edge, alive) = (are.members (record { label = label; to = t })).1
      (s, Among-from_Contains set s there, Among-from_Contains (m.edges s) (label, t) edge, alive)

  -- the targets of the renamed steps are the next set
  pub targets_given : (values : ℕ → Bool) (next : List ℕ) → AreTargets renamed (map values symbols) next →
      Gives m set values next
  targets_given values next targets t = (
    (λ h.
        let (r, there, passes, to) = (targets.members t).0 (Among-from_Contains next t h) in
        let (step, stands, is, same_to) = same.only r there in
        let label_passes = passes_back symbols step.label r.label is values (λ l k. (known.members l.symbol).1
        (step, l, stands, k, refl)) passes in
        let e : step.to ≡ t = sym same_to ∙ to in
        (step.label, subst (HasStep m set step.label) e (has_step step stands), label_passes)),
    (λ (label, step, passes).
        let (r, there, is, same_to) = same.all (record { label = label; to = t }) (step_has label t step) in
        Contains-from_Among next t ((targets.members t).1 (
          r,
          there,
          passes_renamed symbols label r.label is values
              passes,
          same_to,
        ))),
  )

  -- the symbols of the steps are those that leave the set
  pub symbols_leave : (x : ℕ) → Contains symbols x ↔ Leaves m set x
  symbols_leave x = (
    (λ h.
        let (step, l, stands, among, e) = (known.members x).0 (Among-from_Contains symbols x h) in
        (step.label, step.to, l, has_step step stands, Contains-from_Among step.label l among, e)),
    (λ (label, t, l, step, among, e).
        Contains-from_Among symbols x ((known.members x).1 (
          record { label = label; to = t },
          l,
          step_has label t step,
          Among-from_Contains label l among,
          e,
        ))),
  )

-- ---- all reached sets

some_member : {X : Type 0} (xs : List X) → xs ≢ [] → (x : X) × Contains xs x
some_member [] h = absurd (h refl)
some_member (x ∷ xs) h = (x, (0, omega arith, refl))

module _ (m : Machine ℕ) where
  leads_same : (a b : List ℕ) (values : ℕ → Bool) (t : ℕ) → HasSameStates a b → LeadsTo m a values t →
      LeadsTo m b values t
  leads_same a b values t same (label, (s, there, edge, alive), passes) = (
    label,
    (s, (same s).0 there, edge, alive),
    passes,
  )

  other_way : (a b : List ℕ) → HasSameStates a b → HasSameStates b a
  other_way a b same s = ((same s).1, (same s).0)

  module _ (nodes : List SetNode) (start : (node : SetNode) × (slice_get nodes 0 ≡ Some node) ×
      (node.places ≡ m.start ∷ [])) (all : All (IsNode m nodes) nodes) where
    pub each : (set : List ℕ) → IsReachedSet m set → (node : SetNode) × Contains nodes node × HasSameStates node.places
        set
    each _ (at_start set same) =
        let (node, at, alone) = start in (
          node,
          Contains-from_Among nodes node (Among-slice_get nodes 0 node at),
          subst (λ (places : List ℕ). HasSameStates places set) (sym alone) (λ s. (
            (λ h. elim (Among-from_Contains (m.start ∷ []) s h) [ inl e ↦ (same s).1 (sym e) | inr n ↦ absurd n ]),
            (λ h. Contains-from_Among (m.start ∷ []) s (inl (sym ((same s).0 h)))),
          )),
        )
    each _ (by_values set next values before gives some none) =
        let (node, there, same) = each set before in
        let (move, at, is) = (All-contains (IsNode m nodes) nodes node all there).moves values in
        from_move set next values gives some none node same move is
      where
        from_move : (set next : List ℕ) (values : ℕ → Bool) → Gives m set values next → next ≢ [] →
            All (λ t. ¬ IsTrue (m.accepts t)) next → (node : SetNode) → HasSameStates node.places set
            → (move : Move) → IsMove m nodes node.places values move → (other : SetNode) × Contains nodes other ×
            HasSameStates other.places next
        from_move set next values gives some none node same Empty is =
            let (t, h) = some_member next some in absurd (is t (leads_same set node.places values t
            (other_way node.places set same) ((gives t).0 h)))
        from_move set next values gives some none node same Accepting (t, leads, accepts) =
            absurd (All-contains (λ t. ¬ IsTrue (m.accepts t)) next t none ((gives t).1 (leads_same node.places set
            values t same leads)) accepts)
        from_move set next values gives some none node same (Set n) (other, at, gives2, some2, none2) = (
          other,
          Contains-from_Among nodes other (Among-slice_get nodes n other at),
          (λ s. (
            (λ h. (gives s).1 (leads_same node.places set values s same ((gives2 s).0 h))),
            (λ h. (gives2 s).1 (leads_same set node.places values s (other_way node.places set same) ((gives s).0 h))),
          )),
        )

    -- ---- no more than the nodes

    abbrev Different : List (List ℕ) → Type 0
    Different [] = Unit {0}
    Different (s ∷ ss) = ((t : List ℕ) → Among ss t → ¬ HasSameStates s t) × Different ss

    different : (sets : List (List ℕ)) → AllPairs (λ a b. ¬ HasSameStates a b) sets → Different sets
    different [] h = tt
    different (s ∷ ss) h = (
      (λ t there same. let (k, lt, at) = Contains-from_Among ss t there in h 0 (suc k) t (omega arith) (omega arith)
          (subst (HasSameStates s) (sym at) same)),
      different ss (λ i j d lt within. h (suc i) (suc j) d (omega arith) (omega arith)),
    )

    names_of : (sets : List (List ℕ)) → ((s : List ℕ) → Among sets s → IsReachedSet m s) → List (List ℕ)
    names_of [] f = []
    names_of (s ∷ ss) f = (each s (f s (inl refl))).0.places ∷ names_of ss (λ t h. f t (inr h))

    length-names : (sets : List (List ℕ)) (f : (s : List ℕ) → Among sets s → IsReachedSet m s) →
        length (names_of sets f) ≡ length sets
    unfolding names_of
    length-names [] f = refl
    length-names (s ∷ ss) f = ap suc (length-names ss (λ t h. f t (inr h)))

    name_from : (sets : List (List ℕ)) (f : (s : List ℕ) → Among sets s → IsReachedSet m s) (p : List ℕ) →
        Among (names_of sets f) p → (t : List ℕ) × Among sets t × HasSameStates p t × Among (map
        (λ n. n.places) nodes) p
    unfolding names_of
    name_from [] f p h = absurd h
    name_from (s ∷ ss) f p (inl e) = (
      s,
      inl refl,
      subst (λ (q : List ℕ). HasSameStates q s) e (each s (f s (inl refl))).2,
      subst (Among (map (λ n. n.places) nodes)) e (Among-map (λ (n : SetNode). n.places) nodes (each s (f s
          (inl refl))).0 (Among-from_Contains nodes (each s (f s (inl refl))).0 (each s (f s (inl refl))).1)),
    )
    name_from (s ∷ ss) f p (inr h) = let (t, there, same, among) = name_from ss (λ t h. f t (inr h)) p h in
        (t, inr there, same, among)

    names-apart : (sets : List (List ℕ)) (f : (s : List ℕ) → Among sets s → IsReachedSet m s) → Different sets →
        Apart (names_of sets f)
    unfolding names_of
    names-apart [] f d = tt
    names-apart (s ∷ ss) f d = (
      (λ h.
          let (t, there, same, among) = name_from ss (λ t h. f t (inr h)) (each s (f s (inl refl))).0.places h in
          let own : HasSameStates (each s (f s (inl refl))).0.places s = (each s (f s (inl refl))).2 in
          d.0 t there (λ x. ((λ k. (same x).0 ((own x).1 k)), (λ k. (own x).0 ((same x).1 k))))),
      names-apart ss (λ t h. f t (inr h)) d.1,
    )

    pub not_more : (limit : ℕ) → length nodes ≤ limit → ¬ HasMoreSets m limit
    not_more limit few (sets, apart, reached, many) =
        let f : (s : List ℕ) → Among sets s → IsReachedSet m s = λ s h. All-among (IsReachedSet m) sets s reached h in
        let short = no_longer (names_of sets f) (map (λ n. n.places) nodes) (names-apart sets f (different sets apart))
        (λ p h. (name_from sets f p h).3) in
        let same = length-names sets f in
        let mapped : length (map (λ (n : SetNode). n.places) nodes) ≡ length nodes = length-mapped nodes in
        omega (arith, short, same, mapped, many)
      where
        length-mapped : (ns : List SetNode) → length (map (λ (n : SetNode). n.places) ns) ≡ length ns
        length-mapped [] = refl
        length-mapped (n ∷ ns) = ap suc (length-mapped ns)

    pub not_more_leaving : (limit : ℕ) → All (λ node. length node.leaving ≤ limit) nodes → (set : List ℕ) →
        IsReachedSet m set → ¬ HasMoreLeaving m set limit
    not_more_leaving limit few set reached (symbols, apart, leaving, many) =
        let (node, there, same) = each set reached in
        let is : IsNode m nodes node = All-contains (IsNode m nodes) nodes node all there in
        let small : length node.leaving ≤ limit = All-contains (λ (node : SetNode). length node.leaving ≤ limit) nodes
        node few there in
        let short = no_longer symbols node.leaving (Apart-from_AllPairs symbols apart) (λ x h.
        let (label, t, l, (s, member, edge, alive), among, e) = All-among (Leaves m set) symbols x leaving h in
        Among-from_Contains node.leaving x ((is.leaves x).1 (
          label,
          t,
          l,
          (s, (same s).1 member, edge, alive),
          among,
          e,
        ))) in
        omega (arith, short, small, many)

    pub not_too_large : (max_sets max_symbols : ℕ) → length nodes ≤ max_sets →
        All (λ node. length node.leaving ≤ max_symbols) nodes → ¬ IsTooLarge m max_sets max_symbols
    not_too_large max_sets max_symbols few small (inl more) = not_more max_sets few more
    not_too_large max_sets max_symbols few small (inr (set, reached, more)) = not_more_leaving max_symbols small set
        reached more
