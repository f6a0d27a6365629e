-- Rows made of reached sets tell the first failure.
use Rattle.std.proofs.Common.{◌≡◌, ◌≢◌, ℕ, zero, suc, ◌<◌, Bool, IsTrue, List, [], ◌∷◌, ◌++◌, Option, None, Some}
use Rattle.std.proofs.Common.{All, Contains, length, map, replicate, slice_get, ◌↔◌, refl, sym, ap, ◌∙◌, subst, arith}
use Rattle.std.proofs.lemmas.Option.{same_Some, slice_get_within}
use Rattle.std.proofs.lemmas.List.Elements.{All-contains}
use Rattle.auto_core.specs.Machine.{Machine, Letter, AcceptsFrom, Accepts}
use Rattle.weak_determinise.specs.declared.sets.SetNode.{SetNode}
use Rattle.weak_determinise.specs.declared.sets.Move.{Move}
use Rattle.weak_determinise.specs.declared.sets.Move.TheVariants.{Empty, Accepting, Set}
use Rattle.weak_determinise.specs.ReachedSets.{LeadsTo, Gives}
use Rattle.weak_determinise.specs.Nodes.{number_of, IsMove, IsNode, AreReachedSets}
use Rattle.first_failure.specs.declared.automaton.Next.{Next}
use Rattle.first_failure.specs.declared.automaton.Next.TheVariants.{Fail, Done, Go}
use Rattle.first_failure.specs.declared.automaton.FailRow.{FailRow}
use Rattle.first_failure.specs.declared.automaton.FailAuto.{FailAuto}
use Rattle.first_failure.specs.FirstFailure.{next_of, row_of, if_there, next_in, next_at, lead, IsRow, letters}
use Rattle.first_failure.specs.FirstFailure.{HasAcceptedPrefix, CanBeAccepted, TellsFirstFailure}

-- ---- lists

slice_get-map : {X Y : Type 0} (f : X → Y) (xs : List X) (n : ℕ) (x : X) → slice_get xs n ≡ Some x →
    slice_get (map f xs) n ≡ Some (f x)
slice_get-map f [] n x h = absurd (let e = h in cc)
slice_get-map f (y ∷ ys) zero x h = ap (λ z. Some (f z)) (same_Some y x h)
slice_get-map f (y ∷ ys) (suc n) x h = slice_get-map f ys n x h

slice_get-Contains : {X : Type 0} (xs : List X) (n : ℕ) (x : X) → slice_get xs n ≡ Some x → Contains xs x
slice_get-Contains [] n x h = absurd (let e = h in cc)
slice_get-Contains (y ∷ ys) zero x h = (0, omega arith, same_Some y x h)
slice_get-Contains (y ∷ ys) (suc n) x h = let (k, lt, e) = slice_get-Contains ys n x h in (suc k, omega arith, e)

some_member : {X : Type 0} (xs : List X) → xs ≢ [] → (x : X) × Contains xs x
some_member [] h = absurd (h refl)
some_member (x ∷ xs) h = (x, (0, omega arith, refl))

-- ---- what is accepted from a set

module _ (m : Machine ℕ) where
  tops : (w : List Letter) (s : ℕ) → AcceptsFrom m s w → AcceptsFrom m s (replicate (length w) None)
  tops [] s h = h
  tops (a ∷ w) s (label, next, edge, passes, rest) = (label, next, edge, tt, tops w next rest)

  abbrev FromSet : List ℕ → List Letter → Type 0
  FromSet set w = (s : ℕ) × Contains set s × AcceptsFrom m s w

  abbrev Prefix : List ℕ → List (ℕ → Bool) → Type 0
  Prefix set vs = (p : List (ℕ → Bool)) × (q : List (ℕ → Bool)) × (vs ≡ p ++ q) × (p ≢ []) × FromSet set (letters p)

  abbrev Can : List ℕ → List (ℕ → Bool) → Type 0
  Can set vs = (n : ℕ) × FromSet set (letters vs ++ replicate n None)

  through : (set : List ℕ) (v : ℕ → Bool) (w : List Letter) → FromSet set (Some v ∷ w) →
      (t : ℕ) × LeadsTo m set v t × AcceptsFrom m t w
  through set v w (s, there, (label, t, edge, passes, rest)) = (
    t,
    (
      label,
      (
        s,
        there,
        edge,
        (length w, tops w t rest),
      ),
      passes,
    ),
    rest,
  )

  back : (set : List ℕ) (v : ℕ → Bool) (w : List Letter) (t : ℕ) → LeadsTo m set v t → AcceptsFrom m t w →
      FromSet set (Some v ∷ w)
  back set v w t (label, (s, there, edge, alive), passes) rest = (s, there, (label, t, edge, passes, rest))

  -- what a place of the rows says of a list that was read from the set
  abbrev Outcome : ℕ → List ℕ → List (ℕ → Bool) → Next → Type 0
  Outcome count set vs Fail = (¬ Prefix set vs) × (¬ Can set vs)
  Outcome count set vs Done = Prefix set vs
  Outcome count set vs (Go k) = (¬ Prefix set vs) × Can set vs × (k < count)

  no_prefix : (set : List ℕ) → ¬ Prefix set []
  no_prefix set ([], q, e, some, rest) = some refl
  no_prefix set (v ∷ p, q, e, some, rest) = absurd (let f = e in cc)

  -- a prefix begins with the first values
  begins : (set : List ℕ) (v : ℕ → Bool) (vs : List (ℕ → Bool)) → Prefix set (v ∷ vs)
      → (p : List (ℕ → Bool)) × (q : List (ℕ → Bool)) × (vs ≡ p ++ q) × FromSet set (Some v ∷ letters p)
  begins set v vs ([], q, e, some, rest) = absurd (some refl)
  begins set v vs (u ∷ p, q, e, some, rest) =
      let first : u ≡ v = cc in
      let others : vs ≡ p ++ q = cc in
      (p, q, others, subst (λ (x : ℕ → Bool). FromSet set (Some x ∷ letters p)) first rest)

  none_after : (set : List ℕ) (v : ℕ → Bool) (vs : List (ℕ → Bool)) (count : ℕ) → ((t : ℕ) → ¬ LeadsTo m set v t) →
      Outcome count set (v ∷ vs) Fail
  none_after set v vs count none = (
    (λ h. let (p, q, e, from) = begins set v vs h in let (t, leads, rest) = through set v (letters p) from in none t
        leads),
    (λ (n, from). let (t, leads, rest) = through set v (letters vs ++ replicate n None) from in none t leads),
  )

  accepted : (set : List ℕ) (v : ℕ → Bool) (vs : List (ℕ → Bool)) (t : ℕ) → LeadsTo m set v t → IsTrue (m.accepts t) →
      Prefix set (v ∷ vs)
  accepted set v vs t leads accepts = (v ∷ [], vs, refl, (λ e. absurd (let f = e in cc)), back set v [] t leads accepts)

  -- ---- from a set to the next

  module _ (set next : List ℕ) (v : ℕ → Bool) (gives : Gives m set v next) (none : All (λ t. ¬ IsTrue
      (m.accepts t)) next) where
    from_on : (w : List Letter) → FromSet set (Some v ∷ w) → FromSet next w
    from_on w h = let (t, leads, rest) = through set v w h in (t, (gives t).1 leads, rest)

    from_back : (w : List Letter) → FromSet next w → FromSet set (Some v ∷ w)
    from_back w (t, there, rest) = back set v w t ((gives t).0 there) rest

    prefix_split : (vs p q : List (ℕ → Bool)) → vs ≡ p ++ q → FromSet next (letters p) → Prefix next vs
    prefix_split vs [] q e (t, there, accepts) = absurd (All-contains (λ t. ¬ IsTrue (m.accepts t)) next t none there
        accepts)
    prefix_split vs (u ∷ p) q e from = (u ∷ p, q, e, (λ f. absurd (let g = f in cc)), from)

    prefix_on : (vs : List (ℕ → Bool)) → Prefix set (v ∷ vs) → Prefix next vs
    prefix_on vs h = let (p, q, e, from) = begins set v vs h in prefix_split vs p q e (from_on (letters p) from)

    prefix_back : (vs : List (ℕ → Bool)) → Prefix next vs → Prefix set (v ∷ vs)
    prefix_back vs (p, q, e, some, from) = (
      v ∷ p,
      q,
      ap (λ (xs : List (ℕ → Bool)). v ∷ xs) e,
      (λ f. absurd
          (let g = f in cc)),
      from_back (letters p) from,
    )

    can_on : (vs : List (ℕ → Bool)) → Can set (v ∷ vs) → Can next vs
    can_on vs (n, from) = (n, from_on (letters vs ++ replicate n None) from)

    can_back : (vs : List (ℕ → Bool)) → Can next vs → Can set (v ∷ vs)
    can_back vs (n, from) = (n, from_back (letters vs ++ replicate n None) from)

    outcome_back : (vs : List (ℕ → Bool)) (count : ℕ) (o : Next) → Outcome count next vs o →
        Outcome count set (v ∷ vs) o
    outcome_back vs count Fail (unread, never) = ((λ h. unread (prefix_on vs h)), (λ h. never (can_on vs h)))
    outcome_back vs count Done h = prefix_back vs h
    outcome_back vs count (Go k) (unread, can, there) = ((λ h. unread (prefix_on vs h)), can_back vs can, there)

  -- ---- the rows

  module _ (nodes : List SetNode) (sets : AreReachedSets m nodes) where
    abbrev auto : FailAuto
    auto = record { rows = map row_of nodes }

    stays_fail : (vs : List (ℕ → Bool)) → lead auto Fail vs ≡ Fail
    stays_fail [] = refl
    stays_fail (v ∷ vs) = stays_fail vs

    stays_done : (vs : List (ℕ → Bool)) → lead auto Done vs ≡ Done
    stays_done [] = refl
    stays_done (v ∷ vs) = stays_done vs

    next_is : (n : ℕ) (node : SetNode) (v : ℕ → Bool) (move : Move) → slice_get nodes n ≡ Some node →
        slice_get node.moves (number_of (map v node.leaving)) ≡ Some move
        → next_at auto (Go n) v ≡ next_of move
    next_is n node v move at there =
        ap (λ (row : Option FailRow). next_in row v) (slice_get-map row_of nodes n node at)
        ∙ ap if_there (slice_get-map next_of node.moves (number_of (map v node.leaving)) move there)

    after : (vs : List (ℕ → Bool)) → ((n : ℕ) (node : SetNode) → slice_get nodes n ≡ Some node → Can node.places [] →
        Outcome (length nodes) node.places vs (lead auto (Go n) vs))
        → (set : List ℕ) (v : ℕ → Bool) (move : Move) → IsMove m nodes set v move →
        Outcome (length nodes) set (v ∷ vs) (lead auto (next_of move) vs)
    after vs rest set v Empty none = subst (Outcome (length nodes) set (v ∷ vs)) (sym (stays_fail vs))
        (none_after set v vs (length nodes) none)
    after vs rest set v Accepting (t, leads, accepts) = subst (Outcome (length nodes) set (v ∷ vs)) (sym
        (stays_done vs)) (accepted set v vs t leads accepts)
    after vs rest set v (Set k) (next, at, gives, some, none) =
        let (t, there) = some_member next.places some in
        let (label, step, passes) = (gives t).0 there in
        let (n, tops) = step.3 in
        outcome_back set next.places v gives none vs (length nodes) (lead auto (Go k) vs) (rest k next at (
          n,
          (t, there, tops),
        ))

    step : (vs : List (ℕ → Bool)) → ((n : ℕ) (node : SetNode) → slice_get nodes n ≡ Some node → Can node.places [] →
        Outcome (length nodes) node.places vs (lead auto (Go n) vs))
        → (v : ℕ → Bool) (n : ℕ) (node : SetNode) → slice_get nodes n ≡ Some node →
        Outcome (length nodes) node.places (v ∷ vs) (lead auto (Go n) (v ∷ vs))
    step vs rest v n node at =
        let (move, there, is) = (All-contains (IsNode m nodes) nodes node sets.all_nodes (slice_get-Contains nodes n
        node at)).moves v in
        subst (λ (next : Next). Outcome (length nodes) node.places (v ∷ vs) (lead auto next vs)) (sym
        (next_is n node v move at there)) (after vs rest node.places v move is)

    tells : (vs : List (ℕ → Bool)) (n : ℕ) (node : SetNode) → slice_get nodes n ≡ Some node → Can node.places [] →
        Outcome (length nodes) node.places vs (lead auto (Go n) vs)
    tells [] n node at can = (no_prefix node.places, can, slice_get_within nodes n node at)
    tells (v ∷ vs) n node at can = step vs (tells vs) v n node at

    -- ---- from the start

    from_start : (w : List Letter) → FromSet (m.start ∷ []) w → Accepts m w
    from_start w (s, (zero, lt, e), h) = subst (λ (t : ℕ). AcceptsFrom m t w) (sym e) h
    from_start w (s, (suc k, lt, e), h) = absurd (omega arith)

    to_start : (w : List Letter) → Accepts m w → FromSet (m.start ∷ []) w
    to_start w h = (m.start, (0, omega arith, refl), h)

    prefix_is : (vs : List (ℕ → Bool)) → Prefix (m.start ∷ []) vs ↔ HasAcceptedPrefix m vs
    prefix_is vs = (
      (λ (p, q, e, some, h). (p, q, e, some, from_start (letters p) h)),
      (λ (p, q, e, some, h). (p, q, e, some, to_start (letters p) h)),
    )

    can_is : (vs : List (ℕ → Bool)) → Can (m.start ∷ []) vs ↔ CanBeAccepted m vs
    can_is vs = (
      (λ (n, h). (n, from_start (letters vs ++ replicate n None) h)),
      (λ (n, h). (
        n,
        to_start
            (letters vs ++ replicate n None) h,
      )),
    )

    told : (v : ℕ → Bool) (vs : List (ℕ → Bool)) → Outcome (length nodes) (m.start ∷ []) (v ∷ vs) (lead auto (Go 0)
        (v ∷ vs))
    told v vs =
        let (node, at, alone) = sets.start in
        subst (λ (set : List ℕ). Outcome (length nodes) set (v ∷ vs) (lead auto (Go 0) (v ∷ vs))) alone (step vs
        (tells vs) v 0 node at)

    rows_there : (k : ℕ) → (k < length nodes) → k < length (map row_of nodes)
    rows_there k lt = lt_map nodes k lt
      where
        lt_map : (xs : List SetNode) (i : ℕ) → i < length xs → i < length (map row_of xs)
        lt_map [] i h = absurd (omega arith)
        lt_map (x ∷ xs) zero h = omega arith
        lt_map (x ∷ xs) (suc i) h = let l = lt_map xs i (omega arith) in omega (arith, l)

    done_by : (vs : List (ℕ → Bool)) (o : Next) → Outcome (length nodes) (m.start ∷ []) vs o →
        (o ≡ Done) ↔ HasAcceptedPrefix m vs
    done_by vs Fail (unread, never) = ((λ e. absurd (let f = e in cc)), (λ h. absurd (unread ((prefix_is vs).1 h))))
    done_by vs Done h = ((λ e. (prefix_is vs).0 h), (λ k. refl))
    done_by vs (Go k) (unread, can, there) = (
      (λ e. absurd (let f = e in cc)),
      (λ h. absurd (unread
          ((prefix_is vs).1 h))),
    )

    fail_by : (vs : List (ℕ → Bool)) (o : Next) → Outcome (length nodes) (m.start ∷ []) vs o →
        (o ≡ Fail) ↔ ((¬ HasAcceptedPrefix m vs) × (¬ CanBeAccepted m vs))
    fail_by vs Fail (unread, never) = (
      (λ e. ((λ h. unread ((prefix_is vs).1 h)), (λ h. never ((can_is vs).1 h)))),
      (λ k. refl),
    )
    fail_by vs Done h = ((λ e. absurd (let f = e in cc)), (λ (unread, never). absurd (unread ((prefix_is vs).0 h))))
    fail_by vs (Go k) (unread, can, there) = (
      (λ e. absurd (let f = e in cc)),
      (λ (none, never). absurd (never
          ((can_is vs).0 can))),
    )

    row_by : (vs : List (ℕ → Bool)) (o : Next) → Outcome (length nodes) (m.start ∷ []) vs o →
        IsRow auto o ↔ ((¬ HasAcceptedPrefix m vs) × CanBeAccepted m vs)
    row_by vs Fail (unread, never) = ((λ e. absurd e), (λ (none, can). absurd (never ((can_is vs).1 can))))
    row_by vs Done h = ((λ e. absurd e), (λ (none, can). absurd (none ((prefix_is vs).0 h))))
    row_by vs (Go k) (unread, can, there) = (
      (λ e. ((λ h. unread ((prefix_is vs).1 h)), (can_is vs).0 can)),
      (λ e. rows_there k there),
    )

    done_of : (vs : List (ℕ → Bool)) → (lead auto (Go 0) vs ≡ Done) ↔ HasAcceptedPrefix m vs
    done_of [] = ((λ e. absurd (let f = e in cc)), (λ h. absurd (no_prefix (m.start ∷ []) ((prefix_is []).1 h))))
    done_of (v ∷ vs) = done_by (v ∷ vs) (lead auto (Go 0) (v ∷ vs)) (told v vs)

    fail_of : (vs : List (ℕ → Bool)) → vs ≢ [] → (lead auto (Go 0) vs ≡ Fail) ↔ ((¬ HasAcceptedPrefix m vs) ×
        (¬ CanBeAccepted m vs))
    fail_of [] some = absurd (some refl)
    fail_of (v ∷ vs) some = fail_by (v ∷ vs) (lead auto (Go 0) (v ∷ vs)) (told v vs)

    row_of_list : (vs : List (ℕ → Bool)) → vs ≢ [] → IsRow auto (lead auto (Go 0) vs) ↔ ((¬ HasAcceptedPrefix m vs) ×
        CanBeAccepted m vs)
    row_of_list [] some = absurd (some refl)
    row_of_list (v ∷ vs) some = row_by (v ∷ vs) (lead auto (Go 0) (v ∷ vs)) (told v vs)

    pub tells_first_failure : TellsFirstFailure m (record { rows = map row_of nodes })
    tells_first_failure = record {
      first = let (node, at, alone) = sets.start in rows_there 0 (slice_get_within nodes 0 node at);
      done = done_of;
      fail = fail_of;
      row = row_of_list;
    }
