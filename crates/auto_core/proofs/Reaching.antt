-- When no state is left, what was seen is the graph of the automaton.
use Rattle.std.proofs.Common.{◌≡◌, ℕ, zero, suc, ◌+◌, ◌<◌, ◌≤◌, ◌^◌, Bool, List, [], ◌∷◌, length, map}
use Rattle.std.proofs.Common.{slice_get, Some, inl, inr, ◌⊎◌, refl, sym, ap, ◌∙◌, subst, arith}
use Rattle.std.specs.Bool.{Decides}
use Rattle.std.specs.List.{position_or_len}
use Rattle.std.proofs.lemmas.List.{take_all}
use Rattle.std.proofs.lemmas.List.Elements.{All-same, All-nil, All-cons}
use Rattle.std.proofs.lemmas.Option.{same_Some}
use Rattle.indexmap.specs.IndexSet.{insert_key}
use Rattle.auto_core.specs.declared.labels.Literal.{Literal}
use Rattle.auto_core.specs.declared.tables.Edge.{Edge}
use Rattle.auto_core.specs.declared.tables.Row.{Row}
use Rattle.auto_core.specs.Machine.{Machine}
use Rattle.auto_core.specs.inner.Rows.{IsFiled}
use Rattle.auto_core.specs.Graph.{Graph, Reached, at_start, by_edge, ReachesMoreThan}
use Rattle.auto_core.specs.inner.Order.{Step, IsGraphOf, same_edge, numbered, steps_from, steps_of}
use Rattle.auto_core.specs.inner.Exploring.{IsExplored, AreFiled}
use Rattle.auto_core.proofs.Members.{Among, Among-from_Contains}
use Rattle.auto_core.proofs.SameLabel.{same_edge-Decides}
use Rattle.auto_core.proofs.Once.{Apart, AllPairs-from_Apart, Apart-from_AllPairs, Among-append, Among-left}
use Rattle.auto_core.proofs.Once.{Among-right, slice_get-Among}
use Rattle.auto_core.proofs.Once.{once-Among, position-Among}
use Rattle.auto_core.proofs.Steps.{Among-map, map-Among, All-among, All-from_among, names-among, names-apart}

-- ---- a list of different elements is no longer than one that has them all

without : {X : Type 0} (ys : List X) (x : X) → Among ys x → List X
without [] x h = []
without (y ∷ ys) x (inl e) = ys
without (y ∷ ys) x (inr h) = y ∷ without ys x h

length-without : {X : Type 0} (ys : List X) (x : X) (h : Among ys x) → length ys ≡ suc (length (without ys x h))
unfolding without
length-without [] x h = absurd h
length-without (y ∷ ys) x (inl e) = refl
length-without (y ∷ ys) x (inr h) = ap suc (length-without ys x h)

Among-without : {X : Type 0} (ys : List X) (x : X) (h : Among ys x) (z : X) → Among ys z →
    (x ≡ z) ⊎ Among (without ys x h) z
unfolding without
Among-without [] x h z k = absurd h
Among-without (y ∷ ys) x (inl e) z (inl f) = inl (sym e ∙ f)
Among-without (y ∷ ys) x (inl e) z (inr k) = inr k
Among-without (y ∷ ys) x (inr h) z (inl f) = inr (inl f)
Among-without (y ∷ ys) x (inr h) z (inr k) = elim (Among-without ys x h z k) [ inl e ↦ inl e | inr l ↦ inr (inr l) ]

pub no_longer : {X : Type 0} (xs ys : List X) → Apart xs → ((x : X) → Among xs x → Among ys x) → length xs ≤ length ys
no_longer [] ys apart into = omega arith
no_longer (x ∷ xs) ys apart into =
    let here : Among ys x = into x (inl refl) in
    let shorter = length-without ys x here in
    let rest = no_longer xs (without ys x here) apart.1 (λ z k. elim (Among-without ys x here z (into z (inr k))) [
      | inl e ↦ absurd (apart.0 (subst (Among xs) (sym e) k))
      | inr l ↦ l
    ]) in
    omega arith

-- ---- the steps of the states

pub steps-there : {S : Type 0} (m : Machine S) (k : ℕ) (ss : List S) (n : ℕ) (s : S) (label : List Literal)
    (next : S) → slice_get ss n ≡ Some s → Among (m.edges s) (label, next)
    → Among (steps_from m k ss) (record { from = k + n; label = label; to = next })
steps-there m k [] n s label next h there = absurd (let e = h in cc)
steps-there m k (t ∷ ss) zero s label next h there =
    let e : k ≡ k + 0 = omega arith in
    Among-left (steps_of m k t) (steps_from m (suc k) ss) (record { from = k + 0; label = label; to = next })
    (subst (λ (i : ℕ). Among (steps_of m k t) (record { from = i; label = label; to = next })) e
    (Among-map (λ (e : List Literal × _). record { from = k; label = e.0; to = e.1 }) (m.edges t) (label, next)
    (subst (λ (z : _). Among (m.edges z) (label, next)) (sym (same_Some t s h)) there)))
steps-there m k (t ∷ ss) (suc n) s label next h there =
    let e : suc k + n ≡ k + suc n = omega arith in
    Among-right (steps_of m k t) (steps_from m (suc k) ss) (record { from = k + suc n; label = label; to = next })
    (subst (λ (i : ℕ). Among (steps_from m (suc k) ss) (record { from = i; label = label; to = next })) e
    (steps-there m (suc k) ss n s label next h there))

pub steps-from : {S : Type 0} (m : Machine S) (k : ℕ) (ss : List S) (step : Step S) → Among (steps_from m k ss) step
    → (n : ℕ) × (s : S) × (slice_get ss n ≡ Some s) × (step.from ≡ k + n) × Among (m.edges s) (step.label, step.to)
steps-from m k [] step h = absurd h
steps-from m k (t ∷ ss) step h =
    elim (Among-append (steps_of m k t) (steps_from m (suc k) ss) step h) [
      | inl f ↦ let (e, there, same) =
          map-Among (λ (e : List Literal × _). record { from = k; label = e.0; to = e.1 }) (m.edges t) step f in (
            0,
            t,
            refl,
            (let i : k ≡ step.from = ap (λ (z : Step _). z.from) same in omega arith),
            subst (λ (z : Step _). Among (m.edges t) (z.label, z.to)) same there,
          )
      | inr f ↦ let (n, s, at, from, there) = steps-from m (suc k) ss step f in
          (suc n, s, at, omega (arith, from), there)
    ]

module _ {S : Type 0} (eq : S → S → Bool) (decides : (x y : S) → Decides (eq x y) (x ≡ y)) (own : S → Type 0)
    (m : Machine S) (limit : ℕ) where
  -- ---- the start

  pub start_seen : (names0 names : List S) (edges : List Edge) (start : S) → names0 ≡ [] → edges ≡ [] →
      start ≡ m.start → own start
      → position_or_len (eq start) names0 < limit → names ≡ insert_key eq names0 start →
      IsExplored eq own m limit [] names edges
  start_seen names0 names edges start none no_edges is owned room named =
      let alone : names ≡ m.start ∷ [] = named ∙ ap (λ (s : List S). insert_key eq s start) none
      ∙ ap (λ (s : S). s ∷ []) is in
      let nowhere : position_or_len (eq start) names0 ≡ 0 = ap (position_or_len (eq start)) none in
      record {
        named = alone;
        owned = All-same own names (m.start ∷ []) alone (All-cons own m.start [] (subst own is owned) (All-nil own));
        reached = All-same (Reached m) names (m.start ∷ []) alone
            (All-cons (Reached m) m.start [] at_start (All-nil (Reached m)));
        few = let l : length names ≡ 1 = ap (λ (s : List S). length s) alone in omega (arith, room);
        joined = no_edges;
      }

  pub start_too_many : (names0 : List S) (start : S) → names0 ≡ [] → limit ≤ position_or_len (eq start) names0 →
      ReachesMoreThan m limit
  start_too_many names0 start none full =
      let nowhere : position_or_len (eq start) names0 ≡ 0 = ap (position_or_len (eq start)) none in (
        m.start ∷ [],
        AllPairs-from_Apart (m.start ∷ []) ((λ f. f), tt),
        All-cons (Reached m) m.start [] at_start
            (All-nil (Reached m)),
        omega (arith, full),
      )

  -- ---- all reached states are named

  module _ (names : List S) (edges : List Edge)
      (seen : IsExplored eq own m limit (steps_from m 0 names) names edges) where
    closed : (s : S) (label : List Literal) (next : S) → Among names s → Among (m.edges s) (label, next) →
        Among names next
    closed s label next h there =
        let (n, lt, at) = slice_get-Among names s h in
        names-among eq decides own m limit (steps_from m 0 names) names edges seen next
        (inr (Among-map (λ (e : Step S). e.to) (steps_from m 0 names)
        (record { from = 0 + n; label = label; to = next }) (steps-there m 0 names n s label next at there)))

    pub reached_named : (s : S) → Reached m s → Among names s
    reached_named s at_start = names-among eq decides own m limit (steps_from m 0 names) names edges seen m.start
        (inl refl)
    reached_named s (by_edge {s = t} label next r there) = closed t label next (reached_named t r)
        (Among-from_Contains (m.edges t) (label, next) there)

    pub few_reached : ReachesMoreThan m limit → ⊥
    few_reached (states, different, reached, more) =
        let short = no_longer states names (Apart-from_AllPairs states different)
        (λ s h. reached_named s (All-among (Reached m) states s reached h)) in
        omega (arith, more, seen.few)

    pub filed_all : (rows : List Row) → AreFiled m names edges rows → length rows ≡ length names → limit < 2 ^ 32 →
        IsFiled rows edges
    filed_all rows filed all fits = record {
      some = (let h = Among-some names m.start
          (names-among eq decides own m limit (steps_from m 0 names) names edges seen m.start (inl refl)) in
          omega (arith, all));
      countable = omega (arith, all, seen.few, fits);
      rows_there = filed.rows_there;
      between = All-from_among (λ e. e.from < length rows × e.to < length rows) edges (λ e h.
          let (step, k, same) = map-Among (numbered eq names) (steps_from m 0 names) e
          (once-Among same_edge same_edge-Decides (map (numbered eq names) (steps_from m 0 names)) e
          (subst (λ (s : List Edge). Among s e) seen.joined h)) in
          let there : Among names step.to = names-among eq decides own m limit (steps_from m 0 names) names edges
          seen step.to (inr (Among-map (λ (e : Step S). e.to) (steps_from m 0 names) step k)) in
          let below = (position-Among eq decides names step.to there).0 in
          let to : position_or_len (eq step.to) names ≡ e.to = ap (λ (x : Edge). x.to) same in
          (All-among (λ e. e.from < length rows) edges e filed.below h, omega (arith, all)));
    }
      where
        Among-some : {X : Type 0} (xs : List X) (x : X) → Among xs x → 0 < length xs
        Among-some [] x h = absurd h
        Among-some (y ∷ xs) x h = omega arith

    pub graph_all : (rows : List Row) (g : Graph) → AreFiled m names edges rows → length rows ≡ length names →
        g.accepting ≡ map (λ r. r.accepts) rows → g.edges ≡ edges
        → IsGraphOf eq own m names g
    graph_all rows g filed all accepting same = record {
      named = seen.named;
      different = AllPairs-from_Apart names
          (names-apart eq decides own m limit (steps_from m 0 names) names edges seen);
      owned = seen.owned;
      reached = seen.reached;
      accepting = accepting ∙ filed.accepting
          ∙ ap (map m.accepts) (take_all (length rows) names (let e = all in omega arith));
      edges = same ∙ seen.joined;
    }
