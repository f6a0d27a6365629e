-- The edges of a chain by their places.
use Rattle.std.proofs.Common.{◌≡◌, ◌∙◌, refl, sym, ap, subst, ℕ, zero, suc, ◌+◌, ◌-◌, ◌*◌, ◌/◌, ◌%◌, ◌<◌, ◌≤◌, ◌^◌}
use Rattle.std.proofs.Common.{Bool, true, false, cond, List, [], ◌++◌, map, length, arith, length-append}
use Rattle.std.proofs.lemmas.List.{length-map}
use Rattle.std.proofs.lemmas.Nat.{mul-le}
use Rattle.std.proofs.Math.Nat.{div-lt_iff_lt-mul}
use Rattle.auto_core.specs.declared.labels.Literal.{Literal}
use Rattle.auto_core.specs.Edges.{renamed, HasAtMost, LeadsTo, PutsEdge}
use Rattle.auto_core.specs.Machine.{Machine}
use Rattle.sequence_tables.specs.inner.Copies.{later, firsts, following, chain_edges, chain_machine}
use Rattle.sequence_tables.proofs.Chains.{later_le}
use Rattle.sequence_tables.proofs.Places.{place_split, leads-left, leads-right, leads-renamed, puts-left, puts-right}
use Rattle.sequence_tables.proofs.Places.{puts-renamed}

some_right : (m n k : ℕ) → k < m * n → 0 < n
some_right m zero k h = absurd (omega arith)
some_right m (suc n) k h = omega arith

module _ {S : Type 0} (m : Machine S) where
  pub length-firsts : (i c : ℕ) → length (firsts m i c) ≡ c * length (m.edges m.start)
  length-firsts i zero = omega arith
  length-firsts i (suc c) =
      omega (
        arith,
        length-append (map (renamed {U = ℕ × S} (λ q. (suc i, q))) (m.edges m.start)) (firsts m (suc i) c),
        length-firsts (suc i) c,
        length-map (m.edges m.start) (renamed {U = ℕ × S} (λ q. (suc i, q))),
      )

  pub firsts-place : (i c past n : ℕ) → n ≡ length (m.edges m.start) → past < length (firsts m i c) →
      (0 < n) × (past / n < c) × (past % n < length (m.edges m.start))
  firsts-place i c past n e h =
      let whole : past < c * n = subst (λ (z : ℕ). past < z) (length-firsts i c ∙ ap (λ (z : ℕ). c * z) (sym e)) h in
      let some : 0 < n = some_right c n past whole in
      (some, (div-lt_iff_lt-mul some).1 whole, omega (arith, some))

  leads-firsts : (i c j r k : ℕ) (q : S) → k ≡ j * length (m.edges m.start) + r → j < c →
      LeadsTo (m.edges m.start) r q → LeadsTo (firsts m i c) k (i + 1 + j, q)
  leads-firsts i zero j r k q e lt h = absurd (omega arith)
  leads-firsts i (suc c) zero r k q e lt h =
      let place : r ≡ k = omega arith in
      let number : ◌≡◌ {A = ℕ} (suc i) (i + 1 + 0) = omega arith in
      leads-left (map (renamed {U = ℕ × S} (λ q. (suc i, q))) (m.edges m.start)) (firsts m (suc i) c) k (i + 1 + 0, q)
      (subst (λ (z : ℕ). LeadsTo {S = ℕ × S} (map (renamed (λ q. (suc i, q))) (m.edges m.start)) k (z, q)) number
      (subst (λ (z : ℕ). LeadsTo {S = ℕ × S} (map (renamed (λ q. (suc i, q))) (m.edges m.start)) z (suc i, q)) place
      (leads-renamed {T = ℕ × S} (λ q. (suc i, q)) (m.edges m.start) r q h)))
  leads-firsts i (suc c) (suc j) r k q e lt h =
      let number : ◌≡◌ {A = ℕ} (suc i + 1 + j) (i + 1 + suc j) = omega arith in
      leads-right (map (renamed {U = ℕ × S} (λ q. (suc i, q))) (m.edges m.start)) (firsts m (suc i) c)
      (j * length (m.edges m.start) + r) k (i + 1 + suc j, q)
      (omega (arith, length-map (m.edges m.start) (renamed {U = ℕ × S} (λ q. (suc i, q)))))
      (subst (λ (z : ℕ). LeadsTo (firsts m (suc i) c) (j * length (m.edges m.start) + r) (z, q)) number
      (leads-firsts (suc i) c j r (j * length (m.edges m.start) + r) q refl (omega arith) h))

  puts-firsts : (i c j r k : ℕ) (old new : List Literal) → k ≡ j * length (m.edges m.start) + r → j < c →
      PutsEdge (m.edges m.start) r old new → PutsEdge (firsts m i c) k old new
  puts-firsts i zero j r k old new e lt h = absurd (omega arith)
  puts-firsts i (suc c) zero r k old new e lt h =
      let place : r ≡ k = omega arith in
      puts-left (map (renamed {U = ℕ × S} (λ q. (suc i, q))) (m.edges m.start)) (firsts m (suc i) c) k old new
      (subst (λ (z : ℕ). PutsEdge {S = ℕ × S} (map (renamed (λ q. (suc i, q))) (m.edges m.start)) z old new) place
      (puts-renamed {T = ℕ × S} (λ q. (suc i, q)) (m.edges m.start) r old new h))
  puts-firsts i (suc c) (suc j) r k old new e lt h =
      puts-right (map (renamed {U = ℕ × S} (λ q. (suc i, q))) (m.edges m.start)) (firsts m (suc i) c)
      (j * length (m.edges m.start) + r) k old new
      (omega (arith, length-map (m.edges m.start) (renamed {U = ℕ × S} (λ q. (suc i, q)))))
      (puts-firsts (suc i) c j r (j * length (m.edges m.start) + r) old new refl (omega arith) h)

  pub firsts_leads : (i c past n : ℕ) (start q : S) → n ≡ length (m.edges start) → start ≡ m.start →
      past < length (firsts m i c) → LeadsTo (m.edges start) (past % n) q →
      LeadsTo (firsts m i c) past (i + 1 + past / n, q)
  firsts_leads i c past n start q e s h l =
      let f : n ≡ length (m.edges m.start) = e ∙ ap (λ (z : S). length (m.edges z)) s in
      let at = firsts-place i c past n f h in
      leads-firsts i c (past / n) (past % n) past q (place_split past n at.0
      ∙ ap (λ (z : ℕ). past / n * z + past % n) f) at.1
      (subst (λ (z : S). LeadsTo (m.edges z) (past % n) q) s l)

  pub firsts_puts : (i c past n : ℕ) (start : S) (old new : List Literal) → n ≡ length (m.edges start) →
      start ≡ m.start → past < length (firsts m i c) → PutsEdge (m.edges start) (past % n) old new →
      PutsEdge (firsts m i c) past old new
  firsts_puts i c past n start old new e s h l =
      let f : n ≡ length (m.edges m.start) = e ∙ ap (λ (z : S). length (m.edges z)) s in
      let at = firsts-place i c past n f h in
      puts-firsts i c (past / n) (past % n) past old new (place_split past n at.0
      ∙ ap (λ (z : ℕ). past / n * z + past % n) f) at.1
      (subst (λ (z : S). PutsEdge (m.edges z) (past % n) old new) s l)

  pub firsts_there : (i c past n : ℕ) (start : S) → n ≡ length (m.edges start) → start ≡ m.start →
      past < length (firsts m i c) → (0 < n) × (past / n < c) × (past % n < length (m.edges start))
  firsts_there i c past n start e s h =
      let f : n ≡ length (m.edges m.start) = e ∙ ap (λ (z : S). length (m.edges z)) s in
      let at = firsts-place i c past n f h in
      (at.0, at.1, subst (λ (z : S). past % n < length (m.edges z)) (sym s) at.2)

  module _ (k i past n : ℕ) (start : S) (e : n ≡ length (m.edges start)) (same : start ≡ m.start)
      (within : past < length (following m k i)) where
    pub following_there : (0 < n) × (past / n < later (m.accepts m.start) (k - suc i))
        × (past % n < length (m.edges start))
    following_there = firsts_there i (later (m.accepts m.start) (k - suc i)) past n start e same within

    -- the place is in one of the later copies
    pub following_number : i < k → i + 1 + past / n < k
    following_number lt = omega (arith, lt, following_there.1, later_le (m.accepts m.start) (k - suc i))

    pub following_leads : (q : S) → LeadsTo (m.edges start) (past % n) q →
        LeadsTo (following m k i) past (i + 1 + past / n, q)
    following_leads q h = firsts_leads i (later (m.accepts m.start) (k - suc i)) past n start q e same within h

    pub following_puts : (old new : List Literal) → PutsEdge (m.edges start) (past % n) old new →
        PutsEdge (following m k i) past old new
    following_puts old new h =
        firsts_puts i (later (m.accepts m.start) (k - suc i)) past n start old new e same within h

  -- ---- own edges, and on a condition the first ones of later copies

  module _ (k i : ℕ) (p : S) where
    whole_length : (b : Bool) (xs ys : List (List Literal × (ℕ × S))) →
        length (xs ++ cond b ys []) ≡ length xs + cond b (length ys) 0
    whole_length true xs ys = length-append xs ys
    whole_length false xs ys = length-append xs []

    pub chain_length : length (chain_edges m k (
      i,
      p,
    )) ≡ length (m.edges p) + cond (m.accepts p) (length (firsts m i (later (m.accepts m.start) (k - suc i)))) 0
    chain_length =
        omega (
          arith,
          whole_length (m.accepts p) (map (renamed {U = ℕ × S} (λ q. (i, q))) (m.edges p))
              (firsts m i (later (m.accepts m.start) (k - suc i))),
          length-map (m.edges p) (renamed {U = ℕ × S} (λ q. (i, q))),
        )

    pub count_ends : (a c n : ℕ) (start : S) → a ≡ length (m.edges p) → m.accepts p ≡ true →
        c ≡ later (m.accepts m.start) (k - suc i) → n ≡ length (m.edges start) → start ≡ m.start →
        a + c * n ≡ length (chain_edges m k (i, p))
    count_ends a c n start e t h f s =
        let first : c * n ≡ length (firsts m i (later (m.accepts m.start) (k - suc i))) =
        ap (λ (z : ℕ). c * z) (f ∙ ap (λ (z : S). length (m.edges z)) s)
        ∙ ap (λ (z : ℕ). z * length (m.edges m.start)) h
        ∙ sym (length-firsts i (later (m.accepts m.start) (k - suc i))) in
        let all : length (chain_edges m k (
          i,
          p,
        )) ≡ length (m.edges p) + length (firsts m i (later (m.accepts m.start) (k - suc i))) =
        chain_length ∙ ap (λ (b : Bool). length (m.edges p) + cond b
        (length (firsts m i (later (m.accepts m.start) (k - suc i)))) 0) t in
        omega (arith, first, all, e)

    pub count_own : (a : ℕ) → a ≡ length (m.edges p) → m.accepts p ≡ false → a ≡ length (chain_edges m k (i, p))
    count_own a e t =
        let all : length (chain_edges m k (i, p)) ≡ length (m.edges p) + 0 =
        chain_length ∙ ap (λ (b : Bool). length (m.edges p) + cond b
        (length (firsts m i (later (m.accepts m.start) (k - suc i)))) 0) t in
        omega (arith, all, e)

    -- a place past the own edges
    pub past_own : (a place : ℕ) → a ≡ length (m.edges p) → a ≤ place → place < length (chain_edges m k (i, p)) →
        (m.accepts p ≡ true) × (place - a < length (firsts m i (later (m.accepts m.start) (k - suc i))))
    past_own a place e low h = go (m.accepts p) (subst (λ (z : ℕ). place < z) chain_length h)
      where
        go : (b : Bool) →
            place < length (m.edges p) + cond b (length (firsts m i (later (m.accepts m.start) (k - suc i)))) 0 →
            (b ≡ true) × (place - a < length (firsts m i (later (m.accepts m.start) (k - suc i))))
        go true lt = (refl, omega (arith, lt, e, low))
        go false lt = absurd (omega (arith, lt, e, low))

    pub own_leads : (place : ℕ) (q : S) → LeadsTo (m.edges p) place q → LeadsTo (chain_edges m k (i, p)) place (i, q)
    own_leads place q h =
        leads-left (map (renamed {U = ℕ × S} (λ q. (i, q))) (m.edges p))
        (cond (m.accepts p) (firsts m i (later (m.accepts m.start) (k - suc i))) []) place (i, q)
        (leads-renamed {T = ℕ × S} (λ q. (i, q)) (m.edges p) place q h)

    pub own_puts : (place : ℕ) (old new : List Literal) → PutsEdge (m.edges p) place old new →
        PutsEdge (chain_edges m k (i, p)) place old new
    own_puts place old new h =
        puts-left (map (renamed {U = ℕ × S} (λ q. (i, q))) (m.edges p))
        (cond (m.accepts p) (firsts m i (later (m.accepts m.start) (k - suc i))) []) place old new
        (puts-renamed {T = ℕ × S} (λ q. (i, q)) (m.edges p) place old new h)

    pub past_leads : (a place : ℕ) (t : ℕ × S) → a ≡ length (m.edges p) → a ≤ place → m.accepts p ≡ true →
        LeadsTo (firsts m i (later (m.accepts m.start) (k - suc i))) (place - a) t →
        LeadsTo (chain_edges m k (i, p)) place t
    past_leads a place t e low is h =
        leads-right (map (renamed {U = ℕ × S} (λ q. (i, q))) (m.edges p))
        (cond (m.accepts p) (firsts m i (later (m.accepts m.start) (k - suc i))) []) (place - a) place t
        (omega (arith, e, low, length-map (m.edges p) (renamed {U = ℕ × S} (λ q. (i, q)))))
        (subst (λ (b : Bool). LeadsTo (cond b (firsts m i (later (m.accepts m.start) (k - suc i))) []) (place - a) t)
        (sym is) h)

    pub past_puts : (a place : ℕ) (old new : List Literal) → a ≡ length (m.edges p) → a ≤ place → m.accepts p ≡ true →
        PutsEdge (firsts m i (later (m.accepts m.start) (k - suc i))) (place - a) old new →
        PutsEdge (chain_edges m k (i, p)) place old new
    past_puts a place old new e low is h =
        puts-right (map (renamed {U = ℕ × S} (λ q. (i, q))) (m.edges p))
        (cond (m.accepts p) (firsts m i (later (m.accepts m.start) (k - suc i))) []) (place - a) place old new
        (omega (arith, e, low, length-map (m.edges p) (renamed {U = ℕ × S} (λ q. (i, q)))))
        (subst (λ (b : Bool). PutsEdge (cond b (firsts m i (later (m.accepts m.start) (k - suc i))) [])
        (place - a) old new) (sym is) h)

-- the copies of a machine of few edges have few edges at each state
pub chain_fits : {S : Type 0} (m : Machine S) (own : S → Type 0) (k i : ℕ) (p : S) → own p →
    HasAtMost own m 2147483647 → k < 2 ^ 32 → length ((chain_machine m k).edges (i, p)) < 2 ^ 64
chain_fits m own k i p o few small =
    let count = later (m.accepts m.start) (k - suc i) in
    let more : later (m.accepts m.start) (k - suc i) * length (m.edges m.start) ≤ 4294967296 * 2147483648 =
    mul-le _ _ 4294967296 2147483648 (omega (arith, small, later_le (m.accepts m.start) (k - suc i)))
    (omega (arith, few.start)) in
    omega (
      arith,
      more,
      few.each p o,
      chain_length m k i p,
      cond_le (m.accepts p) (length (firsts m i (later (m.accepts m.start) (k - suc i)))),
      length-firsts m i (later (m.accepts m.start) (k - suc i)),
    )
  where
    cond_le : (b : Bool) (n : ℕ) → cond b n 0 ≤ n
    cond_le true n = omega arith
    cond_le false n = omega arith
