-- One register a state, for any steps: what arrives at a state is what a path leads there from some open start.
use Rattle.std.proofs.Common.{◌≡◌, ℕ, zero, suc, ◌+◌, ◌-◌, ◌<◌, ◌≤◌, inl, inr, ◌⊎◌, ◌↔◌, refl, sym, ◌∙◌, subst}
use Rattle.std.proofs.Common.{arith}
use Rattle.circuit_core.specs.Run.{Stream, On}
use Rattle.circuit_core.specs.Starts.{Open, SomeStart}
use Rattle.sequence_circuits.proofs.Nets.{same_or_not}

pub open_last : (clear : Stream) (i n : ℕ) → ¬ On clear n → i ≡ n → Open clear i n
open_last clear i n off e k from to = subst (λ (j : ℕ). ¬ On clear j) (omega arith) off

open_more : (clear : Stream) (i n : ℕ) → ¬ On clear i → Open clear (suc i) n → Open clear i n
open_more clear i n off rest k from to =
    elim (same_or_not k i)
    [ inl e ↦ subst (λ (j : ℕ). ¬ On clear j) (sym e) off | inr d ↦ rest k (omega arith) to ]

-- In so many cycles, `held s` is on where something arrived at state s in the cycle before, and `live s` where a run is
-- in it, as it is in state 0 where one starts. What arrives at a place is what steps there from a state with a run; the
-- places are the states, and maybe some more that nothing leaves.
pub record IsOneHot (states places cycles : ℕ) (Steps : (s t n : ℕ) → Type 0) (start clear : Stream)
    (held live arrive : ℕ → Stream) : Type 0 where
  pub begins : (s : ℕ) → s < states → 0 < cycles → held s 0 ≡ 0
  pub goes_on : (s n : ℕ) → s < states → suc n < cycles → held s (suc n) ≡ arrive s n
  pub lives :
      (s n : ℕ) → s < states → n < cycles
      → On (live s) n ↔ ((On (held s) n ⊎ ((s ≡ 0) × On start n)) × ¬ On clear n)
  pub arrives :
      (t n : ℕ) → t < places → n < cycles
      → On (arrive t) n ↔ ((s : ℕ) × (s < states) × (On (live s) n × Steps s t n))

-- steps from s in cycle i, and in so many cycles after it, lead to t, through states alone
abbrev pub Path : (states : ℕ) (Steps : (s t n : ℕ) → Type 0) (s t i count : ℕ) → Type 0
Path states Steps s t i zero = Steps s t i
Path states Steps s t i (suc count) =
    (u : ℕ) × (u < states) × (Steps s u i × Path states Steps u t (suc i) count)

-- a path leads to t from the first state at some open start
abbrev pub Comes : (states : ℕ) (Steps : (s t n : ℕ) → Type 0) (start clear : Stream) (t n : ℕ) → Type 0
Comes states Steps start clear t n =
    SomeStart start n (λ i. Open clear i n × Path states Steps 0 t i (n - i))

module _ (states places cycles : ℕ) (Steps : (s t n : ℕ) → Type 0) (start clear : Stream)
    (held live arrive : ℕ → Stream) where
  begun : (n t k s count : ℕ) → k ≤ n → n ≡ k + count → Open clear k n → Path states Steps s t k count
      → (s ≡ 0) × On start k → Comes states Steps start clear t n
  begun n t k s count before counted opened path here =
      let e : count ≡ n - k = omega arith in (
        k,
        before,
        here.1,
        (
          opened,
          subst (λ (c : ℕ). Path states Steps 0 t k c) e
              (subst (λ (r : ℕ). Path states Steps r t k count) here.0 path),
        ),
      )

  -- from a state with a run back to the start that it comes from
  back : IsOneHot states places cycles Steps start clear held live arrive → states ≤ places → (n t : ℕ) → n < cycles
      → (k s count : ℕ) → k ≤ n → s < states → n ≡ k + count → On (live s) k → Open clear k n
      → Path states Steps s t k count → Comes states Steps start clear t n
  back d fits n t within zero s count before below counted on opened path =
      elim ((d.lives s 0 below (omega arith)).0 on).0 [
        | inl h ↦ absurd (h (d.begins s below (omega arith)))
        | inr here ↦ begun n t 0 s count before counted opened path here
      ]
  back d fits n t within (suc k) s count before below counted on opened path =
      elim ((d.lives s (suc k) below (omega arith)).0 on).0 [
        | inl h ↦ (let follows = d.goes_on s k below (omega arith) in
            let a : (r : ℕ) × (r < states) × (On (live r) k × Steps r s k) =
            (d.arrives s k (omega arith) (omega arith)).0 (λ off. h (follows ∙ off)) in
            let off : ¬ On clear k = ((d.lives a.0 k a.1 (omega arith)).0 a.2.0).1 in
            back d fits n t within k a.0 (suc count) (omega arith) a.1 (omega arith) a.2.0
            (open_more clear k n off opened) (s, below, (a.2.1, path)))
        | inr here ↦ begun n t (suc k) s count before counted opened path here
      ]

  forth : IsOneHot states places cycles Steps start clear held live arrive → states ≤ places → (n t : ℕ) → n < cycles
      → t < places → (count k s : ℕ) → s < states → n ≡ k + count → On (live s) k → Open clear k n
      → Path states Steps s t k count → On (arrive t) n
  forth d fits n t within there zero k s below counted on opened path =
      subst (λ (j : ℕ). On (arrive t) j) (omega arith) ((d.arrives t k there (omega arith)).1 (s, below, (on, path)))
  forth d fits n t within there (suc count) k s below counted on opened path =
      let u : ℕ = path.0 in
      let a : On (arrive u) k =
      (d.arrives u k (omega (arith, path.1)) (omega arith)).1 (s, below, (on, path.2.0)) in
      let follows = d.goes_on u k path.1 (omega arith) in
      let l : On (live u) (suc k) =
      (d.lives u (suc k) path.1 (omega arith)).1
      (inl (λ z. a (sym follows ∙ z)), opened (suc k) (omega arith) (omega arith)) in
      forth d fits n t within there count (suc k) u path.1 (omega arith) l
      (λ j from to. opened j (omega arith) to) path.2.1

  pub one_hot : IsOneHot states places cycles Steps start clear held live arrive → states ≤ places → 0 < states
      → (t n : ℕ) → t < places → n < cycles → On (arrive t) n ↔ Comes states Steps start clear t n
  one_hot d fits some t n there within = (
    (λ on. let a : (s : ℕ) × (s < states) × (On (live s) n × Steps s t n) = (d.arrives t n there within).0 on in
        let off : ¬ On clear n = ((d.lives a.0 n a.1 within).0 a.2.0).1 in
        back d fits n t within n a.0 0 (omega arith) a.1 (omega arith) a.2.0 (open_last clear n n off refl) a.2.1),
    (λ h. forth d fits n t within there (n - h.0) h.0 0 some (omega (arith, h.1))
        ((d.lives 0 h.0 some (omega (arith, h.1))).1 (inr (refl, h.2), h.3.0 h.0 (omega arith) h.1)) h.3.0 h.3.1),
  )
