-- From a check that is started in the first cycle alone to what the output tells of the whole trace.
use Rattle.std.specs.Prelude.{ℕ, suc, ◌≡◌, ◌≢◌, ◌↔◌, ◌⊎◌, ◌<◌, ◌≤◌, ◌-◌, ◌++◌, List, [], length, take, drop}
use Rattle.std.proofs.Common.{refl, sym, ap, ◌∙◌, subst, arith, inl, inr}
use Rattle.std.proofs.Math.Seq.{take-length}
use Rattle.psl_meaning.specs.Word.{Valuation}
use Rattle.psl_meaning.specs.Violation.{WeaklyViolates, Violates}
use Rattle.psl_rewrite.specs.Base.{Base}
use Rattle.psl_rewrite.specs.Meaning.{named}
use Rattle.circuit_core.specs.Run.{Stream, On}
use Rattle.circuit_core.specs.Starts.{Open, ComesBy}
use Rattle.sequence_matches.specs.Matches.{letters}
use Rattle.property_circuits.specs.Starts.{Weak, Full, IsCheck}
use Rattle.property_circuits.proofs.Letters.{letters_first, letters_grow}
use Rattle.property_circuits.proofs.Streams.{comes_or_not, NeverBy}

-- what violates already goes on to
abbrev pub Persists : (widths : List ℕ) → Base → Type 0
Persists widths f = (trace more : List Valuation) → WeaklyViolates widths (named f) trace →
    WeaklyViolates widths (named f) (trace ++ more)

-- what violates already violates as a word that ends, if it isn't empty
abbrev pub WeakIsFull : (widths : List ℕ) → Base → Type 0
WeakIsFull widths f = (trace : List Valuation) → trace ≢ [] → WeaklyViolates widths (named f) trace →
    Violates widths (named f) trace

pub weak_later : (widths : List ℕ) (trace : List Valuation) (f : Base) (i m n : ℕ) → Persists widths f → m ≤ n →
    Weak widths trace f i m → Weak widths trace f i n
weak_later widths trace f i m n persists ordered weak =
    subst (λ (ls : List Valuation). WeaklyViolates widths (named f) ls) (letters_grow trace i m n ordered)
    (persists (letters trace i m) (drop (suc m - i) (letters trace i n)) weak)

-- the output, over a check that is started in the first cycle alone and never cleared
pub record Whole (widths : List ℕ) (trace : List Valuation) (f : Base) (eot start clear fail pend out : Stream)
    : Type 0 where
  pub check : IsCheck widths trace f start clear fail pend
  pub starts : (n : ℕ) → n < length trace → On start n ↔ n ≡ 0
  pub never : (n : ℕ) → n < length trace → ¬ On clear n
  pub outs : (n : ℕ) → n < length trace → On out n ↔ (On fail n ⊎ (On eot n × On pend n))

module _ (widths : List ℕ) (trace : List Valuation) (f : Base) (persists : Persists widths f)
    (weak_is_full : WeakIsFull widths f) (eot start clear fail pend out : Stream)
    (w : Whole widths trace f eot start clear fail pend out) where
  violated_first : (n : ℕ) → n < length trace → ComesBy fail n → Weak widths trace f 0 n
  violated_first n within come =
      let s = (w.check.fails n within).0 come in
      let first : s.0 ≡ 0 = (w.starts s.0 (omega arith)).0 s.2 in
      let bad = s.3 in
      let here : Weak widths trace f 0 bad.0 = subst (λ (i : ℕ). Weak widths trace f i bad.0) first bad.4 in
      weak_later widths trace f 0 bad.0 n persists bad.2 here

  never_cleared : (n : ℕ) → n < length trace → Open clear 0 n
  never_cleared n within k from to = w.never k (omega arith)

  begun : 0 < length trace → On start 0
  begun some = (w.starts 0 some).1 refl

  pub rises : ((n : ℕ) → n < length trace → ¬ On eot n) → (n : ℕ) → n < length trace →
      ComesBy out n ↔ WeaklyViolates widths (named f) (take (suc n) trace)
  rises no_end n within = (
    (λ come.
        let fails = failed come.0 (omega arith) ((w.outs come.0 (omega arith)).0 come.2) in
        subst (λ (ls : List Valuation). WeaklyViolates widths (named f) ls) (letters_first trace n)
        (violated_first n within (come.0, come.1, fails))),
    (λ bad.
        let here : Weak widths trace f 0 n =
        subst (λ (ls : List Valuation). WeaklyViolates widths (named f) ls) (sym (letters_first trace n)) bad in
        let c = (w.check.fails n within).1
        (0, omega arith, begun (omega arith), (n, omega arith, omega arith, never_cleared n within, here)) in
        (c.0, c.1, (w.outs c.0 (omega arith)).1 (inl c.2))),
  )
    where
      failed : (k : ℕ) → k < length trace → On fail k ⊎ (On eot k × On pend k) → On fail k
      failed k inside (inl on) = on
      failed k inside (inr p) = absurd (no_end k inside p.0)

  pub ends : (last : ℕ) → suc last ≡ length trace → ((n : ℕ) → n < length trace → On eot n ↔ n ≡ last) →
      ComesBy out last ↔ Violates widths (named f) trace
  ends last is_last at_end = (
    (λ come. from_out come.0 come.1 ((w.outs come.0 (omega arith)).0 come.2)),
    (λ bad. to_out bad (comes_or_not fail last)),
  )
    where
      all : letters trace 0 last ≡ trace
      all = letters_first trace last ∙ ap (λ (n : ℕ). take n trace) is_last ∙ take-length trace

      some : trace ≢ []
      some none = absurd (omega (arith, is_last, ap (λ (ls : List Valuation). length ls) none))

      by_fail : ComesBy fail last → Violates widths (named f) trace
      by_fail come =
          weak_is_full trace some
          (subst (λ (ls : List Valuation). WeaklyViolates widths (named f) ls) all
          (violated_first last (omega arith) come))

      none_violated : NeverBy fail last → ¬ ((i : ℕ) × (i ≤ last) × On start i ×
          ((m : ℕ) × (i ≤ m) × (m ≤ last) × Open clear i m × Weak widths trace f i m))
      none_violated none bad = let c = (w.check.fails last (omega arith)).1 bad in none c.0 c.1 c.2

      by_pend : On pend last → ComesBy fail last ⊎ NeverBy fail last → Violates widths (named f) trace
      by_pend on (inl come) = by_fail come
      by_pend on (inr none) =
          let s = (w.check.pends last (omega arith) (none_violated none)).0 on in
          let first : s.0 ≡ 0 = (w.starts s.0 (omega arith)).0 s.2 in
          let here : Full widths trace f 0 last = subst (λ (i : ℕ). Full widths trace f i last) first s.3.1 in
          subst (λ (ls : List Valuation). Violates widths (named f) ls) all here

      from_out : (k : ℕ) → k ≤ last → On fail k ⊎ (On eot k × On pend k) → Violates widths (named f) trace
      from_out k below (inl on) = by_fail (k, below, on)
      from_out k below (inr p) =
          let e : k ≡ last = (at_end k (omega arith)).0 p.0 in
          by_pend (subst (λ (j : ℕ). On pend j) e p.1) (comes_or_not fail last)

      to_out : Violates widths (named f) trace → ComesBy fail last ⊎ NeverBy fail last → ComesBy out last
      to_out bad (inl come) = (come.0, come.1, (w.outs come.0 (omega arith)).1 (inl come.2))
      to_out bad (inr none) =
          let here : Full widths trace f 0 last =
          subst (λ (ls : List Valuation). Violates widths (named f) ls) (sym all) bad in
          let on = (w.check.pends last (omega arith) (none_violated none)).1
          (0, omega arith, begun (omega arith), (never_cleared last (omega arith), here)) in
          (last, omega arith, (w.outs last (omega arith)).1 (inr ((at_end last (omega arith)).1 refl, on)))
