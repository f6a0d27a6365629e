-- Starts that stay open, on streams alone.
use Rattle.std.specs.Prelude.{ℕ, zero, suc, ◌≡◌, ◌↔◌, ◌⊎◌, ◌<◌, ◌≤◌}
use Rattle.std.proofs.Common.{sym, ◌∙◌, subst, arith, inl, inr}
use Rattle.std.proofs.lemmas.Bool.{cases_lt}
use Rattle.circuit_core.specs.Run.{Stream, On}
use Rattle.circuit_core.specs.Starts.{Open, SomeStart}
use Rattle.strong_obligations.specs.Until.{IsUnstopped}

pub on_at : (s : Stream) (i n : ℕ) → i ≡ n → On s i → On s n
on_at s i n e h = subst (λ (j : ℕ). On s j) e h

pub open_here : (clear : Stream) (n : ℕ) → ¬ On clear n → Open clear n n
open_here clear n off k from to = subst (λ (j : ℕ). ¬ On clear j) (omega arith) off

pub open_longer : (clear : Stream) (i n : ℕ) → Open clear i n → ¬ On clear (suc n) → Open clear i (suc n)
open_longer clear i n before off k from to = elim (cases_lt n k) [
  | inl last ↦ subst (λ (j : ℕ). ¬ On clear j) (omega arith) off
  | inr early ↦ before k from early
]

pub open_shorter : (clear : Stream) (i n : ℕ) → Open clear i (suc n) → Open clear i n
open_shorter clear i n all k from to = all k from (omega arith)

-- ---- the register of an open start: it holds what was open in the cycle before

module _ (start clear held live : Stream) where
  abbrev IsOpenAt : ℕ → Type 0
  IsOpenAt n = On live n ↔ SomeStart start n (λ i. Open clear i n)

  open_first : ¬ On held 0 → (On live 0 ↔ ((On start 0 ⊎ On held 0) × ¬ On clear 0)) → IsOpenAt 0
  open_first off lives = (
    (λ on. let now = lives.0 on in elim now.0 [
      | inl s ↦ (0, omega arith, s, open_here clear 0 now.1)
      | inr h ↦ absurd (off h)
    ]),
    (λ s. lives.1 (inl (on_at start s.0 0 (omega (arith, s.1)) s.2), s.3 0 (omega (arith, s.1)) (omega arith))),
  )

  open_step : (n : ℕ) → IsOpenAt n → held (suc n) ≡ live n →
      (On live (suc n) ↔ ((On start (suc n) ⊎ On held (suc n)) × ¬ On clear (suc n))) → IsOpenAt (suc n)
  open_step n before follows lives = (
    (λ on. let now = lives.0 on in elim now.0 [
      | inl s ↦ (suc n, omega arith, s, open_here clear (suc n) now.1)
      | inr h ↦ (let s = before.0 (λ e. h (follows ∙ e)) in
          (s.0, omega (arith, s.1), s.2, open_longer clear s.0 n s.3 now.1))
    ]),
    (λ s. lives.1 (now_or_held s (cases_lt n s.0), s.3 (suc n) s.1 (omega arith))),
  )
    where
      now_or_held : (s : SomeStart start (suc n) (λ i. Open clear i (suc n))) → (n < s.0) ⊎ (s.0 ≤ n) →
          On start (suc n) ⊎ On held (suc n)
      now_or_held s (inl new) = inl (on_at start s.0 (suc n) (omega (arith, s.1, new)) s.2)
      now_or_held s (inr old) =
          let was = before.1 (s.0, old, s.2, open_shorter clear s.0 n s.3) in
          inr (λ e. was (sym follows ∙ e))

  pub open_always : (cycles : ℕ) → (0 < cycles → ¬ On held 0) →
      ((n : ℕ) → suc n < cycles → held (suc n) ≡ live n) →
      ((n : ℕ) → n < cycles → On live n ↔ ((On start n ⊎ On held n) × ¬ On clear n)) →
      (n : ℕ) → n < cycles → On live n ↔ SomeStart start n (λ i. Open clear i n)
  open_always cycles begins follows lives zero within = open_first (begins within) (lives zero within)
  open_always cycles begins follows lives (suc n) within =
      open_step n (open_always cycles begins follows lives n (omega arith)) (follows n within) (lives (suc n) within)

-- ---- open for two clears is open for both

pub unstopped : (start clear stop dropped live : Stream) (n : ℕ) →
    ((k : ℕ) → k ≤ n → On dropped k ↔ (On clear k ⊎ On stop k)) →
    On live n ↔ SomeStart start n (λ i. Open dropped i n) → On live n ↔ IsUnstopped stop start clear n
unstopped start clear stop dropped live n drops lives = (
  (λ on. let s = lives.0 on in (
    s.0,
    s.1,
    s.2,
    (
      (λ k from to cleared. s.3 k from to ((drops k to).1 (inl cleared))),
      (λ k from to stops. s.3 k from to ((drops k to).1 (inr stops))),
    ),
  )),
  (λ s. lives.1 (
    s.0,
    s.1,
    s.2,
    (λ k from to on. elim ((drops k to).0 on) [
      | inl cleared ↦ s.3.0 k from to cleared
      | inr stops ↦ s.3.1 k from to stops
    ]),
  )),
)
