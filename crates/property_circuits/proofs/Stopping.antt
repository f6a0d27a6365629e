-- A start has violated by n exactly if the letters up to its stop violate; cleared at once, it never does.
use Rattle.std.specs.Prelude.{ℕ, suc, ◌⊎◌, ◌↔◌, ◌<◌, ◌≤◌}
use Rattle.std.proofs.Common.{inl, inr, arith}
use Rattle.std.proofs.lemmas.Bool.{cases_lt}
use Rattle.circuit_core.specs.Run.{Stream}
use Rattle.circuit_core.specs.Starts.{Open, HasViolated}
use Rattle.property_circuits.specs.Starts.{IsStop}

pub violated_up_to_stop : (Weak : ℕ → ℕ → Type 0) (clear : Stream) (i n e : ℕ) →
    ((m : ℕ) → m ≤ e → Weak i m → Weak i e) → i ≤ e → IsStop clear i n (suc e) → HasViolated Weak clear n i ↔ Weak i e
violated_up_to_stop Weak clear i n e grows ordered stop = (
  (λ bad. grows bad.0 (early bad.0 bad.1 bad.2 bad.3 (cases_lt e bad.0)) bad.4),
  (λ weak. (e, ordered, omega (arith, stop.to), (λ k from to. stop.before k from (omega arith)), weak)),
)
  where
    early : (m : ℕ) → i ≤ m → m ≤ n → Open clear i m → (e < m) ⊎ (m ≤ e) → m ≤ e
    early m from to open_ (inr h) = h
    early m from to open_ (inl late) = elim stop.at [
      | inl end ↦ absurd (omega (arith, end))
      | inr cleared ↦ absurd (open_ (suc e) (omega arith) (omega arith) cleared)
    ]

pub cleared_at_once : (Weak : ℕ → ℕ → Type 0) (clear : Stream) (i n : ℕ) → IsStop clear i n i → i ≤ n →
    ¬ HasViolated Weak clear n i
cleared_at_once Weak clear i n stop within bad = elim stop.at [
  | inl end ↦ absurd (omega (arith, end))
  | inr cleared ↦ bad.3 i (omega arith) bad.1 cleared
]
