-- Chains of one-bit registers, on streams alone: the starts of so many cycles ago that are open.
use Rattle.std.specs.Prelude.{ℕ, zero, suc, ◌≡◌, ◌↔◌, ◌⊎◌, ◌<◌, ◌≤◌, ◌+◌, ◌-◌, IsTrue}
use Rattle.std.proofs.Common.{leb, arith, inl, inr}
use Rattle.std.proofs.lemmas.Bool.{cases_lt, leb-true, le-leb}
use Rattle.circuit_core.specs.Run.{Stream, On}
use Rattle.circuit_core.specs.Starts.{Open, SomeStart}
use Rattle.strong_obligations.specs.inner.Delays.{IsOpposite}
use Rattle.strong_obligations.specs.Next.{IsDue, IsAwaited}
use Rattle.strong_obligations.proofs.Opens.{on_at, open_here, open_longer, open_shorter}

-- a start of so many cycles ago is open
abbrev pub AtStage : (stage : ℕ) → (start clear : Stream) → ℕ → Type 0
AtStage stage start clear n = SomeStart start n (λ i. Open clear i n × (n - i ≡ stage))

pub first_stage : (start clear uncleared live : Stream) (n : ℕ) → On uncleared n ↔ ¬ On clear n →
    On live n ↔ (On start n × On uncleared n) → On live n ↔ AtStage 0 start clear n
first_stage start clear uncleared live n opposite lives = (
  (λ on. let h = lives.0 on in
      (n, omega arith, h.0, (open_here clear n (opposite.0 h.1), omega arith))),
  (λ h. lives.1 (
    on_at start h.0 n (omega (arith, h.1, h.3.1)) h.2,
    opposite.1 (h.3.0 n h.1 (omega arith)),
  )),
)

pub next_stage : (cycles stage : ℕ) (start clear uncleared live next : Stream) → IsOpposite cycles clear uncleared →
    (0 < cycles → ¬ On next 0) →
    ((n : ℕ) → suc n < cycles → On next (suc n) ↔ (On live n × On uncleared (suc n))) →
    ((n : ℕ) → n < cycles → On live n ↔ AtStage stage start clear n) →
    (n : ℕ) → n < cycles → On next n ↔ AtStage (suc stage) start clear n
next_stage cycles stage start clear uncleared live next opposite first later before zero within = (
  (λ on. absurd (first within on)),
  (λ h. absurd (omega (arith, h.1, h.3.1))),
)
next_stage cycles stage start clear uncleared live next opposite first later before (suc n) within = (
  (λ on.
      let now = (later n within).0 on in
      let b = (before n (omega arith)).0 now.0 in
      let longer = open_longer clear b.0 n b.3.0 ((opposite (suc n) within).0 now.1) in
      (b.0, omega (arith, b.1), b.2, (longer, omega (arith, b.1, b.3.1)))),
  (λ h. (later n within).1 (
    (before n (omega arith)).1
        (h.0, omega (arith, h.1, h.3.1), h.2, (open_shorter clear h.0 n h.3.0, omega (arith, h.1, h.3.1))),
    (opposite (suc n) within).1 (h.3.0 (suc n) h.1 (omega arith)),
  )),
)

-- ---- due

pub early_low : (low stage : ℕ) → IsTrue (leb low (stage + 1)) ↔ (low ≤ suc stage)
early_low low stage = (
  (λ t. let h : low ≤ stage + 1 = leb-true low (stage + 1) t in omega arith),
  (λ h. le-leb low (stage + 1) (omega arith)),
)

pub due_first : (low : ℕ) (start clear due live : Stream) (n : ℕ) → On live n ↔ AtStage 0 start clear n →
    On due n ↔ ((low ≡ 0) × On live n) → On due n ↔ IsDue low 0 start clear n
due_first low start clear due live n lives dues = (
  (λ on.
      let h = dues.0 on in
      let l = lives.0 h.1 in
      (l.0, l.1, l.2, (l.3.0, omega (arith, l.3.1, h.0), omega (arith, l.3.1)))),
  (λ h. dues.1 (omega (arith, h.3.1, h.3.2), lives.1 (h.0, h.1, h.2, (h.3.0, omega (arith, h.3.2))))),
)

pub due_more : (low stage : ℕ) (start clear due live next : Stream) (IsDueNow : Type 0) (n : ℕ) →
    IsDueNow ↔ (low ≤ suc stage) → On live n ↔ AtStage (suc stage) start clear n →
    On due n ↔ IsDue low stage start clear n → On next n ↔ (On due n ⊎ (IsDueNow × On live n)) →
    On next n ↔ IsDue low (suc stage) start clear n
due_more low stage start clear due live next IsDueNow n decides lives before dues = (
  (λ on. elim (dues.0 on) [
    | inl h ↦ (let b = before.0 h in (b.0, b.1, b.2, (b.3.0, b.3.1, omega (arith, b.3.2))))
    | inr h ↦ (let l = lives.0 h.1 in
        let in_time : low ≤ suc stage = decides.0 h.0 in
        (l.0, l.1, l.2, (l.3.0, omega (arith, l.3.1, in_time), omega (arith, l.3.1))))
  ]),
  (λ h. dues.1 (elim (cases_lt stage (n - h.0)) [
    | inl last ↦ inr (
      decides.1 (omega (arith, h.3.1, h.3.2)),
      lives.1 (h.0, h.1, h.2, (h.3.0, omega (arith, h.3.2, last))),
    )
    | inr early ↦ inl (before.1 (h.0, h.1, h.2, (h.3.0, h.3.1, early)))
  ])),
)

-- ---- awaited

pub awaited_first : (start clear none : Stream) (n : ℕ) → ¬ On none n → On none n ↔ IsAwaited 0 start clear n
awaited_first start clear none n off = ((λ on. absurd (off on)), (λ h. absurd (omega (arith, h.3.1))))

pub awaited_more : (stage : ℕ) (start clear waiting live next : Stream) (n : ℕ) →
    On live n ↔ AtStage stage start clear n → On waiting n ↔ IsAwaited stage start clear n →
    On next n ↔ (On waiting n ⊎ On live n) → On next n ↔ IsAwaited (suc stage) start clear n
awaited_more stage start clear waiting live next n lives before nexts = (
  (λ on. elim (nexts.0 on) [
    | inl h ↦ (let b = before.0 h in (b.0, b.1, b.2, (b.3.0, omega (arith, b.3.1))))
    | inr h ↦ (let l = lives.0 h in (l.0, l.1, l.2, (l.3.0, omega (arith, l.3.1))))
  ]),
  (λ h. nexts.1 (elim (cases_lt (n - h.0) stage) [
    | inl early ↦ inl (before.1 (h.0, h.1, h.2, (h.3.0, early)))
    | inr last ↦ inr (lives.1 (h.0, h.1, h.2, (h.3.0, omega (arith, h.3.1, last))))
  ])),
)
