-- From what is counted to what the gates of events answer.
use Rattle.std.proofs.Common.{ℕ, ◌<◌, ◌≤◌, ◌↔◌, arith}
use Rattle.circuit_core.specs.Run.{Stream, On}
use Rattle.circuit_core.specs.Starts.{ComesBy}
use Rattle.strong_obligations.specs.Events.{FromEvent, IsDueEvent, IsAwaitedEvent, IsMissedBy, IsUnseen}
use Rattle.strong_obligations.specs.inner.Delays.{IsOpposite}
use Rattle.strong_obligations.specs.inner.Counts.{IsCounted, IsCountedBelow}

pub due_event : (on start clear go : Stream) (low high n : ℕ) → On go n ↔ IsCounted on low (On on) low high start clear n → On go n ↔ IsDueEvent on low high start clear n
due_event on start clear go low high n is = (
  (λ g. let h = is.0 g in let s = h.1 in (h.0, (s.0, s.1, s.2, (s.3.0, s.3.1, s.3.2)))),
  (λ h. let s = h.1 in is.1 (h.0, (s.0, s.1, s.2, (s.3.0, s.3.1, s.3.2, λ m from to there late. there)))),
)

pub awaited_event : (on start clear pend : Stream) (low high n : ℕ) → On pend n ↔ IsCountedBelow on low (On on) high start clear n → On pend n ↔ IsAwaitedEvent on high start clear n
awaited_event on start clear pend low high n is = (
  (λ p. let s = is.0 p in (s.0, s.1, s.2, (s.3.0, s.3.1))),
  (λ s. is.1 (s.0, s.1, s.2, (s.3.0, s.3.1, λ m from to there late. there))),
)

pub late_unseen : (cycles : ℕ) (on seen unseen late : Stream) → IsOpposite cycles seen unseen → ((n : ℕ) → n < cycles → On late n ↔ (On on n × On unseen n)) → (n : ℕ) → n < cycles → On late n ↔ (On on n × ¬ On seen n)
late_unseen cycles on seen unseen late opposite both n within =
    let b = both n within in
    let o = opposite n within in
    ((λ l. let p = b.0 l in (p.0, o.0 p.1)), (λ p. b.1 (p.0, o.1 p.1)))

module _ (cycles : ℕ) (on seen late : Stream) (lates : (n : ℕ) → n < cycles → On late n ↔ (On on n × ¬ On seen n)) where
  unseen : (low i n : ℕ) → n < cycles → FromEvent on low (On late) i n ↔ FromEvent on low (λ m. ¬ On seen m) i n
  unseen low i n within = (
    (λ h m from to there since. ((lates m (omega arith)).0 (h m from to there since)).1),
    (λ h m from to there since. (lates m (omega arith)).1 (there, h m from to there since)),
  )

  pub missed : (start clear fail : Stream) (low high : ℕ) → ((n : ℕ) → n < cycles → On fail n ↔ IsCounted on low (On late) high high start clear n) → (n : ℕ) → n < cycles → ComesBy fail n ↔ IsMissedBy on seen low high start clear n
  missed start clear fail low high is n within = (
    (λ c. let h = (is c.0 (omega (arith, c.1))).0 c.2 in
        let s = h.1 in
        (s.0, omega (arith, c.1, s.1), s.2, (c.0, s.1, c.1, (s.3.0, h.0, omega (arith, s.3.1, s.3.2), (unseen low s.0 c.0 (omega (arith, c.1))).0 s.3.3)))),
    (λ s. let k = s.3.0 in
        let to : k ≤ n = s.3.2 in
        (k, to, (is k (omega arith)).1 (s.3.3.1, (s.0, s.3.1, s.2, (s.3.3.0, omega (arith, s.3.3.2), omega (arith, s.3.3.2), (unseen low s.0 k (omega arith)).1 s.3.3.3))))),
  )

  pub waits : (start clear pend : Stream) (low high n : ℕ) → n < cycles → On pend n ↔ IsCountedBelow on low (On late) high start clear n → On pend n ↔ IsUnseen on seen low high start clear n
  waits start clear pend low high n within is = (
    (λ p. let s = is.0 p in (s.0, s.1, s.2, (s.3.0, s.3.1, (unseen low s.0 n within).0 s.3.2))),
    (λ s. is.1 (s.0, s.1, s.2, (s.3.0, s.3.1, (unseen low s.0 n within).1 s.3.2))),
  )
