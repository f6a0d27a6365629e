use Rattle.std.proofs.Common.{◌≡◌, ◌↔◌, ◌<◌, ◌≤◌, ◌+◌, ℕ, suc, leb, length, refl, subst, arith}
use Rattle.circuit_core.specs.Run.{Stream, Run, Inputs, On, IsRunOf}
use Rattle.strong_obligations.specs.inner.Counts.{AreCounted, IsCounted, IsCountedBelow}
use Rattle.strong_obligations.proofs.Counting.{Had, Has, ComesTo, staged, come_more, counted_first, counted_more, below_first, below_more, passes}
use Rattle.strong_obligations.proofs.counts.count_of.Goals as goal

pub loop-events-init : goal.loop-events-init
loop-events-init c =
    let nets = c.args.nets in
    let count = c.in_ok-count.count in
    let e = c.in_ok-count.ensures in
    let low = c.args.low in
    let on = nets.on.0 in
    let late = nets.late.0 in
    let start = c.args.start.0 in
    let stage : (inputs : Inputs) (run : Run) → IsRunOf c.first_count.new.net inputs run → (clear : Stream) → AreCounted (length inputs.trace) (run on) (run nets.quiet.0) (run late) clear (run nets.uncleared.0) → (n : ℕ) → n < length inputs.trace
    → (On (run count.live.0) n ↔ Had (run on) low (On (run late)) (run start) clear 0 n) × (On (run count.stays.0) n ↔ Has (run on) low (On (run late)) (run start) clear 0 n)
    = λ inputs run h clear are. staged (run on) low (On (run late)) (run start) clear (length inputs.trace) 0 (On (run start)) (λ n. ⊥) (run nets.uncleared.0) (run nets.quiet.0) (run count.live.0) (run count.stays.0)
    are.opens are.quiets (e.stage inputs run h) (λ n within. ((λ s. (refl, s)), (λ p. p.1))) (λ n within. ((λ x. absurd x), (λ x. absurd (omega (arith, x.1))))) in
    let comes : (inputs : Inputs) (run : Run) → IsRunOf c.first_count.new.net inputs run → (clear : Stream) → AreCounted (length inputs.trace) (run on) (run nets.quiet.0) (run late) clear (run nets.uncleared.0) → (n : ℕ) → n < length inputs.trace
    → On (run count.comes.0) n ↔ ComesTo (run on) low (On (run late)) (run start) clear 1 n
    = λ inputs run h clear are n within. come_more (run on) low (On (run late)) (run start) clear 0 n (run count.live.0) (run count.comes.0) _ (stage inputs run h clear are n within).0
    (passes run n low 0 late on (leb low 1) refl (are.lates n within)) (e.comes inputs run h n within) in
    record {
      kept = e.kept;
      grows = e.grows;
      comes_net = e.comes_net;
      due_net = e.due_net;
      waiting_net = e.waiting_net;
      comes = comes;
      due = λ inputs run h clear are n within.
          counted_first (run on) low (On (run late)) (run start) clear c.args.first n (run count.due.0) (run count.comes.0) (leb c.args.first 1) refl (comes inputs run h clear are n within) (e.due inputs run h n within);
      waiting = λ inputs run h clear are n within.
          below_first (run on) low (On (run late)) (run start) clear n (run count.waiting.0) (run count.stays.0) (stage inputs run h clear are n within).1 (e.waiting inputs run h n within);
    }

pub loop-events-preserved : goal.loop-events-preserved
loop-events-preserved c =
    let nets = c.args.nets in
    let before = c.loop-events.count in
    let was = c.loop-events.invariant in
    let count = c.in_ok-count-2.count in
    let e = c.in_ok-count-2.ensures in
    let low = c.args.low in
    let on = nets.on.0 in
    let late = nets.late.0 in
    let start = c.args.start.0 in
    let j = c.loop-events.events in
    let some : 1 ≤ j = c.loop-events.auto.events in
    let next : suc j ≡ j + 1 = omega arith in
    let stage : (inputs : Inputs) (run : Run) → IsRunOf c.next_count.new.net inputs run → (clear : Stream) → AreCounted (length inputs.trace) (run on) (run nets.quiet.0) (run late) clear (run nets.uncleared.0) → (n : ℕ) → n < length inputs.trace
    → (On (run count.live.0) n ↔ Had (run on) low (On (run late)) (run start) clear j n) × (On (run count.stays.0) n ↔ Has (run on) low (On (run late)) (run start) clear j n)
    = λ inputs run h clear are. staged (run on) low (On (run late)) (run start) clear (length inputs.trace) j (λ n. ⊥) (On (run before.comes.0)) (run nets.uncleared.0) (run nets.quiet.0) (run count.live.0) (run count.stays.0)
    are.opens are.quiets (e.stage inputs run h) (λ n within. ((λ s. absurd s), (λ p. absurd (omega (arith, p.0, some))))) (was.comes inputs run (e.kept.runs inputs run h) clear are) in
    let comes : (inputs : Inputs) (run : Run) → IsRunOf c.next_count.new.net inputs run → (clear : Stream) → AreCounted (length inputs.trace) (run on) (run nets.quiet.0) (run late) clear (run nets.uncleared.0) → (n : ℕ) → n < length inputs.trace
    → On (run count.comes.0) n ↔ ComesTo (run on) low (On (run late)) (run start) clear (suc j) n
    = λ inputs run h clear are n within. come_more (run on) low (On (run late)) (run start) clear j n (run count.live.0) (run count.comes.0) _ (stage inputs run h clear are n within).0
    (passes run n low j late on (leb low (j + 1)) refl (are.lates n within)) (e.comes inputs run h n within) in
    record {
      kept = c.extensions_join.ensures.twice _ _ _ was.kept e.kept;
      grows = c.growths_join.ensures.twice c.args.net.now c.loop-events.net c.next_count.new.net j 1 was.grows e.grows;
      comes_net = e.comes_net;
      due_net = e.due_net;
      waiting_net = e.waiting_net;
      comes = λ inputs run h clear are n within.
          subst (λ (k : ℕ). On (run count.comes.0) n ↔ ComesTo (run on) low (On (run late)) (run start) clear k n) next (comes inputs run h clear are n within);
      due = λ inputs run h clear are n within.
          subst (λ (k : ℕ). On (run count.due.0) n ↔ IsCounted (run on) low (On (run late)) c.args.first k (run start) clear n) next
          (counted_more (run on) low (On (run late)) (run start) clear c.args.first j n (run before.due.0) (run count.due.0) (run count.comes.0) (leb c.args.first (j + 1)) refl (comes inputs run h clear are n within)
          (was.due inputs run (e.kept.runs inputs run h) clear are n within) (e.due inputs run h n within));
      waiting = λ inputs run h clear are n within.
          subst (λ (k : ℕ). On (run count.waiting.0) n ↔ IsCountedBelow (run on) low (On (run late)) k (run start) clear n) next
          (below_more (run on) low (On (run late)) (run start) clear j n (run before.waiting.0) (run count.waiting.0) (run count.stays.0) (stage inputs run h clear are n within).1
          (was.waiting inputs run (e.kept.runs inputs run h) clear are n within) (e.waiting inputs run h n within));
    }

pub returns-clause-due : goal.returns-clause-due
returns-clause-due c inputs run h clear are n within =
    let last : c.loop-events.events ≡ c.args.high = omega (arith, c.loop-events-test.false, c.loop-events.auto.events-end) in
    subst (λ (s : ℕ). On (run c.loop-events.count.due.0) n ↔ IsCounted (run c.args.nets.on.0) c.args.low (On (run c.args.nets.late.0)) c.args.first s (run c.args.start.0) clear n) last (c.loop-events.invariant.due inputs run h clear are n within)

pub returns-clause-waiting : goal.returns-clause-waiting
returns-clause-waiting c inputs run h clear are n within =
    let last : c.loop-events.events ≡ c.args.high = omega (arith, c.loop-events-test.false, c.loop-events.auto.events-end) in
    subst (λ (s : ℕ). On (run c.loop-events.count.waiting.0) n ↔ IsCountedBelow (run c.args.nets.on.0) c.args.low (On (run c.args.nets.late.0)) s (run c.args.start.0) clear n) last (c.loop-events.invariant.waiting inputs run h clear are n within)
