use Rattle.std.proofs.Common.{◌≡◌, ◌↔◌, ◌+◌, ℕ, suc, subst, arith}
use Rattle.circuit_core.specs.Run.{On}
use Rattle.strong_obligations.specs.Next.{IsDue, IsAwaited}
use Rattle.strong_obligations.proofs.Stages.{AtStage, first_stage, next_stage, due_first, due_more}
use Rattle.strong_obligations.proofs.Stages.{awaited_first, awaited_more, early_low}
use Rattle.strong_obligations.proofs.chains.chain_of.Goals as goal

pub loop-stage-init : goal.loop-stage-init
loop-stage-init c =
    let b = c.in_ok-first.ensures in
    let live = c.in_ok-first.first.live.0 in
    let due = c.in_ok-first.first.due.0 in
    record {
      kept = b.kept;
      grows = b.grows;
      live_net = b.live_net;
      due_net = b.due_net;
      waiting_net = b.waiting_net;
      live = λ inputs run h clear opposite n within.
          first_stage (run c.args.start.0) clear (run c.args.uncleared.0) (run live) n (opposite n within)
          (b.live inputs run h n within);
      due = λ inputs run h clear opposite n within.
          let lives = first_stage (run c.args.start.0) clear (run c.args.uncleared.0) (run live) n (opposite n within)
          (b.live inputs run h n within) in
          due_first c.args.low (run c.args.start.0) clear (run due) (run live) n lives (b.due inputs run h n within);
      waiting = λ inputs run h clear opposite n within.
          awaited_first (run c.args.start.0) clear (run c.in_ok-first.first.waiting.0) n
          (b.waiting inputs run h n within);
    }

pub loop-stage-preserved : goal.loop-stage-preserved
loop-stage-preserved c =
    let start = c.args.start.0 in
    let uncleared = c.args.uncleared.0 in
    let so_far = c.loop-stage.stage in
    let old = c.loop-stage.chain in
    let new = c.in_ok-chain.chain in
    let before = c.loop-stage.invariant in
    let more = c.in_ok-chain.ensures in
    let next : suc so_far ≡ so_far + 1 = omega arith in
    record {
      kept = c.extensions_join.ensures.twice _ _ _ before.kept more.kept;
      grows = c.growths_join.ensures.twice c.args.net.now c.loop-stage.net c.lengthen.new.net so_far 1 before.grows
          more.grows;
      live_net = more.live_net;
      due_net = more.due_net;
      waiting_net = more.waiting_net;
      live = λ inputs run h clear opposite n within.
          let r1 = more.kept.runs inputs run h in
          subst (λ (s : ℕ). On (run new.live.0) n ↔ AtStage s (run start) clear n) next
          (next_stage _ so_far (run start) clear (run uncleared) (run old.live.0) (run new.live.0) opposite
          (more.live_first inputs run h) (more.live_later inputs run h) (before.live inputs run r1 clear opposite) n
          within);
      due = λ inputs run h clear opposite n within.
          let r1 = more.kept.runs inputs run h in
          let lives = next_stage _ so_far (run start) clear (run uncleared) (run old.live.0) (run new.live.0) opposite
          (more.live_first inputs run h) (more.live_later inputs run h) (before.live inputs run r1 clear opposite) n
          within in
          subst (λ (s : ℕ). On (run new.due.0) n ↔ IsDue c.args.low s (run start) clear n) next
          (due_more c.args.low so_far (run start) clear (run old.due.0) (run new.live.0) (run new.due.0) _ n
          (early_low c.args.low so_far) lives (before.due inputs run r1 clear opposite n within)
          (more.due inputs run h n within));
      waiting = λ inputs run h clear opposite n within.
          let r1 = more.kept.runs inputs run h in
          subst (λ (s : ℕ). On (run new.waiting.0) n ↔ IsAwaited s (run start) clear n) next
          (awaited_more so_far (run start) clear (run old.waiting.0) (run old.live.0) (run new.waiting.0) n
          (before.live inputs run r1 clear opposite n within) (before.waiting inputs run r1 clear opposite n within)
          (more.waiting inputs run h n within));
    }

pub returns-clause-due : goal.returns-clause-due
returns-clause-due c inputs run h clear opposite n within =
    let last : c.loop-stage.stage ≡ c.args.high =
    omega (arith, c.loop-stage-test.false, c.loop-stage.auto.stage-end) in
    subst (λ (s : ℕ). On (run c.loop-stage.chain.due.0) n ↔ IsDue c.args.low s (run c.args.start.0) clear n) last
    (c.loop-stage.invariant.due inputs run h clear opposite n within)

pub returns-clause-waiting : goal.returns-clause-waiting
returns-clause-waiting c inputs run h clear opposite n within =
    let last : c.loop-stage.stage ≡ c.args.high =
    omega (arith, c.loop-stage-test.false, c.loop-stage.auto.stage-end) in
    subst (λ (s : ℕ). On (run c.loop-stage.chain.waiting.0) n ↔ IsAwaited s (run c.args.start.0) clear n) last
    (c.loop-stage.invariant.waiting inputs run h clear opposite n within)
