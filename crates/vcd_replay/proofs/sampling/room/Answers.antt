use Rattle.std.proofs.Common.{ℕ, List, ◌+◌, ◌<◌, ◌≤◌, All, take, get_or, length, subst, arith}
use Rattle.std.proofs.lemmas.List.{take_all}
use Rattle.std.proofs.lemmas.List.Elements.{All-more}
use Rattle.vcd_replay.proofs.sampling.room.Goals as goal
use Rattle.vcd_replay.proofs.sampling.room.Goals.{then-code-room, else-code-room}

room_more : (codes : List ℕ) (i old new : ℕ) → i < length codes → All (λ code. code < old) (take i codes) → old ≤ new
    → get_or codes i 0 < new
    → All (λ code. code < new) (take (i + 1) codes)
room_more codes i old new low all more here =
    All-more (λ code. code < new) codes i 0 low
    (λ k d inside. let below : get_or (take i codes) k d < old = all k d inside in omega arith) here

pub loop-code-preserved : goal.loop-code-preserved
loop-code-preserved c = elim c.if-code-room.branch [
  | then-code-room w ↦ room_more c.args.codes.now c.loop-code.code-index c.loop-code.room c.if-code-room.room
      (omega arith) c.loop-code.invariant
      (omega (arith, w.room-is, w.if-code-room.true)) (omega (arith, w.room-is))
  | else-code-room w ↦ room_more c.args.codes.now c.loop-code.code-index c.loop-code.room c.if-code-room.room
      (omega arith) c.loop-code.invariant
      (omega (arith, w.room-is)) (omega (arith, w.room-is, w.if-code-room.false))
]

pub returns : goal.returns
returns c = record {
  all = subst (All (λ code. code < c.loop-code.room))
      (take_all c.loop-code.code-index c.args.codes.now (omega arith)) c.loop-code.invariant;
}
