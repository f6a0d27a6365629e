use Rattle.std.proofs.Common.{◌↔◌, ℕ, inl, inr, ◌∙◌, subst}
use Rattle.circuit_core.specs.Run.{On}
use Rattle.circuit_core.specs.Growth.{Extends}
use Rattle.strong_obligations.proofs.Growing.{grows_on}
use Rattle.strong_obligations.proofs.counts.first_count.Goals as goal

pub returns-clause-grows : goal.returns-clause-grows
returns-clause-grows c =
    let m0 = c.args.net.now in
    let m1 = c.first_stage.new.net in
    let m2 = c.and.new.self in
    let m3 = c.bit.new.self in
    let join = c.extensions_join.ensures.twice in
    let x : Extends m0 m3 =
    join m0 m2 m3 (join m0 m1 m2 c.in_ok-stage.ensures.kept c.in_ok-comes.ensures.kept) c.in_ok-none.ensures.kept in
    c.growths_join.ensures.twice m0 m3 c.or_if.new.net 1 0 (grows_on m0 m1 m3 1 c.in_ok-stage.ensures.grows x
    (c.in_ok-none.ensures.registers ∙ c.in_ok-comes.ensures.registers)) c.in_ok-due.ensures.grows

pub returns-clause-comes : goal.returns-clause-comes
returns-clause-comes c inputs run h n within =
    let r2 = c.in_ok-none.ensures.kept.runs inputs run (c.in_ok-due.ensures.kept.runs inputs run h) in
    let P : ℕ → Type 0 = λ k. On (run c.in_ok-comes.comes.0) n ↔ (On (run c.in_ok-stage.stage.live.0) n × On (run k) n) in
    subst P c.pass.ensures (c.in_ok-comes.ensures.stream inputs run r2 n within)

pub returns-clause-due : goal.returns-clause-due
returns-clause-due c inputs run h n within =
    let off = c.in_ok-none.ensures.stream inputs run (c.in_ok-due.ensures.kept.runs inputs run h) n within in
    let due = c.in_ok-due.ensures.stream inputs run h n within in
    ((λ on. elim (due.0 on) [ inl none ↦ absurd (none off) | inr x ↦ x ]), (λ x. due.1 (inr x)))
