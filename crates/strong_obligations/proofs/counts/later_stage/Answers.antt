use Rattle.std.proofs.Common.{◌≡◌, ◌++◌, [], ◌∷◌, Some, suc, slice_get, sym, ap, ◌∙◌, inl, inr, arith}
use Rattle.circuit_core.specs.Run.{On}
use Rattle.circuit_core.specs.Growth.{Extends, opened}
use Rattle.strong_obligations.proofs.Growing.{grows_set}
use Rattle.strong_obligations.proofs.counts.later_stage.Goals as goal

pub returns-clause-kept : goal.returns-clause-kept
returns-clause-kept c =
    let m0 = c.args.net.now in
    let m1 = c.reg.new.self in
    let m2 = c.and.new.self in
    let m3 = c.and-2.new.self in
    let m4 = c.or.new.self in
    let join = c.extensions_join.ensures.twice in
    let x : Extends m0 m4 =
    join m0 m3 m4 (join m0 m2 m3 (join m0 m1 m2 c.in_ok-register.ensures.kept c.in_ok-live.ensures.kept)
    c.in_ok-stay.ensures.kept) c.in_ok-stays.ensures.kept in
    c.extensions_join.ensures.set m0 m4 c.set_next.new.self c.in_ok-register.register.0 c.in_ok-stays.stays.0 x
    (omega (arith, c.in_ok-register.ensures.number)) c.set_next.ensures

pub returns-clause-grows : goal.returns-clause-grows
returns-clause-grows c =
    let m0 = c.args.net.now in
    let m1 = c.reg.new.self in
    let m4 = c.or.new.self in
    let r = c.in_ok-register.register.0 in
    let same : m4.registers ≡ m1.registers =
    c.in_ok-stays.ensures.registers ∙ c.in_ok-stay.ensures.registers ∙ c.in_ok-live.ensures.registers in
    let one : m4.registers ≡ m0.registers ++ opened 1 0 ∷ [] = same ∙ c.in_ok-register.ensures.registers in
    let there : slice_get m4.registers r ≡ Some (opened 1 0) =
    ap (λ rs. slice_get rs r) same ∙ c.in_ok-register.ensures.register in
    grows_set m0 m4 c.set_next.new.self r 1 0 c.in_ok-stays.stays.0 (returns-clause-kept c)
    c.in_ok-register.ensures.number one there c.set_next.ensures

pub returns-clause-stage : goal.returns-clause-stage
returns-clause-stage c inputs run r5 =
    let held = c.in_ok-register.held.0 in
    let r4 = c.set_next.ensures.runs inputs run r5 in
    let r3 = c.in_ok-stays.ensures.kept.runs inputs run r4 in
    let r2 = c.in_ok-stay.ensures.kept.runs inputs run r3 in
    let r1 = c.in_ok-live.ensures.kept.runs inputs run r2 in
    let of = c.in_ok-stays.ensures.kept.nodes held _ (c.in_ok-stay.ensures.kept.nodes held _
    (c.in_ok-live.ensures.kept.nodes held _ c.in_ok-register.ensures.net_of)) in
    record {
      first = λ some.
          let live = c.in_ok-live.ensures.stream inputs run r2 0 some in
          let off = c.in_ok-register.ensures.begins inputs run r1 some in
          ((λ on. absurd ((live.0 on).0 off)), (λ p. absurd p.0));
      later = λ n within.
          let live = c.in_ok-live.ensures.stream inputs run r2 (suc n) within in
          let follows = c.set_next.ensures.follows held of inputs run r5 n within in (
            (λ on. let p = live.0 on in (inl (λ e. p.0 (follows ∙ e)), p.1)),
            (λ p.
                let old : On (run held) (suc n) =
                elim p.0 [ inl old ↦ (λ e. old (sym follows ∙ e)) | inr none ↦ absurd none ] in
                live.1 (old, p.1)),
          );
      keeps = λ n within.
          let stay = c.in_ok-stay.ensures.stream inputs run r3 n within in
          let stays = c.in_ok-stays.ensures.stream inputs run r4 n within in (
            (λ on. elim (stays.0 on) [ inl x ↦ inl (stay.0 x) | inr x ↦ inr x ]),
            (λ s. stays.1 (elim s [ inl x ↦ inl (stay.1 x) | inr x ↦ inr x ])),
          );
    }
