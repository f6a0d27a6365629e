use Rattle.std.proofs.Common.{◌≡◌, ◌++◌, [], ◌∷◌, Some, length, slice_get, ap, ◌∙◌, arith}
use Rattle.circuit_core.specs.Growth.{Extends, opened}
use Rattle.strong_obligations.proofs.Growing.{grows_set}
use Rattle.strong_obligations.proofs.Opens.{open_always}
use Rattle.strong_obligations.proofs.starts.open_starts.Goals as goal

pub returns-clause-kept : goal.returns-clause-kept
returns-clause-kept c =
    let m0 = c.args.net.now in
    let m1 = c.reg.new.self in
    let m2 = c.or.new.self in
    let m3 = c.not.new.self in
    let m4 = c.and.new.self in
    let join = c.extensions_join.ensures.twice in
    let x : Extends m0 m4 =
    join m0 m3 m4 (join m0 m2 m3 (join m0 m1 m2 c.in_ok-register.ensures.kept c.in_ok-begun.ensures.kept)
    c.in_ok-kept.ensures.kept) c.in_ok-live.ensures.kept in
    c.extensions_join.ensures.set m0 m4 c.set_next.new.self c.in_ok-register.register.0 c.in_ok-live.live.0 x
    (omega (arith, c.in_ok-register.ensures.number)) c.set_next.ensures

pub returns-clause-grows : goal.returns-clause-grows
returns-clause-grows c =
    let m0 = c.args.net.now in
    let m1 = c.reg.new.self in
    let m4 = c.and.new.self in
    let r = c.in_ok-register.register.0 in
    let same : m4.registers ≡ m1.registers =
    c.in_ok-live.ensures.registers ∙ c.in_ok-kept.ensures.registers ∙ c.in_ok-begun.ensures.registers in
    let one : m4.registers ≡ m0.registers ++ opened 1 0 ∷ [] = same ∙ c.in_ok-register.ensures.registers in
    let there : slice_get m4.registers r ≡ Some (opened 1 0) =
    ap (λ rs. slice_get rs r) same ∙ c.in_ok-register.ensures.register in
    grows_set m0 m4 c.set_next.new.self r 1 0 c.in_ok-live.live.0 (returns-clause-kept c)
    c.in_ok-register.ensures.number one there c.set_next.ensures

pub returns-clause-stream : goal.returns-clause-stream
returns-clause-stream c inputs run r5 =
    let held = c.in_ok-register.held.0 in
    let live = c.in_ok-live.live.0 in
    let r4 = c.set_next.ensures.runs inputs run r5 in
    let r3 = c.in_ok-live.ensures.kept.runs inputs run r4 in
    let r2 = c.in_ok-kept.ensures.kept.runs inputs run r3 in
    let r1 = c.in_ok-begun.ensures.kept.runs inputs run r2 in
    let of = c.in_ok-live.ensures.kept.nodes held _ (c.in_ok-kept.ensures.kept.nodes held _
    (c.in_ok-begun.ensures.kept.nodes held _ c.in_ok-register.ensures.net_of)) in
    open_always (run c.args.start.0) (run c.args.clear.0) (run held) (run live) (length inputs.trace)
    (λ some on. on (c.in_ok-register.ensures.begins inputs run r1 some))
    (c.set_next.ensures.follows held of inputs run r5)
    (λ n within.
    let both = c.in_ok-live.ensures.stream inputs run r4 n within in
    let begun = c.in_ok-begun.ensures.stream inputs run r2 n within in
    let kept = c.in_ok-kept.ensures.stream inputs run r3 n within in
    ((λ on. let p = both.0 on in (begun.0 p.0, kept.0 p.1)), (λ p. both.1 (begun.1 p.0, kept.1 p.1))))
