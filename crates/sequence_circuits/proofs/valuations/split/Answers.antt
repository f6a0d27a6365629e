use Rattle.std.proofs.Common.{◌≡◌, ◌↔◌, ◌+◌, ℕ, length, get_or, List, sym, ap, subst, arith}
use Rattle.circuit_core.specs.declared.nodes.Net.{Net}
use Rattle.circuit_core.specs.Run.{On}
use Rattle.sequence_circuits.specs.Guards.{numbers}
use Rattle.sequence_circuits.specs.inner.Nets.{stream_at}
use Rattle.sequence_circuits.proofs.valuations.split.Goals as goal
use Rattle.sequence_circuits.proofs.Nets.{on_same}

pub returns-clause-off : goal.returns-clause-off
returns-clause-off c inputs run h n within v below =
    let onto = c.put_both.new.onto.items in
    let none : length c.new-both.result.items ≡ 0 = ap (λ (ks : List Net). length ks) c.new-both.ensures.items in
    let r1 = c.in_ok-put_both-2.ensures.kept.runs inputs run h in
    let r0 = c.in_ok-put_both.ensures.kept.runs inputs run r1 in
    let off = c.in_ok-without.ensures.stream inputs run r0 n within in
    let place : length c.new-both.result.items + v ≡ v = omega arith in
    let same : get_or (numbers c.put_both-2.new.onto.items) v 0 ≡ get_or (numbers onto) v 0 =
    c.in_ok-put_both-2.ensures.before v (omega (arith, c.in_ok-put_both.ensures.size)) in
    let x = subst (λ (t : ℕ). On (stream_at run (numbers onto) t) n ↔
    (On (stream_at run (numbers c.args.nets.now) v) n × On (run c.in_ok-without.without.0) n)) place
    (c.in_ok-put_both.ensures.stream inputs run r1 n within v below) in (
      (λ on. let p = x.0 (on_same run n _ _ same on) in (p.0, off.0 p.1)),
      (λ p. on_same run n _ _ (sym same) (x.1 (p.0, off.1 p.1))),
    )

pub returns-clause-on : goal.returns-clause-on
returns-clause-on c inputs run h n within v below =
    let none : length c.new-both.result.items ≡ 0 = ap (λ (ks : List Net). length ks) c.new-both.ensures.items in
    let place : length c.put_both.new.onto.items + v ≡ length c.args.nets.now + v = omega
    (arith, c.in_ok-put_both.ensures.size) in
    subst (λ (t : ℕ). On (stream_at run (numbers c.put_both-2.new.onto.items) t) n ↔
    (On (stream_at run (numbers c.args.nets.now) v) n × On (run c.args.guard.0) n)) place
    (c.in_ok-put_both-2.ensures.stream inputs run h n within v below)
