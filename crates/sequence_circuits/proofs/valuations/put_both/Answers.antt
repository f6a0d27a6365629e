use Rattle.std.proofs.Common.{◌↔◌, ◌<◌, ◌+◌, [], ◌∷◌, All, length, length-append, get_or, List, sym, ap, ◌∙◌, subst}
use Rattle.std.proofs.Common.{arith}
use Rattle.circuit_core.specs.declared.nodes.Net.{Net}
use Rattle.circuit_core.specs.Netlist.{IsNet}
use Rattle.circuit_core.specs.Run.{On}
use Rattle.sequence_circuits.proofs.Kept.{extends_trans}
use Rattle.sequence_circuits.specs.Guards.{numbers}
use Rattle.sequence_circuits.specs.inner.Nets.{stream_at}
use Rattle.sequence_circuits.proofs.valuations.put_both.Goals as goal
use Rattle.std.proofs.lemmas.List.Elements.{All-push}
use Rattle.sequence_circuits.proofs.Nets.{number_before}
use Rattle.sequence_circuits.proofs.PutBoth.{both_push}

pub loop-each-preserved : goal.loop-each-preserved
loop-each-preserved c =
    let onto = c.loop-each.onto.items in
    let joined = c.in_ok-joined.joined in
    let m2 = c.and.new.self in
    let pushed = c.in_ok-push.ensures.items in
    record {
      kept = extends_trans _ _ _ c.loop-each.invariant.kept c.in_ok-joined.ensures.kept;
      registers = c.in_ok-joined.ensures.registers ∙ c.loop-each.invariant.registers;
      size = (let l = length-append onto (joined ∷ []) in let e = ap (λ (ks : List Net). length ks) pushed in omega
          (arith, c.loop-each.invariant.size));
      nets = subst (All (λ k. IsNet m2 k.0)) (sym pushed)
          (All-push (λ k. IsNet m2 k.0) onto joined
          (λ k d below. let old : (get_or onto k d).0 < length c.loop-each.net.nodes = c.loop-each.invariant.nets k d
          below in let more = c.in_ok-joined.ensures.kept.more_nodes in omega arith)
          c.in_ok-joined.ensures.net);
      before = λ s below. ap (λ (ks : List Net). get_or (numbers ks) s 0) pushed ∙ number_before (λ (k : Net). k.0)
          onto s joined (omega (arith, c.loop-each.invariant.size)) ∙ c.loop-each.invariant.before s below;
      stream = λ inputs run h n within v below.
          subst (λ (ks : List Net). On (stream_at run (numbers ks) (length c.args.onto.now.items + v)) n ↔
          (On (stream_at run (numbers c.args.nets.now) v) n × On (run c.args.guard.0) n)) (sym pushed)
          (both_push run n c.args.nets.now onto (length c.args.onto.now.items) c.loop-each.each-index c.args.guard.0
          joined c.loop-each.invariant.size
          (c.loop-each.invariant.stream inputs run (c.in_ok-joined.ensures.kept.runs inputs run h) n within)
          (c.in_ok-joined.ensures.stream inputs run h n within)
          v below);
    }

pub returns-clause-stream : goal.returns-clause-stream
returns-clause-stream c inputs run h n within v below = c.loop-each.invariant.stream inputs run h n within v
    (omega arith)
