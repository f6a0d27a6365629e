use Rattle.std.proofs.Common.{◌≡◌, ◌↔◌, ◌<◌, ◌^◌, ◌++◌, ℕ, [], ◌∷◌, All, true, length, take, get_or, List, refl, sym}
use Rattle.std.proofs.Common.{ap, ◌∙◌, subst, arith}
use Rattle.circuit_core.specs.declared.nodes.Net.{Net}
use Rattle.circuit_core.specs.Netlist.{IsNet}
use Rattle.circuit_core.specs.Run.{On}
use Rattle.sequence_circuits.proofs.Kept.{extends_trans}
use Rattle.sequence_circuits.specs.Guards.{values_at}
use Rattle.sequence_circuits.specs.inner.Moves.{move_number}
use Rattle.sequence_circuits.specs.Guards.{numbers}
use Rattle.sequence_circuits.specs.inner.Nets.{stream_at}
use Rattle.sequence_circuits.proofs.valuations.valuation_nets.Goals as goal
use Rattle.std.proofs.lemmas.List.{take_all}
use Rattle.std.proofs.lemmas.List.Elements.{All-push}
use Rattle.sequence_circuits.proofs.Kept.{extends_self}
use Rattle.sequence_circuits.proofs.Literals.{literal_on}
use Rattle.sequence_circuits.proofs.Doubling.{power, valuation_first, valuation_more}

pub loop-symbol-init : goal.loop-symbol-init
loop-symbol-init c =
    let m = c.args.net.now in
    let is : c.push.new.self.items ≡ c.args.live ∷ [] = c.in_ok-push.ensures.items ∙ ap
    (λ (ks : List Net). ks ++ c.args.live ∷ []) c.new-nets.ensures.items in
    record {
      kept = extends_self m;
      registers = refl;
      size = ap (λ (ks : List Net). length ks) is;
      nets = subst (All (λ k. IsNet m k.0)) (sym is)
          (All-push (λ k. IsNet m k.0) [] c.args.live (λ k d below. absurd (omega arith)) c.requires.live);
      stream = λ inputs run h n within v below. valuation_first run n c.args.live c.push.new.self.items
          (values_at run (numbers c.args.guards.now) n) v is below;
    }

pub loop-symbol-preserved : goal.loop-symbol-preserved
loop-symbol-preserved c =
    let j = c.loop-symbol.symbol-index in
    let old = c.as_slice.result.now in
    let size : length old ≡ 2 ^ j = ap (λ (ks : List Net). length ks) c.as_slice.ensures.value ∙
    c.loop-symbol.invariant.size in
    record {
      kept = extends_trans _ _ _ c.loop-symbol.invariant.kept c.in_ok-nets.ensures.kept;
      registers = c.in_ok-nets.ensures.registers ∙ c.loop-symbol.invariant.registers;
      size = (let p = power j in omega (arith, c.in_ok-nets.ensures.size));
      nets = c.in_ok-nets.ensures.nets;
      stream = λ inputs run h n within v below.
          valuation_more run n (numbers c.args.guards.now) c.args.symbols.now j c.args.live.0 _ old
          c.in_ok-nets.nets.items c.loop-symbol-test.true size
          (literal_on run n c.args.guards.now (get_or c.args.symbols.now j 0) true refl)
          (subst (λ (ks : List Net). (w : ℕ) → w < 2 ^ j → On (stream_at run (numbers ks) w) n ↔
          (On (run c.args.live.0) n × (move_number (values_at run (numbers c.args.guards.now) n)
          (take j c.args.symbols.now) ≡ w))) (sym c.as_slice.ensures.value)
          (c.loop-symbol.invariant.stream inputs run (c.in_ok-nets.ensures.kept.runs inputs run h) n within))
          (c.in_ok-nets.ensures.off inputs run h n within)
          (c.in_ok-nets.ensures.on inputs run h n within)
          v below;
    }

pub returns-clause-stream : goal.returns-clause-stream
returns-clause-stream c inputs run h n within v below =
    let j = c.loop-symbol.symbol-index in
    let all : take j c.args.symbols.now ≡ c.args.symbols.now = take_all j _ c.loop-symbol-test.false in
    let counted : length c.args.symbols.now ≡ j = omega arith in
    subst (λ (ss : List ℕ). On (stream_at run (numbers c.loop-symbol.nets.items) v) n ↔
    (On (run c.args.live.0) n × (move_number (values_at run (numbers c.args.guards.now) n) ss ≡ v))) all
    (c.loop-symbol.invariant.stream inputs run h n within v (subst (λ (k : ℕ). v < 2 ^ k) counted below))
