use Rattle.std.proofs.Common.{◌≡◌, ◌↔◌, take, List, ◌∙◌, subst}
use Rattle.std.proofs.lemmas.List.{take_all}
use Rattle.auto_core.specs.declared.labels.Literal.{Literal}
use Rattle.auto_core.specs.Machine.{Passes}
use Rattle.circuit_core.specs.Run.{On}
use Rattle.sequence_circuits.specs.Guards.{numbers}
use Rattle.sequence_circuits.specs.Detection.{letter_at}
use Rattle.sequence_circuits.proofs.Kept.{extends_trans}
use Rattle.sequence_circuits.proofs.Literals.{label_more}
use Rattle.sequence_circuits.proofs.edges.label_net.Goals as goal

pub loop-literal-preserved : goal.loop-literal-preserved
loop-literal-preserved c = record {
  kept = extends_trans _ _ _ c.loop-literal.invariant.kept c.in_ok-all.ensures.kept;
  registers = c.in_ok-all.ensures.registers ∙ c.loop-literal.invariant.registers;
  net = c.in_ok-all.ensures.net;
  stream = λ inputs run h n within.
      label_more run n c.args.guards.now c.literals-literal-items.result.now c.loop-literal.literal-index _
      c.args.from.0 c.loop-literal.all.0 c.in_ok-all.all.0 c.loop-literal-test.true
      (c.loop-literal.invariant.stream inputs run (c.in_ok-all.ensures.kept.runs inputs run h) n within)
      (c.in_ok-all.ensures.stream inputs run h n within);
}

pub returns-clause-stream : goal.returns-clause-stream
returns-clause-stream c inputs run h n within =
    let items = c.literals-literal-items.result.now in
    let all : take c.loop-literal.literal-index items ≡ c.args.label.now =
    take_all c.loop-literal.literal-index _ c.loop-literal-test.false ∙ c.literals-literal-items.ensures.value in
    subst (λ (ls : List Literal). On (run c.loop-literal.all.0) n ↔ (On (run c.args.from.0) n
    × Passes ls (letter_at run (numbers c.args.guards.now) n))) all
    (c.loop-literal.invariant.stream inputs run h n within)
