use Rattle.std.proofs.Common.{length, arith, ◌∙◌}
use Rattle.std.specs.Prelude.{slice_index_or}
use Rattle.verilog_cycles.specs.declared.nodes.Node.TheVariants.{Number}
use Rattle.std.proofs.lemmas.List.{length-set}
use Rattle.verilog_cycles.proofs.Evaluation.{met_more, kept_more, node_there, node_more}
use Rattle.verilog_cycles.proofs.Lists.{get_within}
use Rattle.verilog_cycles.proofs.nodes.evaluate.Goals as goal

pub value-requires : goal.value-requires
value-requires c =
    let k = c.loop-place.place in
    let nodes = c.args.nodes.now in
    let n = slice_index_or nodes k (Number 0) in
    node_more k (length c.loop-place.table) n (omega (arith, c.loop-place.invariant.0, c.loop-place-test.true))
    (c.requires.tape k n (node_there nodes k c.loop-place-test.true))

pub loop-place-preserved : goal.loop-place-preserved
loop-place-preserved c =
    let k = c.loop-place.place in
    let nodes = c.args.nodes.now in
    let table = c.loop-place.table in
    let n = slice_index_or nodes k (Number 0) in (
      length-set table k c.value.result ∙ c.loop-place.invariant.0,
      met_more k c.args.first nodes table n c.value.result c.requires.tape (omega (
        arith,
        c.loop-place.invariant.0,
        c.loop-place-test.true,
      )) (node_there nodes k c.loop-place-test.true) c.value.ensures c.loop-place.invariant.1,
      kept_more c.args.first k c.value.result c.args.table.now table c.loop-place.auto.place c.loop-place.invariant.2,
    )

pub returns-clause-met : goal.returns-clause-met
returns-clause-met c k n le at =
    c.loop-place.invariant.1 k n le (let within = get_within c.args.nodes.now k n at in omega (
      arith,
      c.loop-place-test.false,
    )) at
