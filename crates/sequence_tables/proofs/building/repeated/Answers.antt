use Rattle.std.proofs.Common.{◌<◌, length, arith}
use Rattle.std.proofs.lemmas.Result.{IfOk-weaker}
use Rattle.auto_core.specs.Graph.{graph_machine}
use Rattle.sequence_tables.proofs.ChainPlaces.{chain_fits}
use Rattle.sequence_tables.proofs.Tables.{copies_stand}
use Rattle.sequence_tables.proofs.building.repeated.Goals as goal

pub made-requires : goal.made-requires
made-requires c =
    let few = c.are_small.ensures.left c.if-are_small.true in (
      tt,
      c.requires,
      omega (arith, c.ranges.count.fits),
      λ i p lt own. chain_fits (graph_machine c.args.body.now) (λ s. s < length c.args.body.now.accepting)
          c.args.count i p own few (omega (arith, c.ranges.count.fits)),
    )

pub returns-then-are_small : goal.returns-then-are_small
returns-then-are_small c =
    IfOk-weaker c.made.result _ _
    (λ t made. copies_stand c.args.body.now c.the_concatenation_accepts_one_list_after_the_other.ensures.words t
    c.args.count c.requires made)
    c.made.ensures
