use Rattle.std.proofs.Common.{arith}
use Rattle.automata_product.proofs.FusePlaces.{fuse_count}
use Rattle.automata_product.proofs.fuse.Fuse.left_count.Goals as goal

pub returns : goal.returns
returns g c =
    fuse_count (g.A.Auto.machine c.args.self.now.left) (g.B.Auto.machine c.args.self.now.right) c.args.state
    c.start.result c.edge_count-count.result c.last_count.result c.edge_count.result
    c.edge_count-count.ensures c.last_count.ensures c.start.ensures.value c.edge_count.ensures

pub overflow_add-result : goal.overflow_add-result
overflow_add-result g c =
    let below = c.requires.fit.2 c.args.state c.requires.owned in omega (arith, below, returns g c)

pub overflow_mul-result : goal.overflow_mul-result
overflow_mul-result g c =
    let below = c.requires.fit.2 c.args.state c.requires.owned in omega (arith, below, returns g c)
