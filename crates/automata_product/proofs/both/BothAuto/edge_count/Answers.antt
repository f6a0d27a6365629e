use Rattle.std.proofs.Common.{arith}
use Rattle.automata_product.proofs.Places.{count_products}
use Rattle.automata_product.proofs.both.BothAuto.edge_count.Goals as goal

pub returns : goal.returns
returns g c =
    count_products (λ p q. (p, q))
    ((g.A.Auto.machine c.args.self.now.left).edges c.args.state.0)
    ((g.B.Auto.machine c.args.self.now.right).edges c.args.state.1)
    c.edge_count.result c.edge_count-2.result c.edge_count.ensures c.edge_count-2.ensures

pub overflow_mul-result : goal.overflow_mul-result
overflow_mul-result g c =
    let below = c.requires.fit.2 c.args.state.0 c.args.state.1 c.requires.owned.0 c.requires.owned.1 in
    omega (arith, below, returns g c)
