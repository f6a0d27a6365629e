use Rattle.std.proofs.Common.{subst}
use Rattle.auto_core.specs.Edges.{LeadsTo}
use Rattle.automata_product.specs.Sides.{either_edges}
use Rattle.sere_automata.specs.declared.states.Round.TheVariants.{Inner}
use Rattle.sere_automata.specs.Repeat.{repeat_edges}
use Rattle.sere_automata.proofs.Either.{round_of, repeat_then, repeat_alone}
use Rattle.sere_automata.proofs.Follow.{leads-renamed}
use Rattle.sere_automata.proofs.repeat.Repeat.inner_target.Goals as goal

pub returns-in-Left-clause-edge : goal.returns-in-Left-clause-edge
returns-in-Left-clause-edge g c =
    subst (λ s. LeadsTo (repeat_edges (g.A.Auto.machine c.args.self.now.inner) (Inner c.args.state)) c.args.place
    (round_of s))
    c.in-Left.is
    (subst (λ es. LeadsTo es c.args.place (round_of c.either_target.result))
    (repeat_then (g.A.Auto.machine c.args.self.now.inner)
    c.args.state c.start-start.result c.accepts.result c.accepts.ensures c.if-accepts.true c.start-start.ensures.value)
    (leads-renamed round_of
    (either_edges (g.A.Auto.machine c.args.self.now.inner) (g.A.Auto.machine c.args.self.now.inner) c.args.state
    c.start-start.result)
    c.args.place c.either_target.result c.either_target.ensures.edge))

pub returns-in-Right-clause-edge : goal.returns-in-Right-clause-edge
returns-in-Right-clause-edge g c =
    subst (λ s. LeadsTo (repeat_edges (g.A.Auto.machine c.args.self.now.inner) (Inner c.args.state)) c.args.place
    (round_of s))
    c.in-Right.is
    (subst (λ es. LeadsTo es c.args.place (round_of c.either_target.result))
    (repeat_then (g.A.Auto.machine c.args.self.now.inner)
    c.args.state c.start-start.result c.accepts.result c.accepts.ensures c.if-accepts.true c.start-start.ensures.value)
    (leads-renamed round_of
    (either_edges (g.A.Auto.machine c.args.self.now.inner) (g.A.Auto.machine c.args.self.now.inner) c.args.state
    c.start-start.result)
    c.args.place c.either_target.result c.either_target.ensures.edge))

pub returns-else-accepts-clause-edge : goal.returns-else-accepts-clause-edge
returns-else-accepts-clause-edge g c =
    subst (λ es. LeadsTo es c.args.place (Inner c.target.result))
    (repeat_alone (g.A.Auto.machine c.args.self.now.inner)
    c.args.state c.accepts.result c.accepts.ensures c.if-accepts.false)
    (leads-renamed Inner ((g.A.Auto.machine c.args.self.now.inner).edges c.args.state) c.args.place c.target.result
    c.target.ensures.edge)
