use Rattle.std.proofs.Common.{subst}
use Rattle.auto_core.specs.Edges.{LeadsTo}
use Rattle.automata_product.specs.Sides.{either_edges}
use Rattle.sere_automata.specs.declared.states.Choice.TheVariants.{New}
use Rattle.sere_automata.specs.OneOf.{one_of_edges}
use Rattle.sere_automata.proofs.Either.{choice_of, one_of_first}
use Rattle.sere_automata.proofs.Follow.{leads-renamed}
use Rattle.sere_automata.proofs.one_of.OneOf.first_target.Goals as goal

pub returns-in-Left-clause-edge : goal.returns-in-Left-clause-edge
returns-in-Left-clause-edge g c =
    subst (λ s. LeadsTo
    (one_of_edges (g.A.Auto.machine c.args.self.now.left) (g.B.Auto.machine c.args.self.now.right) New)
    c.args.place (choice_of s))
    c.in-Left.is
    (subst (λ es. LeadsTo es c.args.place (choice_of c.either_target.result))
    (one_of_first (g.A.Auto.machine c.args.self.now.left) (g.B.Auto.machine c.args.self.now.right)
    c.start-start.result c.start-other.result c.start-start.ensures.value c.start-other.ensures.value)
    (leads-renamed choice_of
    (either_edges (g.A.Auto.machine c.args.self.now.left) (g.B.Auto.machine c.args.self.now.right)
    c.start-start.result c.start-other.result)
    c.args.place c.either_target.result c.either_target.ensures.edge))

pub returns-in-Right-clause-edge : goal.returns-in-Right-clause-edge
returns-in-Right-clause-edge g c =
    subst (λ s. LeadsTo
    (one_of_edges (g.A.Auto.machine c.args.self.now.left) (g.B.Auto.machine c.args.self.now.right) New)
    c.args.place (choice_of s))
    c.in-Right.is
    (subst (λ es. LeadsTo es c.args.place (choice_of c.either_target.result))
    (one_of_first (g.A.Auto.machine c.args.self.now.left) (g.B.Auto.machine c.args.self.now.right)
    c.start-start.result c.start-other.result c.start-start.ensures.value c.start-other.ensures.value)
    (leads-renamed choice_of
    (either_edges (g.A.Auto.machine c.args.self.now.left) (g.B.Auto.machine c.args.self.now.right)
    c.start-start.result c.start-other.result)
    c.args.place c.either_target.result c.either_target.ensures.edge))
