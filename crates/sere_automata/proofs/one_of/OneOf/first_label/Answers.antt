use Rattle.std.proofs.Common.{OnOk, subst}
use Rattle.std.proofs.lemmas.Result.{on_ok_weaker}
use Rattle.auto_core.specs.Edges.{PutsEdge, PassesEdge}
use Rattle.automata_product.specs.Sides.{either_edges}
use Rattle.sere_automata.proofs.Either.{choice_of, one_of_first}
use Rattle.sere_automata.proofs.Follow.{puts-renamed, passes-renamed}
use Rattle.sere_automata.proofs.one_of.OneOf.first_label.Goals as goal

pub returns-clause-edge : goal.returns-clause-edge
returns-clause-edge g c =
    subst (λ es. OnOk c.either_label.result (PutsEdge es c.args.place c.args.onto.now c.either_label.new.onto))
    (one_of_first (g.A.Auto.machine c.args.self.now.left) (g.B.Auto.machine c.args.self.now.right)
    c.start-start.result c.start-other.result c.start-start.ensures.value c.start-other.ensures.value)
    (on_ok_weaker c.either_label.result
    (puts-renamed choice_of
    (either_edges (g.A.Auto.machine c.args.self.now.left) (g.B.Auto.machine c.args.self.now.right)
    c.start-start.result c.start-other.result)
    c.args.place c.args.onto.now c.either_label.new.onto)
    c.either_label.ensures.edge)

pub returns-clause-passes : goal.returns-clause-passes
returns-clause-passes g c =
    subst (λ es. OnOk c.either_label.result (PassesEdge es c.args.place c.args.onto.now c.either_label.new.onto))
    (one_of_first (g.A.Auto.machine c.args.self.now.left) (g.B.Auto.machine c.args.self.now.right)
    c.start-start.result c.start-other.result c.start-start.ensures.value c.start-other.ensures.value)
    (on_ok_weaker c.either_label.result
    (passes-renamed choice_of
    (either_edges (g.A.Auto.machine c.args.self.now.left) (g.B.Auto.machine c.args.self.now.right)
    c.start-start.result c.start-other.result)
    c.args.place c.args.onto.now c.either_label.new.onto)
    c.either_label.ensures.passes)
