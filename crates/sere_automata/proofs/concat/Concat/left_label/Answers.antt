use Rattle.std.proofs.Common.{OnOk, subst}
use Rattle.std.proofs.lemmas.Result.{on_ok_weaker}
use Rattle.auto_core.specs.Edges.{PutsEdge, PassesEdge}
use Rattle.automata_product.specs.declared.side.Side.TheVariants.{Left}
use Rattle.sere_automata.proofs.Either.{concat_then, concat_alone}
use Rattle.sere_automata.proofs.Follow.{puts-renamed, passes-renamed}
use Rattle.sere_automata.proofs.concat.Concat.left_label.Goals as goal

pub returns-then-accepts-clause-edge : goal.returns-then-accepts-clause-edge
returns-then-accepts-clause-edge g c =
    subst (λ es. OnOk c.either_label.result (PutsEdge es c.args.place c.args.onto.now c.either_label.new.onto))
    (concat_then (g.A.Auto.machine c.args.self.now.left) (g.B.Auto.machine c.args.self.now.right)
    c.args.state c.start-start.result c.accepts.result c.accepts.ensures c.if-accepts.true c.start-start.ensures.value)
    c.either_label.ensures.edge

pub returns-else-accepts-clause-edge : goal.returns-else-accepts-clause-edge
returns-else-accepts-clause-edge g c =
    subst (λ es. OnOk c.label.result (PutsEdge es c.args.place c.args.onto.now c.label.new.onto))
    (concat_alone (g.A.Auto.machine c.args.self.now.left) (g.B.Auto.machine c.args.self.now.right)
    c.args.state c.accepts.result c.accepts.ensures c.if-accepts.false)
    (on_ok_weaker c.label.result
    (puts-renamed Left ((g.A.Auto.machine c.args.self.now.left).edges c.args.state) c.args.place c.args.onto.now
    c.label.new.onto)
    c.label.ensures.edge)

pub returns-then-accepts-clause-passes : goal.returns-then-accepts-clause-passes
returns-then-accepts-clause-passes g c =
    subst (λ es. OnOk c.either_label.result (PassesEdge es c.args.place c.args.onto.now c.either_label.new.onto))
    (concat_then (g.A.Auto.machine c.args.self.now.left) (g.B.Auto.machine c.args.self.now.right)
    c.args.state c.start-start.result c.accepts.result c.accepts.ensures c.if-accepts.true c.start-start.ensures.value)
    c.either_label.ensures.passes

pub returns-else-accepts-clause-passes : goal.returns-else-accepts-clause-passes
returns-else-accepts-clause-passes g c =
    subst (λ es. OnOk c.label.result (PassesEdge es c.args.place c.args.onto.now c.label.new.onto))
    (concat_alone (g.A.Auto.machine c.args.self.now.left) (g.B.Auto.machine c.args.self.now.right)
    c.args.state c.accepts.result c.accepts.ensures c.if-accepts.false)
    (on_ok_weaker c.label.result
    (passes-renamed Left ((g.A.Auto.machine c.args.self.now.left).edges c.args.state) c.args.place c.args.onto.now
    c.label.new.onto)
    c.label.ensures.passes)
