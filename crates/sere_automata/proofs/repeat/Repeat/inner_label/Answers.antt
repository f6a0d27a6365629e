use Rattle.std.proofs.Common.{OnOk, subst}
use Rattle.std.proofs.lemmas.Result.{on_ok_weaker}
use Rattle.auto_core.specs.Edges.{PutsEdge, PassesEdge}
use Rattle.automata_product.specs.Sides.{either_edges}
use Rattle.sere_automata.specs.declared.states.Round.TheVariants.{Inner}
use Rattle.sere_automata.proofs.Either.{round_of, repeat_then, repeat_alone}
use Rattle.sere_automata.proofs.Follow.{puts-renamed, passes-renamed}
use Rattle.sere_automata.proofs.repeat.Repeat.inner_label.Goals as goal

pub returns-then-accepts-clause-edge : goal.returns-then-accepts-clause-edge
returns-then-accepts-clause-edge g c =
    subst (λ es. OnOk c.either_label.result (PutsEdge es c.args.place c.args.onto.now c.either_label.new.onto))
    (repeat_then (g.A.Auto.machine c.args.self.now.inner)
    c.args.state c.start-start.result c.accepts.result c.accepts.ensures c.if-accepts.true c.start-start.ensures.value)
    (on_ok_weaker c.either_label.result
    (puts-renamed round_of
    (either_edges (g.A.Auto.machine c.args.self.now.inner) (g.A.Auto.machine c.args.self.now.inner) c.args.state
    c.start-start.result)
    c.args.place c.args.onto.now c.either_label.new.onto)
    c.either_label.ensures.edge)

pub returns-else-accepts-clause-edge : goal.returns-else-accepts-clause-edge
returns-else-accepts-clause-edge g c =
    subst (λ es. OnOk c.label.result (PutsEdge es c.args.place c.args.onto.now c.label.new.onto))
    (repeat_alone (g.A.Auto.machine c.args.self.now.inner)
    c.args.state c.accepts.result c.accepts.ensures c.if-accepts.false)
    (on_ok_weaker c.label.result
    (puts-renamed Inner ((g.A.Auto.machine c.args.self.now.inner).edges c.args.state) c.args.place c.args.onto.now
    c.label.new.onto)
    c.label.ensures.edge)

pub returns-then-accepts-clause-passes : goal.returns-then-accepts-clause-passes
returns-then-accepts-clause-passes g c =
    subst (λ es. OnOk c.either_label.result (PassesEdge es c.args.place c.args.onto.now c.either_label.new.onto))
    (repeat_then (g.A.Auto.machine c.args.self.now.inner)
    c.args.state c.start-start.result c.accepts.result c.accepts.ensures c.if-accepts.true c.start-start.ensures.value)
    (on_ok_weaker c.either_label.result
    (passes-renamed round_of
    (either_edges (g.A.Auto.machine c.args.self.now.inner) (g.A.Auto.machine c.args.self.now.inner) c.args.state
    c.start-start.result)
    c.args.place c.args.onto.now c.either_label.new.onto)
    c.either_label.ensures.passes)

pub returns-else-accepts-clause-passes : goal.returns-else-accepts-clause-passes
returns-else-accepts-clause-passes g c =
    subst (λ es. OnOk c.label.result (PassesEdge es c.args.place c.args.onto.now c.label.new.onto))
    (repeat_alone (g.A.Auto.machine c.args.self.now.inner)
    c.args.state c.accepts.result c.accepts.ensures c.if-accepts.false)
    (on_ok_weaker c.label.result
    (passes-renamed Inner ((g.A.Auto.machine c.args.self.now.inner).edges c.args.state) c.args.place c.args.onto.now
    c.label.new.onto)
    c.label.ensures.passes)
