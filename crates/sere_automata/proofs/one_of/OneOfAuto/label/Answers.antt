use Rattle.std.proofs.Common.{OnOk, sym, subst}
use Rattle.std.proofs.lemmas.Result.{on_ok_weaker}
use Rattle.auto_core.specs.Edges.{PutsEdge, PassesEdge}
use Rattle.sere_automata.specs.declared.states.Choice.TheVariants.{Left, Right}
use Rattle.sere_automata.specs.OneOf.{one_of_edges}
use Rattle.sere_automata.proofs.Follow.{puts-renamed, passes-renamed}
use Rattle.sere_automata.proofs.one_of.OneOfAuto.label.Goals as goal

pub returns-in-New-clause-edge : goal.returns-in-New-clause-edge
returns-in-New-clause-edge g c =
    subst (λ s. OnOk c.first_label.result
    (PutsEdge (one_of_edges (g.A.Auto.machine c.args.self.now.left) (g.B.Auto.machine c.args.self.now.right) s)
    c.args.place c.args.onto.now c.first_label.new.onto))
    (sym c.in-New.is)
    c.first_label.ensures.edge

pub returns-in-New-clause-passes : goal.returns-in-New-clause-passes
returns-in-New-clause-passes g c =
    subst (λ s. OnOk c.first_label.result
    (PassesEdge (one_of_edges (g.A.Auto.machine c.args.self.now.left) (g.B.Auto.machine c.args.self.now.right) s)
    c.args.place c.args.onto.now c.first_label.new.onto))
    (sym c.in-New.is)
    c.first_label.ensures.passes

pub returns-in-Left-clause-edge : goal.returns-in-Left-clause-edge
returns-in-Left-clause-edge g c =
    subst (λ s. OnOk c.label.result
    (PutsEdge (one_of_edges (g.A.Auto.machine c.args.self.now.left) (g.B.Auto.machine c.args.self.now.right) s)
    c.args.place c.args.onto.now c.label.new.onto))
    (sym c.in-Left.is)
    (on_ok_weaker c.label.result
    (puts-renamed Left ((g.A.Auto.machine c.args.self.now.left).edges c.in-Left.p) c.args.place c.args.onto.now
    c.label.new.onto)
    c.label.ensures.edge)

pub returns-in-Left-clause-passes : goal.returns-in-Left-clause-passes
returns-in-Left-clause-passes g c =
    subst (λ s. OnOk c.label.result
    (PassesEdge (one_of_edges (g.A.Auto.machine c.args.self.now.left) (g.B.Auto.machine c.args.self.now.right) s)
    c.args.place c.args.onto.now c.label.new.onto))
    (sym c.in-Left.is)
    (on_ok_weaker c.label.result
    (passes-renamed Left ((g.A.Auto.machine c.args.self.now.left).edges c.in-Left.p) c.args.place c.args.onto.now
    c.label.new.onto)
    c.label.ensures.passes)

pub returns-in-Right-clause-edge : goal.returns-in-Right-clause-edge
returns-in-Right-clause-edge g c =
    subst (λ s. OnOk c.label-in-Right.result
    (PutsEdge (one_of_edges (g.A.Auto.machine c.args.self.now.left) (g.B.Auto.machine c.args.self.now.right) s)
    c.args.place c.args.onto.now c.label-in-Right.new.onto))
    (sym c.in-Right.is)
    (on_ok_weaker c.label-in-Right.result
    (puts-renamed Right ((g.B.Auto.machine c.args.self.now.right).edges c.in-Right.q) c.args.place c.args.onto.now
    c.label-in-Right.new.onto)
    c.label-in-Right.ensures.edge)

pub returns-in-Right-clause-passes : goal.returns-in-Right-clause-passes
returns-in-Right-clause-passes g c =
    subst (λ s. OnOk c.label-in-Right.result
    (PassesEdge (one_of_edges (g.A.Auto.machine c.args.self.now.left) (g.B.Auto.machine c.args.self.now.right) s)
    c.args.place c.args.onto.now c.label-in-Right.new.onto))
    (sym c.in-Right.is)
    (on_ok_weaker c.label-in-Right.result
    (passes-renamed Right ((g.B.Auto.machine c.args.self.now.right).edges c.in-Right.q) c.args.place c.args.onto.now
    c.label-in-Right.new.onto)
    c.label-in-Right.ensures.passes)
