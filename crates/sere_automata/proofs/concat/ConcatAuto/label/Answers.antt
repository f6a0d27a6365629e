use Rattle.std.proofs.Common.{OnOk, sym, subst}
use Rattle.std.proofs.lemmas.Result.{on_ok_weaker}
use Rattle.auto_core.specs.Edges.{PutsEdge, PassesEdge}
use Rattle.automata_product.specs.declared.side.Side.TheVariants.{Right}
use Rattle.sere_automata.specs.Concat.{concat_edges}
use Rattle.sere_automata.proofs.Follow.{puts-renamed, passes-renamed}
use Rattle.sere_automata.proofs.concat.ConcatAuto.label.Goals as goal

pub returns-in-Left-clause-edge : goal.returns-in-Left-clause-edge
returns-in-Left-clause-edge g c =
    subst (λ s. OnOk c.left_label.result
    (PutsEdge (concat_edges (g.A.Auto.machine c.args.self.now.left) (g.B.Auto.machine c.args.self.now.right) s)
    c.args.place c.args.onto.now c.left_label.new.onto))
    (sym c.in-Left.is)
    c.left_label.ensures.edge

pub returns-in-Left-clause-passes : goal.returns-in-Left-clause-passes
returns-in-Left-clause-passes g c =
    subst (λ s. OnOk c.left_label.result
    (PassesEdge (concat_edges (g.A.Auto.machine c.args.self.now.left) (g.B.Auto.machine c.args.self.now.right) s)
    c.args.place c.args.onto.now c.left_label.new.onto))
    (sym c.in-Left.is)
    c.left_label.ensures.passes

pub returns-in-Right-clause-edge : goal.returns-in-Right-clause-edge
returns-in-Right-clause-edge g c =
    subst (λ s. OnOk c.label.result
    (PutsEdge (concat_edges (g.A.Auto.machine c.args.self.now.left) (g.B.Auto.machine c.args.self.now.right) s)
    c.args.place c.args.onto.now c.label.new.onto))
    (sym c.in-Right.is)
    (on_ok_weaker c.label.result
    (puts-renamed Right ((g.B.Auto.machine c.args.self.now.right).edges c.in-Right.q) c.args.place c.args.onto.now
    c.label.new.onto)
    c.label.ensures.edge)

pub returns-in-Right-clause-passes : goal.returns-in-Right-clause-passes
returns-in-Right-clause-passes g c =
    subst (λ s. OnOk c.label.result
    (PassesEdge (concat_edges (g.A.Auto.machine c.args.self.now.left) (g.B.Auto.machine c.args.self.now.right) s)
    c.args.place c.args.onto.now c.label.new.onto))
    (sym c.in-Right.is)
    (on_ok_weaker c.label.result
    (passes-renamed Right ((g.B.Auto.machine c.args.self.now.right).edges c.in-Right.q) c.args.place c.args.onto.now
    c.label.new.onto)
    c.label.ensures.passes)
