use Rattle.std.proofs.Common.{OnOk, sym, subst}
use Rattle.std.proofs.lemmas.Result.{on_ok_weaker}
use Rattle.auto_core.specs.Edges.{PutsEdge, PassesEdge}
use Rattle.sere_automata.specs.declared.states.Round.TheVariants.{Inner}
use Rattle.sere_automata.specs.Repeat.{repeat_edges}
use Rattle.sere_automata.proofs.Follow.{puts-renamed, passes-renamed}
use Rattle.sere_automata.proofs.repeat.RepeatAuto.label.Goals as goal

pub returns-in-New-clause-edge : goal.returns-in-New-clause-edge
returns-in-New-clause-edge g c =
    subst (λ s. OnOk c.label.result (PutsEdge (repeat_edges (g.A.Auto.machine c.args.self.now.inner) s)
    c.args.place c.args.onto.now c.label.new.onto))
    (sym c.in-New.is)
    (on_ok_weaker c.label.result
    (λ h. puts-renamed Inner
    ((g.A.Auto.machine c.args.self.now.inner).edges (g.A.Auto.machine c.args.self.now.inner).start)
    c.args.place c.args.onto.now c.label.new.onto
    (subst (λ s. PutsEdge ((g.A.Auto.machine c.args.self.now.inner).edges s)
    c.args.place c.args.onto.now c.label.new.onto) c.start.ensures.value h))
    c.label.ensures.edge)

pub returns-in-New-clause-passes : goal.returns-in-New-clause-passes
returns-in-New-clause-passes g c =
    subst (λ s. OnOk c.label.result (PassesEdge (repeat_edges (g.A.Auto.machine c.args.self.now.inner) s)
    c.args.place c.args.onto.now c.label.new.onto))
    (sym c.in-New.is)
    (on_ok_weaker c.label.result
    (λ h. passes-renamed Inner
    ((g.A.Auto.machine c.args.self.now.inner).edges (g.A.Auto.machine c.args.self.now.inner).start)
    c.args.place c.args.onto.now c.label.new.onto
    (subst (λ s. PassesEdge ((g.A.Auto.machine c.args.self.now.inner).edges s)
    c.args.place c.args.onto.now c.label.new.onto) c.start.ensures.value h))
    c.label.ensures.passes)

pub returns-in-Inner-clause-edge : goal.returns-in-Inner-clause-edge
returns-in-Inner-clause-edge g c =
    subst (λ s. OnOk c.inner_label.result (PutsEdge (repeat_edges (g.A.Auto.machine c.args.self.now.inner) s)
    c.args.place c.args.onto.now c.inner_label.new.onto))
    (sym c.in-Inner.is)
    c.inner_label.ensures.edge

pub returns-in-Inner-clause-passes : goal.returns-in-Inner-clause-passes
returns-in-Inner-clause-passes g c =
    subst (λ s. OnOk c.inner_label.result (PassesEdge (repeat_edges (g.A.Auto.machine c.args.self.now.inner) s)
    c.args.place c.args.onto.now c.inner_label.new.onto))
    (sym c.in-Inner.is)
    c.inner_label.ensures.passes
