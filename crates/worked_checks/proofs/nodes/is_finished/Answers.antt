use Rattle.std.proofs.Common.{ℕ, subst, sym, refl}
use Rattle.std.specs.Prelude.{Option, IsSome}
use Rattle.worked_checks.proofs.SetNexts.{nexts}
use Rattle.worked_checks.proofs.nodes.is_finished.Goals as goal

pub returns-in-Some : goal.returns-in-Some
returns-in-Some c true =
    let m = c.args.netlist.now in
    c.a_netlist_with_all_set_is_finished.ensures m c.a_netlist_is_well_made.ensures
    (nexts m c.regs.result.now c.regs.ensures (c.are_set.ensures.0 true))
    (subst (λ (o : Option ℕ). IsSome o) c.in-Some.ensures refl)
