use Rattle.std.proofs.Common.{◌≡◌, ℕ, suc, ◌-◌, sym, ◌∙◌, arith, take, drop, length, true, false}
use Rattle.std.proofs.lemmas.Grind.{common_steps}
use Rattle.vcd_reader.specs.Names.{has_range}
use Rattle.vcd_reader.proofs.NameLemmas.{no_range, range_at}
use Rattle.vcd_reader.proofs.names.range_start.Goals as goal

pub returns-then-colon-clause-cut : goal.returns-then-colon-clause-cut
returns-then-colon-clause-cut c =
    let e : suc (c.loop-at.at - 1) ≡ c.loop-at.at = omega arith in
    sym (range_at c.args.text.now (c.loop-at.at - 1) (omega arith) c.if-text-at-eq91.true
    (rw e (sym c.loop-at.invariant.0 ∙ c.if-colon.true)) (rw e c.loop-at.invariant.1))

pub returns-clause-cut : goal.returns-clause-cut
returns-clause-cut c =
    let none : has_range c.args.text.now ≡ false = grind (arith, c.loop-at.invariant.1) in
    grind (arith, common_steps, no_range c.args.text.now none)
