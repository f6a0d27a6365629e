use Rattle.std.proofs.Common.{◌≡◌, List, length, map, ◌++◌, sym, subst, arith, rules}
use Rattle.psl_model.specs.declared.units.Directive.{Directive}
use Rattle.psl_model.specs.UnitView.{unit_of, directive_of}
use Rattle.verilog_text.specs.declared.module.Module.{Module}
use Rattle.verilog_text.specs.View.{module_of}
use Rattle.mbac_compile.specs.Units.{IsWellWorded, IsWellFormed}
use Rattle.unit_compile.specs.Made.{AreMade}
use Rattle.unit_compile.proofs.Loops.{plain, StandsAt, has_at, made_next, made_whole}
use Rattle.unit_compile.proofs.Loops.{none_judged, judged_next, taken_whole, unmade_here}
use Rattle.unit_compile.specs.inner.Unmade.{AreUnmade}
use Rattle.unit_compile.proofs.making.directive_modules.Goals as goal

pub put_module-requires-clause-words : goal.put_module-requires-clause-words
put_module-requires-clause-words c =
    has_at (λ (d : Directive). IsWellWorded (directive_of d)) c.args.directives.now c.loop-place.place
    c.index-directives-place.result (record { within = c.loop-place-test.true; read = c.index-directives-place.is })
    c.requires.words

pub put_module-requires-clause-expressions : goal.put_module-requires-clause-expressions
put_module-requires-clause-expressions c =
    has_at (λ (d : Directive). IsWellFormed (unit_of c.args.unit.now) (directive_of d)) c.args.directives.now
    c.loop-place.place c.index-directives-place.result
    (record { within = c.loop-place-test.true; read = c.index-directives-place.is }) c.requires.expressions

pub loop-place-init : goal.loop-place-init
loop-place-init c = (
  λ rest h. subst (λ (ms : List Module). AreMade (unit_of c.args.unit.now) 1 (plain c.args.directives.now)
      (map module_of ms ++ rest)) (sym c.new-modules.ensures.items) h,
  none_judged c.args.directives.now,
)

pub loop-place-preserved : goal.loop-place-preserved
loop-place-preserved c =
    let at : StandsAt c.args.directives.now c.loop-place.place c.index-directives-place.result =
    record { within = c.loop-place-test.true; read = c.index-directives-place.is } in (
      made_next (unit_of c.args.unit.now) c.args.directives.now c.loop-place.place c.index-directives-place.result
          (map module_of c.loop-place.modules.items) _ at c.loop-place.invariant.0 c.in_ok-steps.ensures.made,
      judged_next c.args.directives.now c.loop-place.place c.loop-place.steps _ c.index-directives-place.result at
          c.in_ok-steps.ensures.taken c.loop-place.invariant.1,
    )

pub returns-clause-made : goal.returns-clause-made
returns-clause-made c =
    let all : c.loop-place.place ≡ length c.args.directives.now = omega arith in
    made_whole (unit_of c.args.unit.now) c.args.directives.now c.loop-place.place
    (map module_of c.loop-place.modules.items) all c.loop-place.invariant.0

pub returns-clause-taken : goal.returns-clause-taken
returns-clause-taken c =
    let all : c.loop-place.place ≡ length c.args.directives.now = omega arith in
    taken_whole c.args.directives.now c.loop-place.place c.loop-place.steps all c.loop-place.invariant.1

pub returns-in_err-steps-clause-refused : goal.returns-in_err-steps-clause-refused
returns-in_err-steps-clause-refused c =
    let why : AreUnmade (map directive_of c.args.directives.now) c.in_err-steps.field-0.0 =
    unmade_here c.args.directives.now c.loop-place.place c.loop-place.steps c.index-directives-place.result c.in_err-steps.field-0.0
    (record { within = c.loop-place-test.true; read = c.index-directives-place.is })
    c.in_err-steps.ensures.refused c.loop-place.invariant.1 in
    first_of (search (rules, why), grind (arith, why))
