use Rattle.std.proofs.Common.{◌≡◌, ℕ, List, ap, ◌∙◌, subst}
use Rattle.std.specs.Prelude.{slice_get, sum, ◌↔◌, ◌≤◌}
use Rattle.std.proofs.Common.{rules}
use Rattle.std.specs.List.{filter_map}
use Rattle.std.proofs.lemmas.List.{length-map}
use Rattle.psl_model.specs.declared.names.Signal.{Signal}
use Rattle.psl_model.specs.Formula.{Formula}
use Rattle.psl_model.specs.Unit.{PslUnit, Directive}
use Rattle.psl_model.specs.UnitView.{unit_of, directive_of}
use Rattle.psl_model.specs.Uses.{used_places}
use Rattle.psl_rewrite.specs.BaseForm.{base_form_of}
use Rattle.psl_rewrite.specs.View.{base_of}
use Rattle.psl_rewrite.specs.Meaning.{named}
use Rattle.property_circuits.specs.Conditions.{HasGuards}
use Rattle.checked_modules.specs.Readings.{ReadsAs}
use Rattle.port_formulas.specs.Chosen.{chosen}
use Rattle.port_formulas.specs.Over.{over}
use Rattle.verilog_text.specs.Interface.{port_widths}
use Rattle.checker_meaning.specs.Headline.{module_name, shown_report, ports_of, places_of, widths_of}
use Rattle.std.proofs.lemmas.Result.{IfErr-weaker}
use Rattle.verilog_text.specs.State.{register_widths}
use Rattle.verilog_text.specs.View.{module_of}
use Rattle.formula_limits.specs.Registers.{register_limit}
use Rattle.formula_limits.specs.Steps.{HasSteps}
use Rattle.mbac_compile.proofs.Refused.{CountsAs, counts_too, refusal_too}
use Rattle.mbac_compile.proofs.Joined.{guards_too, interface_too, reads_too}
use Rattle.mbac_compile.proofs.directives.built_checker.Goals as goal

pub checker_of-requires-clause-guards : goal.checker_of-requires-clause-guards
checker_of-requires-clause-guards c =
    let unit : PslUnit = unit_of c.args.unit.now in
    let directive : Directive = directive_of c.args.directive.now in
    let f : Formula = directive.formula in
    let places : c.in_ok-places.places.items ≡ places_of unit directive =
    c.in_ok-places.ensures ∙ ap (λ (n : ℕ). used_places n f) c.len.ensures in
    let base : base_of c.in_ok-base.base ≡ base_form_of (over (places_of unit directive) f) =
    c.in_ok-base.ensures ∙ ap (λ (l : List ℕ). base_form_of (over l f)) (c.deref.ensures.value ∙ places) in
    let ports : c.in_ok-ports.ports.items ≡ ports_of unit directive =
    c.in_ok-ports.ensures
    ∙ ap (λ (l : List Signal). filter_map (slice_get l) c.deref-2.result.now) c.as_slice.ensures
    ∙ ap (λ (l : List ℕ). filter_map (slice_get unit.signals) l) (c.deref-2.ensures.value ∙ places) in
    let widths : c.deref-4.result.now ≡ chosen (places_of unit directive) (widths_of unit) =
    c.deref-4.ensures.value ∙ c.in_ok-widths.ensures ∙ ap port_widths (c.deref-3.ensures.value ∙ ports)
    ∙ c.a_unit_gives_interfaces.ensures.widths unit directive in
    guards_too (chosen (places_of unit directive) (widths_of unit)) c.deref-4.result.now
    (base_form_of (over (places_of unit directive) f)) (base_of c.in_ok-base.base) widths base
    (subst (λ (n : ℕ). HasGuards (chosen (used_places n f) (widths_of unit)) (base_form_of (over (used_places n f) f)))
    (length-map unit.signals (λ (s : Signal). s.width))
    (c.a_built_formula_reads_as_its_base_form.ensures.guards (widths_of unit) f c.requires.built
    c.requires.expressions))

pub checker_of-requires-clause-interface : goal.checker_of-requires-clause-interface
checker_of-requires-clause-interface c =
    let unit : PslUnit = unit_of c.args.unit.now in
    let directive : Directive = directive_of c.args.directive.now in
    let f : Formula = directive.formula in
    let places : c.in_ok-places.places.items ≡ places_of unit directive =
    c.in_ok-places.ensures ∙ ap (λ (n : ℕ). used_places n f) c.len.ensures in
    let ports : c.in_ok-ports.ports.items ≡ ports_of unit directive =
    c.in_ok-ports.ensures
    ∙ ap (λ (l : List Signal). filter_map (slice_get l) c.deref-2.result.now) c.as_slice.ensures
    ∙ ap (λ (l : List ℕ). filter_map (slice_get unit.signals) l) (c.deref-2.ensures.value ∙ places) in
    interface_too (module_name unit c.args.number directive) c.in_ok-name.name (shown_report directive.report)
    c.in_ok-report.report (ports_of unit directive) c.in_ok-ports.ports.items c.in_ok-name.ensures
    c.in_ok-report.ensures ports
    (c.a_unit_gives_interfaces.ensures.interface unit c.args.number directive c.ranges.number.fits c.requires.names
    c.requires.words)

pub returns-clause-checker : goal.returns-clause-checker
returns-clause-checker c =
    let unit : PslUnit = unit_of c.args.unit.now in
    let directive : Directive = directive_of c.args.directive.now in
    let f : Formula = directive.formula in
    let places : c.in_ok-places.places.items ≡ places_of unit directive =
    c.in_ok-places.ensures ∙ ap (λ (n : ℕ). used_places n f) c.len.ensures in
    let base : base_of c.in_ok-base.base ≡ base_form_of (over (places_of unit directive) f) =
    c.in_ok-base.ensures ∙ ap (λ (l : List ℕ). base_form_of (over l f)) (c.deref.ensures.value ∙ places) in
    let ports : c.in_ok-ports.ports.items ≡ ports_of unit directive =
    c.in_ok-ports.ensures
    ∙ ap (λ (l : List Signal). filter_map (slice_get l) c.deref-2.result.now) c.as_slice.ensures
    ∙ ap (λ (l : List ℕ). filter_map (slice_get unit.signals) l) (c.deref-2.ensures.value ∙ places) in
    let widths : c.deref-4.result.now ≡ chosen (places_of unit directive) (widths_of unit) =
    c.deref-4.ensures.value ∙ c.in_ok-widths.ensures ∙ ap port_widths (c.deref-3.ensures.value ∙ ports)
    ∙ c.a_unit_gives_interfaces.ensures.widths unit directive in
    record {
      name = c.in_ok-checker.ensures.name ∙ c.in_ok-name.ensures;
      report = c.in_ok-checker.ensures.report ∙ c.in_ok-report.ensures;
      ports = c.in_ok-checker.ensures.ports ∙ ports;
      checks = c.in_ok-checker.ensures.checks (widths_of unit) (places_of unit directive) f
          (reads_too (widths_of unit) (places_of unit directive) (chosen (places_of unit directive) (widths_of unit))
          c.deref-4.result.now f (base_form_of (over (places_of unit directive) f)) (base_of c.in_ok-base.base) widths
          base
          (subst (λ (n : ℕ). ReadsAs (widths_of unit) (used_places n f) (chosen (used_places n f) (widths_of unit)) f
          (named (base_form_of (over (used_places n f) f))))
          (length-map unit.signals (λ (s : Signal). s.width))
          (c.a_built_formula_reads_as_its_base_form.ensures.reads (widths_of unit) f c.requires.built
          c.requires.expressions)));
    }

pub returns-clause-steps : goal.returns-clause-steps
returns-clause-steps c =
    let unit : PslUnit = unit_of c.args.unit.now in
    let directive : Directive = directive_of c.args.directive.now in
    let f : Formula = directive.formula in
    let places : c.in_ok-places.places.items ≡ places_of unit directive =
    c.in_ok-places.ensures ∙ ap (λ (n : ℕ). used_places n f) c.len.ensures in
    let base : base_of c.in_ok-base.base ≡ base_form_of (over (places_of unit directive) f) =
    c.in_ok-base.ensures ∙ ap (λ (l : List ℕ). base_form_of (over l f)) (c.deref.ensures.value ∙ places) in
    let law = c.a_built_formula_counts_as_its_base_form.ensures in
    let counts : CountsAs (base_of c.in_ok-base.base) (base_form_of f) =
    counts_too (base_of c.in_ok-base.base) (base_form_of (over (places_of unit directive) f)) (base_form_of f) base
    (record {
      small = law.small (places_of unit directive) f;
      large = law.too_many_places (places_of unit directive) f;
      budget = law.budget (places_of unit directive) f;
      steps = λ k. subst (λ (n : ℕ). HasSteps (base_form_of (over (used_places n f) f)) k ↔ HasSteps (base_form_of f) k)
          (length-map unit.signals (λ (s : Signal). s.width))
          (law.steps (widths_of unit) f k c.requires.expressions);
    }) in
    (counts.steps c.in_ok-checker.checker.steps).0 c.in_ok-checker.ensures.steps

pub returns-clause-within : goal.returns-clause-within
returns-clause-within c =
    let unit : PslUnit = unit_of c.args.unit.now in
    let directive : Directive = directive_of c.args.directive.now in
    let f : Formula = directive.formula in
    let places : c.in_ok-places.places.items ≡ places_of unit directive =
    c.in_ok-places.ensures ∙ ap (λ (n : ℕ). used_places n f) c.len.ensures in
    let base : base_of c.in_ok-base.base ≡ base_form_of (over (places_of unit directive) f) =
    c.in_ok-base.ensures ∙ ap (λ (l : List ℕ). base_form_of (over l f)) (c.deref.ensures.value ∙ places) in
    let law = c.a_built_formula_counts_as_its_base_form.ensures in
    let counts : CountsAs (base_of c.in_ok-base.base) (base_form_of f) =
    counts_too (base_of c.in_ok-base.base) (base_form_of (over (places_of unit directive) f)) (base_form_of f) base
    (record {
      small = law.small (places_of unit directive) f;
      large = law.too_many_places (places_of unit directive) f;
      budget = law.budget (places_of unit directive) f;
      steps = λ k. subst (λ (n : ℕ). HasSteps (base_form_of (over (used_places n f) f)) k ↔ HasSteps (base_form_of f) k)
          (length-map unit.signals (λ (s : Signal). s.width))
          (law.steps (widths_of unit) f k c.requires.expressions);
    }) in
    let h = c.in_ok-checker.ensures.within in
    (counts.small.0 h.0, subst (λ (n : ℕ). n ≤ register_limit) counts.budget h.1, h.2)

pub returns-clause-bits : goal.returns-clause-bits
returns-clause-bits c =
    let unit : PslUnit = unit_of c.args.unit.now in
    let directive : Directive = directive_of c.args.directive.now in
    let f : Formula = directive.formula in
    let places : c.in_ok-places.places.items ≡ places_of unit directive =
    c.in_ok-places.ensures ∙ ap (λ (n : ℕ). used_places n f) c.len.ensures in
    let base : base_of c.in_ok-base.base ≡ base_form_of (over (places_of unit directive) f) =
    c.in_ok-base.ensures ∙ ap (λ (l : List ℕ). base_form_of (over l f)) (c.deref.ensures.value ∙ places) in
    let law = c.a_built_formula_counts_as_its_base_form.ensures in
    let counts : CountsAs (base_of c.in_ok-base.base) (base_form_of f) =
    counts_too (base_of c.in_ok-base.base) (base_form_of (over (places_of unit directive) f)) (base_form_of f) base
    (record {
      small = law.small (places_of unit directive) f;
      large = law.too_many_places (places_of unit directive) f;
      budget = law.budget (places_of unit directive) f;
      steps = λ k. subst (λ (n : ℕ). HasSteps (base_form_of (over (used_places n f) f)) k ↔ HasSteps (base_form_of f) k)
          (length-map unit.signals (λ (s : Signal). s.width))
          (law.steps (widths_of unit) f k c.requires.expressions);
    }) in
    subst (λ (n : ℕ). sum (register_widths (module_of c.in_ok-checker.checker.checker)) ≤ n) counts.budget
    c.in_ok-checker.ensures.bits

pub returns-in_err-checker-clause-refused : goal.returns-in_err-checker-clause-refused
returns-in_err-checker-clause-refused c =
    let unit : PslUnit = unit_of c.args.unit.now in
    let directive : Directive = directive_of c.args.directive.now in
    let f : Formula = directive.formula in
    let places : c.in_ok-places.places.items ≡ places_of unit directive =
    c.in_ok-places.ensures ∙ ap (λ (n : ℕ). used_places n f) c.len.ensures in
    let base : base_of c.in_ok-base.base ≡ base_form_of (over (places_of unit directive) f) =
    c.in_ok-base.ensures ∙ ap (λ (l : List ℕ). base_form_of (over l f)) (c.deref.ensures.value ∙ places) in
    let law = c.a_built_formula_counts_as_its_base_form.ensures in
    let counts : CountsAs (base_of c.in_ok-base.base) (base_form_of f) =
    counts_too (base_of c.in_ok-base.base) (base_form_of (over (places_of unit directive) f)) (base_form_of f) base
    (record {
      small = law.small (places_of unit directive) f;
      large = law.too_many_places (places_of unit directive) f;
      budget = law.budget (places_of unit directive) f;
      steps = λ k. subst (λ (n : ℕ). HasSteps (base_form_of (over (used_places n f) f)) k ↔ HasSteps (base_form_of f) k)
          (length-map unit.signals (λ (s : Signal). s.width))
          (law.steps (widths_of unit) f k c.requires.expressions);
    }) in
    IfErr-weaker c.from_residual-in_err-checker.result _ _
    (λ e h. refusal_too (base_of c.in_ok-base.base) (base_form_of f) c.args.steps_left e counts h) (search rules)
