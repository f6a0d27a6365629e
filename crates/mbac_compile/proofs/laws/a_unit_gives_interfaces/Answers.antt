use Rattle.std.proofs.Common.{◌≢◌, ℕ, List, length, map, refl, sym, subst, ap, ◌∙◌}
use Rattle.std.specs.Prelude.{All, AllPairs}
use Rattle.psl_model.specs.declared.names.Signal.{Signal}
use Rattle.verilog_text.specs.Interface.{port_widths}
use Rattle.verilog_text.specs.Module.{IsPort}
use Rattle.checker_meaning.specs.Headline.{places_of}
use Rattle.mbac_compile.proofs.Names.{identifier, shown}
use Rattle.mbac_compile.proofs.Ports.{ports_are, ports_fit, ports_differ, widths_are}
use Rattle.mbac_compile.proofs.laws.a_unit_gives_interfaces.Goals as goal

pub returns-clause-interface : goal.returns-clause-interface
returns-clause-interface c unit number directive small named worded =
    let places : List ℕ = places_of unit directive in
    let inside = c.used_places_are_those_of_the_used_signals.ensures.below (length unit.signals) directive.formula in
    let rising = c.used_places_are_those_of_the_used_signals.ensures.ascending (length unit.signals)
    directive.formula in
    let are = sym (ports_are unit.signals places inside) in
    record {
      identifier = identifier unit.name number directive.label small named.name worded.label;
      prefix = refl;
      report = shown directive.report worded.report;
      ports = subst (All IsPort) are (ports_fit unit.signals places inside named.signals);
      distinct = subst (λ (ports : List Signal). AllPairs (λ p q. p ≢ q) (map (λ (p : Signal). p.name) ports)) are
          (ports_differ unit.signals places inside rising named.distinct);
    }

pub returns-clause-widths : goal.returns-clause-widths
returns-clause-widths c unit directive =
    let places : List ℕ = places_of unit directive in
    let inside = c.used_places_are_those_of_the_used_signals.ensures.below (length unit.signals) directive.formula in
    ap port_widths (ports_are unit.signals places inside) ∙ widths_are unit.signals places inside
