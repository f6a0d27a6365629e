-- A module whose registers are those of a netlist has as many register bits as the netlist, and ports have widths that
-- signals may have.
use Rattle.std.proofs.Common.{◌≡◌, ℕ, List, [], ◌∷◌, map, ap, sym, refl, ◌∙◌, subst}
use Rattle.std.specs.Prelude.{All, sum}
use Rattle.std.proofs.lemmas.List.Elements.{All-map}
use Rattle.psl_model.specs.declared.names.Signal.{Signal}
use Rattle.circuit_core.specs.Netlist as net
use Rattle.circuit_core.specs.WellMade.{IsWidth}
use Rattle.verilog_text.specs.Interface.{port_widths}
use Rattle.verilog_text.specs.Module.{Module, Register, IsPort}
use Rattle.verilog_text.specs.State.{register_widths}
use Rattle.verilog_text.specs.Stream.{HasRegistersOf}
use Rattle.strong_obligations.specs.Bits.{register_bits}

abbrev firsts : List (ℕ × ℕ) → List ℕ
firsts pairs = map (λ (p : ℕ × ℕ). p.0) pairs

of_module : (rs : List Register) →
    map (λ (r : Register). r.width) rs
    ≡ firsts (map {B = ℕ × ℕ} (λ (r : Register). (r.width, r.initial)) rs)
of_module [] = refl
of_module (r ∷ rs) = ap (λ (widths : List ℕ). r.width ∷ widths) (of_module rs)

of_netlist : (rs : List net.Register) →
    map (λ (r : net.Register). r.width) rs
    ≡ firsts (map {B = ℕ × ℕ} (λ (r : net.Register). (r.width, r.initial)) rs)
of_netlist [] = refl
of_netlist (r ∷ rs) = ap (λ (widths : List ℕ). r.width ∷ widths) (of_netlist rs)

pub same_bits : (m : net.Netlist) (made : Module) → HasRegistersOf m made →
    sum (register_widths made) ≡ register_bits m
same_bits m made has =
    ap (λ (widths : List ℕ). sum widths) (of_module made.registers ∙ ap firsts has ∙ sym (of_netlist m.registers))

pub ports_have_widths : (ports : List Signal) (widths : List ℕ) → All IsPort ports → port_widths ports ≡ widths →
    All IsWidth widths
ports_have_widths ports widths are same =
    subst (All IsWidth) same (All-map IsWidth (λ (p : Signal). p.width) ports (λ k d inside. (are k d inside).width))
