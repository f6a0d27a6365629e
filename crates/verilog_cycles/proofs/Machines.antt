-- A machine from call to call.
use Rattle.std.proofs.Common.{◌≡◌, ℕ, zero, suc, ◌+◌, List, [], ◌∷◌, map, length, refl, ap}
use Rattle.std.proofs.Common.{sym}
use Rattle.std.proofs.Common.{◌∙◌, arith, subst, Bool}
use Rattle.std.proofs.Math.Nat.{mod-lt}
use Rattle.std.proofs.lemmas.Nat.{pow_pos}
use Rattle.std.proofs.lemmas.List.{length-map, length-append}
use Rattle.std.specs.Prelude.{All, max}
use Rattle.psl_model.specs.Value.{width_of, value_of, FitWidths}
use Rattle.verilog_text.specs.Module.{Module, Register, widths_of}
use Rattle.verilog_text.specs.Run.{Cycle, values_of, assigned, right_side}
use Rattle.verilog_text.specs.View.{register_of}
use Rattle.verilog_text.specs.declared.module.RegDecl.{RegDecl}
use Rattle.verilog_text.specs.Interface.{port_widths}
use Rattle.verilog_text.specs.State.{register_widths}
use Rattle.verilog_cycles.specs.Steps.{IsStep}
use Rattle.verilog_cycles.specs.declared.nodes.Node.{Node}
use Rattle.verilog_cycles.specs.inner.Program.{IsProgram, IsLoaded}
use Rattle.verilog_cycles.proofs.Narrow.{fit_length}

pub initials : (rs : List RegDecl) → map (λ (r : RegDecl). r.init) rs ≡ map (λ (r : Register). r.initial) (map
    register_of rs)
initials [] = refl
initials (r ∷ rs) = ap (λ (xs : List ℕ). r.init ∷ xs) (initials rs)

pub initials_each : (P : ℕ → Type 0) (rs : List RegDecl) → All P (map (λ (r : Register). r.initial) (map register_of
    rs)) →
    All (λ (r : RegDecl). P r.init) rs
initials_each P [] all k d lt = absurd (omega arith)
initials_each P (r ∷ rs) all zero d lt = all 0 0 (omega arith)
initials_each P (r ∷ rs) all (suc k) d lt = initials_each P rs (λ j e below. all (suc j) e (omega arith)) k d (omega
    arith)

pub loaded_on : (m : Module) (first : ℕ) (nodes : List Node) (takes : List ℕ) (fail : ℕ) (state table after filled :
    List ℕ) →
    IsLoaded m first nodes takes fail state table → length filled ≡ length table → FitWidths (register_widths m) after →
    IsLoaded m first nodes takes fail after filled
loaded_on m first nodes takes fail state table after filled is same fits = record {
  lawful = is.lawful;
  program = is.program;
  size = same ∙ is.size;
  registers_fit = fits;
}

-- the registers after a cycle
abbrev pub next_state : Module → Cycle → List ℕ
next_state m c = map (λ (r : Register). assigned m c r.width (right_side r)) m.registers

next_fit : (m : Module) (c : Cycle) (rs : List Register) →
    FitWidths (map (λ (r : Register). r.width) rs) (map (λ (r : Register). assigned m c r.width (right_side r)) rs)
next_fit m c [] = tt
next_fit m c (r ∷ rs) = (
  mod-lt (value_of (widths_of m) (values_of c) (max r.width (width_of (widths_of m) (right_side
      r))) (right_side r)) (pow_pos r.width),
  next_fit m c rs,
)

pub next_fits : (m : Module) (c : Cycle) → FitWidths (register_widths m) (next_state m c)
next_fits m c = next_fit m c m.registers

pub after_is : (m : Module) (ports : List ℕ) (eot : Bool) (before after : List ℕ) (answer : Bool) →
    (s : IsStep m ports eot before after answer) → after ≡ next_state m s.cycle
after_is m ports eot before after answer s =
    let next : Cycle = record { reset = 0; end_of_execution = 0; ports = []; registers = after; wires = []; fail = 0 }
    in
    s.follows next refl

pub step_fits : (m : Module) (ports : List ℕ) (eot : Bool) (before after : List ℕ) (answer : Bool) →
    IsStep m ports eot before after answer → FitWidths (register_widths m) after
step_fits m ports eot before after answer s =
    subst (λ (xs : List ℕ). FitWidths (register_widths m) xs) (sym (after_is m ports eot before after answer s))
    (next_fits m s.cycle)

pub front_is : (m : Module) (first : ℕ) (nodes : List Node) (takes : List ℕ) (fail : ℕ) (ports state : List ℕ) →
    IsProgram m first nodes takes fail → FitWidths (port_widths m.ports) ports → FitWidths (register_widths m) state →
    first ≡ 2 + length ports + length state
front_is m first nodes takes fail ports state is a b =
    omega (
      arith,
      is.room,
      fit_length (port_widths m.ports) ports a,
      fit_length (register_widths m) state b,
      length-append
          (port_widths m.ports) (register_widths m),
    )

pub count_is : (m : Module) (first : ℕ) (nodes : List Node) (takes : List ℕ) (fail : ℕ) (state : List ℕ) →
    IsProgram m first nodes takes fail → FitWidths (register_widths m) state → length takes ≡ length state
count_is m first nodes takes fail state is b =
    omega (arith, is.count, fit_length (register_widths m) state b, length-map m.registers (λ (r : Register). r.width))
