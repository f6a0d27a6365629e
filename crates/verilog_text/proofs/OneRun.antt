-- The one cycle of a state, and the one run.
use Rattle.std.proofs.Common.{◌≡◌, ℕ, suc, ◌<◌, ◌%◌, ◌^◌, List, [], ◌∷◌, ◌++◌, map, length}
use Rattle.std.proofs.Common.{refl, ap, sym, ◌∙◌, arith, subst}
use Rattle.std.proofs.Math.Nat.{mod-lt}
use Rattle.std.proofs.lemmas.Nat.{pow_pos}
use Rattle.std.specs.Prelude.{All, max}
use Rattle.psl_model.specs.Expr.{Expr}
use Rattle.psl_model.specs.Value.{width_of, value_of}
use Rattle.verilog_text.specs.Interface.{port_widths}
use Rattle.verilog_text.specs.Module.{Module, Wire, Register, widths_of, IsLawful}
use Rattle.verilog_text.specs.Run.{Cycle, values_of, assigned, right_side, IsSettled, IsRun, FitWidths}
use Rattle.verilog_text.specs.Run.{HaveInputs, IsRunFromReset}
use Rattle.verilog_text.specs.State.{wire_widths, HasState, FitsModule, AreInputs}
use Rattle.verilog_text.proofs.WireOrder.{ReadsItsOwn, over, state_of, state_length}
use Rattle.verilog_text.proofs.Settle.{settle, wires_over, settled, unique}

-- a list of cut values fits the widths that they were cut to
cut_fit : {X : Type 0} (width value : X → ℕ) (xs : List X) →
    FitWidths (map width xs) (map (λ x. value x % 2 ^ width x) xs)
cut_fit width value [] = tt
cut_fit width value (x ∷ xs) = (mod-lt (value x) (pow_pos (width x)), cut_fit width value xs)

-- a right side, before it is cut
abbrev pub uncut : Module → Cycle → (width : ℕ) → Expr → ℕ
uncut m c width e = value_of (widths_of m) (values_of c) (max width (width_of (widths_of m) e)) e

pub wires_fit : (m : Module) (c : Cycle) → IsSettled m c → FitWidths (wire_widths m) c.wires × (c.fail < 2)
wires_fit m c settled = (
  subst (λ (ws : List ℕ). FitWidths (wire_widths m) ws) (sym settled.wires)
      (cut_fit (λ (w : Wire). w.width) (λ (w : Wire). uncut m c w.width w.value) m.wires),
  subst (λ (x : ℕ). x < 2) (sym settled.fail) (mod-lt (uncut m c 1 m.fail) (pow_pos 1)),
)

abbrev wires_of_state : Module → (reset eot : ℕ) → (values state : List ℕ) → List ℕ
wires_of_state m reset eot values state = settle m (state_of reset eot values state) [] m.wires

abbrev cycle_of : Module → (reset eot : ℕ) → (values state : List ℕ) → Cycle
cycle_of m reset eot values state = record {
  reset = reset;
  end_of_execution = eot;
  ports = values;
  registers = state;
  wires = wires_of_state m reset eot values state;
  fail = over m (state_of reset eot values state ++ wires_of_state m reset eot values state) 1 m.fail;
}

cycle_settles : ReadsItsOwn → (m : Module) → IsLawful m → (reset eot : ℕ) (values state : List ℕ) →
    FitsModule m values state → IsSettled m (cycle_of m reset eot values state)
cycle_settles law m lawful reset eot values state fits = record {
  wires = settled law m lawful (state_of reset eot values state) (state_length m reset eot values state fits);
  fail = refl;
}

pub has_cycle : ReadsItsOwn → (m : Module) → IsLawful m → (reset eot : ℕ) (values state : List ℕ) →
    FitsModule m values state → (c : Cycle) × HasState reset eot values state c × IsSettled m c
has_cycle law m lawful reset eot values state fits = (
  cycle_of m reset eot values state,
  record { reset = refl; end_of_execution = refl; ports = refl; registers = refl },
  cycle_settles law m lawful reset eot values state fits,
)

-- any other settled cycle of the state is the same
pub same_cycle : ReadsItsOwn → (m : Module) → IsLawful m → (reset eot : ℕ) (values state : List ℕ) →
    FitsModule m values state → (c d : Cycle) → HasState reset eot values state c →
    HasState reset eot values state d → IsSettled m c → IsSettled m d → c ≡ d
same_cycle law m lawful reset eot values state fits c d is_c is_d settled_c settled_d =
    let sv = state_of reset eot values state in
    let c_state : state_of c.reset c.end_of_execution c.ports c.registers ≡ sv =
    λ i. state_of (is_c.reset i) (is_c.end_of_execution i) (is_c.ports i) (is_c.registers i) in
    let d_state : state_of d.reset d.end_of_execution d.ports d.registers ≡ sv =
    λ i. state_of (is_d.reset i) (is_d.end_of_execution i) (is_d.ports i) (is_d.registers i) in
    let c_wires : c.wires ≡ wires_over m (sv ++ c.wires) =
    settled_c.wires ∙ ap (λ (v : List ℕ). wires_over m (v ++ c.wires)) c_state in
    let d_wires : d.wires ≡ wires_over m (sv ++ d.wires) =
    settled_d.wires ∙ ap (λ (v : List ℕ). wires_over m (v ++ d.wires)) d_state in
    let wires : c.wires ≡ d.wires =
    unique law m lawful sv c.wires d.wires (state_length m reset eot values state fits) c_wires d_wires in
    let c_fail : c.fail ≡ over m (sv ++ c.wires) 1 m.fail =
    settled_c.fail ∙ ap (λ (v : List ℕ). over m (v ++ c.wires) 1 m.fail) c_state in
    let d_fail : d.fail ≡ over m (sv ++ d.wires) 1 m.fail =
    settled_d.fail ∙ ap (λ (v : List ℕ). over m (v ++ d.wires) 1 m.fail) d_state in
    let fail : c.fail ≡ d.fail =
    c_fail ∙ ap (λ (ws : List ℕ). over m (sv ++ ws) 1 m.fail) wires ∙ sym d_fail in
    let resets : c.reset ≡ d.reset = is_c.reset ∙ sym is_d.reset in
    let ends : c.end_of_execution ≡ d.end_of_execution = is_c.end_of_execution ∙ sym is_d.end_of_execution in
    let ports : c.ports ≡ d.ports = is_c.ports ∙ sym is_d.ports in
    let registers : c.registers ≡ d.registers = is_c.registers ∙ sym is_d.registers in
    λ i. record {
      reset = resets i;
      end_of_execution = ends i;
      ports = ports i;
      registers = registers i;
      wires = wires i;
      fail = fail i;
    }

-- the registers after a cycle
abbrev next_state : Module → Cycle → List ℕ
next_state m c = map (λ (r : Register). assigned m c r.width (right_side r)) m.registers

row_fits : (widths v : List ℕ) (inputs : List (List ℕ)) → All (FitWidths widths) (v ∷ inputs) → FitWidths widths v
row_fits widths v inputs all = all 0 v (omega arith)

rows_fit : (widths v : List ℕ) (inputs : List (List ℕ)) → All (FitWidths widths) (v ∷ inputs) →
    All (FitWidths widths) inputs
rows_fit widths v inputs all k d lt = all (suc k) d (omega arith)

next_fits : (m : Module) (before : Cycle) (v : List ℕ) → FitWidths (port_widths m.ports) v →
    FitsModule m v (next_state m before)
next_fits m before v fits = record {
  ports = fits;
  registers = cut_fit (λ (r : Register). r.width) (λ (r : Register). uncut m before r.width (right_side r)) m.registers;
}

abbrev cycles_of : Module → (before : Cycle) → (inputs : List (List ℕ)) → (eots : List ℕ) → List Cycle
cycles_of m before [] eots = []
cycles_of m before (v ∷ inputs) [] = []
cycles_of m before (v ∷ inputs) (e ∷ eots) =
    cycle_of m 0 e v (next_state m before) ∷ cycles_of m (cycle_of m 0 e v (next_state m before)) inputs eots

have : (m : Module) (before : Cycle) (inputs : List (List ℕ)) (eots : List ℕ) → length eots ≡ length inputs →
    HaveInputs inputs eots (cycles_of m before inputs eots)
have m before [] [] same = tt
have m before [] (e ∷ eots) same = absurd (omega arith)
have m before (v ∷ inputs) [] same = absurd (omega arith)
have m before (v ∷ inputs) (e ∷ eots) same = (
  record { reset = refl; end_of_execution = refl; ports = refl },
  have m (cycle_of m 0 e v (next_state m before)) inputs eots (omega arith),
)

run : ReadsItsOwn → (m : Module) → IsLawful m → (before : Cycle) (inputs : List (List ℕ)) (eots : List ℕ) →
    IsSettled m before → All (FitWidths (port_widths m.ports)) inputs →
    IsRun m (before ∷ cycles_of m before inputs eots)
run law m lawful before [] eots settled fits = settled
run law m lawful before (v ∷ inputs) [] settled fits = settled
run law m lawful before (v ∷ inputs) (e ∷ eots) settled fits =
    let state = next_state m before in
    let fit = next_fits m before v (row_fits (port_widths m.ports) v inputs fits) in
    let rest = rows_fit (port_widths m.ports) v inputs fits in (
      settled,
      refl,
      run law m lawful (cycle_of m 0 e v state) inputs eots (cycle_settles law m lawful 0 e v state fit) rest,
    )

pub has_run : ReadsItsOwn → (m : Module) → IsLawful m → (eot : ℕ) (values state : List ℕ) →
    (inputs : List (List ℕ)) (eots : List ℕ) → eot < 2 → FitsModule m values state → AreInputs m inputs eots →
    (reset : Cycle) × (cycles : List Cycle) × HasState 1 eot values state reset
    × IsRunFromReset m inputs eots reset cycles
has_run law m lawful eot values state inputs eots bit fits are =
    let reset = cycle_of m 1 eot values state in (
      reset,
      cycles_of m reset inputs eots,
      record { reset = refl; end_of_execution = refl; ports = refl; registers = refl },
      record {
        run = run law m lawful reset inputs eots (cycle_settles law m lawful 1 eot values state fits) are.fit;
        begins = record { reset = refl; end_of_execution = bit; ports = fits.ports; registers = fits.registers };
        goes_on = have m reset inputs eots are.count;
      },
    )

first_settled : (m : Module) (c : Cycle) (cycles : List Cycle) → IsRun m (c ∷ cycles) → IsSettled m c
first_settled m c [] r = r
first_settled m c (d ∷ cycles) r = r.0

same_cycles : ReadsItsOwn → (m : Module) → IsLawful m → (c d : Cycle) → c ≡ d →
    (inputs : List (List ℕ)) (eots : List ℕ) → All (FitWidths (port_widths m.ports)) inputs →
    (cs ds : List Cycle) → HaveInputs inputs eots cs → HaveInputs inputs eots ds →
    IsRun m (c ∷ cs) → IsRun m (d ∷ ds) → cs ≡ ds
same_cycles law m lawful c d same [] [] fits [] [] hc hd rc rd = refl
same_cycles law m lawful c d same [] [] fits [] (y ∷ ds) hc hd rc rd = absurd hd
same_cycles law m lawful c d same [] [] fits (x ∷ cs) ds hc hd rc rd = absurd hc
same_cycles law m lawful c d same [] (e ∷ eots) fits cs ds hc hd rc rd = absurd hc
same_cycles law m lawful c d same (v ∷ inputs) [] fits cs ds hc hd rc rd = absurd hc
same_cycles law m lawful c d same (v ∷ inputs) (e ∷ eots) fits [] ds hc hd rc rd = absurd hc
same_cycles law m lawful c d same (v ∷ inputs) (e ∷ eots) fits (x ∷ cs) [] hc hd rc rd = absurd hd
same_cycles law m lawful c d same (v ∷ inputs) (e ∷ eots) fits (x ∷ cs) (y ∷ ds) hc hd rc rd =
    let widths = port_widths m.ports in
    let state_x : HasState 0 e v (next_state m c) x = record {
      reset = hc.0.reset;
      end_of_execution = hc.0.end_of_execution;
      ports = hc.0.ports;
      registers = rc.1;
    } in
    let state_y : HasState 0 e v (next_state m c) y = record {
      reset = hd.0.reset;
      end_of_execution = hd.0.end_of_execution;
      ports = hd.0.ports;
      registers = rd.1 ∙ ap (next_state m) (sym same);
    } in
    let heads : x ≡ y = same_cycle law m lawful 0 e v (next_state m c)
    (next_fits m c v (row_fits widths v inputs fits)) x y state_x state_y
    (first_settled m x cs rc.2) (first_settled m y ds rd.2) in
    let tails : cs ≡ ds = same_cycles law m lawful x y heads inputs eots (rows_fit widths v inputs fits) cs ds
    hc.1 hd.1 rc.2 rd.2 in
    λ i. heads i ∷ tails i

pub same_run : ReadsItsOwn → (m : Module) → IsLawful m → (eot : ℕ) (values state : List ℕ) →
    (inputs : List (List ℕ)) (eots : List ℕ) → FitsModule m values state → AreInputs m inputs eots →
    (reset reset' : Cycle) (cycles cycles' : List Cycle) →
    HasState 1 eot values state reset → HasState 1 eot values state reset' →
    IsRunFromReset m inputs eots reset cycles → IsRunFromReset m inputs eots reset' cycles' →
    (reset ≡ reset') × (cycles ≡ cycles')
same_run law m lawful eot values state inputs eots fits are reset reset' cycles cycles' is is' r r' =
    let first = same_cycle law m lawful 1 eot values state fits reset reset' is is'
    (first_settled m reset cycles r.run) (first_settled m reset' cycles' r'.run) in
    let rest = same_cycles law m lawful reset reset' first inputs eots are.fit cycles cycles' r.goes_on r'.goes_on
    r.run r'.run in
    (first, rest)
