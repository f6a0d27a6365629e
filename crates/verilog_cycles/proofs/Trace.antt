-- The steps of a trace after reset are its run.
use Rattle.std.proofs.Common.{◌≡◌, ℕ, suc, ◌%◌, ◌^◌, List, [], ◌∷◌, ◌++◌, map, length, cond}
use Rattle.std.proofs.Common.{refl, ap, sym}
use Rattle.std.proofs.Common.{◌∙◌, arith, subst, Bool}
use Rattle.std.proofs.Math.Nat.{mod-eq_of_lt}
use Rattle.std.specs.Prelude.{All, max, ◌==◌}
use Rattle.psl_model.specs.Value.{bit_of, width_of, value_of, FitWidths}
use Rattle.verilog_text.specs.Module.{Module, Register, state_widths, widths_of, IsRegister, IsLawful}
use Rattle.verilog_text.specs.Run.{Cycle, values_of, assigned, right_side, IsSettled, IsRun, HaveInputs}
use Rattle.verilog_text.specs.Run.{IsRunFromReset, fail_stream}
use Rattle.verilog_text.specs.Interface.{port_widths}
use Rattle.verilog_text.specs.State.{HasState, FitsModule}
use Rattle.verilog_cycles.specs.Steps.{reset_values, IsStep, AreSteps}
use Rattle.verilog_cycles.proofs.Machines.{next_state, next_fits, after_is}

-- after the cycle of reset the registers have their reset values
reset_each : (m : Module) (c : Cycle) (rs : List Register) → c.reset ≡ 1 → All (IsRegister m) rs →
    map (λ (r : Register). assigned m c r.width (right_side r)) rs ≡ map (λ (r : Register). r.initial) rs
reset_each m c [] is all = refl
reset_each m c (r ∷ rs) is all =
    let W = widths_of m in
    let context = max r.width (width_of W (right_side r)) in
    let head : assigned m c r.width (right_side r) ≡ r.initial =
    ap (λ (x : ℕ). cond (x == 0) (value_of W (values_of c) context r.next) r.initial % 2 ^ r.width) is
    ∙ mod-eq_of_lt (all 0 r (omega arith)).fits in
    let tail = reset_each m c rs is (λ k d lt. all (suc k) d (omega arith)) in
    λ i. head i ∷ tail i

pub after_reset : (m : Module) → IsLawful m → (c : Cycle) → c.reset ≡ 1 → next_state m c ≡ reset_values m
after_reset m lawful c is = reset_each m c m.registers is lawful.registers

first_settled : (m : Module) (c : Cycle) (cycles : List Cycle) → IsRun m (c ∷ cycles) → IsSettled m c
first_settled m c [] run = run
first_settled m c (d ∷ cycles) run = run.0

-- no two settled cycles have the same inputs and registers
abbrev pub OneCycle : Type 0
OneCycle = (m : Module) → IsLawful m → (reset eot : ℕ) (ports registers : List ℕ) → FitsModule m ports registers →
    (c d : Cycle) → HasState reset eot ports registers c → HasState reset eot ports registers d →
    IsSettled m c → IsSettled m d → c ≡ d

pub same_fails : OneCycle → (m : Module) → IsLawful m → (b : Cycle) (inputs : List (List ℕ)) (eots : List Bool)
    (state : List ℕ) (answers : List Bool) (after : List ℕ) (cycles : List Cycle) →
    All (FitWidths (port_widths m.ports)) inputs →
    next_state m b ≡ state → AreSteps m inputs eots state answers after → IsRun m (b ∷ cycles) →
    HaveInputs inputs (map bit_of eots) cycles → fail_stream cycles ≡ map bit_of answers
same_fails law m lawful b [] [] state [] after [] fits next steps run have = refl
same_fails law m lawful b [] [] state [] after (c ∷ cycles) fits next steps run have = absurd have
same_fails law m lawful b [] [] state (a ∷ answers) after cycles fits next steps run have = absurd steps
same_fails law m lawful b [] (e ∷ eots) state answers after cycles fits next steps run have = absurd steps
same_fails law m lawful b (v ∷ inputs) [] state answers after cycles fits next steps run have = absurd steps
same_fails law m lawful b (v ∷ inputs) (e ∷ eots) state [] after cycles fits next steps run have = absurd steps
same_fails law m lawful b (v ∷ inputs) (e ∷ eots) state (a ∷ answers) after [] fits next steps run have = absurd have
same_fails law m lawful b (v ∷ inputs) (e ∷ eots) state (a ∷ answers) after (c ∷ cycles) fits next steps run have =
    let between = steps.0 in
    let step = steps.1 in
    let d = step.cycle in
    let state_fits : FitsModule m v (next_state m b) = record {
      ports = fits 0 v (omega arith);
      registers = next_fits m b;
    } in
    let is_c : HasState 0 (bit_of e) v (next_state m b) c = record {
      reset = have.0.reset;
      end_of_execution = have.0.end_of_execution;
      ports = have.0.ports;
      registers = run.1;
    } in
    let is_d : HasState 0 (bit_of e) v (next_state m b) d = record {
      reset = step.has_inputs.reset;
      end_of_execution = step.has_inputs.end_of_execution;
      ports = step.has_inputs.ports;
      registers = step.has_registers ∙ sym next;
    } in
    let same : c ≡ d = law m lawful 0 (bit_of e) v (next_state m b) state_fits c d is_c is_d
    (first_settled m c cycles run.2) step.settled in
    let fail : c.fail ≡ bit_of a = ap (λ (x : Cycle). x.fail) same ∙ step.output in
    let then : next_state m c ≡ between = ap (next_state m) same ∙ sym (after_is m v e state between a step) in
    let rest = same_fails law m lawful c inputs eots between answers after cycles (λ k x lt. fits (suc k) x (omega
    arith)) then steps.2 run.2 have.1 in
    λ i. fail i ∷ rest i

pub stream_is : OneCycle → (m : Module) → IsLawful m → (inputs : List (List ℕ)) (eots : List Bool)
    (answers : List Bool) (after : List ℕ) →
    All (FitWidths (port_widths m.ports)) inputs → AreSteps m inputs eots (reset_values m) answers after →
    (reset : Cycle) (cycles : List Cycle) → IsRunFromReset m inputs (map bit_of eots) reset cycles →
    fail_stream cycles ≡ map bit_of answers
stream_is law m lawful inputs eots answers after fits steps reset cycles run =
    same_fails law m lawful reset inputs eots (reset_values m) answers after cycles fits
    (after_reset m lawful reset run.begins.reset) steps run.run run.goes_on

pub steps_more : (m : Module) (inputs : List (List ℕ)) (eots : List Bool) (before : List ℕ) (answers : List Bool)
    (between : List ℕ) (ports : List ℕ) (eot : Bool) (answer : Bool) (after : List ℕ) →
    AreSteps m inputs eots before answers between → IsStep m ports eot between after answer →
    AreSteps m (inputs ++ ports ∷ []) (eots ++ eot ∷ []) before (answers ++ answer ∷ []) after
steps_more m [] [] before [] between ports eot answer after steps step =
    (after, subst (λ (s : List ℕ). IsStep m ports eot s after answer) (sym steps) step, refl)
steps_more m [] [] before (a ∷ answers) between ports eot answer after steps step = absurd steps
steps_more m [] (e ∷ eots) before answers between ports eot answer after steps step = absurd steps
steps_more m (v ∷ inputs) [] before answers between ports eot answer after steps step = absurd steps
steps_more m (v ∷ inputs) (e ∷ eots) before [] between ports eot answer after steps step = absurd steps
steps_more m (v ∷ inputs) (e ∷ eots) before (a ∷ answers) between ports eot answer after steps step =
    (steps.0, steps.1, steps_more m inputs eots steps.0 answers between ports eot answer after steps.2 step)
