-- A table that was filled is a settled cycle.
use Rattle.std.proofs.Common.{◌≡◌, ℕ, zero, suc, ◌+◌, ◌<◌, ◌≤◌, ◌%◌, ◌^◌, List, [], ◌∷◌, ◌++◌, map, drop, length}
use Rattle.std.proofs.Common.{refl}
use Rattle.std.proofs.Common.{ap, sym, ◌∙◌, arith, subst, Some, Bool, true, false}
use Rattle.std.proofs.Math.Nat.{mod-lt}
use Rattle.std.proofs.lemmas.Nat.{pow_pos}
use Rattle.std.proofs.lemmas.List.{ext_get_or, length-map, length-append, length-drop, get_or-drop}
use Rattle.std.specs.Prelude.{max, slice_get, slice_index, ◌==◌}
use Rattle.psl_model.specs.Value.{bit_of, width_of, value_of, FitWidths}
use Rattle.verilog_text.specs.Module.{Module, Wire, Register, state_widths, widths_of}
use Rattle.verilog_text.specs.Run.{Cycle, values_of, assigned, right_side}
use Rattle.verilog_text.specs.Interface.{port_widths}
use Rattle.verilog_text.specs.State.{register_widths}
use Rattle.verilog_cycles.specs.Steps.{IsStep}
use Rattle.verilog_cycles.specs.declared.nodes.Node.{Node}
use Rattle.verilog_cycles.specs.inner.Nodes.{Meets}
use Rattle.verilog_cycles.specs.inner.Ready.{values_at, taken, Begins}
use Rattle.verilog_cycles.specs.inner.Program.{IsProgram}
use Rattle.verilog_cycles.proofs.Lists.{get_here, index_mapped, index_map}
use Rattle.verilog_cycles.proofs.Narrow.{fit_append, fit_length}

-- the values of the inputs and registers of a cycle without reset
abbrev pub state_of : (eot : Bool) → (ports state : List ℕ) → List ℕ
state_of eot ports state = 0 ∷ bit_of eot ∷ ports ++ state

split : (st vs : List ℕ) → length st ≤ length vs → Begins st vs → vs ≡ st ++ drop (length st) vs
split [] vs le begins = refl
split (x ∷ st) [] le begins = absurd (omega arith)
split (x ∷ st) (v ∷ vs) le begins =
    let head : v ≡ x = begins 0 (omega arith) in
    let tail : vs ≡ st ++ drop (length st) vs = split st vs (omega arith) (λ s lt. begins (suc s) (omega arith)) in
    λ i. head i ∷ tail i

bit_small : (b : Bool) → bit_of b < 2 ^ 1
bit_small true = omega arith
bit_small false = omega arith

pub as_bit : (x : ℕ) → x < 2 → x ≡ bit_of (x == 1)
as_bit zero lt = refl
as_bit (suc zero) lt = refl
as_bit (suc (suc x)) lt = absurd (omega arith)

pub state_fits : (m : Module) (eot : Bool) (ports state : List ℕ) → FitWidths (port_widths m.ports) ports →
    FitWidths (register_widths m) state → FitWidths (state_widths m) (state_of eot ports state)
state_fits m eot ports state a b = (
  omega arith,
  (
    bit_small eot,
    fit_append (port_widths m.ports) (register_widths m) ports
        state a b,
  ),
)

-- the wires and the output of a table
abbrev cycle_of : (eot : Bool) → (ports state wires : List ℕ) → (fail : ℕ) → Cycle
cycle_of eot ports state wires fail = record {
  reset = 0;
  end_of_execution = bit_of eot;
  ports = ports;
  registers = state;
  wires = wires;
  fail = fail;
}

-- the values of a module's names in a table, which are those of a cycle
pub record IsFilled (m : Module) (first : ℕ) (nodes : List Node) (takes : List ℕ) (fail : ℕ) (is : IsProgram m first
    nodes takes fail)
    (st table : List ℕ) : Type 0 where
  pub fits : FitWidths (widths_of m) (values_at table is.places)
  pub settles : (k : ℕ) (w : Wire) → slice_get m.wires k ≡ Some w →
      slice_index (values_at table is.places) (length (state_widths m) + k) ≡ taken (widths_of m) (values_at table
      is.places) w.width w.value
  pub count : length (values_at table is.places) ≡ length (state_widths m) + length m.wires
  pub whole : values_at table is.places ≡ st ++ drop (length st) (values_at table is.places)

pub filled : (m : Module) (first : ℕ) (nodes : List Node) (takes : List ℕ) (fail : ℕ) (is : IsProgram m first nodes
    takes fail)
    (st table : List ℕ) → FitWidths (state_widths m) st → Begins st table → Meets first nodes table →
    IsFilled m first nodes takes fail is st table
filled m first nodes takes fail is st table st_fits begins met =
    let read : ℕ → ℕ = λ (p : ℕ). slice_index table p in
    let vs = values_at table is.places in
    let st_count : length st ≡ first = fit_length (state_widths m) st st_fits ∙ sym is.room in
    let at_front : (s : ℕ) → s < first → slice_index table (slice_index is.fronts s) ≡ slice_index st s =
    λ s lt. ap (slice_index table) (is.ordered s lt) ∙ begins s (omega (arith, st_count)) in
    let fronts_count : length (values_at table is.fronts) ≡ length is.fronts = length-map is.fronts read in
    let fronts_are : values_at table is.fronts ≡ st =
    ext_get_or 0 (values_at table is.fronts) st (fronts_count ∙ is.front ∙ sym st_count)
    (λ s lt. index_map read is.fronts s (omega (arith, fronts_count)) ∙ at_front s (omega (
      arith,
      fronts_count,
      is.front,
    ))) in
    let front_fits : FitWidths (state_widths m) (values_at table is.fronts) =
    subst (λ (xs : List ℕ). FitWidths (state_widths m) xs) (sym fronts_are) st_fits in
    let places_count : length vs ≡ length is.places = length-map is.places read in
    let count : length vs ≡ length (state_widths m) + length m.wires = omega (
      arith,
      places_count,
      is.wires.count,
      length-append (state_widths m) (map (λ (w : Wire). w.width) m.wires),
      length-map m.wires (λ (w : Wire).
          w.width),
    ) in
    let begins_all : Begins st vs = λ s lt.
    index_map read is.places s (omega (arith, count, places_count, st_count, is.room))
    ∙ ap (slice_index table) (is.wires.begins s (omega (arith, is.front, st_count)))
    ∙ at_front s (omega (arith, st_count)) in
    record {
      fits = is.wires.fits table met front_fits;
      settles = λ k w at. is.wires.settles table met front_fits k w at (widths_of m) vs (λ s lt. refl) (λ s lt. refl);
      count = count;
      whole = split st vs (omega (arith, count, st_count, is.room)) begins_all;
    }

-- what a register takes without reset
register_taken : (m : Module) (eot : Bool) (ports state wires : List ℕ) (fail : ℕ) (r : Register) →
    taken (widths_of m) (values_of (cycle_of eot ports state wires fail)) r.width r.next
    ≡ assigned m (cycle_of eot ports state wires fail) r.width (right_side r)
register_taken m eot ports state wires fail r =
    let same : max r.width (width_of (widths_of m) r.next) ≡ max r.width (max r.width (width_of (widths_of m) r.next))
    = omega arith in
    ap (λ (k : ℕ). value_of (widths_of m) (values_of (cycle_of eot ports state wires fail)) k r.next % 2 ^ r.width) same

pub step_is : (m : Module) (first : ℕ) (nodes : List Node) (takes : List ℕ) (fail : ℕ) → IsProgram m first nodes takes
    fail →
    (eot : Bool) (ports state table after : List ℕ) (answer : Bool) → FitWidths (port_widths m.ports) ports →
    FitWidths (register_widths m) state → Begins (state_of eot ports state) table → Meets first nodes table →
    after ≡ map (λ (p : ℕ). slice_index table p) takes → answer ≡ (slice_index table fail == 1) →
    IsStep m ports eot state after answer
step_is m first nodes takes fail is eot ports state table after answer ports_fit state_fit begins met after_is
    answer_is =
    let read : ℕ → ℕ = λ (p : ℕ). slice_index table p in
    let st = state_of eot ports state in
    let vs = values_at table is.places in
    let st_fits : FitWidths (state_widths m) st = state_fits m eot ports state ports_fit state_fit in
    let st_count : length st ≡ length (state_widths m) = fit_length (state_widths m) st st_fits in
    let f = filled m first nodes takes fail is st table st_fits begins met in
    let wires = drop (length st) vs in
    let c = cycle_of eot ports state wires (slice_index table fail) in
    let x_is = is.output table met f.fits in
    let small : slice_index table fail < 2 = subst (λ (x : ℕ). x < 2) (sym x_is)
    (mod-lt (value_of (widths_of m) vs (max 1 (width_of (widths_of m) m.fail)) m.fail) (pow_pos 1)) in
    let wire_count : length wires ≡ length m.wires = omega (arith, length-drop (length st) vs, f.count, st_count) in
    let wires_settle : wires ≡ map (λ (w : Wire). assigned m c w.width w.value) m.wires =
    ext_get_or 0 wires (map (λ (w : Wire). assigned m c w.width w.value) m.wires)
    (wire_count ∙ sym (length-map m.wires (λ (w : Wire). assigned m c w.width w.value)))
    (λ k lt. let w = get_here m.wires k (omega (arith, wire_count)) in
    get_or-drop (length st) vs k 0
    ∙ ap (λ (n : ℕ). slice_index vs (n + k)) st_count
    ∙ f.settles k w.0 w.1
    ∙ ap (λ (us : List ℕ). taken (widths_of m) us w.0.width w.0.value) f.whole
    ∙ sym (index_mapped (λ (v : Wire). assigned m c v.width v.value) m.wires k w.0 w.1)) in
    let takes_count : length (map read takes) ≡ length takes = length-map takes read in
    let next_is : map read takes ≡ map (λ (r : Register). assigned m c r.width (right_side r)) m.registers =
    ext_get_or 0 (map read takes) (map (λ (r : Register). assigned m c r.width (right_side r)) m.registers)
    (takes_count ∙ is.count ∙ sym (length-map m.registers (λ (r : Register). assigned m c r.width (right_side
    r))))
    (λ k lt. let r = get_here m.registers k (omega (arith, takes_count, is.count)) in
    index_map read takes k (omega (arith, takes_count))
    ∙ is.registers table met f.fits k r.0 r.1
    ∙ ap (λ (us : List ℕ). taken (widths_of m) us r.0.width r.0.next) f.whole
    ∙ register_taken m eot ports state wires (slice_index table fail) r.0
    ∙ sym (index_mapped (λ (v : Register). assigned m c v.width (right_side v)) m.registers k r.0 r.1)) in
    record {
      cycle = c;
      has_inputs = record { reset = refl; end_of_execution = refl; ports = refl };
      has_registers = refl;
      settled = record {
        wires = wires_settle;
        fail = x_is ∙ ap (λ (us : List ℕ). taken (widths_of m) us 1 m.fail)
            f.whole;
      };
      output = as_bit (slice_index table fail) small ∙ ap bit_of (sym answer_is);
      follows = λ next same. same ∙ after_is ∙ next_is;
    }
