-- The wires of a run of a netlist's module are a run of the netlist.
use Rattle.std.proofs.Common.{◌≡◌, ℕ, zero, suc, ◌<◌, List, [], ◌∷◌, length}
use Rattle.std.proofs.Common.{refl, ap, sym, ◌∙◌, arith, subst, Some, None}
use Rattle.std.proofs.lemmas.List.{length-map}
use Rattle.std.proofs.lemmas.Option.{get_or_from_slice_get, slice_get_within}
use Rattle.std.specs.Prelude.{slice_get, slice_index, Option, IfSome, IsSomeAnd, All}
use Rattle.psl_model.specs.Value.{own_value}
use Rattle.circuit_core.specs.Netlist as net
use Rattle.circuit_core.specs.Netlist.{Op, bit, eot, guard, register, Node, Netlist, IsNet}
use Rattle.circuit_core.specs.Run.{Run, truth, flipped, both, either, Equation}
use Rattle.circuit_core.specs.WellMade.{IsFinished}
use Rattle.verilog_text.specs.Interface.{port_widths}
use Rattle.verilog_text.specs.Run.{Cycle, FitWidths, IsSettled, Follows, HasInputs, IsRunFromReset, fail_stream}
use Rattle.verilog_text.specs.Stream.{inputs_of, KeepsStream}
use Rattle.verilog_text.specs.inner.Translation.{Face, module_for}
use Rattle.verilog_text.proofs.Tables.{all_below, get_mapped, get_within}
use Rattle.verilog_text.proofs.Numbering.{settled_at, follows_at, inputs_at, input_count, wires_at, wires_are}
use Rattle.verilog_text.proofs.NodeValues.{KeepsWidth, KeepsValue, IsCycle, taken, node_takes, wire_is, register_bits}
use Rattle.verilog_text.proofs.NodeValues.{register_count, register_is, resets, goes_on, output_is}
use Rattle.verilog_text.proofs.WireOrder.{fit_length}

-- a run of the module from reset
record Premises (m : Netlist) (face : Face) (inputs : List (List ℕ)) (eots : List ℕ) (reset : Cycle)
    (cycles : List Cycle) : Type 0 where
  keeps_width : KeepsWidth
  keeps_value : KeepsValue
  finished : IsFinished m
  widths : port_widths face.ports ≡ m.widths
  fits : All (FitWidths m.widths) inputs
  ends : All (λ eot. eot < 2) eots
  run : IsRunFromReset (module_for m face) inputs eots reset cycles

-- what is known of a cycle
record Known (m : Netlist) (face : Face) (eots : List ℕ) (cycles : List Cycle) (n : ℕ) (values : List ℕ) :
    Type 0 where
  cycle : Cycle
  at : slice_get cycles n ≡ Some cycle
  settled : IsSettled (module_for m face) cycle
  has : HasInputs values (slice_index eots n) cycle
  is : IsCycle m face cycle
  bits : (r : ℕ) → slice_index cycle.registers r < 2

known : (m : Netlist) (face : Face) (inputs : List (List ℕ)) (eots : List ℕ) (reset : Cycle) (cycles : List Cycle) →
    Premises m face inputs eots reset cycles → (n : ℕ) (values : List ℕ) → slice_get inputs n ≡ Some values →
    Known m face eots cycles n values
known m face inputs eots reset cycles p n values at =
    let M = module_for m face in
    let found = inputs_at inputs eots cycles p.run.goes_on n values at in
    let c = found.0 in
    let before = get_within (reset ∷ cycles) n (omega (arith, slice_get_within cycles n c found.1)) in
    let follows : Follows M before.0 c = follows_at M (reset ∷ cycles) p.run.run n before.0 c before.1 found.1 in
    let row : FitWidths m.widths values = subst (λ (vs : List ℕ). FitWidths m.widths vs)
    (get_or_from_slice_get inputs n values [] at) (p.fits n [] (slice_get_within inputs n values at)) in
    record {
      cycle = c;
      at = found.1;
      settled = settled_at M (reset ∷ cycles) p.run.run (suc n) c found.1;
      has = found.2;
      is = record {
        ports = ap length found.2.ports ∙ fit_length m.widths values row ∙ ap length (sym p.widths)
            ∙ length-map face.ports (λ s. s.width);
        registers = register_count m face before.0 c follows;
      };
      bits = register_bits m p.finished face before.0 c follows;
    }

-- the run of the netlist
abbrev run_of : List Cycle → Run
run_of cycles k n = slice_index (wires_at cycles n) k

net_is : (m : Netlist) (face : Face) (inputs : List (List ℕ)) (eots : List ℕ) (reset : Cycle) (cycles : List Cycle) →
    Premises m face inputs eots reset cycles → (k : ℕ) (node : Node) → slice_get m.nodes k ≡ Some node →
    (n : ℕ) (values : List ℕ) → (known : Known m face eots cycles n values) →
    run_of cycles k n ≡ taken m known.cycle.ports known.cycle node.op
net_is m face inputs eots reset cycles p k node at n values known =
    let c = known.cycle in
    let ends : c.end_of_execution < 2 =
    omega (arith, known.has.end_of_execution, all_below eots 2 n (omega arith) p.ends) in
    ap (λ (ws : List ℕ). slice_index ws k) (wires_are cycles n c known.at)
    ∙ wire_is m p.finished face c known.settled k node at
    ∙ node_takes p.keeps_width p.keeps_value m face p.widths c known.is ends known.bits k node.op
    (p.finished.well_made.nodes k node at).op

-- a node of the netlist that is a register, and the register
record HasRegister (m : Netlist) (k : ℕ) (node : Node) (r : ℕ) (x : net.Register) : Type 0 where
  at : slice_get m.nodes k ≡ Some node
  op : node.op ≡ register r
  there : slice_get m.registers r ≡ Some x

register_wire : (m : Netlist) (face : Face) (inputs : List (List ℕ)) (eots : List ℕ) (reset : Cycle)
    (cycles : List Cycle) → Premises m face inputs eots reset cycles → (k : ℕ) (node : Node) (r : ℕ)
    (x : net.Register) → HasRegister m k node r x →
    (n : ℕ) (values : List ℕ) → (known : Known m face eots cycles n values) →
    run_of cycles k n ≡ slice_index known.cycle.registers r
register_wire m face inputs eots reset cycles p k node r x has n values known =
    net_is m face inputs eots reset cycles p k node has.at n values known
    ∙ ap (λ (op : Op). taken m known.cycle.ports known.cycle op) has.op

register_next : (m : Netlist) (face : Face) (inputs : List (List ℕ)) (eots : List ℕ) (reset : Cycle)
    (cycles : List Cycle) → Premises m face inputs eots reset cycles → (k : ℕ) (node : Node) (r : ℕ)
    (x : net.Register) → HasRegister m k node r x → (o : Option ℕ) → x.next ≡ o →
    IfSome o (λ next. (n : ℕ) → suc n < length inputs → run_of cycles k (suc n) ≡ run_of cycles next n)
register_next m face inputs eots reset cycles p k node r x has None e = tt
register_next m face inputs eots reset cycles p k node r x has (Some next) e = λ n within.
    let M = module_for m face in
    let here = get_within inputs n (omega arith) in
    let later = get_within inputs (suc n) within in
    let first = known m face inputs eots reset cycles p n here.0 here.1 in
    let second = known m face inputs eots reset cycles p (suc n) later.0 later.1 in
    let follows = follows_at M (reset ∷ cycles) p.run.run (suc n) first.cycle second.cycle first.at second.at in
    register_wire m face inputs eots reset cycles p k node r x has (suc n) later.0 second
    ∙ register_is m face first.cycle second.cycle follows r x has.there
    ∙ goes_on m p.finished face first.cycle x next (p.finished.well_made.registers r x has.there).width first.is
    first.settled first.has.reset e
    ∙ ap (λ (ws : List ℕ). slice_index ws next) (sym (wires_are cycles n first.cycle first.at))

register_first : (m : Netlist) (face : Face) (inputs : List (List ℕ)) (eots : List ℕ) (reset : Cycle)
    (cycles : List Cycle) → Premises m face inputs eots reset cycles → (k : ℕ) (node : Node) (r : ℕ)
    (x : net.Register) → HasRegister m k node r x → 0 < length inputs → run_of cycles k 0 ≡ x.initial
register_first m face inputs eots reset cycles p k node r x has some =
    let M = module_for m face in
    let here = get_within inputs 0 some in
    let first = known m face inputs eots reset cycles p 0 here.0 here.1 in
    let follows = follows_at M (reset ∷ cycles) p.run.run 0 reset first.cycle refl first.at in
    register_wire m face inputs eots reset cycles p k node r x has 0 here.0 first
    ∙ register_is m face reset first.cycle follows r x has.there
    ∙ resets m face reset x (p.finished.well_made.registers r x has.there).fits p.run.begins.reset

bit_is_itself : (x : ℕ) → x < 2 → x ≡ truth x
bit_is_itself zero small = refl
bit_is_itself (suc zero) small = refl
bit_is_itself (suc (suc x)) small = absurd (omega (arith, small))

equation : (m : Netlist) (face : Face) (inputs : List (List ℕ)) (eots : List ℕ) (reset : Cycle)
    (cycles : List Cycle) → Premises m face inputs eots reset cycles → (k : ℕ) (node : Node) →
    slice_get m.nodes k ≡ Some node → (op : Op) → node.op ≡ op →
    Equation m (inputs_of inputs eots) (run_of cycles) (run_of cycles k) op
equation m face inputs eots reset cycles p k node at (bit b) e = λ n within.
    let here = get_within inputs n within in
    let first = known m face inputs eots reset cycles p n here.0 here.1 in
    net_is m face inputs eots reset cycles p k node at n here.0 first
    ∙ ap (λ (op : Op). taken m first.cycle.ports first.cycle op) e
equation m face inputs eots reset cycles p k node at eot e = λ n within.
    let here = get_within inputs n within in
    let first = known m face inputs eots reset cycles p n here.0 here.1 in
    net_is m face inputs eots reset cycles p k node at n here.0 first
    ∙ ap (λ (op : Op). taken m first.cycle.ports first.cycle op) e
    ∙ first.has.end_of_execution
    ∙ bit_is_itself (slice_index eots n) (all_below eots 2 n (omega arith) p.ends)
equation m face inputs eots reset cycles p k node at (guard g) e = λ n values here.
    let first = known m face inputs eots reset cycles p n values here in
    net_is m face inputs eots reset cycles p k node at n values first
    ∙ ap (λ (op : Op). taken m first.cycle.ports first.cycle op) e
    ∙ ap (λ (vs : List ℕ). truth (own_value m.widths vs g)) first.has.ports
equation m face inputs eots reset cycles p k node at (net.not a) e = λ n within.
    let here = get_within inputs n within in
    let first = known m face inputs eots reset cycles p n here.0 here.1 in
    net_is m face inputs eots reset cycles p k node at n here.0 first
    ∙ ap (λ (op : Op). taken m first.cycle.ports first.cycle op) e
    ∙ ap (λ (ws : List ℕ). flipped (slice_index ws a)) (sym (wires_are cycles n first.cycle first.at))
equation m face inputs eots reset cycles p k node at (net.and a b) e = λ n within.
    let here = get_within inputs n within in
    let first = known m face inputs eots reset cycles p n here.0 here.1 in
    net_is m face inputs eots reset cycles p k node at n here.0 first
    ∙ ap (λ (op : Op). taken m first.cycle.ports first.cycle op) e
    ∙ ap (λ (ws : List ℕ). both (slice_index ws a) (slice_index ws b)) (sym (wires_are cycles n first.cycle first.at))
equation m face inputs eots reset cycles p k node at (net.or a b) e = λ n within.
    let here = get_within inputs n within in
    let first = known m face inputs eots reset cycles p n here.0 here.1 in
    net_is m face inputs eots reset cycles p k node at n here.0 first
    ∙ ap (λ (op : Op). taken m first.cycle.ports first.cycle op) e
    ∙ ap (λ (ws : List ℕ). either (slice_index ws a) (slice_index ws b)) (sym (wires_are cycles n first.cycle first.at))
equation m face inputs eots reset cycles p k node at (register r) e = λ x there.
    let has : HasRegister m k node r x = record { at = at; op = e; there = there } in
    record {
      begins = register_first m face inputs eots reset cycles p k node r x has;
      goes_on = register_next m face inputs eots reset cycles p k node r x has x.next refl;
    }

output_stream : (m : Netlist) (face : Face) (inputs : List (List ℕ)) (eots : List ℕ) (reset : Cycle)
    (cycles : List Cycle) → Premises m face inputs eots reset cycles → (o : Option ℕ) → m.output ≡ o →
    IsSomeAnd o (IsNet m) →
    IsSomeAnd o (λ out. (n : ℕ) → n < length inputs → slice_get (fail_stream cycles) n ≡ Some (run_of cycles out n))
output_stream m face inputs eots reset cycles p None e is = absurd is
output_stream m face inputs eots reset cycles p (Some out) e is = λ n within.
    let here = get_within inputs n within in
    let first = known m face inputs eots reset cycles p n here.0 here.1 in
    get_mapped (λ (c : Cycle). c.fail) cycles n first.cycle first.at
    ∙ ap (λ (x : ℕ). Some x) (output_is m p.finished face first.cycle out first.is first.settled e
    ∙ ap (λ (ws : List ℕ). slice_index ws out) (sym (wires_are cycles n first.cycle first.at)))

pub keeps_stream : KeepsWidth → KeepsValue → (m : Netlist) (face : Face) → IsFinished m →
    port_widths face.ports ≡ m.widths → KeepsStream m (module_for m face)
keeps_stream keeps_width keeps_value m face finished widths inputs eots reset cycles fits ends run =
    let p : Premises m face inputs eots reset cycles = record {
      keeps_width = keeps_width;
      keeps_value = keeps_value;
      finished = finished;
      widths = widths;
      fits = fits;
      ends = ends;
      run = run;
    } in
    record {
      run = run_of cycles;
      is_run = record { nets = λ k node at. equation m face inputs eots reset cycles p k node at node.op refl };
      count = length-map cycles (λ (c : Cycle). c.fail) ∙ input_count inputs eots cycles run.goes_on;
      output = output_stream m face inputs eots reset cycles p m.output refl finished.output;
    }
