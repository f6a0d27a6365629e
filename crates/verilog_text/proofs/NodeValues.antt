-- What the wires and registers of a netlist's module take in a cycle.
use Rattle.std.proofs.Common.{◌≡◌, ℕ, zero, suc, ◌+◌, ◌<◌, ◌%◌, ◌^◌, Bool, true, false, cond, List, map, length}
use Rattle.std.proofs.Common.{refl, ap, sym, ◌∙◌, arith, subst, Some}
use Rattle.std.proofs.Math.Nat.{mod-eq_of_lt, mod-lt}
use Rattle.std.proofs.lemmas.List.{length-map}
use Rattle.std.proofs.lemmas.Nat.{pow_pos}
use Rattle.std.proofs.lemmas.Bool.Decides.{nat_tests}
use Rattle.std.specs.Prelude.{slice_get, slice_index, Option, max, ◌==◌, not, ◌&&◌, ◌||◌}
use Rattle.psl_model.specs.Expr.{Expr}
use Rattle.psl_model.specs.Value.{width_of, value_of, own_value, bit_of}
use Rattle.psl_model.specs.Valid.{IsValid}
use Rattle.psl_model.specs.Moved.{moved, Carries}
use Rattle.circuit_core.specs.Netlist as net
use Rattle.circuit_core.specs.Netlist.{Op, bit, eot, guard, register, Node, Netlist}
use Rattle.circuit_core.specs.Run.{number, truth, flipped, both, either}
use Rattle.circuit_core.specs.WellMade.{IsOpAt, IsFinished}
use Rattle.verilog_text.specs.Interface.{port_widths}
use Rattle.verilog_text.specs.Module.{Register, Wire, widths_of}
use Rattle.verilog_text.specs.Run.{Cycle, values_of, assigned, right_side, IsSettled, Follows}
use Rattle.verilog_text.specs.State.{register_widths, wire_widths}
use Rattle.verilog_text.specs.inner.Translation.{Face, first_register, first_wire, node_value, net_value}
use Rattle.verilog_text.specs.inner.Translation.{wire_of, register_of, module_for}
use Rattle.verilog_text.proofs.Tables.{first_list, second_list, third_list, get_mapped, index_mapped, mapped_below}
use Rattle.verilog_text.proofs.Tables.{map_twice}

-- a moved expression has the width and the value that it had
abbrev pub KeepsWidth : Type 0
KeepsWidth = (by : ℕ) (old new : List ℕ) (e : Expr) → Carries by (length old) old new → IsValid old e →
    width_of new (moved by e) ≡ width_of old e

abbrev pub KeepsValue : Type 0
KeepsValue = (by : ℕ) (old new old_values new_values : List ℕ) (context : ℕ) (e : Expr) →
    Carries by (length old) old new → Carries by (length old) old_values new_values → IsValid old e →
    value_of new new_values context (moved by e) ≡ value_of old old_values context e

-- a cycle with as many values as there are ports and registers
pub record IsCycle (m : Netlist) (face : Face) (c : Cycle) : Type 0 where
  pub ports : length c.ports ≡ length face.ports
  pub registers : length c.registers ≡ length m.registers

small : (x : ℕ) → x < 2 → x % 2 ^ 1 ≡ x
small x lt = mod-eq_of_lt lt

number_small : (b : Bool) → number b % 2 ^ 1 ≡ number b
number_small true = refl
number_small false = refl

positive : (x : ℕ) → (suc x == 0) ≡ false
positive x = grind (arith, nat_tests)

as_truth : (x : ℕ) → bit_of (not (x == 0)) % 2 ^ 1 ≡ truth x
as_truth zero = refl
as_truth (suc x) = ap (λ b. bit_of (not b) % 2 ^ 1) (positive x)

as_flipped : (x : ℕ) → bit_of (x == 0) % 2 ^ 1 ≡ flipped x
as_flipped zero = refl
as_flipped (suc x) = ap (λ b. bit_of b % 2 ^ 1) (positive x)

as_both : (x y : ℕ) → bit_of (not (x == 0) && not (y == 0)) % 2 ^ 1 ≡ both x y
as_both zero y = refl
as_both (suc x) y = ap (λ b. bit_of (not b && not (y == 0)) % 2 ^ 1) (positive x) ∙ as_truth y

as_either : (x y : ℕ) → bit_of (not (x == 0) || not (y == 0)) % 2 ^ 1 ≡ either x y
as_either zero y = as_truth y
as_either (suc x) y = ap (λ b. bit_of (not b || not (y == 0)) % 2 ^ 1) (positive x)

cut_below : (x width : ℕ) → width ≡ 1 → x % 2 ^ width < 2
cut_below x width one = subst (λ (w : ℕ). x % 2 ^ w < 2) (sym one) (mod-lt x (pow_pos 1))

-- the value at a wire's and at a register's place
at_wire : (m : Netlist) (face : Face) (c : Cycle) (k : ℕ) → IsCycle m face c →
    slice_index (values_of c) (first_wire m face.ports + k) ≡ slice_index c.wires k
at_wire m face c k is = third_list c.reset c.end_of_execution c.ports c.registers c.wires
    (length face.ports) (length m.registers) k is.ports is.registers

at_register : (m : Netlist) (face : Face) (c : Cycle) (r : ℕ) → IsCycle m face c → r < length m.registers →
    slice_index (values_of c) (first_register face.ports + r) ≡ slice_index c.registers r
at_register m face c r is lt = second_list c.reset c.end_of_execution c.ports c.registers c.wires
    (length face.ports) r is.ports (omega (arith, is.registers))

-- what a node's wire takes
abbrev pub taken : Netlist → (values : List ℕ) → Cycle → Op → ℕ
taken m values c (bit b) = number b
taken m values c eot = c.end_of_execution
taken m values c (guard e) = truth (own_value m.widths values e)
taken m values c (net.not a) = flipped (slice_index c.wires a)
taken m values c (net.and a b) = both (slice_index c.wires a) (slice_index c.wires b)
taken m values c (net.or a b) = either (slice_index c.wires a) (slice_index c.wires b)
taken m values c (register r) = slice_index c.registers r

-- the right side of a node's wire, in the module
abbrev pub side_of : Netlist → Face → Op → Expr
side_of m face op = node_value (first_register face.ports) (first_wire m face.ports) op

carry : (us vs table : List ℕ) → vs ≡ us → Carries 2 (length vs) vs table → Carries 2 (length us) us table
carry us vs table e h s lt = h s (omega (arith, ap length e)) ∙ ap (λ (xs : List ℕ). slice_index xs s) e

pub node_takes : KeepsWidth → KeepsValue → (m : Netlist) (face : Face) → port_widths face.ports ≡ m.widths →
    (c : Cycle) → IsCycle m face c → c.end_of_execution < 2 → ((r : ℕ) → slice_index c.registers r < 2) →
    (k : ℕ) (op : Op) → IsOpAt m k op → assigned (module_for m face) c 1 (side_of m face op) ≡ taken m c.ports c op
node_takes keeps_width keeps_value m face widths c is ends bits k (bit b) node = number_small b
node_takes keeps_width keeps_value m face widths c is ends bits k eot node = small c.end_of_execution ends
node_takes keeps_width keeps_value m face widths c is ends bits k (guard e) node =
    let table = widths_of (module_for m face) in
    let lists = first_list 1 1 (port_widths face.ports) (register_widths (module_for m face))
    (wire_widths (module_for m face)) in
    let carried : Carries 2 (length m.widths) m.widths table =
    carry m.widths (port_widths face.ports) table widths lists in
    let same_length : length c.ports ≡ length m.widths =
    is.ports ∙ sym (length-map face.ports (λ p. p.width)) ∙ ap length widths in
    let values : Carries 2 (length m.widths) c.ports (values_of c) =
    λ s lt. first_list c.reset c.end_of_execution c.ports c.registers c.wires s (omega (arith, same_length)) in
    as_truth (own_value table (values_of c) (moved 2 e))
    ∙ ap (λ w. truth (value_of table (values_of c) w (moved 2 e))) (keeps_width 2 m.widths table e carried node.0)
    ∙ ap truth (keeps_value 2 m.widths table c.ports (values_of c) (width_of m.widths e) e carried values node.0)
node_takes keeps_width keeps_value m face widths c is ends bits k (net.not a) node =
    as_flipped (slice_index (values_of c) (first_wire m face.ports + a)) ∙ ap flipped (at_wire m face c a is)
node_takes keeps_width keeps_value m face widths c is ends bits k (net.and a b) node =
    let left = slice_index (values_of c) (first_wire m face.ports + a) in
    let right = slice_index (values_of c) (first_wire m face.ports + b) in
    as_both left right
    ∙ ap (λ x. both x right) (at_wire m face c a is)
    ∙ ap (λ y. both (slice_index c.wires a) y) (at_wire m face c b is)
node_takes keeps_width keeps_value m face widths c is ends bits k (net.or a b) node =
    let left = slice_index (values_of c) (first_wire m face.ports + a) in
    let right = slice_index (values_of c) (first_wire m face.ports + b) in
    as_either left right
    ∙ ap (λ x. either x right) (at_wire m face c a is)
    ∙ ap (λ y. either (slice_index c.wires a) y) (at_wire m face c b is)
node_takes keeps_width keeps_value m face widths c is ends bits k (register r) node =
    ap (λ x. x % 2 ^ 1) (at_register m face c r is node) ∙ small (slice_index c.registers r) (bits r)

-- the wires of a settled cycle
pub wire_is : (m : Netlist) → IsFinished m → (face : Face) (c : Cycle) → IsSettled (module_for m face) c →
    (k : ℕ) (node : Node) → slice_get m.nodes k ≡ Some node →
    slice_index c.wires k ≡ assigned (module_for m face) c 1 (side_of m face node.op)
wire_is m finished face c settled k node at =
    let wire = wire_of (first_register face.ports) (first_wire m face.ports) in
    ap (λ (ws : List ℕ). slice_index ws k) settled.wires
    ∙ index_mapped (λ (w : Wire). assigned (module_for m face) c w.width w.value) (module_for m face).wires k
    (wire node) (get_mapped wire m.nodes k node at)
    ∙ ap (λ (w : ℕ). assigned (module_for m face) c w (side_of m face node.op))
    (finished.well_made.nodes k node at).width

wire_bits : (m : Netlist) → IsFinished m → (face : Face) (c : Cycle) → IsSettled (module_for m face) c →
    (k : ℕ) → slice_index c.wires k < 2
wire_bits m finished face c settled k =
    let value : Node → ℕ = λ node. assigned (module_for m face) c node.width (side_of m face node.op) in
    let same : c.wires ≡ map value m.nodes =
    settled.wires ∙ map_twice (wire_of (first_register face.ports) (first_wire m face.ports))
    (λ (w : Wire). assigned (module_for m face) c w.width w.value) m.nodes in
    omega (
      arith,
      ap (λ (ws : List ℕ). slice_index ws k) same,
      mapped_below value m.nodes 2 k (omega arith)
          (λ j node at. cut_below _ node.width (finished.well_made.nodes j node at).width),
    )

-- what a register takes
abbrev pub after : Netlist → Face → Cycle → net.Register → ℕ
after m face c x =
    assigned (module_for m face) c x.width (right_side (register_of (first_wire m face.ports) x))

-- the registers after a cycle
pub registers_are : (m : Netlist) (face : Face) (c d : Cycle) → Follows (module_for m face) c d →
    d.registers ≡ map (after m face c) m.registers
registers_are m face c d follows = follows ∙ map_twice (register_of (first_wire m face.ports))
    (λ (r : Register). assigned (module_for m face) c r.width (right_side r)) m.registers

pub register_bits : (m : Netlist) → IsFinished m → (face : Face) (c d : Cycle) → Follows (module_for m face) c d →
    (r : ℕ) → slice_index d.registers r < 2
register_bits m finished face c d follows r =
    omega (
      arith,
      ap (λ (ws : List ℕ). slice_index ws r) (registers_are m face c d follows),
      mapped_below (after m face c) m.registers 2 r (omega arith)
          (λ j x at. cut_below _ x.width (finished.well_made.registers j x at).width),
    )

pub register_count : (m : Netlist) (face : Face) (c d : Cycle) → Follows (module_for m face) c d →
    length d.registers ≡ length m.registers
register_count m face c d follows =
    ap length (registers_are m face c d follows) ∙ length-map m.registers (after m face c)

pub register_is : (m : Netlist) (face : Face) (c d : Cycle) → Follows (module_for m face) c d →
    (r : ℕ) (x : net.Register) → slice_get m.registers r ≡ Some x → slice_index d.registers r ≡ after m face c x
register_is m face c d follows r x at =
    ap (λ (ws : List ℕ). slice_index ws r) (registers_are m face c d follows)
    ∙ index_mapped (after m face c) m.registers r x at

-- the value of a register's right side, by what `mbac_rst` is
abbrev chosen : Netlist → Face → Cycle → net.Register → (reset : ℕ) → ℕ
chosen m face c x reset =
    let table = widths_of (module_for m face) in
    let context = max x.width (width_of table (right_side (register_of (first_wire m face.ports) x))) in
    cond (reset == 0) (value_of table (values_of c) context (net_value (first_wire m face.ports) x.next)) x.initial
    % 2 ^ x.width

pub resets : (m : Netlist) (face : Face) (c : Cycle) (x : net.Register) → x.initial < 2 ^ x.width → c.reset ≡ 1 →
    after m face c x ≡ x.initial
resets m face c x fits reset = ap (chosen m face c x) reset ∙ mod-eq_of_lt fits

pub goes_on : (m : Netlist) → IsFinished m → (face : Face) (c : Cycle) (x : net.Register) (next : ℕ) →
    x.width ≡ 1 → IsCycle m face c → IsSettled (module_for m face) c → c.reset ≡ 0 → x.next ≡ Some next →
    after m face c x ≡ slice_index c.wires next
goes_on m finished face c x next one is settled reset e =
    let table = widths_of (module_for m face) in
    let context = max x.width (width_of table (right_side (register_of (first_wire m face.ports) x))) in
    ap (chosen m face c x) reset
    ∙ ap (λ (o : Option ℕ). value_of table (values_of c) context (net_value (first_wire m face.ports) o) % 2 ^ x.width)
    e
    ∙ ap (λ n. n % 2 ^ x.width) (at_wire m face c next is)
    ∙ ap (λ w. slice_index c.wires next % 2 ^ w) one
    ∙ small (slice_index c.wires next) (wire_bits m finished face c settled next)

pub output_is : (m : Netlist) → IsFinished m → (face : Face) (c : Cycle) (out : ℕ) → IsCycle m face c →
    IsSettled (module_for m face) c → m.output ≡ Some out → c.fail ≡ slice_index c.wires out
output_is m finished face c out is settled e =
    let table = widths_of (module_for m face) in
    let value : Option ℕ → ℕ = λ o.
    value_of table (values_of c) (max 1 (width_of table (net_value (first_wire m face.ports) o)))
    (net_value (first_wire m face.ports) o) % 2 ^ 1 in
    settled.fail
    ∙ ap value e
    ∙ ap (λ n. n % 2 ^ 1) (at_wire m face c out is)
    ∙ small (slice_index c.wires out) (wire_bits m finished face c settled out)
