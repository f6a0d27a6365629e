-- The module of a finished netlist is lawful.
use Rattle.std.proofs.Common.{◌≡◌, ℕ, zero, suc, ◌+◌, ◌<◌, ◌≤◌, ◌^◌, Bool, true, false, List, [], ◌∷◌, ◌++◌}
use Rattle.std.proofs.Common.{map, take, length, refl, sym, ◌∙◌, arith, subst, Some, None}
use Rattle.std.proofs.lemmas.List.{length-map, length-append, length-take-le}
use Rattle.std.proofs.lemmas.Option.{slice_get_within}
use Rattle.std.specs.Prelude.{slice_index, Option, IsSomeAnd}
use Rattle.psl_model.specs.Expr.{Expr}
use Rattle.psl_model.specs.Valid.{IsValid, parentheses}
use Rattle.psl_model.specs.Moved.{moved, Carries}
use Rattle.circuit_core.specs.Netlist as net
use Rattle.circuit_core.specs.Netlist.{Op, bit, eot, guard, register, Node, Netlist, IsNet}
use Rattle.circuit_core.specs.Run.{number}
use Rattle.circuit_core.specs.WellMade.{IsOpAt, IsFinished}
use Rattle.verilog_text.specs.Interface.{IsInterface, port_widths}
use Rattle.verilog_text.specs.Module.{Register, Wire, IsExpression, IsRegister, IsWire, IsLawful}
use Rattle.verilog_text.specs.State.{register_widths, wire_widths}
use Rattle.verilog_text.specs.inner.Translation.{Face, first_register, first_wire, node_value, net_value}
use Rattle.verilog_text.specs.inner.Translation.{wire_of, register_of, module_for}
use Rattle.verilog_text.proofs.Tables.{Each, first_list, second_list, third_list, some_mapped, all_mapped}

abbrev pub KeepsValid : Type 0
KeepsValid = (by : ℕ) (old new : List ℕ) (e : Expr) → Carries by (length old) old new →
    by + length old ≤ length new → IsValid old e → IsValid new (moved by e)

abbrev pub KeepsDepth : Type 0
KeepsDepth = (by : ℕ) (e : Expr) → parentheses (moved by e) ≡ parentheses e

registers_narrow : (ws : ℕ) (xs : List net.Register) (k : ℕ) → Each xs (λ x. x.width ≡ 1) →
    slice_index (map (λ (y : Register). y.width) (map (register_of ws) xs)) k ≤ 1
registers_narrow ws [] k one = omega arith
registers_narrow ws (x ∷ xs) zero one = omega (arith, one 0 x refl)
registers_narrow ws (x ∷ xs) (suc k) one = registers_narrow ws xs k (λ j y at. one (suc j) y at)

wires_narrow : (rs ws : ℕ) (nodes : List Node) (k : ℕ) → Each nodes (λ node. node.width ≡ 1) →
    slice_index (map (λ (w : Wire). w.width) (map (wire_of rs ws) nodes)) k ≤ 1
wires_narrow rs ws [] k one = omega arith
wires_narrow rs ws (node ∷ nodes) zero one = omega (arith, one 0 node refl)
wires_narrow rs ws (node ∷ nodes) (suc k) one = wires_narrow rs ws nodes k (λ j y at. one (suc j) y at)

number_below : (b : Bool) → number b < 2 ^ 1
number_below true = omega arith
number_below false = omega arith

-- a table of the module's names with the first wires
record IsTable (m : Netlist) (face : Face) (xs ys zs : List ℕ) (k : ℕ) : Type 0 where
  ports : xs ≡ m.widths
  port_count : length xs ≡ length face.ports
  register_count : length ys ≡ length m.registers
  wire_count : length zs ≡ k

wire_there : (m : Netlist) (face : Face) (xs ys zs : List ℕ) (k a : ℕ) → IsTable m face xs ys zs k → a < k →
    first_wire m face.ports + a < length (1 ∷ 1 ∷ xs ++ ys ++ zs)
wire_there m face xs ys zs k a t lt = omega (
  arith,
  length-append (xs ++ ys) zs,
  length-append xs ys,
  t.port_count,
  t.register_count,
  t.wire_count,
)

node_lawful : KeepsValid → KeepsDepth → (m : Netlist) (face : Face) (xs ys zs : List ℕ) (k : ℕ) →
    IsTable m face xs ys zs k → ((r : ℕ) → slice_index ys r ≤ 1) → (op : Op) → IsOpAt m k op →
    IsExpression (1 ∷ 1 ∷ xs ++ ys ++ zs) (node_value (first_register face.ports) (first_wire m face.ports) op)
node_lawful keeps_valid keeps_depth m face xs ys zs k t narrow (bit b) node = record {
  valid = (omega arith, omega arith, number_below b);
  narrow = omega arith;
  shallow = omega arith;
}
node_lawful keeps_valid keeps_depth m face xs ys zs k t narrow eot node = record {
  valid = omega arith;
  narrow = omega arith;
  shallow = omega arith;
}
node_lawful keeps_valid keeps_depth m face xs ys zs k t narrow (guard e) node =
    let carried : Carries 2 (length xs) xs (1 ∷ 1 ∷ xs ++ ys ++ zs) = first_list 1 1 xs ys zs in
    let room : 2 + length xs ≤ length (1 ∷ 1 ∷ xs ++ ys ++ zs) =
    omega (arith, length-append (xs ++ ys) zs, length-append xs ys) in
    record {
      valid = keeps_valid 2 xs (1 ∷ 1 ∷ xs ++ ys ++ zs) e carried room
          (subst (λ (ws : List ℕ). IsValid ws e) (sym t.ports) node.0);
      narrow = omega arith;
      shallow = omega (arith, keeps_depth 2 e, node.1);
    }
node_lawful keeps_valid keeps_depth m face xs ys zs k t narrow (net.not a) node = record {
  valid = wire_there m face xs ys zs k a t node;
  narrow = omega arith;
  shallow = omega arith;
}
node_lawful keeps_valid keeps_depth m face xs ys zs k t narrow (net.and a b) node = record {
  valid = (refl, wire_there m face xs ys zs k a t node.0, wire_there m face xs ys zs k b t node.1);
  narrow = omega arith;
  shallow = omega arith;
}
node_lawful keeps_valid keeps_depth m face xs ys zs k t narrow (net.or a b) node = record {
  valid = (refl, wire_there m face xs ys zs k a t node.0, wire_there m face xs ys zs k b t node.1);
  narrow = omega arith;
  shallow = omega arith;
}
node_lawful keeps_valid keeps_depth m face xs ys zs k t narrow (register r) node = record {
  valid = omega (arith, length-append (xs ++ ys) zs, length-append xs ys, t.port_count, t.register_count);
  narrow = omega (
    arith,
    narrow r,
    second_list 1 1 xs ys zs (length face.ports) r t.port_count (omega (arith, t.register_count)),
  );
  shallow = omega arith;
}

net_lawful : (m : Netlist) (face : Face) (xs ys zs : List ℕ) → IsTable m face xs ys zs (length m.nodes) →
    ((k : ℕ) → slice_index zs k ≤ 1) → (o : Option ℕ) → IsSomeAnd o (IsNet m) →
    IsExpression (1 ∷ 1 ∷ xs ++ ys ++ zs) (net_value (first_wire m face.ports) o)
net_lawful m face xs ys zs t narrow None is = absurd is
net_lawful m face xs ys zs t narrow (Some k) is = record {
  valid = wire_there m face xs ys zs (length m.nodes) k t is;
  narrow = omega (
    arith,
    narrow k,
    third_list 1 1 xs ys zs (length face.ports) (length m.registers) k t.port_count t.register_count,
  );
  shallow = omega arith;
}

one_bit : (w : ℕ) → w ≡ 1 → (1 ≤ w) × (w ≤ 64)
one_bit w e = (omega (arith, e), omega (arith, e))

pub lawful : KeepsValid → KeepsDepth → (m : Netlist) (face : Face) → IsFinished m →
    IsInterface face.name face.report face.ports → port_widths face.ports ≡ m.widths → IsLawful (module_for m face)
lawful keeps_valid keeps_depth m face finished interface widths =
    let M = module_for m face in
    let rs = first_register face.ports in
    let ws = first_wire m face.ports in
    let port_count : length (port_widths face.ports) ≡ length face.ports = length-map face.ports (λ s. s.width) in
    let register_count : length (register_widths M) ≡ length m.registers =
    length-map M.registers (λ (y : Register). y.width) ∙ length-map m.registers (register_of ws) in
    let wire_count : length (wire_widths M) ≡ length m.nodes =
    length-map M.wires (λ (w : Wire). w.width) ∙ length-map m.nodes (wire_of rs ws) in
    let whole : IsTable m face (port_widths face.ports) (register_widths M) (wire_widths M) (length m.nodes) = record {
      ports = widths;
      port_count = port_count;
      register_count = register_count;
      wire_count = wire_count;
    } in
    let narrow_registers : (k : ℕ) → slice_index (register_widths M) k ≤ 1 =
    λ k. registers_narrow ws m.registers k (λ j x at. (finished.well_made.registers j x at).width) in
    let narrow_wires : (k : ℕ) → slice_index (wire_widths M) k ≤ 1 =
    λ k. wires_narrow rs ws m.nodes k (λ j node at. (finished.well_made.nodes j node at).width) in
    record {
      identifier = interface.identifier;
      prefix = interface.prefix;
      report = interface.report;
      ports = interface.ports;
      distinct = interface.distinct;
      registers = all_mapped (register_of ws) m.registers (IsRegister M) (λ k x at. record {
        width = one_bit x.width (finished.well_made.registers k x at).width;
        fits = (finished.well_made.registers k x at).fits;
        next = net_lawful m face (port_widths face.ports) (register_widths M) (wire_widths M) whole narrow_wires
            x.next (finished.nexts k x at);
      });
      wires = λ place. some_mapped (wire_of rs ws) m.nodes place (IsWire M place) (λ node at. record {
        width = one_bit node.width (finished.well_made.nodes place node at).width;
        value = node_lawful keeps_valid keeps_depth m face (port_widths face.ports) (register_widths M)
            (take place (wire_widths M)) place (record {
              ports = widths;
              port_count = port_count;
              register_count = register_count;
              wire_count = length-take-le place (wire_widths M)
                  (omega (arith, wire_count, slice_get_within m.nodes place node at));
            })
            narrow_registers node.op (finished.well_made.nodes place node at).op;
      });
      fail = net_lawful m face (port_widths face.ports) (register_widths M) (wire_widths M) whole narrow_wires
          m.output finished.output;
    }
