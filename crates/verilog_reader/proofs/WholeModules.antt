-- The text of a lawful module is read as that module, and what follows it is left.
use Rattle.std.proofs.Common.{◌≡◌, ℕ, ◌+◌, ◌<◌, ◌≤◌, ◌^◌, List, ◌++◌, length, map, ap, ◌∙◌, arith, Some}
use Rattle.std.proofs.lemmas.List.{length-append}
use Rattle.verilog_text.specs.Module.{Module, Register, IsLawful, names_of, widths_of}
use Rattle.verilog_text.specs.Text.{header_line, register_line, wire_line, fail_line, always_line, end_line}
use Rattle.verilog_text.specs.Text.{each_numbered, interface_lines, declaration_lines, behaviour_lines, spelling}
use Rattle.verilog_reader.specs.inner.Lines.{module_at}
use Rattle.verilog_reader.proofs.ModuleSpells.{IsPortList, interface_text}
use Rattle.verilog_reader.proofs.ModuleLawful.{ports_state, registers_state, parts_apart}
use Rattle.verilog_reader.proofs.NewNames.{Differ}
use Rattle.verilog_reader.proofs.NamesDiffer.{names_differ}
use Rattle.verilog_reader.proofs.LawfulParts.{port_list_from, widths_from, updates_from, fail_from}
use Rattle.verilog_reader.proofs.ModuleReads.{interface_reads, behaviour_reads, behaviour_no_wire}
use Rattle.verilog_reader.proofs.ModuleReads.{behaviour_no_register, wires_no_register, longer_than, register_some}
use Rattle.verilog_reader.proofs.ModuleReads.{wire_some, module_steps}
use Rattle.verilog_reader.proofs.ModuleParts.{ports_apart, whole_table, registers_part, wires_part}

-- the lines behind the interface, and those behind the registers
unfoldable behaviour_of : Module → List ℕ
behaviour_of m = fail_line (names_of m) m.fail ++ each_numbered (always_line (names_of m)) 0 m.registers ++ end_line

unfoldable wired_of : Module → List ℕ → List ℕ
wired_of m rest = each_numbered (wire_line (names_of m)) 0 m.wires ++ (behaviour_of m ++ rest)

unfoldable declared_of : Module → List ℕ → List ℕ
declared_of m rest = each_numbered register_line 0 m.registers ++ wired_of m rest

text_parts : (m : Module) (rest : List ℕ) → spelling m ++ rest ≡ interface_text m.name m.report m.ports
    ++ declared_of m rest
unfolding interface_text interface_lines header_line declaration_lines behaviour_lines behaviour_of wired_of declared_of
text_parts m rest = parts_apart (interface_text m.name m.report m.ports) (each_numbered register_line 0 m.registers)
    (each_numbered (wire_line (names_of m)) 0 m.wires) (behaviour_of m) rest

few_registers : (m : Module) (rest : List ℕ) → length (spelling m ++ rest) < 2 ^ 64 → 0 + length m.registers ≤ 2 ^ 64
unfolding declared_of
few_registers m rest short =
    let interface = interface_text m.name m.report m.ports in
    let all : length (spelling m ++ rest) ≡ length interface + length (declared_of m rest) =
    ap length (text_parts m rest) ∙ length-append interface (declared_of m rest) in
    let fewer : length m.registers ≤ length (declared_of m rest) =
    longer_than register_line register_some 0 m.registers (wired_of m rest) in
    omega arith

few_wires : (m : Module) (rest : List ℕ) → length (spelling m ++ rest) < 2 ^ 64 → 0 + length m.wires ≤ 2 ^ 64
unfolding declared_of wired_of
few_wires m rest short =
    let interface = interface_text m.name m.report m.ports in
    let registers = each_numbered register_line 0 m.registers in
    let all : length (spelling m ++ rest) ≡ length interface + length (declared_of m rest) =
    ap length (text_parts m rest) ∙ length-append interface (declared_of m rest) in
    let later : length (declared_of m rest) ≡ length registers + length (wired_of m rest) =
    length-append registers (wired_of m rest) in
    let fewer : length m.wires ≤ length (wired_of m rest) =
    longer_than (wire_line (names_of m)) (wire_some (names_of m)) 0 m.wires (behaviour_of m ++ rest) in
    omega arith

pub module_reads : (m : Module) (rest : List ℕ) → IsLawful m → length (spelling m ++ rest) < 2 ^ 64 →
    module_at (spelling m ++ rest) ≡ Some (m, rest)
unfolding behaviour_of wired_of declared_of ports_state
module_reads m rest lawful short =
    let ports : IsPortList m.ports = port_list_from m.ports lawful.ports in
    let registers = few_registers m rest short in
    let wires = few_wires m rest short in
    let apart : Differ (names_of m) = names_differ m ports lawful.distinct registers wires in
    let widths = map (λ (r : Register). r.width) m.registers in
    let driven = behaviour_of m ++ rest in
    let always = each_numbered (always_line (names_of m)) 0 m.registers in
    ap module_at (text_parts m rest)
    ∙ module_steps m (interface_text m.name m.report m.ports ++ declared_of m rest) (declared_of m rest)
    (wired_of m rest) driven rest widths (ports_state m) (registers_state m) (names_of m, widths_of m)
    (interface_reads m.name m.report m.ports (declared_of m rest) lawful.identifier lawful.prefix lawful.report ports
    (ports_apart m apart))
    (registers_part m (wired_of m rest) lawful apart
    (wires_no_register (names_of m) m.wires driven (behaviour_no_register (names_of m) m.fail always rest)))
    (wires_part m driven lawful registers wires apart (behaviour_no_wire (names_of m) m.fail always rest))
    (behaviour_reads (names_of m, widths_of m) (whole_table m lawful registers wires apart) m.fail widths m.registers
    rest (fail_from m lawful) (updates_from m m.registers lawful.registers)
    (widths_from m m.registers lawful.registers))
