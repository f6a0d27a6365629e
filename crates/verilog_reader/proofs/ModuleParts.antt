-- The registers and the wires of a lawful module are read, each over the names before.
use Rattle.std.proofs.Common.{◌≡◌, ℕ, ◌+◌, ◌≤◌, ◌^◌, List, ◌++◌, length, map, refl, ap, sym, ◌∙◌, arith, subst, Some}
use Rattle.std.proofs.Common.{None}
use Rattle.std.proofs.lemmas.List.{length-map}
use Rattle.std.specs.Prelude.{codes}
use Rattle.verilog_text.specs.Module.{Module, Register, Wire, IsLawful, names_of, widths_of, numbered_names}
use Rattle.verilog_text.specs.Module.{register_stem, wire_stem}
use Rattle.verilog_text.specs.Text.{register_name, register_line, wire_line, each_numbered}
use Rattle.verilog_reader.specs.inner.Pieces.{after_text}
use Rattle.verilog_reader.specs.inner.Table.{IsTable}
use Rattle.verilog_reader.specs.inner.Lines.{State, register_at, registers_at, wire_at, wires_at, declarations_at}
use Rattle.verilog_reader.proofs.ListSpells.{AreWidths, after_widths}
use Rattle.verilog_reader.proofs.ListReads.{AreNew, registers_reads, wires_reads}
use Rattle.verilog_reader.proofs.WireSpells.{AreWires, wires_text}
use Rattle.verilog_reader.proofs.States.{extended, after_widths_is, after_wires_is, same_names}
use Rattle.verilog_reader.proofs.LongerTables.{numbered_wires, wires_text_is}
use Rattle.verilog_reader.proofs.ModuleLawful.{ports_state, registers_state, whole_state, whole_names, base_widths}
use Rattle.verilog_reader.proofs.ModuleLawful.{even_lengths, even_extended, named_lengths, wire_names_are}
use Rattle.verilog_reader.proofs.ModuleLawful.{whole_state_is, both_lists, first_wide}
use Rattle.verilog_reader.proofs.NewNames.{Differ, Known, front_differs, table_from, new_registers, new_tables}
use Rattle.verilog_reader.proofs.NamesDiffer.{base_names, whole_are}
use Rattle.verilog_reader.proofs.LawfulParts.{port_list_from, widths_from, wires_from, wire_widths_from}
use Rattle.verilog_reader.proofs.ModuleReads.{longer_than, register_some, wire_some, register_texts}

-- the names of a module from its front on

pub names_split : (m : Module) → names_of m ≡ (registers_state m).0 ++ numbered_wires 0 m.wires
unfolding whole_state registers_state ports_state
names_split m = sym (whole_names m) ∙ ap (λ (ns : List (List ℕ)). (registers_state m).0 ++ ns)
    (wire_names_are 0 m.wires)

pub registers_apart : (m : Module) → Differ (names_of m) →
    Differ ((ports_state m).0 ++ numbered_names register_stem 0 m.registers)
unfolding registers_state ports_state
registers_apart m apart =
    front_differs (registers_state m).0 (numbered_wires 0 m.wires) (subst Differ (names_split m) apart)

pub ports_apart : (m : Module) → Differ (names_of m) → Differ (ports_state m).0
ports_apart m apart = front_differs (ports_state m).0 (numbered_names register_stem 0 m.registers)
    (registers_apart m apart)

-- what is known at the first wire, and at the end

base_known : (m : Module) → IsLawful m → 0 + length m.registers ≤ 2 ^ 64 → Known (registers_state m)
unfolding registers_state ports_state
base_known m lawful few =
    let ports = port_list_from m.ports lawful.ports in (
      even_lengths m,
      base_names m ports few,
      both_lists (ports_state m).1 (map (λ (r : Register). r.width) m.registers)
          (first_wide m ports) (widths_from m m.registers lawful.registers),
    )

whole_even : (m : Module) → length (names_of m) ≡ length (widths_of m)
unfolding names_of registers_state ports_state
whole_even m =
    even_extended (registers_state m) (numbered_names wire_stem 0 m.wires) (map (λ (w : Wire). w.width) m.wires)
    (even_lengths m) (named_lengths wire_stem 0 m.wires ∙ sym (length-map m.wires (λ (w : Wire). w.width)))

pub whole_table : (m : Module) → IsLawful m → 0 + length m.registers ≤ 2 ^ 64 → 0 + length m.wires ≤ 2 ^ 64 →
    Differ (names_of m) → IsTable (names_of m) (widths_of m)
whole_table m lawful few_registers few_wires apart =
    let base : AreWidths (registers_state m).1 = (base_known m lawful few_registers).2 in
    let wide : AreWidths (widths_of m) =
    subst AreWidths (ap (λ (ws : List ℕ). ws ++ map (λ (w : Wire). w.width) m.wires) (base_widths m))
    (both_lists (registers_state m).1 (map (λ (w : Wire). w.width) m.wires) base (wire_widths_from m lawful)) in
    table_from (names_of m, widths_of m)
    (whole_even m, whole_are m (port_list_from m.ports lawful.ports) few_registers few_wires, wide) apart

-- registers

registers_made : (m : Module) → after_widths (ports_state m) 0 (map (λ (r : Register). r.width) m.registers)
    ≡ registers_state m
unfolding registers_state
registers_made m =
    let widths = map (λ (r : Register). r.width) m.registers in
    after_widths_is widths (ports_state m) 0
    ∙ ap (λ (ns : List (List ℕ)). extended (ports_state m) ns widths)
    (same_names (λ (r : Register). r.width) register_stem 0 m.registers)

pub registers_part : (m : Module) (rest : List ℕ) → IsLawful m → Differ (names_of m) → after_text (codes "  reg ") rest
    ≡ None →
    registers_at (length (each_numbered register_line 0 m.registers ++ rest)) (ports_state m) 0
    (each_numbered register_line 0 m.registers ++ rest)
    ≡ Some ((map (λ (r : Register). r.width) m.registers, registers_state m), rest)
unfolding registers_at
registers_part m rest lawful apart none =
    let widths = map (λ (r : Register). r.width) m.registers in
    let most : ℕ = length (each_numbered register_line 0 m.registers ++ rest) in
    let same : length widths ≡ length m.registers = length-map m.registers (λ (r : Register). r.width) in
    let fewer : length m.registers ≤ most = longer_than register_line register_some 0 m.registers rest in
    let few : length widths ≤ most = omega arith in
    let new : AreNew register_name (ports_state m) 0 widths = new_registers widths (ports_state m) 0
    (subst (λ (ns : List (List ℕ)). Differ ((ports_state m).0 ++ ns))
    (sym (same_names (λ (r : Register). r.width) register_stem 0 m.registers)) (registers_apart m apart)) in
    ap (λ (t : List ℕ). declarations_at (codes "  reg ") register_at most (ports_state m) 0 (t ++ rest))
    (sym (register_texts 0 m.registers))
    ∙ registers_reads widths most (ports_state m) 0 rest few (widths_from m m.registers lawful.registers) new none
    ∙ ap (λ (s : State). Some ((widths, s), rest)) (registers_made m)

-- wires

pub wires_part : (m : Module) (rest : List ℕ) → IsLawful m → 0 + length m.registers ≤ 2 ^ 64 →
    0 + length m.wires ≤ 2 ^ 64 → Differ (names_of m) → after_text (codes "  wire ") rest ≡ None →
    wires_at (length (each_numbered (wire_line (names_of m)) 0 m.wires ++ rest)) (registers_state m) 0
    (each_numbered (wire_line (names_of m)) 0 m.wires ++ rest)
    ≡ Some ((m.wires, (names_of m, widths_of m)), rest)
unfolding wires_at
wires_part m rest lawful few_registers few_wires apart none =
    let lines = each_numbered (wire_line (names_of m)) 0 m.wires in
    let most : ℕ = length (lines ++ rest) in
    let few : length m.wires ≤ most = longer_than (wire_line (names_of m)) (wire_some (names_of m)) 0 m.wires rest in
    let are : AreWires (registers_state m) 0 m.wires = wires_from m lawful in
    let text : wires_text (registers_state m) 0 m.wires ≡ lines =
    wires_text_is m.wires (registers_state m) (even_lengths m) 0 (names_of m) (numbered_wires 0 m.wires) are
    (names_split m) refl in
    let tables = new_tables m.wires (registers_state m) 0 (base_known m lawful few_registers) are few_wires
    (subst Differ (names_split m) apart) in
    ap (λ (t : List ℕ). declarations_at (codes "  wire ") wire_at most (registers_state m) 0 (t ++ rest)) (sym text)
    ∙ wires_reads m.wires most (registers_state m) 0 rest few are tables none
    ∙ ap (λ (s : State). Some ((m.wires, s), rest)) (after_wires_is m.wires (registers_state m) 0 ∙ whole_state_is m)
