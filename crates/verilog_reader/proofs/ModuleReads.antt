-- The text of a lawful module is read as that module.
use Rattle.std.proofs.Common.{◌≡◌, ℕ, suc, ◌+◌, ◌<◌, ◌≤◌, true, List, [], ◌∷◌, ◌++◌, length, map, refl, ap, sym, ◌∙◌}
use Rattle.std.proofs.Common.{arith, subst, Some, None, append_assoc}
use Rattle.std.proofs.lemmas.List.{length-append}
use Rattle.std.specs.Prelude.{Option, codes, flat_map, IfSome, nat_eq}
use Rattle.std.specs.List.{starts_with}
use Rattle.psl_model.specs.declared.names.Signal.{Signal}
use Rattle.psl_model.specs.Expr.{Expr}
use Rattle.psl_model.specs.Names.{IsIdentifier, IsReport, checker_prefix}
use Rattle.verilog_text.specs.Module.{Module, Register, Wire}
use Rattle.verilog_text.specs.Text.{line, range_text, port_line, report_line, input_lines, output_line, register_name}
use Rattle.verilog_text.specs.Text.{register_line, wire_line, wire_declaration, fail_line, always_line, end_line}
use Rattle.verilog_text.specs.Text.{each_numbered}
use Rattle.verilog_reader.specs.inner.Pieces.{after_text}
use Rattle.verilog_reader.specs.inner.Table.{IsTable}
use Rattle.verilog_reader.specs.inner.Lines.{State, first_state, inputs_at, interface_at, registers_at, wires_at}
use Rattle.verilog_reader.specs.inner.Lines.{behaviour_at, module_at}
use Rattle.verilog_reader.proofs.Pieces.{after_text-text}
use Rattle.verilog_reader.proofs.LineSpells.{IsPhrase}
use Rattle.verilog_reader.proofs.LineReads.{fail_reads}
use Rattle.verilog_reader.proofs.ListSpells.{AreWidths, AreUpdates, width_line}
use Rattle.verilog_reader.proofs.ListReads.{ports_reads, updates_reads}
use Rattle.verilog_reader.proofs.HeaderLines.{in_bits}
use Rattle.verilog_reader.proofs.Reports.{header_reads, report_reads}
use Rattle.verilog_reader.proofs.States.{extended}
use Rattle.verilog_reader.proofs.ModuleSpells.{IsPortList, interface_text, lines_apart, three_apart}
use Rattle.verilog_reader.proofs.NewNames.{Differ, ports_added}
use Rattle.verilog_reader.proofs.LawfulParts.{ports_usable, ports_identifiers, ports_of_header, header_names}

-- the interface

no_report : (rest : List ℕ) → after_text (codes "  // ") (input_lines ++ rest) ≡ None
unfolding after_text input_lines
no_report rest = refl

inputs_reads : (rest : List ℕ) → inputs_at (input_lines ++ rest) ≡ Some rest
unfolding inputs_at after_text input_lines
inputs_reads rest = refl

pub interface_reads : (name : List ℕ) (report : Option (List ℕ)) (ports : List Signal) (rest : List ℕ) →
    IsIdentifier name → starts_with nat_eq name checker_prefix ≡ true →
    IfSome report IsReport → IsPortList ports → Differ (first_state.0 ++ map (λ (p : Signal). p.name) ports) →
    interface_at (interface_text name report ports ++ rest)
    ≡ Some (
      (
        name,
        report,
        ports,
        extended first_state (map (λ (p : Signal). p.name) ports)
            (map (λ (p : Signal). p.width) ports),
      ),
      rest,
    )
unfolding interface_at interface_text
interface_reads name report ports rest is prefix said are apart =
    let outputs = output_line ++ rest in
    let inputs = flat_map port_line ports ++ outputs in
    let after = input_lines ++ inputs in
    let header_apart : Differ (first_state.0 ++ map (λ (p : Signal). p.name) (in_bits ports)) =
    subst (λ (ns : List (List ℕ)). Differ (first_state.0 ++ ns)) (sym (header_names ports)) apart in
    rw (
      lines_apart name (flat_map (λ (p : Signal). p.name ++ codes ", ") ports) (report_line report) input_lines
          (flat_map port_line ports) output_line rest,
      header_reads name ports (report_line report ++ after) is prefix (ports_usable ports are),
      ports_added (in_bits ports) first_state header_apart,
      report_reads report after said (no_report inputs),
      inputs_reads inputs,
      ports_reads ports (in_bits ports) outputs (ports_of_header ports are) (ports_identifiers ports are),
      ports_added ports first_state apart,
      after_text-text output_line rest,
    ) refl

-- the behaviour

pub behaviour_reads : (state : State) (table : IsTable state.0 state.1) (e : Expr) (widths : List ℕ)
    (rs : List Register) (rest : List ℕ) → IsPhrase state e → AreUpdates state widths rs → AreWidths widths →
    behaviour_at state widths ((fail_line state.0 e ++ each_numbered (always_line state.0) 0 rs ++ end_line) ++ rest)
    ≡ Some ((e, rs), rest)
unfolding behaviour_at
behaviour_reads state table e widths rs rest is are wide =
    let lines = each_numbered (always_line state.0) 0 rs in
    rw (
      three_apart (fail_line state.0 e) lines end_line rest,
      fail_reads state table e (lines ++ (end_line ++ rest)) is,
      updates_reads state table rs 0 widths (end_line ++ rest) are wide,
      after_text-text end_line rest,
    ) refl

-- what follows registers, and what follows wires

pub behaviour_no_wire : (names : List (List ℕ)) (e : Expr) (lines rest : List ℕ) →
    after_text (codes "  wire ") ((fail_line names e ++ lines ++ end_line) ++ rest) ≡ None
unfolding after_text fail_line
behaviour_no_wire names e lines rest = refl

pub behaviour_no_register : (names : List (List ℕ)) (e : Expr) (lines rest : List ℕ) →
    after_text (codes "  reg ") ((fail_line names e ++ lines ++ end_line) ++ rest) ≡ None
unfolding after_text fail_line
behaviour_no_register names e lines rest = refl

pub wires_no_register : (names : List (List ℕ)) (ws : List Wire) (rest : List ℕ) → after_text (codes "  reg ") rest
    ≡ None → after_text (codes "  reg ") (each_numbered (wire_line names) 0 ws ++ rest) ≡ None
unfolding after_text wire_line wire_declaration
wires_no_register names [] rest none = none
wires_no_register names (w ∷ ws) rest none = refl

-- a line has bytes, so there are at most as many lines as bytes

pub longer_than : {X : Type 0} (f : ℕ → X → List ℕ) → ((k : ℕ) (x : X) → 0 < length (f k x)) →
    (number : ℕ) (xs : List X) (rest : List ℕ) → length xs ≤ length (each_numbered f number xs ++ rest)
longer_than f some number [] rest = omega arith
longer_than f some number (x ∷ xs) rest =
    let later = longer_than f some (suc number) xs rest in
    let here : 0 < length (f number x) = some number x in
    let all : length (each_numbered f number (x ∷ xs) ++ rest) ≡ length (f number x) + length
    (each_numbered f (suc number) xs ++ rest) =
    ap length (append_assoc (f number x) (each_numbered f (suc number) xs) rest) ∙ length-append (f number x)
    (each_numbered f (suc number) xs ++ rest) in
    omega arith

some_line : (text : List ℕ) → 0 < length (line text)
some_line text = let all : length (text ++ 10 ∷ []) ≡ length text + 1 = length-append text (10 ∷ []) in omega arith

pub register_some : (k : ℕ) (r : Register) → 0 < length (register_line k r)
unfolding register_line
register_some k r = some_line (codes "  reg " ++ range_text r.width ++ register_name k ++ codes ";")

pub wire_some : (names : List (List ℕ)) (k : ℕ) (w : Wire) → 0 < length (wire_line names k w)
unfolding wire_line
wire_some names k w = some_line _

-- a module

pub module_steps : (m : Module) (bytes declared wired driven rest widths : List ℕ) (s0 s1 s2 : State) →
    interface_at bytes ≡ Some ((m.name, m.report, m.ports, s0), declared) →
    registers_at (length declared) s0 0 declared ≡ Some ((widths, s1), wired) → wires_at (length wired) s1 0 wired
    ≡ Some ((m.wires, s2), driven) →
    behaviour_at s2 widths driven ≡ Some ((m.fail, m.registers), rest) → module_at bytes ≡ Some (m, rest)
unfolding module_at
module_steps m bytes declared wired driven rest widths s0 s1 s2 one two three four = rw (one, two, three, four) refl

pub register_texts : (number : ℕ) (rs : List Register) →
    each_numbered width_line number (map (λ (r : Register). r.width) rs) ≡ each_numbered register_line number rs
unfolding width_line register_line
register_texts number [] = refl
register_texts number (r ∷ rs) = ap (λ (t : List ℕ). width_line number r.width ++ t) (register_texts (suc number) rs)
