-- The parts of a lawful module, as the lemmas on lines want them.
use Rattle.std.proofs.Common.{◌≡◌, ℕ, zero, suc, List, [], ◌∷◌, ◌++◌, map, take, slice_get, refl, ap, sym, arith, subst}
use Rattle.std.proofs.Common.{append_assoc, append-nil}
use Rattle.std.specs.Prelude.{IfSome, All}
use Rattle.psl_model.specs.declared.names.Signal.{Signal}
use Rattle.psl_model.specs.Expr.{Expr}
use Rattle.verilog_text.specs.Module.{Module, Register, Wire, IsWidth, IsExpression, IsPort, IsRegister, IsWire}
use Rattle.verilog_text.specs.Module.{IsLawful, names_of, widths_of}
use Rattle.verilog_text.specs.Text.{wire_name}
use Rattle.verilog_reader.specs.inner.Lines.{State, added}
use Rattle.verilog_reader.proofs.LineSpells.{IsPhrase}
use Rattle.verilog_reader.proofs.ListSpells.{ArePorts, AreWidths, AreUpdates}
use Rattle.verilog_reader.proofs.WireSpells.{AreWires}
use Rattle.verilog_reader.proofs.ListReads.{AreIdentifiers}
use Rattle.verilog_reader.proofs.HeaderLines.{AreUsable, in_bits}
use Rattle.verilog_reader.proofs.ModuleSpells.{IsPortList}
use Rattle.verilog_reader.proofs.ModuleLawful.{WireOver, registers_state, base_widths, if_some_as}

-- ports

pub port_list_from : (ports : List Signal) → All IsPort ports → IsPortList ports
port_list_from [] all = tt
port_list_from (port ∷ ports) all =
    (all zero port (omega arith), port_list_from ports (λ k d lt. all (suc k) d (omega arith)))

pub ports_usable : (ports : List Signal) → IsPortList ports → AreUsable ports
ports_usable [] are = tt
ports_usable (port ∷ ports) are = (are.0.name, ports_usable ports are.1)

pub ports_identifiers : (ports : List Signal) → IsPortList ports → AreIdentifiers ports
ports_identifiers [] are = tt
ports_identifiers (port ∷ ports) are = (are.0.name.identifier, ports_identifiers ports are.1)

pub ports_of_header : (ports : List Signal) → IsPortList ports → ArePorts ports (in_bits ports)
ports_of_header [] are = tt
ports_of_header (port ∷ ports) are = (refl, are.0.width, ports_of_header ports are.1)

pub header_names : (ports : List Signal) → map (λ (p : Signal). p.name) (in_bits ports)
    ≡ map (λ (p : Signal). p.name) ports
header_names [] = refl
header_names (port ∷ ports) = ap (λ (ns : List (List ℕ)). port.name ∷ ns) (header_names ports)

-- registers

pub widths_from : (m : Module) (rs : List Register) → All (IsRegister m) rs →
    AreWidths (map (λ (r : Register). r.width) rs)
widths_from m [] all = tt
widths_from m (r ∷ rs) all =
    ((all zero r (omega arith)).width, widths_from m rs (λ k d lt. all (suc k) d (omega arith)))

phrase_from : (m : Module) (e : Expr) → IsExpression (widths_of m) e → IsPhrase (names_of m, widths_of m) e
phrase_from m e is = record { valid = is.valid; shallow = is.shallow }

pub updates_from : (m : Module) (rs : List Register) → All (IsRegister m) rs →
    AreUpdates (names_of m, widths_of m) (map (λ (r : Register). r.width) rs) rs
updates_from m [] all = tt
updates_from m (r ∷ rs) all =
    let one : IsRegister m r = all zero r (omega arith) in
    (refl, one.fits, phrase_from m r.next one.next, updates_from m rs (λ k d lt. all (suc k) d (omega arith)))

pub fail_from : (m : Module) → IsLawful m → IsPhrase (names_of m, widths_of m) m.fail
fail_from m lawful = phrase_from m m.fail lawful.fail

-- wires

wires_by_places : (ws : List Wire) (state : State) (number : ℕ) →
    ((place : ℕ) → IfSome (slice_get ws place) (WireOver (state.1 ++ take place (map (λ (v : Wire). v.width) ws)))) →
    AreWires state number ws
wires_by_places [] state number are = tt
wires_by_places (w ∷ ws) state number are =
    let here : WireOver (state.1 ++ []) w = are zero in
    let one : WireOver state.1 w = subst (λ (widths : List ℕ). WireOver widths w) (append-nil state.1) here in
    let next : State = added state (wire_name number) w.width in (
      one.0,
      record { valid = one.1.valid; shallow = one.1.shallow },
      wires_by_places ws next (suc number) (λ place.
          subst (λ (widths : List ℕ). IfSome (slice_get ws place) (WireOver widths))
          (sym (append_assoc state.1 (w.width ∷ []) (take place (map (λ (v : Wire). v.width) ws))))
          (are (suc place))),
    )

pub wires_from : (m : Module) → IsLawful m → AreWires (registers_state m) 0 m.wires
wires_from m lawful = wires_by_places m.wires (registers_state m) 0 (λ place.
    if_some_as (slice_get m.wires place) (IsWire m place)
    (WireOver ((registers_state m).1 ++ take place (map (λ (v : Wire). v.width) m.wires)))
    (λ w is. (
      is.width,
      subst (λ (base : List ℕ). IsExpression (base ++ take place (map (λ (v : Wire). v.width) m.wires)) w.value)
          (sym (base_widths m)) is.value,
    )) (lawful.wires place))

wire_widths_by_places : (ws : List Wire) → ((place : ℕ) → IfSome (slice_get ws place) (λ w. IsWidth w.width)) →
    AreWidths (map (λ (w : Wire). w.width) ws)
wire_widths_by_places [] are = tt
wire_widths_by_places (w ∷ ws) are = (are zero, wire_widths_by_places ws (λ place. are (suc place)))

pub wire_widths_from : (m : Module) → IsLawful m → AreWidths (map (λ (w : Wire). w.width) m.wires)
wire_widths_from m lawful =
    wire_widths_by_places m.wires (λ place. if_some_as (slice_get m.wires place) (IsWire m place) (λ w. IsWidth w.width)
    (λ w is. is.width) (lawful.wires place))
