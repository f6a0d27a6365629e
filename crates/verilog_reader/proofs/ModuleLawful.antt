-- A module that was read is lawful, and the bytes are its text.
use Rattle.std.proofs.Common.{◌≡◌, ℕ, zero, suc, ◌+◌, ◌<◌, ◌≤◌, List, [], ◌∷◌, ◌++◌, length, map, take, slice_get, refl}
use Rattle.std.proofs.Common.{ap, sym, ◌∙◌, arith, subst, Some, None, append_assoc, append-nil}
use Rattle.std.proofs.lemmas.List.{length-append, length-map}
use Rattle.std.specs.Prelude.{Option, IfSome, All, slice_index, decimal}
use Rattle.psl_model.specs.declared.names.Signal.{Signal}
use Rattle.psl_model.specs.Expr.{Expr}
use Rattle.psl_model.specs.Limits.{vector_limit}
use Rattle.verilog_text.specs.Module.{Module, Register, Wire, IsWidth, IsExpression, IsPort, IsRegister, IsLawful}
use Rattle.verilog_text.specs.Module.{names_of, state_widths, widths_of, numbered_names, register_stem, wire_stem}
use Rattle.verilog_text.specs.Text.{wire_name, register_line, wire_line, fail_line, always_line, end_line}
use Rattle.verilog_text.specs.Text.{each_numbered, header_line, interface_lines, declaration_lines, behaviour_lines}
use Rattle.verilog_text.specs.Text.{spelling}
use Rattle.verilog_reader.specs.inner.Lines.{State, added, first_state, module_at}
use Rattle.verilog_reader.proofs.Pieces.{bind_some, some_inj}
use Rattle.verilog_reader.proofs.LineSpells.{IsPhrase}
use Rattle.verilog_reader.proofs.ListSpells.{width_line, AreWidths, registers_at-only, AreUpdates}
use Rattle.verilog_reader.proofs.WireSpells.{AreWires, wires_text, wires_at-only}
use Rattle.verilog_reader.proofs.States.{extended, after_widths_is, after_wires_is}
use Rattle.verilog_reader.proofs.Narrow.{narrow}
use Rattle.verilog_reader.proofs.LongerTables.{numbered_wires, wires_text_is}
use Rattle.verilog_reader.proofs.ModuleSpells.{Interface, Behaviour, IsPortList, interface_text, IsInterface}
use Rattle.verilog_reader.proofs.ModuleSpells.{interface_at-only, IsBehaviour, behaviour_at-only}

-- widths

pub bounded : (widths : List ℕ) → AreWidths widths → (place : ℕ) → slice_index widths place ≤ vector_limit
bounded [] are zero = omega arith
bounded [] are (suc place) = omega arith
bounded (w ∷ ws) are zero = are.0.1
bounded (w ∷ ws) are (suc place) = bounded ws are.1 place

pub both_lists : (xs ys : List ℕ) → AreWidths xs → AreWidths ys → AreWidths (xs ++ ys)
both_lists [] ys one two = two
both_lists (x ∷ xs) ys one two = (one.0, both_lists xs ys one.1 two)

port_widths : (ports : List Signal) → IsPortList ports → AreWidths (map (λ (p : Signal). p.width) ports)
port_widths [] are = tt
port_widths (port ∷ ports) are = (are.0.width, port_widths ports are.1)

phrase : (state : State) → AreWidths state.1 → (e : Expr) → IsPhrase state e → IsExpression state.1 e
phrase state are e is = record {
  valid = is.valid;
  narrow = narrow state.1 (bounded state.1 are) e is.valid;
  shallow =
      is.shallow;
}

-- items, by their places

all_ports : (ports : List Signal) → IsPortList ports → All IsPort ports
all_ports [] are k d lt = absurd (omega arith)
all_ports (port ∷ ports) are zero d lt = are.0
all_ports (port ∷ ports) are (suc k) d lt = let below : k < length ports =
    omega arith in all_ports ports are.1 k d below

all_registers : (m : Module) (state : State) → ((e : Expr) → IsPhrase state e → IsExpression (widths_of m) e) →
    (widths : List ℕ) (rs : List Register) → AreUpdates state widths rs → AreWidths widths → All (IsRegister m) rs
all_registers m state holds [] [] are wide k d lt = absurd (omega arith)
all_registers m state holds [] (r ∷ rs) are wide k d lt = absurd are
all_registers m state holds (w ∷ ws) [] are wide k d lt = absurd are
all_registers m state holds (w ∷ ws) (r ∷ rs) are wide zero d lt =
    record { width = subst IsWidth (sym are.0) wide.0; fits = are.1; next = holds r.next are.2 }
all_registers m state holds (w ∷ ws) (r ∷ rs) are wide (suc k) d lt = let below : k < length rs =
    omega arith in all_registers m state holds ws rs are.3 wide.1 k d below

register_widths : (state : State) (widths : List ℕ) (rs : List Register) → AreUpdates state widths rs →
    widths ≡ map (λ (r : Register). r.width) rs
register_widths state [] [] are = refl
register_widths state [] (r ∷ rs) are = absurd are
register_widths state (w ∷ ws) [] are = absurd are
register_widths state (w ∷ ws) (r ∷ rs) are =
    ap (λ (n : ℕ). n ∷ ws) (sym are.0) ∙ ap (λ (ns : List ℕ). r.width ∷ ns) (register_widths state ws rs are.3)

register_names_are : (state : State) (stem : List ℕ) (number : ℕ) (widths : List ℕ) (rs : List Register) →
    AreUpdates state widths rs → numbered_names stem number widths ≡ numbered_names stem number rs
register_names_are state stem number [] [] are = refl
register_names_are state stem number [] (r ∷ rs) are = absurd are
register_names_are state stem number (w ∷ ws) [] are = absurd are
register_names_are state stem number (w ∷ ws) (r ∷ rs) are =
    ap (λ (ns : List (List ℕ)). (stem ++ decimal number) ∷ ns) (register_names_are state stem (suc number) ws rs are.3)

register_lines_are : (state : State) (number : ℕ) (widths : List ℕ) (rs : List Register) → AreUpdates state widths rs →
    each_numbered width_line number widths ≡ each_numbered register_line number rs
unfolding width_line register_line
register_lines_are state number [] [] are = refl
register_lines_are state number [] (r ∷ rs) are = absurd are
register_lines_are state number (w ∷ ws) [] are = absurd are
register_lines_are state number (w ∷ ws) (r ∷ rs) are =
    ap (λ (n : ℕ). width_line number n ++ each_numbered width_line (suc number) ws) (sym are.0)
    ∙ ap (λ (t : List ℕ). width_line number r.width ++ t) (register_lines_are state (suc number) ws rs are.3)

-- wires

abbrev pub WireOver : List ℕ → Wire → Type 0
WireOver widths w = IsWidth w.width × IsExpression widths w.value

wire_list : (ws : List Wire) (state : State) (number : ℕ) → AreWidths state.1 → AreWires state number ws → (place : ℕ) →
    IfSome (slice_get ws place) (WireOver (state.1 ++ take place (map (λ (v : Wire). v.width) ws)))
wire_list [] state number wide are zero = tt
wire_list [] state number wide are (suc place) = tt
wire_list (w ∷ ws) state number wide are zero =
    subst (λ (widths : List ℕ). WireOver widths w) (sym (append-nil state.1)) (are.0, phrase state wide w.value are.1)
wire_list (w ∷ ws) state number wide are (suc place) =
    let next = added state (wire_name number) w.width in
    let later = wire_list ws next (suc number) (both_lists state.1 (w.width ∷ []) wide (are.0, tt)) are.2 place in
    subst (λ (widths : List ℕ). IfSome (slice_get ws place) (WireOver widths))
    (append_assoc state.1 (w.width ∷ []) (take place (map (λ (v : Wire). v.width) ws))) later

wire_widths : (ws : List Wire) (state : State) (number : ℕ) → AreWires state number ws →
    AreWidths (map (λ (v : Wire). v.width) ws)
wire_widths [] state number are = tt
wire_widths (w ∷ ws) state number are =
    (are.0, wire_widths ws (added state (wire_name number) w.width) (suc number) are.2)

pub wire_names_are : (number : ℕ) (ws : List Wire) → numbered_names wire_stem number ws ≡ numbered_wires number ws
unfolding wire_name
wire_names_are number [] = refl
wire_names_are number (w ∷ ws) =
    ap (λ (ns : List (List ℕ)). (wire_stem ++ decimal number) ∷ ns) (wire_names_are (suc number) ws)

pub if_some_as : {X : Type 0} (o : Option X) (P Q : X → Type 0) → ((x : X) → P x → Q x) → IfSome o P → IfSome o Q
if_some_as None P Q f h = tt
if_some_as (Some x) P Q f h = f x h

pair_is : {A B : Type 0} (a a' : A) (b b' : B) → a ≡ a' → b ≡ b' → ◌≡◌ {A = A × B} (a, b) (a', b')
pair_is a a' b b' p q = λ i. (p i, q i)

-- the states that a module's lines make

unfoldable pub ports_state : Module → State
ports_state m = extended first_state (map (λ (p : Signal). p.name) m.ports) (map (λ (p : Signal). p.width) m.ports)

unfoldable pub registers_state : Module → State
registers_state m =
    extended (ports_state m) (numbered_names register_stem 0 m.registers) (map (λ (r : Register). r.width) m.registers)

unfoldable pub whole_state : Module → State
whole_state m = extended (registers_state m) (numbered_names wire_stem 0 m.wires) (map (λ (w : Wire). w.width) m.wires)

pub whole_names : (m : Module) → (whole_state m).0 ≡ names_of m
unfolding names_of whole_state registers_state ports_state
whole_names m = refl

pub whole_widths : (m : Module) → (whole_state m).1 ≡ widths_of m
unfolding whole_state registers_state ports_state
whole_widths m = refl

pub base_widths : (m : Module) → (registers_state m).1 ≡ state_widths m
unfolding registers_state ports_state
base_widths m = refl

-- the whole

abbrev Read : Type 0
Read = Module × List ℕ

-- a module that was read is lawful, and the bytes are its text and the rest
pub record IsModule (bytes : List ℕ) (read : Module × List ℕ) : Type 0 where
  pub lawful : IsLawful read.0
  pub text : bytes ≡ spelling read.0 ++ read.1

pub first_wide : (m : Module) → IsPortList m.ports → AreWidths (ports_state m).1
unfolding ports_state
first_wide m are = ((omega arith, omega arith), ((omega arith, omega arith), port_widths m.ports are))

pub named_lengths : {X : Type 0} (stem : List ℕ) (number : ℕ) (xs : List X) → length (numbered_names stem number xs)
    ≡ length xs
named_lengths stem number [] = refl
named_lengths stem number (x ∷ xs) = ap suc (named_lengths stem (suc number) xs)

pub even_extended : (state : State) (names : List (List ℕ)) (widths : List ℕ) → length state.0 ≡ length state.1 →
    length names ≡ length widths → length (extended state names widths).0 ≡ length (extended state names widths).1
even_extended state names widths e f =
    let one : length (state.0 ++ names) ≡ length state.0 + length names = length-append state.0 names in
    let two : length (state.1 ++ widths) ≡ length state.1 + length widths = length-append state.1 widths in
    omega arith

even_ports : (ports : List Signal) →
    length (extended first_state (map (λ (p : Signal). p.name) ports) (map (λ (p : Signal). p.width) ports)).0
    ≡ length (extended first_state (map (λ (p : Signal). p.name) ports) (map (λ (p : Signal). p.width) ports)).1
even_ports ports = even_extended first_state (map (λ (p : Signal). p.name) ports) (map (λ (p : Signal). p.width) ports)
    refl (length-map ports (λ (p : Signal). p.name) ∙ sym (length-map ports (λ (p : Signal). p.width)))

pub even_lengths : (m : Module) → length (registers_state m).0 ≡ length (registers_state m).1
unfolding registers_state ports_state
even_lengths m = even_extended (ports_state m) (numbered_names register_stem 0 m.registers)
    (map (λ (r : Register). r.width) m.registers) (even_ports m.ports)
    (named_lengths register_stem 0 m.registers ∙ sym (length-map m.registers (λ (r : Register). r.width)))

pub parts_apart : (interface registers wires behaviour rest : List ℕ) → (interface ++ (registers ++ wires) ++ behaviour)
    ++ rest ≡ interface ++ (registers ++ (wires ++ (behaviour ++ rest)))
parts_apart interface registers wires behaviour rest = simp append_assoc

-- from the parts to the module, with the states as they are
assembled : (m : Module) (s : State) (widths bytes lines rest_lines after rest : List ℕ) →
    IsInterface bytes ((m.name, m.report, m.ports, s), lines) →
    widths ≡ map (λ (r : Register). r.width) m.registers → AreWidths widths → lines ≡ each_numbered width_line 0 widths
    ++ rest_lines →
    AreWires (registers_state m) 0 m.wires → rest_lines ≡ wires_text (registers_state m) 0 m.wires ++ after →
    IsBehaviour (names_of m, widths_of m) widths after ((m.fail, m.registers), rest) → IsModule bytes (m, rest)
unfolding registers_state whole_state interface_text interface_lines header_line declaration_lines behaviour_lines
assembled m s widths bytes lines rest_lines after rest interface same wide registers wires wire_lines behaviour =
    let base : AreWidths (ports_state m).1 = first_wide m interface.ports in
    let register_wide : AreWidths (map (λ (r : Register). r.width) m.registers) = subst AreWidths same wide in
    let state_wide : AreWidths (registers_state m).1 =
    both_lists (ports_state m).1 (map (λ (r : Register). r.width) m.registers) base register_wide in
    let wire_wide : AreWidths (map (λ (w : Wire). w.width) m.wires) = wire_widths m.wires (registers_state m) 0 wires in
    let all_wide : AreWidths (widths_of m) =
    subst AreWidths (whole_widths m)
    (both_lists (registers_state m).1 (map (λ (w : Wire). w.width) m.wires) state_wide wire_wide) in
    let state : State = (names_of m, widths_of m) in
    let holds : (e : Expr) → IsPhrase state e → IsExpression (widths_of m) e = phrase state all_wide in
    let register_text : each_numbered width_line 0 widths ≡ each_numbered register_line 0 m.registers =
    register_lines_are state 0 widths m.registers behaviour.updates in
    let even : length (registers_state m).0 ≡ length (registers_state m).1 = even_lengths m in
    let split : names_of m ≡ (registers_state m).0 ++ numbered_wires 0 m.wires =
    sym (whole_names m) ∙ ap (λ (ns : List (List ℕ)). (registers_state m).0 ++ ns) (wire_names_are 0 m.wires) in
    let wire_text : wires_text (registers_state m) 0 m.wires ≡ each_numbered (wire_line (names_of m)) 0 m.wires =
    wires_text_is m.wires (registers_state m) even 0 (names_of m) (numbered_wires 0 m.wires) wires split refl in
    let tail : lines ≡ each_numbered register_line 0 m.registers
    ++ (each_numbered (wire_line (names_of m)) 0 m.wires
    ++ ((fail_line (names_of m) m.fail ++ each_numbered (always_line (names_of m)) 0 m.registers ++ end_line)
    ++ rest)) =
    registers ∙ ap (λ (t : List ℕ). t ++ rest_lines) register_text
    ∙ ap (λ (t : List ℕ). each_numbered register_line 0 m.registers ++ t)
    (wire_lines ∙ ap (λ (t : List ℕ). t ++ after) wire_text
    ∙ ap (λ (t : List ℕ). each_numbered (wire_line (names_of m)) 0 m.wires ++ t) behaviour.text) in
    record {
      lawful = record {
        identifier = interface.identifier;
        prefix = interface.prefix;
        report = interface.report;
        ports = all_ports m.ports interface.ports;
        distinct = interface.distinct;
        registers = all_registers m state holds widths m.registers behaviour.updates wide;
        wires =
            λ place. if_some_as (slice_get m.wires place) _ _
            (λ w is. record {
              width = is.0;
              value =
                  subst (λ (base : List ℕ).
                  IsExpression (base ++ take place (map (λ (v : Wire). v.width) m.wires)) w.value)
                  (base_widths m) is.1;
            })
            (wire_list m.wires (registers_state m) 0 state_wide wires place);
        fail = holds m.fail behaviour.fail;
      };
      text = interface.text ∙ ap (λ (t : List ℕ). interface_text m.name m.report m.ports ++ t) tail
          ∙ sym (parts_apart (interface_text m.name m.report m.ports) (each_numbered register_line 0 m.registers)
          (each_numbered (wire_line (names_of m)) 0 m.wires)
          (fail_line (names_of m) m.fail ++ each_numbered (always_line (names_of m)) 0 m.registers ++ end_line) rest);
    }

registers_state_is : (m : Module) (s0 : State) (widths : List ℕ) (s : State) →
    s0 ≡ extended first_state (map (λ (p : Signal). p.name) m.ports) (map (λ (p : Signal). p.width) m.ports) →
    widths ≡ map (λ (r : Register). r.width) m.registers → AreUpdates s widths m.registers →
    extended s0 (numbered_names register_stem 0 widths) widths ≡ registers_state m
unfolding registers_state ports_state
registers_state_is m s0 widths s first same are =
    ap (λ (x : State). extended x (numbered_names register_stem 0 widths) widths) first
    ∙ ap (λ (ns : List (List ℕ)). extended (ports_state m) ns widths)
    (register_names_are s register_stem 0 widths m.registers are)
    ∙ ap (λ (ns : List ℕ). extended (ports_state m) (numbered_names register_stem 0 m.registers) ns) same

pub whole_state_is : (m : Module) → extended (registers_state m) (numbered_names wire_stem 0 m.wires)
    (map (λ (w : Wire). w.width) m.wires) ≡ (names_of m, widths_of m)
unfolding names_of registers_state ports_state
whole_state_is m = refl

pub module_at-only : (bytes : List ℕ) (read : Module × List ℕ) → module_at bytes ≡ Some read → IsModule bytes read
unfolding module_at
module_at-only bytes read e =
    let i = bind_some {A = Interface} {B = Read} _ _ _ e in
    let r = bind_some {A = (List ℕ × State) × List ℕ} {B = Read} _ _ _ i.2 in
    let w = bind_some {A = (List Wire × State) × List ℕ} {B = Read} _ _ _ r.2 in
    let b = bind_some {A = Behaviour} {B = Read} _ _ _ w.2 in
    let m : Module = record {
      name = i.0.0.0;
      report = i.0.0.1;
      ports = i.0.0.2;
      registers = b.0.0.1;
      wires =
          w.0.0.0;
      fail = b.0.0.0;
    } in
    let is : (m, b.0.1) ≡ read = some_inj _ _ b.2 in
    let interface = interface_at-only bytes i.0 i.1 in
    let s0 : State = i.0.0.3 in
    let s1 : State = r.0.0.1 in
    let s2 : State = w.0.0.1 in
    let widths : List ℕ = r.0.0.0 in
    let ws : List Wire = w.0.0.0 in
    let registers = registers_at-only (length i.0.1) s0 i.0.1 r.0 r.1 in
    let s1_made : s1 ≡ extended s0 (numbered_names register_stem 0 widths) widths =
    registers.1 ∙ after_widths_is widths s0 0 in
    let e0 : length s0.0 ≡ length s0.1 =
    subst (λ (s : State). length s.0 ≡ length s.1) (sym interface.state) (even_ports i.0.0.2) in
    let e1 : length s1.0 ≡ length s1.1 =
    subst (λ (s : State). length s.0 ≡ length s.1) (sym s1_made)
    (even_extended s0 (numbered_names register_stem 0 widths) widths e0 (named_lengths register_stem 0 widths)) in
    let wires = wires_at-only (length r.0.1) s1 e1 r.0.1 w.0 w.1 in
    let s2_made : s2 ≡ extended s1 (numbered_names wire_stem 0 ws) (map (λ (v : Wire). v.width) ws) =
    wires.1 ∙ after_wires_is ws s1 0 in
    let e2 : length s2.0 ≡ length s2.1 = subst (λ (s : State). length s.0 ≡ length s.1) (sym s2_made)
    (even_extended s1 (numbered_names wire_stem 0 ws) (map (λ (v : Wire). v.width) ws) e1
    (named_lengths wire_stem 0 ws ∙ sym (length-map ws (λ (v : Wire). v.width)))) in
    let behaviour = behaviour_at-only s2 e2 widths w.0.1 b.0 b.1 in
    let same : widths ≡ map (λ (x : Register). x.width) m.registers =
    register_widths s2 widths m.registers behaviour.updates in
    let s1_is : s1 ≡ registers_state m =
    s1_made ∙ registers_state_is m s0 widths s2 interface.state same behaviour.updates in
    let s2_is : s2 ≡ (names_of m, widths_of m) =
    s2_made ∙ ap (λ (s : State). extended s (numbered_names wire_stem 0 ws) (map (λ (v : Wire). v.width) ws)) s1_is
    ∙ whole_state_is m in
    let made : IsModule bytes (m, b.0.1) =
    assembled m s0 widths bytes i.0.1 r.0.1 w.0.1 b.0.1 interface same registers.0 registers.2
    (subst (λ (s : State). AreWires s 0 ws) s1_is wires.0)
    (wires.2 ∙ ap (λ (s : State). wires_text s 0 ws ++ w.0.1) s1_is)
    (subst (λ (s : State). IsBehaviour s widths w.0.1 b.0) s2_is behaviour) in
    subst (λ (x : Read). IsModule bytes x) is made
