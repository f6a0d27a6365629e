-- The text of several lines is read as what they spell.
use Rattle.std.proofs.Common.{◌≡◌, ℕ, zero, suc, ◌≤◌, true, false, List, [], ◌∷◌, ◌++◌, length, refl, ap, sym, ◌∙◌}
use Rattle.std.proofs.Common.{arith, Some, None, append_assoc}
use Rattle.std.proofs.lemmas.Bool.Decides.{nat_tests}
use Rattle.std.specs.Prelude.{Option, codes, flat_map, ◌==◌}
use Rattle.psl_model.specs.declared.names.Signal.{Signal}
use Rattle.psl_model.specs.Names.{IsIdentifier, begins_name}
use Rattle.verilog_text.specs.Module.{Register, Wire, IsWidth}
use Rattle.verilog_text.specs.Text.{line, range_text, port_line, register_name, wire_name, wire_line, wire_declaration}
use Rattle.verilog_text.specs.Text.{always_line, each_numbered, expression_text}
use Rattle.verilog_reader.specs.inner.Pieces.{◌>>=◌, after_text}
use Rattle.verilog_reader.specs.inner.Phrases.{place_of}
use Rattle.verilog_reader.specs.inner.Table.{IsTable}
use Rattle.verilog_reader.specs.inner.Lines.{State, added, add, declared, ports_at, register_at, wire_at}
use Rattle.verilog_reader.specs.inner.Lines.{declaration_with, declarations_at, update_at, updates_at}
use Rattle.verilog_reader.proofs.Pieces.{after_text-text}
use Rattle.verilog_reader.proofs.LineSpells.{IsPhrase}
use Rattle.verilog_reader.proofs.LineReads.{declaration_reads, port_reads, wire_value_reads, update_reads}
use Rattle.verilog_reader.proofs.ListSpells.{ArePorts, AreWidths, AreUpdates, width_line, after_widths}
use Rattle.verilog_reader.proofs.WireSpells.{AreWires, after_wires, wires_text, wire_apart}

-- ports

-- a name begins with no bracket
no_bracket : (name rest : List ℕ) → IsIdentifier name → after_text (codes "[") (name ++ rest) ≡ None
unfolding after_text
no_bracket [] rest is = absurd is
no_bracket (b ∷ bs) rest is = by_letter b (apart b is.0) where
  by_letter : (c : ℕ) → (c == 91) ≡ false → after_text (codes "[") (c ∷ (bs ++ rest)) ≡ None
  by_letter c other = rw other refl

  apart : (c : ℕ) → begins_name c ≡ true → (c == 91) ≡ false
  apart c e = grind (arith, nat_tests)

abbrev pub AreIdentifiers : List Signal → Type 0
AreIdentifiers [] = Unit {0}
AreIdentifiers (port ∷ ports) = IsIdentifier port.name × AreIdentifiers ports

pub ports_reads : (ports header : List Signal) (rest : List ℕ) → ArePorts ports header → AreIdentifiers ports →
    ports_at header (flat_map port_line ports ++ rest) ≡ Some (ports, rest)
ports_reads [] [] rest are names = refl
ports_reads [] (given ∷ header) rest are names = absurd are
ports_reads (port ∷ ports) [] rest are names = absurd are
ports_reads (port ∷ ports) (given ∷ header) rest are names =
    let tail = flat_map port_line ports ++ rest in
    let apart : flat_map port_line (port ∷ ports) ++ rest ≡ port_line port ++ tail =
    append_assoc (port_line port) (flat_map port_line ports) rest in
    rw (
      apart,
      port_reads port given tail (sym are.0) are.1 (no_bracket port.name (codes ";\n" ++ tail) names.0),
      ports_reads ports header rest are.2 names.1,
    ) refl

-- registers

-- each further name is new
abbrev pub AreNew : (ℕ → List ℕ) → State → (number : ℕ) → List ℕ → Type 0
AreNew name state number [] = Unit {0}
AreNew name state number (width ∷ widths) =
    (place_of state.0 (name number) ≡ None) × AreNew name (added state (name number) width) (suc number) widths

pub add_new : (state : State) (name : List ℕ) (width : ℕ) → place_of state.0 name ≡ None →
    add state name width ≡ Some (added state name width)
unfolding add
add_new state name width new = rw new refl

register_bracket : (number : ℕ) (rest : List ℕ) → after_text (codes "[") (register_name number ++ rest) ≡ None
unfolding after_text register_name
register_bracket number rest = refl

register_reads : (state : State) (number width : ℕ) (rest : List ℕ) → IsWidth width →
    place_of state.0 (register_name number) ≡ None →
    register_at state number (range_text width ++ (register_name number ++ (codes ";\n" ++ rest)))
    ≡ Some ((width, added state (register_name number) width), rest)
unfolding register_at
register_reads state number width rest is new =
    rw (
      declaration_reads width (register_name number) (codes ";\n") rest is
          (register_bracket number (codes ";\n" ++ rest)),
      add_new state (register_name number) width new,
    ) refl

width_apart : (range name rest : List ℕ) → line (codes "  reg " ++ range ++ name ++ codes ";") ++ rest ≡ codes "  reg "
    ++ (range ++ (name ++ (codes ";\n" ++ rest)))
width_apart range name rest = simp append_assoc

pub registers_reads : (widths : List ℕ) (most : ℕ) (state : State) (number : ℕ) (rest : List ℕ) → length widths ≤ most →
    AreWidths widths → AreNew register_name state number widths →
    after_text (codes "  reg ") rest ≡ None →
    declarations_at (codes "  reg ") register_at most state number (each_numbered width_line number widths ++ rest)
    ≡ Some ((widths, after_widths state number widths), rest)
unfolding width_line
registers_reads [] zero state number rest le are new none = refl
registers_reads [] (suc most) state number rest le are new none = rw none refl
registers_reads (width ∷ widths) zero state number rest le are new none = absurd (omega arith)
registers_reads (width ∷ widths) (suc most) state number rest le are new none =
    let fewer : length widths ≤ most = omega arith in
    let tail = each_numbered width_line (suc number) widths ++ rest in
    let start = range_text width ++ (register_name number ++ (codes ";\n" ++ tail)) in
    let apart : each_numbered width_line number (width ∷ widths) ++ rest ≡ codes "  reg " ++ start =
    append_assoc (width_line number width) (each_numbered width_line (suc number) widths) rest
    ∙ width_apart (range_text width) (register_name number) tail in
    let next = added state (register_name number) width in
    let word =
    declaration_with (codes "  reg ") register_at
    (λ s r. declarations_at (codes "  reg ") register_at most s (suc number) r) state number in
    ap (declarations_at (codes "  reg ") register_at (suc most) state number) apart
    ∙ ap (λ (o : Option (List ℕ)). word o (codes "  reg " ++ start)) (after_text-text (codes "  reg ") start)
    ∙ ap (λ (o : Option ((ℕ × State) × List ℕ)). o >>= λ x. declared x.0.0
    (declarations_at (codes "  reg ") register_at most x.0.1 (suc number) x.1))
    (register_reads state number width tail are.0 new.0)
    ∙ ap (declared width) (registers_reads widths most next (suc number) rest fewer are.1 new.1 none)

-- the registers' next values

pub updates_reads : (state : State) (table : IsTable state.0 state.1) (rs : List Register) (number : ℕ)
    (widths rest : List ℕ) → AreUpdates state widths rs → AreWidths widths →
    updates_at state number widths (each_numbered (always_line state.0) number rs ++ rest) ≡ Some (rs, rest)
updates_reads state table [] number [] rest are wide = refl
updates_reads state table [] number (width ∷ widths) rest are wide = absurd are
updates_reads state table (r ∷ rs) number [] rest are wide = absurd are
updates_reads state table (r ∷ rs) number (width ∷ widths) rest are wide =
    let tail = each_numbered (always_line state.0) (suc number) rs ++ rest in
    let apart : each_numbered (always_line state.0) number (r ∷ rs) ++ rest ≡ always_line state.0 number r ++ tail =
    append_assoc (always_line state.0 number r) (each_numbered (always_line state.0) (suc number) rs) rest in
    let narrow : r.width ≤ 64 = omega (arith, are.0, wide.0.1) in
    let first : update_at state number width (always_line state.0 number r ++ tail) ≡ Some (r, tail) =
    ap (λ (w : ℕ). update_at state number w (always_line state.0 number r ++ tail)) (sym are.0)
    ∙ update_reads state table number r tail narrow are.1 are.2 in
    rw (apart, first, updates_reads state table rs (suc number) widths rest are.3 wide.1) refl

-- wires

wire_bracket : (number : ℕ) (rest : List ℕ) → after_text (codes "[") (wire_name number ++ rest) ≡ None
unfolding after_text wire_name
wire_bracket number rest = refl

wire_reads : (state : State) (table : IsTable state.0 state.1) (number : ℕ) (w : Wire) (rest : List ℕ) →
    IsWidth w.width → IsPhrase state w.value → place_of state.0 (wire_name number) ≡ None →
    wire_at state number (range_text w.width
    ++ (wire_name number ++ (codes " = " ++ (expression_text state.0 w.value ++ (codes ";\n" ++ rest)))))
    ≡ Some ((w, added state (wire_name number) w.width), rest)
unfolding wire_at
wire_reads state table number w rest width is new =
    let tail = codes " = " ++ (expression_text state.0 w.value ++ (codes ";\n" ++ rest)) in
    rw (
      wire_value_reads state table w (wire_name number) rest width is (wire_bracket number tail),
      add_new state (wire_name number) w.width new,
    ) refl

-- each further state is a table, to which the next name is new
abbrev pub AreTables : State → (number : ℕ) → List Wire → Type 0
AreTables state number [] = Unit {0}
AreTables state number (w ∷ ws) = IsTable state.0 state.1 × (place_of state.0 (wire_name number) ≡ None)
    × AreTables (added state (wire_name number) w.width) (suc number) ws

pub wires_reads : (ws : List Wire) (most : ℕ) (state : State) (number : ℕ) (rest : List ℕ) → length ws ≤ most →
    AreWires state number ws → AreTables state number ws →
    after_text (codes "  wire ") rest ≡ None →
    declarations_at (codes "  wire ") wire_at most state number (wires_text state number ws ++ rest)
    ≡ Some ((ws, after_wires state number ws), rest)
unfolding wire_line wire_declaration
wires_reads [] zero state number rest le are tables none = refl
wires_reads [] (suc most) state number rest le are tables none = rw none refl
wires_reads (w ∷ ws) zero state number rest le are tables none = absurd (omega arith)
wires_reads (w ∷ ws) (suc most) state number rest le are tables none =
    let fewer : length ws ≤ most = omega arith in
    let next = added state (wire_name number) w.width in
    let tail = wires_text next (suc number) ws ++ rest in
    let start =
    range_text w.width ++ (wire_name number
    ++ (codes " = " ++ (expression_text state.0 w.value ++ (codes ";\n" ++ tail)))) in
    let apart : wires_text state number (w ∷ ws) ++ rest ≡ codes "  wire " ++ start =
    append_assoc (wire_line state.0 number w) (wires_text next (suc number) ws) rest ∙ wire_apart (range_text w.width)
    (wire_name number) (expression_text state.0 w.value) tail in
    let word =
    declaration_with (codes "  wire ") wire_at
    (λ s r. declarations_at (codes "  wire ") wire_at most s (suc number) r) state number in
    ap (declarations_at (codes "  wire ") wire_at (suc most) state number) apart
    ∙ ap (λ (o : Option (List ℕ)). word o (codes "  wire " ++ start)) (after_text-text (codes "  wire ") start)
    ∙ ap (λ (o : Option ((Wire × State) × List ℕ)). o >>= λ x. declared x.0.0
    (declarations_at (codes "  wire ") wire_at most x.0.1 (suc number) x.1))
    (wire_reads state tables.0 number w tail are.0 are.1 tables.1)
    ∙ ap (declared w) (wires_reads ws most next (suc number) rest fewer are.2 tables.2 none)
