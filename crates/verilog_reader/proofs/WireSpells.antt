-- What is read as wires is their text, over the names before each.
use Rattle.std.proofs.Common.{◌≡◌, ℕ, zero, suc, List, [], ◌∷◌, ◌++◌, length, refl, ap, sym, ◌∙◌, arith, subst, Some}
use Rattle.std.proofs.Common.{None, append_assoc}
use Rattle.std.proofs.lemmas.List.{length-append}
use Rattle.std.specs.Prelude.{Option, codes}
use Rattle.verilog_text.specs.Module.{Wire, IsWidth}
use Rattle.verilog_text.specs.Text.{line, range_text, wire_name, wire_line, wire_declaration, expression_text}
use Rattle.verilog_reader.specs.inner.Pieces.{after_text}
use Rattle.verilog_reader.specs.inner.Lines.{State, added, wire_at, wires_at, declaration_with, declarations_at}
use Rattle.verilog_reader.proofs.Pieces.{bind_some, some_inj, after_text-only}
use Rattle.verilog_reader.proofs.LineSpells.{IsPhrase, wire_value_at-only}
use Rattle.verilog_reader.proofs.ListSpells.{add-only}

-- the state that further wires make
abbrev pub after_wires : State → (number : ℕ) → List Wire → State
after_wires state number [] = state
after_wires state number (w ∷ ws) = after_wires (added state (wire_name number) w.width) (suc number) ws

-- each wire is over the names before it
abbrev pub AreWires : State → (number : ℕ) → List Wire → Type 0
AreWires state number [] = Unit {0}
AreWires state number (w ∷ ws) =
    IsWidth w.width × IsPhrase state w.value × AreWires (added state (wire_name number) w.width) (suc number) ws

abbrev pub wires_text : State → (number : ℕ) → List Wire → List ℕ
wires_text state number [] = []
wires_text state number (w ∷ ws) = wire_line state.0 number w ++ wires_text (added state (wire_name number) w.width)
    (suc number) ws

abbrev IsWireLines : State → ℕ → List ℕ → (List Wire × State) × List ℕ → Type 0
IsWireLines state number bytes read = AreWires state number read.0.0 × (read.0.1 ≡ after_wires state number read.0.0)
    × (bytes ≡ wires_text state number read.0.0 ++ read.1)

abbrev IsOneWire : State → ℕ → List ℕ → (Wire × State) × List ℕ → Type 0
IsOneWire state number bytes read = IsWidth read.0.0.width × IsPhrase state read.0.0.value
    × (read.0.1 ≡ added state (wire_name number) read.0.0.width)
    × (codes "  wire " ++ bytes ≡ wire_line state.0 number read.0.0 ++ read.1)

pub wire_apart : (range name text rest : List ℕ) →
    line ((codes "  wire " ++ range ++ name) ++ codes " = " ++ text ++ codes ";") ++ rest ≡ codes "  wire "
    ++ (range ++ (name ++ (codes " = " ++ (text ++ (codes ";\n" ++ rest)))))
wire_apart range name text rest = simp append_assoc

wire_at-only : (state : State) → length state.0 ≡ length state.1 →
    (number : ℕ) (bytes : List ℕ) (read : (Wire × State) × List ℕ) → wire_at state number bytes ≡ Some read →
    IsOneWire state number bytes read
unfolding wire_at wire_line wire_declaration
wire_at-only state lengths number bytes read e =
    let wire = bind_some {A = Wire × List ℕ} {B = (Wire × State) × List ℕ} _ _ _ e in
    let next = bind_some {A = State} {B = (Wire × State) × List ℕ} _ _ _ wire.2 in
    let is : ((wire.0.0, next.0), wire.0.1) ≡ read = some_inj _ _ next.2 in
    let name = wire_name number in
    let one = wire_value_at-only state lengths name bytes wire.0 wire.1 in
    let apart = wire_apart (range_text wire.0.0.width) name (expression_text state.0 wire.0.0.value) wire.0.1 in
    subst (λ (r : (Wire × State) × List ℕ). IsOneWire state number bytes r) is
    (one.0, one.1, add-only state name wire.0.0.width next.0 next.1, ap (λ t. codes "  wire " ++ t) one.2 ∙ sym apart)

same_lengths : (state : State) (name : List ℕ) (width : ℕ) → length state.0 ≡ length state.1 →
    length (added state name width).0 ≡ length (added state name width).1
same_lengths state name width e = simp length-append (omega arith)

wires-only : (most : ℕ) (state : State) → length state.0 ≡ length state.1 →
    (number : ℕ) (bytes : List ℕ) (read : (List Wire × State) × List ℕ) →
    declarations_at (codes "  wire ") wire_at most state number bytes ≡ Some read → IsWireLines state number bytes read
wires-only zero state lengths number bytes read e =
    subst (λ (r : (List Wire × State) × List ℕ). IsWireLines state number bytes r)
    (some_inj (([], state), bytes) read e) (tt, refl, refl)
wires-only (suc most) state lengths number bytes read e =
    by_word (after_text (codes "  wire ") bytes) refl e (λ next same rest. wires-only most next same (suc number) rest)
  where
    by_word : (o : Option (List ℕ)) → after_text (codes "  wire ") bytes ≡ o →
        declaration_with (codes "  wire ") wire_at
        (λ next rest. declarations_at (codes "  wire ") wire_at most next (suc number) rest) state number o bytes
        ≡ Some read →
        ((next : State) → length next.0 ≡ length next.1 → (rest : List ℕ) (r : (List Wire × State) × List ℕ) →
        declarations_at (codes "  wire ") wire_at most next (suc number) rest ≡ Some r →
        IsWireLines next (suc number) rest r) →
        IsWireLines state number bytes read
    by_word None none e later =
        subst (λ (r : (List Wire × State) × List ℕ). IsWireLines state number bytes r)
        (some_inj (([], state), bytes) read e) (tt, refl, refl)
    by_word (Some start) some e later =
        let first = bind_some {A = (Wire × State) × List ℕ} {B = (List Wire × State) × List ℕ} _ _ _ e in
        let rest = bind_some {A = (List Wire × State) × List ℕ} {B = (List Wire × State) × List ℕ} _ _ _ first.2 in
        let is : ((first.0.0.0 ∷ rest.0.0.0, rest.0.0.1), rest.0.1) ≡ read = some_inj _ _ rest.2 in
        let w : Wire = first.0.0.0 in
        let one = wire_at-only state lengths number start first.0 first.1 in
        let here : State = added state (wire_name number) w.width in
        let reads_on : declarations_at (codes "  wire ") wire_at most here (suc number) first.0.1 ≡ Some rest.0 =
        ap (λ (s : State). declarations_at (codes "  wire ") wire_at most s (suc number) first.0.1) (sym one.2)
        ∙ rest.1 in
        let more = later here (same_lengths state (wire_name number) w.width lengths) first.0.1 rest.0 reads_on in
        let text : bytes ≡ wire_line state.0 number w ++ (wires_text here (suc number) rest.0.0.0 ++ rest.0.1) =
        after_text-only (codes "  wire ") bytes start some ∙ one.3
        ∙ ap (λ t. wire_line state.0 number w ++ t) more.2 in
        subst (λ (r : (List Wire × State) × List ℕ). IsWireLines state number bytes r) is (
          (one.0, one.1, more.0),
          more.1,
          text ∙ sym (append_assoc (wire_line state.0 number w) (wires_text here (suc number) rest.0.0.0) rest.0.1),
        )

pub wires_at-only : (most : ℕ) (state : State) → length state.0 ≡ length state.1 →
    (bytes : List ℕ) (read : (List Wire × State) × List ℕ) → wires_at most state 0 bytes ≡ Some read →
    IsWireLines state 0 bytes read
unfolding wires_at
wires_at-only most state lengths bytes read e = wires-only most state lengths 0 bytes read e
