-- The names that a module's lines make known, and that they differ.
use Rattle.std.proofs.Common.{◌≡◌, ℕ, suc, false, List, [], ◌∷◌, ◌++◌, map, refl, ap, sym, ◌∙◌, Some, None}
use Rattle.std.proofs.Common.{append_assoc, append-nil}
use Rattle.std.specs.Prelude.{Option, decimal, is_some}
use Rattle.psl_model.specs.declared.names.Signal.{Signal}
use Rattle.verilog_text.specs.Module.{Wire, numbered_names, register_stem, wire_stem}
use Rattle.verilog_text.specs.Text.{register_name, wire_name}
use Rattle.verilog_reader.specs.inner.Phrases.{place_of}
use Rattle.verilog_reader.specs.inner.Lines.{State, added, add, add_ports}
use Rattle.verilog_reader.proofs.Pieces.{bind_some, some_inj, if_none_some}
use Rattle.verilog_reader.proofs.ListSpells.{after_widths}
use Rattle.verilog_reader.proofs.WireSpells.{after_wires}

-- with further names and widths
abbrev pub extended : State → List (List ℕ) → List ℕ → State
extended state names widths = (state.0 ++ names, state.1 ++ widths)

pair_is : {A B : Type 0} (a a' : A) (b b' : B) → a ≡ a' → b ≡ b' → ◌≡◌ {A = A × B} (a, b) (a', b')
pair_is a a' b b' p q = λ i. (p i, q i)

pub extended_more : (state : State) (name : List ℕ) (width : ℕ) (names : List (List ℕ)) (widths : List ℕ) →
    extended (added state name width) names widths ≡ extended state (name ∷ names) (width ∷ widths)
extended_more state name width names widths =
    pair_is _ _ _ _ (append_assoc state.0 (name ∷ []) names) (append_assoc state.1 (width ∷ []) widths)

pub extended_none : (state : State) → state ≡ extended state [] []
extended_none state = pair_is _ _ _ _ (sym (append-nil state.0)) (sym (append-nil state.1))

-- ports

is_none : {X : Type 0} (o : Option X) → is_some o ≡ false → o ≡ None
is_none None e = refl
is_none (Some x) e = cc

-- what a further port does
pub added_first : (port : Signal) (ports : List Signal) (state next : State) → add_ports state (port ∷ ports)
    ≡ Some next →
    (place_of state.0 port.name ≡ None) × (add_ports (added state port.name port.width) ports ≡ Some next)
unfolding add
added_first port ports state next made =
    let first = bind_some {A = State} {B = State} (add state port.name port.width) (λ s. add_ports s ports) next made in
    let tested =
    if_none_some (is_some (place_of state.0 port.name)) (added state port.name port.width) first.0 first.1 in
    (is_none (place_of state.0 port.name) tested.0, ap (λ (s : State). add_ports s ports) tested.1 ∙ first.2)

pub add_ports-only : (ports : List Signal) (state next : State) → add_ports state ports ≡ Some next →
    next ≡ extended state (map (λ (p : Signal). p.name) ports) (map (λ (p : Signal). p.width) ports)
add_ports-only [] state next e = sym (some_inj state next e) ∙ extended_none state
add_ports-only (port ∷ ports) state next e =
    add_ports-only ports (added state port.name port.width) next (added_first port ports state next e).1
    ∙ extended_more state port.name port.width (map (λ (p : Signal). p.name) ports)
    (map (λ (p : Signal). p.width) ports)

-- registers

pub after_widths_is : (widths : List ℕ) (state : State) (number : ℕ) → after_widths state number widths
    ≡ extended state (numbered_names register_stem number widths) widths
unfolding register_name
after_widths_is [] state number = extended_none state
after_widths_is (width ∷ widths) state number =
    after_widths_is widths (added state (register_name number) width) (suc number)
    ∙ extended_more state (register_name number) width (numbered_names register_stem (suc number) widths) widths

-- wires

pub after_wires_is : (ws : List Wire) (state : State) (number : ℕ) → after_wires state number ws
    ≡ extended state (numbered_names wire_stem number ws) (map (λ (w : Wire). w.width) ws)
unfolding wire_name
after_wires_is [] state number = extended_none state
after_wires_is (w ∷ ws) state number =
    after_wires_is ws (added state (wire_name number) w.width) (suc number)
    ∙ extended_more state (wire_name number) w.width (numbered_names wire_stem (suc number) ws)
    (map (λ (v : Wire). v.width) ws)

-- as many names for a list that is as long
pub same_names : {X Y : Type 0} (f : X → Y) (stem : List ℕ) (number : ℕ) (xs : List X) →
    numbered_names stem number (map f xs) ≡ numbered_names stem number xs
same_names f stem number [] = refl
same_names f stem number (x ∷ xs) =
    ap (λ (ns : List (List ℕ)). (stem ++ decimal number) ∷ ns) (same_names f stem (suc number) xs)
