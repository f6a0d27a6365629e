-- An expression over the names at a table's front has the same text over the whole table.
use Rattle.std.proofs.Common.{◌≡◌, ℕ, zero, suc, ◌<◌, List, [], ◌∷◌, ◌++◌, length, refl, ap, sym, ◌∙◌, arith}
use Rattle.std.proofs.Common.{append_assoc}
use Rattle.std.proofs.lemmas.List.{length-append}
use Rattle.std.specs.Prelude.{codes, decimal}
use Rattle.psl_model.specs.Expr.{Expr, whole, bit, part, plain, sized, unary, binary, choice}
use Rattle.psl_model.specs.Valid.{IsValid}
use Rattle.verilog_text.specs.Module.{Wire}
use Rattle.verilog_text.specs.Text.{name_at, unary_symbol, infix_text, expression_text, wire_name, wire_line}
use Rattle.verilog_text.specs.Text.{each_numbered}
use Rattle.verilog_reader.specs.inner.Lines.{State, added}
use Rattle.verilog_reader.proofs.WireSpells.{AreWires, wires_text}

front_name : (names later : List (List ℕ)) (place : ℕ) → place < length names → name_at (names ++ later) place
    ≡ name_at names place
front_name [] later place lt = absurd (omega arith)
front_name (n ∷ names) later zero lt = refl
front_name (n ∷ names) later (suc place) lt = let below : place < length names =
    omega arith in front_name names later place below

pub same_text : (names later : List (List ℕ)) (widths : List ℕ) → length names ≡ length widths → (e : Expr) →
    IsValid widths e → expression_text (names ++ later) e ≡ expression_text names e
same_text names later widths even (whole s) valid = front_name names later s (omega (arith, valid))
same_text names later widths even (bit s n) valid =
    ap (λ (t : List ℕ). t ++ codes "[" ++ decimal n ++ codes "]") (front_name names later s (omega (arith, valid.0)))
same_text names later widths even (part s h l) valid =
    ap (λ (t : List ℕ). t ++ codes "[" ++ decimal h ++ codes ":" ++ decimal l ++ codes "]")
    (front_name names later s (omega (arith, valid.0)))
same_text names later widths even (plain n) valid = refl
same_text names later widths even (sized w v) valid = refl
same_text names later widths even (unary op a) valid =
    ap (λ (t : List ℕ). codes "(" ++ unary_symbol op ++ t ++ codes ")") (same_text names later widths even a valid)
same_text names later widths even (binary op a b) valid =
    ap (λ (t : List ℕ). codes "(" ++ t ++ infix_text op ++ expression_text (names ++ later) b ++ codes ")")
    (same_text names later widths even a valid.1)
    ∙ ap (λ (t : List ℕ). codes "(" ++ expression_text names a ++ infix_text op ++ t ++ codes ")")
    (same_text names later widths even b valid.2)
same_text names later widths even (choice t y n) valid =
    ap (λ (x : List ℕ). codes "(" ++ x ++ codes " ? " ++ expression_text (names ++ later) y ++ codes " : "
    ++ expression_text (names ++ later) n ++ codes ")") (same_text names later widths even t valid.0)
    ∙ ap (λ (x : List ℕ). codes "(" ++ expression_text names t ++ codes " ? " ++ x ++ codes " : "
    ++ expression_text (names ++ later) n ++ codes ")") (same_text names later widths even y valid.1)
    ∙ ap (λ (x : List ℕ). codes "(" ++ expression_text names t ++ codes " ? " ++ expression_text names y ++ codes " : "
    ++ x ++ codes ")") (same_text names later widths even n valid.2)

same_line : (names later : List (List ℕ)) (widths : List ℕ) → length names ≡ length widths → (number : ℕ) (w : Wire) →
    IsValid widths w.value → wire_line (names ++ later) number w ≡ wire_line names number w
unfolding wire_line
same_line names later widths even number w valid = rw (same_text names later widths even w.value valid) refl

pub longer : (state : State) (name : List ℕ) (width : ℕ) → length state.0 ≡ length state.1 →
    length (added state name width).0 ≡ length (added state name width).1
longer state name width e = simp length-append (omega arith)

-- the names of wires from a number on
abbrev pub numbered_wires : (number : ℕ) → List Wire → List (List ℕ)
numbered_wires number [] = []
numbered_wires number (w ∷ ws) = wire_name number ∷ numbered_wires (suc number) ws

-- the wires' text over the whole table
pub wires_text_is : (ws : List Wire) (state : State) → length state.0 ≡ length state.1 →
    (number : ℕ) (names later : List (List ℕ)) → AreWires state number ws → names ≡ state.0 ++ later →
    later ≡ numbered_wires number ws → wires_text state number ws ≡ each_numbered (wire_line names) number ws
wires_text_is [] state even number names later are all rest = refl
wires_text_is (w ∷ ws) state even number names later are all rest =
    let next = added state (wire_name number) w.width in
    let split : names ≡ next.0 ++ numbered_wires (suc number) ws = all ∙ ap (λ (l : List (List ℕ)). state.0 ++ l) rest
    ∙ sym (append_assoc state.0 (wire_name number ∷ []) (numbered_wires (suc number) ws)) in
    let line_is : wire_line names number w ≡ wire_line state.0 number w =
    ap (λ (ns : List (List ℕ)). wire_line ns number w) all
    ∙ same_line state.0 later state.1 even number w are.1.valid in
    ap (λ (t : List ℕ). t ++ wires_text next (suc number) ws) (sym line_is)
    ∙ ap (λ (t : List ℕ). wire_line names number w ++ t)
    (wires_text_is ws next (longer state (wire_name number) w.width even) (suc number) names
    (numbered_wires (suc number) ws) are.2 split refl)
