-- The text of a line is read as what it spells.
use Rattle.std.proofs.Common.{◌≡◌, ℕ, zero, suc, ◌+◌, ◌<◌, ◌≤◌, ◌^◌, true, List, ◌++◌, refl, ap, sym, ◌∙◌, arith, Some}
use Rattle.std.proofs.Common.{None, append_assoc}
use Rattle.std.proofs.Math.Pow.{pow_mono}
use Rattle.std.proofs.lemmas.Bool.Decides.{nat_tests}
use Rattle.std.specs.Prelude.{nat_lt, nat_le, Option, codes, decimal}
use Rattle.psl_model.specs.declared.names.Signal.{Signal}
use Rattle.psl_model.specs.Expr.{Expr}
use Rattle.psl_model.specs.Limits.{parentheses_limit}
use Rattle.verilog_text.specs.Module.{Register, Wire, IsWidth}
use Rattle.verilog_text.specs.Text.{line, range_text, port_line, register_name, sized_text, expression_text, fail_line}
use Rattle.verilog_text.specs.Text.{update_text, always_line}
use Rattle.verilog_reader.specs.inner.Pieces.{after_text}
use Rattle.verilog_reader.specs.inner.Table.{IsTable}
use Rattle.verilog_reader.specs.inner.Lines.{State, range_fits, wide_range_at, range_with, range_at, declaration_at}
use Rattle.verilog_reader.specs.inner.Lines.{port_at, wire_value_at, fail_at, initial_at, update_head_at, next_at}
use Rattle.verilog_reader.specs.inner.Lines.{update_at}
use Rattle.verilog_reader.proofs.Pieces.{after_text-text, number_and_rest-decimal}
use Rattle.verilog_reader.proofs.Operators.{stops_parenthesis, stops_semicolon}
use Rattle.verilog_reader.proofs.ExpressionReads.{expression_reads}
use Rattle.verilog_reader.proofs.LineSpells.{wide_text, IsPhrase, always_apart}

less_true : (m n : ℕ) → m < n → nat_lt m n ≡ true
less_true m n lt = grind (arith, nat_tests)

at_most_true : (m n : ℕ) → m ≤ n → nat_le m n ≡ true
at_most_true m n le = grind (arith, nat_tests)

range_true : (high : ℕ) → 1 ≤ high → high < 64 → range_fits high ≡ true
unfolding range_fits
range_true high some top = rw (at_most_true 1 high some, less_true high 64 top) refl

wide_range_reads : (high : ℕ) (rest : List ℕ) → 1 ≤ high → high < 64 →
    wide_range_at (decimal high ++ (codes ":0] " ++ rest)) ≡ Some (high + 1, rest)
unfolding wide_range_at
wide_range_reads high rest some top =
    let small : high < 2 ^ 64 = omega arith in
    rw (
      number_and_rest-decimal high (codes ":0] " ++ rest) small refl,
      after_text-text (codes ":0] ") rest,
      range_true high some top,
    ) refl

-- what follows a range is no bracket
range_one : (rest : List ℕ) → after_text (codes "[") rest ≡ None →
    range_with (after_text (codes "[") (range_text 1 ++ rest)) (range_text 1 ++ rest) ≡ Some (1, rest)
unfolding range_text
range_one rest none = rw none refl

range_reads : (width : ℕ) (rest : List ℕ) → IsWidth width → after_text (codes "[") rest ≡ None →
    range_at (range_text width ++ rest) ≡ Some (width, rest)
unfolding range_at
range_reads zero rest is none = absurd (omega (arith, is.0))
range_reads (suc zero) rest is none = range_one rest none
range_reads (suc (suc k)) rest is none =
    let high : ℕ = suc k in
    let some : 1 ≤ suc k = omega arith in
    let top : suc k < 64 = omega (arith, is.1) in
    let more : suc (suc k) ≡ suc k + 1 = omega arith in
    let text : range_text (suc (suc k)) ≡ codes "[" ++ decimal (suc k) ++ codes ":0] " =
    ap range_text more ∙ wide_text (suc k) some in
    let apart : (codes "[" ++ decimal (suc k) ++ codes ":0] ") ++ rest ≡ codes "["
    ++ (decimal (suc k) ++ (codes ":0] " ++ rest)) = simp append_assoc in
    let all : range_text (suc (suc k)) ++ rest ≡ codes "[" ++ (decimal (suc k) ++ (codes ":0] " ++ rest)) =
    ap (λ (t : List ℕ). t ++ rest) text ∙ apart in
    ap (λ (t : List ℕ). range_with (after_text (codes "[") t) t) all
    ∙ ap (λ (o : Option (List ℕ)). range_with o (codes "[" ++ (decimal (suc k) ++ (codes ":0] " ++ rest))))
    (after_text-text (codes "[") (decimal (suc k) ++ (codes ":0] " ++ rest)))
    ∙ wide_range_reads (suc k) rest some top
    ∙ ap (λ (n : ℕ). Some (n, rest)) (sym more)

pub declaration_reads : (width : ℕ) (name end rest : List ℕ) → IsWidth width →
    after_text (codes "[") (name ++ (end ++ rest)) ≡ None →
    declaration_at name end (range_text width ++ (name ++ (end ++ rest))) ≡ Some (width, rest)
unfolding declaration_at
declaration_reads width name end rest is none =
    rw (range_reads width (name ++ (end ++ rest)) is none, after_text-text name (end ++ rest), after_text-text end rest)
    refl

pub port_reads : (port given : Signal) (rest : List ℕ) → given.name ≡ port.name → IsWidth port.width →
    after_text (codes "[") (port.name ++ (codes ";\n" ++ rest)) ≡ None →
    port_at given (port_line port ++ rest) ≡ Some (port, rest)
unfolding port_at port_line
port_reads port given rest same width none =
    let tail = range_text port.width ++ (port.name ++ (codes ";\n" ++ rest)) in
    let apart : line (codes "  input " ++ range_text port.width ++ port.name ++ codes ";") ++ rest ≡ codes "  input "
    ++ (range_text port.width ++ (port.name ++ (codes ";\n" ++ rest))) = simp append_assoc in
    rw (
      apart,
      after_text-text (codes "  input ") tail,
      same,
      declaration_reads port.width port.name (codes ";\n") rest width none,
    ) refl

pub fail_reads : (state : State) (table : IsTable state.0 state.1) (e : Expr) (rest : List ℕ) → IsPhrase state e →
    fail_at state (fail_line state.0 e ++ rest) ≡ Some (e, rest)
unfolding fail_at fail_line
fail_reads state table e rest is =
    let text = expression_text state.0 e in
    let apart : line (codes "  assign mbac_fail = " ++ text ++ codes ";") ++ rest ≡ codes "  assign mbac_fail = "
    ++ (text ++ (codes ";\n" ++ rest)) = simp append_assoc in
    rw (
      apart,
      after_text-text (codes "  assign mbac_fail = ") (text ++ (codes ";\n" ++ rest)),
      expression_reads state.0 state.1 table e parentheses_limit (codes ";\n" ++ rest) is.valid is.shallow
          (stops_semicolon _),
      after_text-text (codes ";\n") rest,
    ) refl

pub wire_value_reads : (state : State) (table : IsTable state.0 state.1) (wire : Wire) (name rest : List ℕ) →
    IsWidth wire.width → IsPhrase state wire.value →
    after_text (codes "[") (name ++ (codes " = " ++ (expression_text state.0 wire.value ++ (codes ";\n" ++ rest))))
    ≡ None →
    wire_value_at state name (range_text wire.width
    ++ (name ++ (codes " = " ++ (expression_text state.0 wire.value ++ (codes ";\n" ++ rest))))) ≡ Some (wire, rest)
unfolding wire_value_at
wire_value_reads state table wire name rest width is none =
    let tail = expression_text state.0 wire.value ++ (codes ";\n" ++ rest) in
    rw (
      declaration_reads wire.width name (codes " = ") tail width none,
      expression_reads state.0 state.1 table wire.value parentheses_limit (codes ";\n" ++ rest) is.valid is.shallow
          (stops_semicolon _),
      after_text-text (codes ";\n") rest,
    ) refl

initial_reads : (width initial : ℕ) (rest : List ℕ) → width ≤ 64 → initial < 2 ^ width →
    initial_at width (decimal width ++ (codes "'d" ++ (decimal initial ++ (codes " : " ++ rest))))
    ≡ Some (initial, codes " : " ++ rest)
unfolding initial_at
initial_reads width initial rest le fits =
    let wide : 2 ^ width ≤ 2 ^ 64 = pow_mono le in
    let small : initial < 2 ^ 64 = omega arith in
    rw (
      after_text-text (decimal width) (codes "'d" ++ (decimal initial ++ (codes " : " ++ rest))),
      after_text-text (codes "'d") (decimal initial ++ (codes " : " ++ rest)),
      number_and_rest-decimal initial (codes " : " ++ rest) small refl,
      less_true initial (2 ^ width) fits,
    ) refl

next_reads : (state : State) (table : IsTable state.0 state.1) (e : Expr) (rest : List ℕ) → IsPhrase state e →
    next_at state (codes " : " ++ (expression_text state.0 e ++ (codes ");\n" ++ rest))) ≡ Some (e, rest)
unfolding next_at
next_reads state table e rest is =
    rw (
      after_text-text (codes " : ") (expression_text state.0 e ++ (codes ");\n" ++ rest)),
      expression_reads state.0 state.1 table e parentheses_limit (codes ");\n" ++ rest) is.valid is.shallow
          (stops_parenthesis _),
      after_text-text (codes ");\n") rest,
    ) refl

update_head_reads : (number : ℕ) (rest : List ℕ) →
    update_head_at number (codes "  always @(posedge mbac_clk) "
    ++ (register_name number ++ (codes " <= (mbac_rst ? " ++ rest))) ≡ Some rest
unfolding update_head_at
update_head_reads number rest =
    rw (
      after_text-text (codes "  always @(posedge mbac_clk) ")
          (register_name number ++ (codes " <= (mbac_rst ? " ++ rest)),
      after_text-text (register_name number) (codes " <= (mbac_rst ? " ++ rest),
      after_text-text (codes " <= (mbac_rst ? ") rest,
    ) refl

pub update_reads : (state : State) (table : IsTable state.0 state.1) (number : ℕ) (r : Register) (rest : List ℕ) →
    r.width ≤ 64 → r.initial < 2 ^ r.width → IsPhrase state r.next →
    update_at state number r.width (always_line state.0 number r ++ rest) ≡ Some (r, rest)
unfolding update_at always_line update_text sized_text
update_reads state table number r rest le fits is =
    let value = expression_text state.0 r.next in
    let name = register_name number in
    let later = value ++ (codes ");\n" ++ rest) in
    rw (
      always_apart name (decimal r.width) (decimal r.initial) value rest,
      update_head_reads number (decimal r.width ++ (codes "'d" ++ (decimal r.initial ++ (codes " : " ++ later)))),
      initial_reads r.width r.initial later le fits,
      next_reads state table r.next rest is,
    ) refl
