-- What is read as a line is its text.
use Rattle.std.proofs.Common.{◌≡◌, ℕ, ◌+◌, ◌-◌, ◌<◌, ◌≤◌, ◌^◌, Bool, true, false, List, ◌++◌, length, refl, ap, sym}
use Rattle.std.proofs.Common.{◌∙◌, arith, subst, Some, None, append_assoc}
use Rattle.std.proofs.lemmas.Bool.Decides.{nat_tests}
use Rattle.std.specs.Prelude.{◌==◌, nat_lt, nat_le, Option, codes, decimal}
use Rattle.psl_model.specs.declared.names.Signal.{Signal}
use Rattle.psl_model.specs.Expr.{Expr}
use Rattle.psl_model.specs.Limits.{vector_limit, parentheses_limit}
use Rattle.psl_model.specs.Valid.{IsValid, parentheses}
use Rattle.verilog_text.specs.Module.{Register, Wire, IsWidth}
use Rattle.verilog_text.specs.Text.{line, range_text, port_line, register_name, sized_text, expression_text, fail_line}
use Rattle.verilog_text.specs.Text.{update_text, always_line}
use Rattle.verilog_reader.specs.inner.Pieces.{after_text}
use Rattle.verilog_reader.specs.inner.Lines.{State, range_fits, wide_range_at, range_with, range_at, declaration_at}
use Rattle.verilog_reader.specs.inner.Lines.{port_at, wire_value_at, fail_at, initial_at, update_head_at, next_at}
use Rattle.verilog_reader.specs.inner.Lines.{update_at}
use Rattle.verilog_reader.proofs.Pieces.{bind_some, if_some, some_inj, both_true, after_text-only, number_and_rest-only}
use Rattle.verilog_reader.proofs.ExpressionSpells.{expression_spells}

true_less : (m n : ℕ) → nat_lt m n ≡ true → m < n
true_less m n e = grind (arith, nat_tests)

true_at_most : (m n : ℕ) → nat_le m n ≡ true → m ≤ n
true_at_most m n e = grind (arith, nat_tests)

-- ranges

pub wide_text : (high : ℕ) → 1 ≤ high → range_text (high + 1) ≡ codes "[" ++ decimal high ++ codes ":0] "
unfolding range_text
wide_text high some =
    let wide : (high + 1 == 1) ≡ false = grind (arith, nat_tests) in
    let less : high + 1 - 1 ≡ high = omega arith in
    rw (wide, less) refl

abbrev IsRange : List ℕ → ℕ × List ℕ → Type 0
IsRange bytes read = IsWidth read.0 × (bytes ≡ range_text read.0 ++ read.1)

range_at-only : (bytes : List ℕ) (read : ℕ × List ℕ) → range_at bytes ≡ Some read → IsRange bytes read
unfolding range_at range_text wide_range_at range_fits
range_at-only bytes read e = by_mark (after_text (codes "[") bytes) refl e where
  by_mark : (o : Option (List ℕ)) → after_text (codes "[") bytes ≡ o → range_with o bytes ≡ Some read →
      IsRange bytes read
  by_mark None none e =
      let is : (1, bytes) ≡ read = some_inj _ _ e in
      let one : IsWidth 1 = (omega arith, omega arith) in
      subst (λ (r : ℕ × List ℕ). IsRange bytes r) is (one, refl)
  by_mark (Some start) some e =
      let high = bind_some {A = ℕ × List ℕ} {B = ℕ × List ℕ} _ _ _ e in
      let rest = bind_some {A = List ℕ} {B = ℕ × List ℕ} _ _ _ high.2 in
      let h : ℕ = high.0.0 in
      let tested = if_some (range_fits h) (h + 1, rest.0) read rest.2 in
      let parts = both_true (nat_le 1 h) (nat_lt h vector_limit) tested.0 in
      let low : 1 ≤ h = true_at_most 1 h parts.0 in
      let top : h < 64 = true_less h 64 parts.1 in
      let width : IsWidth (h + 1) = (omega arith, omega arith) in
      let digits : start ≡ decimal h ++ high.0.1 = (number_and_rest-only start high.0 high.1).0 in
      let end : high.0.1 ≡ codes ":0] " ++ rest.0 = after_text-only (codes ":0] ") high.0.1 rest.0 rest.1 in
      let all : bytes ≡ codes "[" ++ (decimal h ++ (codes ":0] " ++ rest.0)) =
      after_text-only (codes "[") bytes start some ∙ ap (λ t. codes "[" ++ t)
      (digits ∙ ap (λ t. decimal h ++ t) end) in
      let apart : (codes "[" ++ decimal h ++ codes ":0] ") ++ rest.0 ≡ codes "["
      ++ (decimal h ++ (codes ":0] " ++ rest.0)) = simp append_assoc in
      subst (λ (r : ℕ × List ℕ). IsRange bytes r) tested.1
      (width, all ∙ sym apart ∙ ap (λ (t : List ℕ). t ++ rest.0) (sym (wide_text h low)))

abbrev IsDeclaration : (name end bytes : List ℕ) → ℕ × List ℕ → Type 0
IsDeclaration name end bytes read = IsWidth read.0 × (bytes ≡ range_text read.0 ++ (name ++ (end ++ read.1)))

pub declaration_at-only : (name end bytes : List ℕ) (read : ℕ × List ℕ) → declaration_at name end bytes ≡ Some read →
    IsDeclaration name end bytes read
unfolding declaration_at
declaration_at-only name end bytes read e =
    let width = bind_some {A = ℕ × List ℕ} {B = ℕ × List ℕ} _ _ _ e in
    let named = bind_some {A = List ℕ} {B = ℕ × List ℕ} _ _ _ width.2 in
    let rest = bind_some {A = List ℕ} {B = ℕ × List ℕ} _ _ _ named.2 in
    let is : (width.0.0, rest.0) ≡ read = some_inj _ _ rest.2 in
    let range = range_at-only bytes width.0 width.1 in
    let tail : width.0.1 ≡ name ++ (end ++ rest.0) =
    after_text-only name width.0.1 named.0 named.1
    ∙ ap (λ t. name ++ t) (after_text-only end named.0 rest.0 rest.1) in
    subst (λ (r : ℕ × List ℕ). IsDeclaration name end bytes r) is
    (range.0, range.1 ∙ ap (λ t. range_text width.0.0 ++ t) tail)

-- a port's line

pub record IsPortLine (port : Signal) (bytes : List ℕ) (read : Signal × List ℕ) : Type 0 where
  pub name : read.0.name ≡ port.name
  pub width : IsWidth read.0.width
  pub text : bytes ≡ port_line read.0 ++ read.1

pub port_at-only : (port : Signal) (bytes : List ℕ) (read : Signal × List ℕ) → port_at port bytes ≡ Some read →
    IsPortLine port bytes read
unfolding port_at port_line
port_at-only port bytes read e =
    let start = bind_some {A = List ℕ} {B = Signal × List ℕ} _ _ _ e in
    let width = bind_some {A = ℕ × List ℕ} {B = Signal × List ℕ} _ _ _ start.2 in
    let made : Signal = record { name = port.name; width = width.0.0 } in
    let is : (made, width.0.1) ≡ read = some_inj _ _ width.2 in
    let declared = declaration_at-only port.name (codes ";\n") start.0 width.0 width.1 in
    let apart : line (codes "  input " ++ range_text width.0.0 ++ port.name ++ codes ";") ++ width.0.1
    ≡ codes "  input " ++ (range_text width.0.0 ++ (port.name ++ (codes ";\n" ++ width.0.1))) = simp append_assoc in
    subst (λ (r : Signal × List ℕ). IsPortLine port bytes r) is record {
      name = refl;
      width = declared.0;
      text = after_text-only (codes "  input ") bytes start.0 start.1 ∙ ap (λ t. codes "  input " ++ t) declared.1
          ∙ sym apart;
    }

-- an expression of a module's text, with its table

pub record IsPhrase (state : State) (e : Expr) : Type 0 where
  pub valid : IsValid state.1 e
  pub shallow : parentheses e ≤ parentheses_limit

-- what drives the output

abbrev IsFailLine : State → List ℕ → Expr × List ℕ → Type 0
IsFailLine state bytes read = IsPhrase state read.0 × (bytes ≡ fail_line state.0 read.0 ++ read.1)

pub fail_at-only : (state : State) → length state.0 ≡ length state.1 → (bytes : List ℕ) (read : Expr × List ℕ) →
    fail_at state bytes ≡ Some read → IsFailLine state bytes read
unfolding fail_at fail_line
fail_at-only state lengths bytes read e =
    let start = bind_some {A = List ℕ} {B = Expr × List ℕ} _ _ _ e in
    let value = bind_some {A = Expr × Bool × List ℕ} {B = Expr × List ℕ} _ _ _ start.2 in
    let rest = bind_some {A = List ℕ} {B = Expr × List ℕ} _ _ _ value.2 in
    let is : (value.0.0, rest.0) ≡ read = some_inj _ _ rest.2 in
    let spelled = expression_spells state.0 state.1 lengths parentheses_limit start.0 value.0 value.1 in
    let text = expression_text state.0 value.0.0 in
    let all : bytes ≡ codes "  assign mbac_fail = " ++ (text ++ (codes ";\n" ++ rest.0)) =
    after_text-only (codes "  assign mbac_fail = ") bytes start.0 start.1
    ∙ ap (λ t. codes "  assign mbac_fail = " ++ t)
    (spelled.text ∙ ap (λ t. text ++ t) (after_text-only (codes ";\n") value.0.2 rest.0 rest.1)) in
    let apart : line (codes "  assign mbac_fail = " ++ text ++ codes ";") ++ rest.0 ≡ codes "  assign mbac_fail = "
    ++ (text ++ (codes ";\n" ++ rest.0)) = simp append_assoc in
    subst (λ (r : Expr × List ℕ). IsFailLine state bytes r) is
    (record { valid = spelled.valid; shallow = spelled.shallow }, all ∙ sym apart)

-- a wire's line

abbrev IsWireLine : State → (name bytes : List ℕ) → Wire × List ℕ → Type 0
IsWireLine state name bytes read = IsWidth read.0.width × IsPhrase state read.0.value
    × (bytes ≡ range_text read.0.width
    ++ (name ++ (codes " = " ++ (expression_text state.0 read.0.value ++ (codes ";\n" ++ read.1)))))

pub wire_value_at-only : (state : State) → length state.0 ≡ length state.1 →
    (name bytes : List ℕ) (read : Wire × List ℕ) → wire_value_at state name bytes ≡ Some read →
    IsWireLine state name bytes read
unfolding wire_value_at
wire_value_at-only state lengths name bytes read e =
    let width = bind_some {A = ℕ × List ℕ} {B = Wire × List ℕ} _ _ _ e in
    let value = bind_some {A = Expr × Bool × List ℕ} {B = Wire × List ℕ} _ _ _ width.2 in
    let rest = bind_some {A = List ℕ} {B = Wire × List ℕ} _ _ _ value.2 in
    let made : Wire = record { width = width.0.0; value = value.0.0 } in
    let is : (made, rest.0) ≡ read = some_inj _ _ rest.2 in
    let declared = declaration_at-only name (codes " = ") bytes width.0 width.1 in
    let spelled = expression_spells state.0 state.1 lengths parentheses_limit width.0.1 value.0 value.1 in
    let text = expression_text state.0 value.0.0 in
    let tail : width.0.1 ≡ text ++ (codes ";\n" ++ rest.0) =
    spelled.text ∙ ap (λ t. text ++ t) (after_text-only (codes ";\n") value.0.2 rest.0 rest.1) in
    subst (λ (r : Wire × List ℕ). IsWireLine state name bytes r) is (
      declared.0,
      record { valid = spelled.valid; shallow = spelled.shallow },
      declared.1 ∙ ap (λ t. range_text width.0.0 ++ (name ++ (codes " = " ++ t))) tail,
    )

-- a register's line

abbrev IsInitial : (width : ℕ) → List ℕ → ℕ × List ℕ → Type 0
IsInitial width bytes read =
    (read.0 < 2 ^ width) × (bytes ≡ decimal width ++ (codes "'d" ++ (decimal read.0 ++ read.1)))

initial_at-only : (width : ℕ) (bytes : List ℕ) (read : ℕ × List ℕ) → initial_at width bytes ≡ Some read →
    IsInitial width bytes read
unfolding initial_at
initial_at-only width bytes read e =
    let digits = bind_some {A = List ℕ} {B = ℕ × List ℕ} _ _ _ e in
    let sized = bind_some {A = List ℕ} {B = ℕ × List ℕ} _ _ _ digits.2 in
    let initial = bind_some {A = ℕ × List ℕ} {B = ℕ × List ℕ} _ _ _ sized.2 in
    let tested = if_some (nat_lt initial.0.0 (2 ^ width)) initial.0 read initial.2 in
    let number : sized.0 ≡ decimal initial.0.0 ++ initial.0.1 = (number_and_rest-only sized.0 initial.0 initial.1).0 in
    let all : bytes ≡ decimal width ++ (codes "'d" ++ (decimal initial.0.0 ++ initial.0.1)) =
    after_text-only (decimal width) bytes digits.0 digits.1
    ∙ ap (λ t. decimal width ++ t)
    (after_text-only (codes "'d") digits.0 sized.0 sized.1 ∙ ap (λ t. codes "'d" ++ t) number) in
    subst (λ (r : ℕ × List ℕ). IsInitial width bytes r) tested.1 (true_less initial.0.0 (2 ^ width) tested.0, all)

update_head_at-only : (number : ℕ) (bytes rest : List ℕ) → update_head_at number bytes ≡ Some rest →
    bytes ≡ codes "  always @(posedge mbac_clk) " ++ (register_name number ++ (codes " <= (mbac_rst ? " ++ rest))
unfolding update_head_at
update_head_at-only number bytes rest e =
    let start = bind_some {A = List ℕ} {B = List ℕ} _ _ _ e in
    let named = bind_some {A = List ℕ} {B = List ℕ} _ _ _ start.2 in
    after_text-only (codes "  always @(posedge mbac_clk) ") bytes start.0 start.1
    ∙ ap (λ t. codes "  always @(posedge mbac_clk) " ++ t)
    (after_text-only (register_name number) start.0 named.0 named.1
    ∙ ap (λ t. register_name number ++ t) (after_text-only (codes " <= (mbac_rst ? ") named.0 rest named.2))

abbrev IsNext : State → List ℕ → Expr × List ℕ → Type 0
IsNext state bytes read =
    IsPhrase state read.0 × (bytes ≡ codes " : " ++ (expression_text state.0 read.0 ++ (codes ");\n" ++ read.1)))

next_at-only : (state : State) → length state.0 ≡ length state.1 → (bytes : List ℕ) (read : Expr × List ℕ) →
    next_at state bytes ≡ Some read → IsNext state bytes read
unfolding next_at
next_at-only state lengths bytes read e =
    let start = bind_some {A = List ℕ} {B = Expr × List ℕ} _ _ _ e in
    let value = bind_some {A = Expr × Bool × List ℕ} {B = Expr × List ℕ} _ _ _ start.2 in
    let rest = bind_some {A = List ℕ} {B = Expr × List ℕ} _ _ _ value.2 in
    let is : (value.0.0, rest.0) ≡ read = some_inj _ _ rest.2 in
    let spelled = expression_spells state.0 state.1 lengths parentheses_limit start.0 value.0 value.1 in
    let text = expression_text state.0 value.0.0 in
    let all : bytes ≡ codes " : " ++ (text ++ (codes ");\n" ++ rest.0)) =
    after_text-only (codes " : ") bytes start.0 start.1
    ∙ ap (λ t. codes " : " ++ t)
    (spelled.text ∙ ap (λ t. text ++ t) (after_text-only (codes ");\n") value.0.2 rest.0 rest.1)) in
    subst (λ (r : Expr × List ℕ). IsNext state bytes r) is (
      record { valid = spelled.valid; shallow = spelled.shallow },
      all,
    )

outer_apart : (name update rest : List ℕ) →
    line (codes "  always @(posedge mbac_clk) " ++ name ++ codes " <= " ++ update ++ codes ";") ++ rest
    ≡ codes "  always @(posedge mbac_clk) " ++ (name ++ (codes " <= " ++ (update ++ (codes ";\n" ++ rest))))
outer_apart name update rest = simp append_assoc

inner_apart : (width initial value rest : List ℕ) →
    (codes "(mbac_rst ? " ++ (width ++ codes "'d" ++ initial) ++ codes " : " ++ value ++ codes ")") ++ rest
    ≡ codes "(mbac_rst ? " ++ (width ++ (codes "'d" ++ (initial ++ (codes " : " ++ (value ++ (codes ")" ++ rest))))))
inner_apart width initial value rest = simp append_assoc

-- a register's line in its parts
pub always_apart : (name width initial value rest : List ℕ) →
    line (codes "  always @(posedge mbac_clk) " ++ name ++ codes " <= "
    ++ (codes "(mbac_rst ? " ++ (width ++ codes "'d" ++ initial) ++ codes " : " ++ value ++ codes ")") ++ codes ";")
    ++ rest
    ≡ codes "  always @(posedge mbac_clk) "
    ++ (name
    ++ (codes " <= (mbac_rst ? "
    ++ (width ++ (codes "'d" ++ (initial ++ (codes " : " ++ (value ++ (codes ");\n" ++ rest))))))))
always_apart name width initial value rest =
    outer_apart name (codes "(mbac_rst ? " ++ (width ++ codes "'d" ++ initial) ++ codes " : " ++ value ++ codes ")")
    rest
    ∙ ap (λ (t : List ℕ). codes "  always @(posedge mbac_clk) " ++ (name ++ (codes " <= " ++ t)))
    (inner_apart width initial value (codes ";\n" ++ rest))

pub record IsUpdateLine (state : State) (number width : ℕ) (bytes : List ℕ) (read : Register × List ℕ) : Type 0 where
  pub same : read.0.width ≡ width
  pub fits : read.0.initial < 2 ^ read.0.width
  pub next : IsPhrase state read.0.next
  pub text : bytes ≡ always_line state.0 number read.0 ++ read.1

pub update_at-only : (state : State) → length state.0 ≡ length state.1 →
    (number width : ℕ) (bytes : List ℕ) (read : Register × List ℕ) → update_at state number width bytes ≡ Some read →
    IsUpdateLine state number width bytes read
unfolding update_at always_line update_text sized_text
update_at-only state lengths number width bytes read e =
    let head = bind_some {A = List ℕ} {B = Register × List ℕ} _ _ _ e in
    let initial = bind_some {A = ℕ × List ℕ} {B = Register × List ℕ} _ _ _ head.2 in
    let next = bind_some {A = Expr × List ℕ} {B = Register × List ℕ} _ _ _ initial.2 in
    let made : Register = record { width = width; initial = initial.0.0; next = next.0.0 } in
    let is : (made, next.0.1) ≡ read = some_inj _ _ next.2 in
    let one = initial_at-only width head.0 initial.0 initial.1 in
    let two = next_at-only state lengths initial.0.1 next.0 next.1 in
    let value = expression_text state.0 next.0.0 in
    let name = register_name number in
    let head_is = update_head_at-only number bytes head.0 head.1 in
    let tail : head.0 ≡ decimal width
    ++ (codes "'d" ++ (decimal initial.0.0 ++ (codes " : " ++ (value ++ (codes ");\n" ++ next.0.1))))) =
    one.1 ∙ ap (λ t. decimal width ++ (codes "'d" ++ (decimal initial.0.0 ++ t))) two.1 in
    let apart = always_apart name (decimal width) (decimal initial.0.0) value next.0.1 in
    subst (λ (r : Register × List ℕ). IsUpdateLine state number width bytes r) is record {
      same = refl;
      fits = one.0;
      next = two.0;
      text = head_is ∙ ap (λ t. codes "  always @(posedge mbac_clk) " ++ (name ++ (codes " <= (mbac_rst ? " ++ t))) tail
          ∙ sym apart;
    }
