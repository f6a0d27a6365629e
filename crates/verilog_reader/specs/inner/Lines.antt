-- What the reader gives of the lines of a module, one function a kind of line.
use Rattle.std.specs.Prelude.{ℕ, zero, suc, ◌+◌, ◌^◌, Bool, false, ◌&&◌, not, nat_eq, nat_lt, nat_le, List, [], ◌∷◌}
use Rattle.std.specs.Prelude.{◌++◌, length, take, drop, codes, decimal, Option, Some, None, is_some, if◌then◌else◌}
use Rattle.std.specs.List.{prefix_len, list_any, starts_with}
use Rattle.std.specs.Cmp.Lexicographic.{pointwise}
use Rattle.psl_model.specs.declared.names.Signal.{Signal}
use Rattle.psl_model.specs.Expr.{Expr}
use Rattle.psl_model.specs.Limits.{vector_limit, name_limit, parentheses_limit}
use Rattle.psl_model.specs.Names.{begins_name, checker_prefix, is_report_byte}
use Rattle.psl_model.specs.Reserved.{language_words, left_out_words, verilog_words}
use Rattle.verilog_text.specs.Module.{Module, Register, Wire}
use Rattle.verilog_text.specs.Text.{register_name, wire_name, output_line, end_line}
use Rattle.verilog_reader.specs.inner.Pieces.{◌>>=◌, after_text, run_of, after_run, number_and_rest}
use Rattle.verilog_reader.specs.inner.Phrases.{place_of, expression_at}

-- the names that are known, and their widths
abbrev pub State : Type 0
State = List (List ℕ) × List ℕ

abbrev pub added : State → List ℕ → ℕ → State
added state name width = (state.0 ++ name ∷ [], state.1 ++ width ∷ [])

-- a further name, which must be new
unfoldable pub add : State → List ℕ → ℕ → Option State
add state name width = if is_some (place_of state.0 name) then None else Some (added state name width)

abbrev pub first_state : State
first_state = (codes "mbac_rst" ∷ codes "mbac_eot" ∷ [], 1 ∷ 1 ∷ [])

abbrev pub add_ports : State → List Signal → Option State
add_ports state [] = Some state
add_ports state (port ∷ ports) = add state port.name port.width >>= λ next. add_ports next ports

-- ranges

unfoldable pub range_fits : ℕ → Bool
range_fits high = nat_le 1 high && nat_lt high vector_limit

unfoldable pub wide_range_at : List ℕ → Option (ℕ × List ℕ)
wide_range_at bytes = do
  high ← number_and_rest bytes
  rest ← after_text (codes ":0] ") high.1
  if range_fits high.0 then Some (high.0 + 1, rest) else None

abbrev pub range_with : Option (List ℕ) → List ℕ → Option (ℕ × List ℕ)
range_with None bytes = Some (1, bytes)
range_with (Some start) bytes = wide_range_at start

unfoldable pub range_at : List ℕ → Option (ℕ × List ℕ)
range_at bytes = range_with (after_text (codes "[") bytes) bytes

-- a range, this name and this end
unfoldable pub declaration_at : (name end bytes : List ℕ) → Option (ℕ × List ℕ)
declaration_at name end bytes = do
  width ← range_at bytes
  named ← after_text name width.1
  rest ← after_text end named
  Some (width.0, rest)

-- the header: ports stand there without their widths, here as if of one bit

abbrev pub begins_identifier : List ℕ → Bool
begins_identifier [] = false
begins_identifier (byte ∷ bytes) = begins_name byte

unfoldable pub is_word : List ℕ → Bool
is_word name = list_any (pointwise nat_eq name) (language_words ++ left_out_words ++ verilog_words)

unfoldable pub is_port_name : List ℕ → Bool
is_port_name name = (begins_identifier name && nat_le (length name) name_limit)
    && (not (starts_with nat_eq name checker_prefix) && not (is_word name))

unfoldable pub is_module_name : List ℕ → Bool
is_module_name name = begins_identifier name && starts_with nat_eq name checker_prefix

unfoldable pub port_name_at : List ℕ → Option (List ℕ × List ℕ)
port_name_at bytes = do
  rest ← after_text (codes ", ") (after_run bytes)
  if is_port_name (run_of bytes) then Some (run_of bytes, rest) else None

abbrev pub one_bit : List ℕ → Signal
one_bit name = record { name = name; width = 1 }

abbrev pub begun : {X : Type 0} → X → Option (List X × List ℕ) → Option (List X × List ℕ)
begun x more = more >>= λ m. Some (x ∷ m.0, m.1)

abbrev pub port_names_with : (List ℕ → Option (List Signal × List ℕ)) → Option (List ℕ) → List ℕ →
    Option (List Signal × List ℕ)
port_names_with later (Some rest) bytes = Some ([], rest)
port_names_with later None bytes = port_name_at bytes >>= λ name. begun (one_bit name.0) (later name.1)

-- at most so many
abbrev pub port_names_at : (most : ℕ) → List ℕ → Option (List Signal × List ℕ)
port_names_at zero bytes = None
port_names_at (suc most) bytes = port_names_with (port_names_at most) (after_text (codes "mbac_fail);\n") bytes) bytes

unfoldable pub header_at : List ℕ → Option ((List ℕ × List Signal) × List ℕ)
header_at bytes = do
  start ← after_text (codes "module ") bytes
  inputs ← after_text (codes " (mbac_clk, mbac_rst, mbac_eot, ") (after_run start)
  ports ← port_names_at (length inputs) inputs
  if is_module_name (run_of start) then Some ((run_of start, ports.0), ports.1) else None

-- the report

unfoldable pub report_fits : List ℕ → Bool
report_fits text = nat_le 1 (length text) && nat_le (length text) name_limit

unfoldable pub report_text_at : List ℕ → Option (Option (List ℕ) × List ℕ)
report_text_at bytes = do
  rest ← after_text (codes "\n") (drop (prefix_len is_report_byte bytes) bytes)
  if report_fits (take (prefix_len is_report_byte bytes) bytes) then Some
      (Some (take (prefix_len is_report_byte bytes) bytes), rest) else None

abbrev pub report_with : Option (List ℕ) → List ℕ → Option (Option (List ℕ) × List ℕ)
report_with None bytes = Some (None, bytes)
report_with (Some start) bytes = report_text_at start

unfoldable pub report_at : List ℕ → Option (Option (List ℕ) × List ℕ)
report_at bytes = report_with (after_text (codes "  // ") bytes) bytes

-- the ports, in the header's order

unfoldable pub port_at : Signal → List ℕ → Option (Signal × List ℕ)
port_at port bytes = do
  start ← after_text (codes "  input ") bytes
  width ← declaration_at port.name (codes ";\n") start
  Some (record { name = port.name; width = width.0 }, width.1)

abbrev pub ports_at : List Signal → List ℕ → Option (List Signal × List ℕ)
ports_at [] bytes = Some ([], bytes)
ports_at (port ∷ ports) bytes = port_at port bytes >>= λ p. begun p.0 (ports_at ports p.1)

-- registers and wires

abbrev pub Declared : Type 0 → Type 0
Declared X = Option ((List X × State) × List ℕ)

abbrev pub declared : {X : Type 0} → X → Declared X → Declared X
declared x more = more >>= λ m. Some ((x ∷ m.0.0, m.0.1), m.1)

module _ {X : Type 0} (word : List ℕ) (item : State → ℕ → List ℕ → Option ((X × State) × List ℕ)) where
  -- one that begins with the word, and then the later ones
  abbrev pub declaration_with : (State → List ℕ → Declared X) → State → ℕ → Option (List ℕ) → List ℕ → Declared X
  declaration_with later state number None bytes = Some (([], state), bytes)
  declaration_with later state number (Some start) bytes =
      item state number start >>= λ x. declared x.0.0 (later x.0.1 x.1)

  -- as many as begin with the word, at most so many
  abbrev pub declarations_at : (most : ℕ) → State → (number : ℕ) → List ℕ → Declared X
  declarations_at zero state number bytes = Some (([], state), bytes)
  declarations_at (suc most) state number bytes =
      declaration_with (λ next rest. declarations_at most next (suc number) rest) state number
      (after_text word bytes) bytes

unfoldable pub register_at : State → ℕ → List ℕ → Option ((ℕ × State) × List ℕ)
register_at state number bytes = do
  width ← declaration_at (register_name number) (codes ";\n") bytes
  next ← add state (register_name number) width.0
  Some ((width.0, next), width.1)

unfoldable pub wire_value_at : State → List ℕ → List ℕ → Option (Wire × List ℕ)
wire_value_at state name bytes = do
  width ← declaration_at name (codes " = ") bytes
  value ← expression_at state.0 state.1 parentheses_limit width.1
  rest ← after_text (codes ";\n") value.2
  Some (record { width = width.0; value = value.0 }, rest)

unfoldable pub wire_at : State → ℕ → List ℕ → Option ((Wire × State) × List ℕ)
wire_at state number bytes = do
  wire ← wire_value_at state (wire_name number) bytes
  next ← add state (wire_name number) wire.0.width
  Some ((wire.0, next), wire.1)

unfoldable pub registers_at : (most : ℕ) → State → (number : ℕ) → List ℕ → Declared ℕ
registers_at most state number bytes = declarations_at (codes "  reg ") register_at most state number bytes

unfoldable pub wires_at : (most : ℕ) → State → (number : ℕ) → List ℕ → Declared Wire
wires_at most state number bytes = declarations_at (codes "  wire ") wire_at most state number bytes

-- the output and the registers' next values

unfoldable pub fail_at : State → List ℕ → Option (Expr × List ℕ)
fail_at state bytes = do
  start ← after_text (codes "  assign mbac_fail = ") bytes
  value ← expression_at state.0 state.1 parentheses_limit start
  rest ← after_text (codes ";\n") value.2
  Some (value.0, rest)

unfoldable pub initial_at : (width : ℕ) → List ℕ → Option (ℕ × List ℕ)
initial_at width bytes = do
  digits ← after_text (decimal width) bytes
  sized ← after_text (codes "'d") digits
  initial ← number_and_rest sized
  if nat_lt initial.0 (2 ^ width) then Some initial else None

unfoldable pub update_head_at : (number : ℕ) → List ℕ → Option (List ℕ)
update_head_at number bytes = do
  start ← after_text (codes "  always @(posedge mbac_clk) ") bytes
  named ← after_text (register_name number) start
  after_text (codes " <= (mbac_rst ? ") named

unfoldable pub next_at : State → List ℕ → Option (Expr × List ℕ)
next_at state bytes = do
  start ← after_text (codes " : ") bytes
  value ← expression_at state.0 state.1 parentheses_limit start
  rest ← after_text (codes ");\n") value.2
  Some (value.0, rest)

unfoldable pub update_at : State → (number width : ℕ) → List ℕ → Option (Register × List ℕ)
update_at state number width bytes = do
  reset ← update_head_at number bytes
  initial ← initial_at width reset
  next ← next_at state initial.1
  Some (record { width = width; initial = initial.0; next = next.0 }, next.1)

abbrev pub updates_at : State → (number : ℕ) → (widths : List ℕ) → List ℕ → Option (List Register × List ℕ)
updates_at state number [] bytes = Some ([], bytes)
updates_at state number (width ∷ widths) bytes =
    update_at state number width bytes >>= λ r. begun r.0 (updates_at state (suc number) widths r.1)

-- the parts of a module

-- the lines of the clock, of reset and of the end of execution
unfoldable pub inputs_at : List ℕ → Option (List ℕ)
inputs_at bytes = do
  reset ← after_text (codes "  input mbac_clk;\n") bytes
  end ← after_text (codes "  input mbac_rst;\n") reset
  after_text (codes "  input mbac_eot;\n") end

-- its name, its report and its ports, with the state that they make
unfoldable pub interface_at : List ℕ → Option ((List ℕ × Option (List ℕ) × List Signal × State) × List ℕ)
interface_at bytes = do
  header ← header_at bytes
  _ ← add_ports first_state header.0.1
  report ← report_at header.1
  inputs ← inputs_at report.1
  ports ← ports_at header.0.1 inputs
  state ← add_ports first_state ports.0
  rest ← after_text output_line ports.1
  Some ((header.0.0, report.0, ports.0, state), rest)

unfoldable pub behaviour_at : State → (widths : List ℕ) → List ℕ → Option ((Expr × List Register) × List ℕ)
behaviour_at state widths bytes = do
  fail ← fail_at state bytes
  updates ← updates_at state 0 widths fail.1
  rest ← after_text end_line updates.1
  Some ((fail.0, updates.0), rest)

unfoldable pub module_at : List ℕ → Option (Module × List ℕ)
module_at bytes = do
  interface ← interface_at bytes
  registers ← registers_at (length interface.1) interface.0.3 0 interface.1
  wires ← wires_at (length registers.1) registers.0.1 0 registers.1
  behaviour ← behaviour_at wires.0.1 registers.0.0 wires.1
  Some (
    record {
      name = interface.0.0;
      report = interface.0.1;
      ports = interface.0.2;
      registers = behaviour.0.1;
      wires =
          wires.0.0;
      fail = behaviour.0.0;
    },
    behaviour.1,
  )

-- one module after the other, with new names, at most so many

abbrev pub listed : Module → Option (List Module) → Option (List Module)
listed m more = more >>= λ ms. Some (m ∷ ms)

abbrev pub modules_at : (most : ℕ) → State → List ℕ → Option (List Module)
modules_at most seen [] = Some []
modules_at zero seen (byte ∷ bytes) = None
modules_at (suc most) seen (byte ∷ bytes) = module_at (byte ∷ bytes) >>= λ m. add seen m.0.name 1 >>= λ next. listed m.0
    (modules_at most next m.1)
