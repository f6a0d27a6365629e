-- What is read as a module is its text, and the module is lawful.
use Rattle.std.proofs.Common.{◌≡◌, ℕ, true, List, [], ◌∷◌, ◌++◌, length, map, refl, ap, sym, ◌∙◌, subst, Some}
use Rattle.std.proofs.Common.{append_assoc}
use Rattle.std.specs.Prelude.{◌≢◌, Option, codes, flat_map, IfSome, AllPairs, nat_eq}
use Rattle.std.specs.List.{starts_with}
use Rattle.psl_model.specs.declared.names.Signal.{Signal}
use Rattle.psl_model.specs.Expr.{Expr}
use Rattle.psl_model.specs.Names.{IsIdentifier, IsUsableName, IsReport, checker_prefix}
use Rattle.verilog_text.specs.Module.{Register, IsPort}
use Rattle.verilog_text.specs.Text.{line, port_line, report_line, input_lines, output_line, fail_line, always_line}
use Rattle.verilog_text.specs.Text.{end_line, each_numbered}
use Rattle.verilog_reader.specs.inner.Pieces.{◌>>=◌, after_text}
use Rattle.verilog_reader.specs.inner.Lines.{State, add_ports, first_state, header_at, report_at, ports_at}
use Rattle.verilog_reader.specs.inner.Lines.{inputs_at, interface_at, behaviour_at}
use Rattle.verilog_reader.proofs.Pieces.{bind_some, some_inj, after_text-only}
use Rattle.verilog_reader.proofs.LineSpells.{IsPhrase, fail_at-only}
use Rattle.verilog_reader.proofs.ListSpells.{ArePorts, ports_at-only, AreUpdates, updates_at-only}
use Rattle.verilog_reader.proofs.HeaderLines.{names_text, AreUsable}
use Rattle.verilog_reader.proofs.Reports.{header_at-only, report_at-only, inputs_text}
use Rattle.verilog_reader.proofs.States.{extended, add_ports-only}
use Rattle.verilog_reader.proofs.Distinct.{ports_differ}

-- the interface

abbrev pub Interface : Type 0
Interface = (List ℕ × Option (List ℕ) × List Signal × State) × List ℕ

-- the ports are those of the header, with their widths
usable_ports : (ports header : List Signal) → ArePorts ports header → AreUsable header → AreUsable ports
usable_ports [] [] are usable = tt
usable_ports [] (given ∷ header) are usable = absurd are
usable_ports (port ∷ ports) [] are usable = absurd are
usable_ports (port ∷ ports) (given ∷ header) are usable =
    (subst IsUsableName (sym are.0) usable.0, usable_ports ports header are.2 usable.1)

same_header : (ports header : List Signal) → ArePorts ports header → names_text header ≡ names_text ports
same_header [] [] are = refl
same_header [] (given ∷ header) are = absurd are
same_header (port ∷ ports) [] are = absurd are
same_header (port ∷ ports) (given ∷ header) are =
    ap (λ (n : List ℕ). n ++ codes ", " ++ names_text header) (sym are.0)
    ∙ ap (λ (t : List ℕ). port.name ++ codes ", " ++ t) (same_header ports header are.2)

abbrev pub IsPortList : List Signal → Type 0
IsPortList [] = Unit {0}
IsPortList (port ∷ ports) = IsPort port × IsPortList ports

port_list : (ports header : List Signal) → ArePorts ports header → AreUsable header → IsPortList ports
port_list [] [] are usable = tt
port_list [] (given ∷ header) are usable = absurd are
port_list (port ∷ ports) [] are usable = absurd are
port_list (port ∷ ports) (given ∷ header) are usable =
    (record { name = subst IsUsableName (sym are.0) usable.0; width = are.1 }, port_list ports header are.2 usable.1)

-- the text of the interface's lines
unfoldable pub interface_text : (name : List ℕ) → Option (List ℕ) → List Signal → List ℕ
interface_text name report ports =
    line (codes "module " ++ name ++ codes " (mbac_clk, mbac_rst, mbac_eot, " ++ names_text ports
    ++ codes "mbac_fail);")
    ++ report_line report ++ input_lines ++ flat_map port_line ports ++ output_line

pub record IsInterface (bytes : List ℕ) (read : Interface) : Type 0 where
  pub identifier : IsIdentifier read.0.0
  pub prefix : starts_with nat_eq read.0.0 checker_prefix ≡ true
  pub report : IfSome read.0.1 IsReport
  pub ports : IsPortList read.0.2
  pub distinct : AllPairs (λ p q. p ≢ q) (map (λ (p : Signal). p.name) read.0.2)
  pub state : read.0.3 ≡ extended first_state (map (λ (p : Signal). p.name) read.0.2)
      (map (λ (p : Signal). p.width) read.0.2)
  pub text : bytes ≡ interface_text read.0.0 read.0.1 read.0.2 ++ read.1

pub lines_apart : (name names report inputs ports output rest : List ℕ) →
    (line (codes "module " ++ name ++ codes " (mbac_clk, mbac_rst, mbac_eot, " ++ names ++ codes "mbac_fail);")
    ++ report ++ inputs ++ ports ++ output) ++ rest
    ≡ codes "module " ++ (name
    ++ (inputs_text ++ (names ++ (codes "mbac_fail);\n" ++ (report ++ (inputs ++ (ports ++ (output ++ rest))))))))
lines_apart name names report inputs ports output rest = simp append_assoc

inputs_at-only : (bytes rest : List ℕ) → inputs_at bytes ≡ Some rest → bytes ≡ input_lines ++ rest
unfolding inputs_at input_lines
inputs_at-only bytes rest e =
    let reset = bind_some {A = List ℕ} {B = List ℕ} _ _ rest e in
    let end = bind_some {A = List ℕ} {B = List ℕ} _ _ rest reset.2 in
    let one = after_text-only (codes "  input mbac_clk;\n") bytes reset.0 reset.1 in
    let two = after_text-only (codes "  input mbac_rst;\n") reset.0 end.0 end.1 in
    let three = after_text-only (codes "  input mbac_eot;\n") end.0 rest end.2 in
    one ∙ ap (λ t. codes "  input mbac_clk;\n" ++ t) (two ∙ ap (λ t. codes "  input mbac_rst;\n" ++ t) three)

-- the reading of an interface, from each step on

abbrev Header : Type 0
Header = (List ℕ × List Signal) × List ℕ

abbrev Report : Type 0
Report = Option (List ℕ) × List ℕ

abbrev Ports : Type 0
Ports = List Signal × List ℕ

abbrev from_state : Header → Report → Ports → State → Option Interface
from_state h r p s = after_text output_line p.1 >>= λ rest. Some ((h.0.0, r.0, p.0, s), rest)

abbrev from_ports : Header → Report → Ports → Option Interface
from_ports h r p = add_ports first_state p.0 >>= λ s. from_state h r p s

abbrev from_inputs : Header → Report → List ℕ → Option Interface
from_inputs h r i = ports_at h.0.1 i >>= λ p. from_ports h r p

abbrev from_report : Header → Report → Option Interface
from_report h r = inputs_at r.1 >>= λ i. from_inputs h r i

abbrev from_names : Header → Option Interface
from_names h = report_at h.1 >>= λ r. from_report h r

abbrev from_header : Header → Option Interface
from_header h = add_ports first_state h.0.1 >>= λ _. from_names h

pub interface_at-only : (bytes : List ℕ) (read : Interface) → interface_at bytes ≡ Some read → IsInterface bytes read
unfolding interface_at interface_text
interface_at-only bytes read e =
    let header = bind_some (header_at bytes) from_header read e in
    let names = bind_some (add_ports first_state header.0.0.1) (λ _. from_names header.0) read header.2 in
    let report = bind_some (report_at header.0.1) (from_report header.0) read names.2 in
    let inputs = bind_some (inputs_at report.0.1) (from_inputs header.0 report.0) read report.2 in
    let ports = bind_some (ports_at header.0.0.1 inputs.0) (from_ports header.0 report.0) read inputs.2 in
    let state = bind_some (add_ports first_state ports.0.0) (from_state header.0 report.0 ports.0) read ports.2 in
    let rest =
    bind_some (after_text output_line ports.0.1)
    (λ rest. Some ((header.0.0.0, report.0.0, ports.0.0, state.0), rest)) read state.2 in
    let is : ((header.0.0.0, report.0.0, ports.0.0, state.0), rest.0) ≡ read = some_inj _ _ rest.2 in
    let one = header_at-only bytes header.0 header.1 in
    let two = report_at-only header.0.1 report.0 report.1 in
    let three = ports_at-only header.0.0.1 inputs.0 ports.0 ports.1 in
    let four : report.0.1 ≡ input_lines ++ inputs.0 = inputs_at-only report.0.1 inputs.0 inputs.1 in
    let five : ports.0.1 ≡ output_line ++ rest.0 = after_text-only output_line ports.0.1 rest.0 rest.1 in
    let tail : header.0.1 ≡ report_line report.0.0
    ++ (input_lines ++ (flat_map port_line ports.0.0 ++ (output_line ++ rest.0))) =
    two.1 ∙ ap (λ t. report_line report.0.0 ++ t)
    (four ∙ ap (λ t. input_lines ++ t) (three.1 ∙ ap (λ t. flat_map port_line ports.0.0 ++ t) five)) in
    let names_are : names_text header.0.0.1 ≡ names_text ports.0.0 = same_header ports.0.0 header.0.0.1 three.0 in
    let all : bytes ≡ codes "module "
    ++ (header.0.0.0
    ++ (inputs_text
    ++ (names_text ports.0.0
    ++ (codes "mbac_fail);\n"
    ++ (report_line report.0.0 ++ (input_lines ++ (flat_map port_line ports.0.0 ++ (output_line ++ rest.0)))))))) =
    one.text ∙ ap (λ n. codes "module "
    ++ (header.0.0.0 ++ (inputs_text ++ (n ++ (codes "mbac_fail);\n" ++ header.0.1))))) names_are
    ∙ ap (λ t. codes "module "
    ++ (header.0.0.0 ++ (inputs_text ++ (names_text ports.0.0 ++ (codes "mbac_fail);\n" ++ t))))) tail in
    subst (λ (r : Interface). IsInterface bytes r) is record {
      identifier = one.identifier;
      prefix = one.prefix;
      report = two.0;
      ports = port_list ports.0.0 header.0.0.1 three.0 one.usable;
      distinct = ports_differ ports.0.0 first_state state.0 state.1;
      state = add_ports-only ports.0.0 first_state state.0 state.1;
      text =
          all ∙ sym (lines_apart header.0.0.0 (names_text ports.0.0) (report_line report.0.0) input_lines
          (flat_map port_line ports.0.0) output_line rest.0);
    }

-- the behaviour

abbrev pub Behaviour : Type 0
Behaviour = (Expr × List Register) × List ℕ

pub record IsBehaviour (state : State) (widths bytes : List ℕ) (read : Behaviour) : Type 0 where
  pub fail : IsPhrase state read.0.0
  pub updates : AreUpdates state widths read.0.1
  pub text : bytes ≡ (fail_line state.0 read.0.0 ++ each_numbered (always_line state.0) 0 read.0.1 ++ end_line)
      ++ read.1

pub three_apart : (one two three rest : List ℕ) → (one ++ two ++ three) ++ rest ≡ one ++ (two ++ (three ++ rest))
three_apart one two three rest = simp append_assoc

pub behaviour_at-only : (state : State) → length state.0 ≡ length state.1 → (widths bytes : List ℕ) (read : Behaviour) →
    behaviour_at state widths bytes ≡ Some read → IsBehaviour state widths bytes read
unfolding behaviour_at
behaviour_at-only state lengths widths bytes read e =
    let fail = bind_some {A = Expr × List ℕ} {B = Behaviour} _ _ _ e in
    let updates = bind_some {A = List Register × List ℕ} {B = Behaviour} _ _ _ fail.2 in
    let rest = bind_some {A = List ℕ} {B = Behaviour} _ _ _ updates.2 in
    let is : ((fail.0.0, updates.0.0), rest.0) ≡ read = some_inj _ _ rest.2 in
    let one = fail_at-only state lengths bytes fail.0 fail.1 in
    let two = updates_at-only state lengths 0 widths fail.0.1 updates.0 updates.1 in
    let lines = each_numbered (always_line state.0) 0 updates.0.0 in
    let all : bytes ≡ fail_line state.0 fail.0.0 ++ (lines ++ (end_line ++ rest.0)) =
    one.1 ∙ ap (λ t. fail_line state.0 fail.0.0 ++ t)
    (two.1 ∙ ap (λ t. lines ++ t) (after_text-only end_line updates.0.1 rest.0 rest.1)) in
    subst (λ (r : Behaviour). IsBehaviour state widths bytes r) is record {
      fail = one.0;
      updates = two.0;
      text =
          all ∙ sym (three_apart (fail_line state.0 fail.0.0) lines end_line rest.0);
    }
