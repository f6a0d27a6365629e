use Rattle.std.proofs.Common.{◌≡◌, refl, arith}
use Rattle.std.specs.Prelude.{codes, decimal}
use Rattle.std.proofs.lemmas.Fmt.{decimal_digit}
use Rattle.verilog_text.specs.Module.{names_of}
use Rattle.verilog_text.specs.Text.{sized_text, range_text, header_line, report_line, input_lines, port_line}
use Rattle.verilog_text.specs.Text.{output_line, register_name, register_line, wire_name, wire_declaration, wire_line}
use Rattle.verilog_text.specs.Text.{fail_line, update_text, always_line, end_line, interface_lines, declaration_lines}
use Rattle.verilog_text.specs.Text.{behaviour_lines}
use Rattle.verilog_text.proofs.examples.small_checker_is_spelled.Goals as goal

pub returns : goal.returns
unfolding names_of sized_text range_text header_line report_line input_lines port_line output_line register_name
    register_line wire_name wire_declaration wire_line fail_line update_text always_line end_line interface_lines
    declaration_lines behaviour_lines
returns c =
    let nought : decimal 0 ≡ codes "0" = decimal_digit 0 (omega arith) in
    let one : decimal 1 ≡ codes "1" = decimal_digit 1 (omega arith) in
    rw (nought, one) refl
