use Rattle.std.proofs.Common.{◌≡◌, ℕ, List, Some}
use Rattle.std.specs.Prelude.{codes}
use Rattle.verilog_reader.specs.inner.Pieces.{after_text}
use Rattle.verilog_reader.specs.inner.Lines.{inputs_at}
use Rattle.verilog_reader.proofs.modules.expect_inputs.Goals as goal

inputs_are : (bytes reset end rest : List ℕ) → after_text (codes "  input mbac_clk;\n") bytes ≡ Some reset →
    after_text (codes "  input mbac_rst;\n") reset ≡ Some end →
    after_text (codes "  input mbac_eot;\n") end ≡ Some rest → inputs_at bytes ≡ Some rest
unfolding inputs_at
inputs_are bytes reset end rest one two three = rw (one, two) three

pub returns : goal.returns
returns c =
    inputs_are c.args.bytes.now c.in_ok-reset.reset.now c.in_ok-end.end.now c.in_ok-rest.rest.now c.in_ok-reset.ensures
    c.in_ok-end.ensures c.in_ok-rest.ensures
