-- A small checker, its text and a run of it.
use Rattle.std.specs.Prelude.{ℕ, List, [], ◌∷◌, ◌++◌, None, codes}
use Rattle.psl_model.specs.declared.operators.UnOp.TheVariants.{Not, AnyOne}
use Rattle.psl_model.specs.Expr.{whole, sized, unary}
use Rattle.verilog_text.specs.Module.{Module}
use Rattle.verilog_text.specs.Text.{line}
use Rattle.verilog_text.specs.Run.{Cycle}

-- Its names are, from place 0 on: `mbac_rst`, `mbac_eot`, `a`, `mbac_r0`, `mbac_n0` and `mbac_n1`.
abbrev pub small_checker : Module
small_checker = record {
  name = codes "mbac_u_1";
  report = None;
  ports = record { name = codes "a"; width = 1 } ∷ [];
  registers = record { width = 1; initial = 1; next = sized 1 0 } ∷ [];
  wires = record { width = 1; value = unary AnyOne (whole 2) } ∷ record { width = 1; value = unary Not (whole 4) } ∷ [];
  fail = whole 5;
}

abbrev pub small_text : List ℕ
small_text =
    line (codes "module mbac_u_1 (mbac_clk, mbac_rst, mbac_eot, a, mbac_fail);")
    ++ line (codes "  input mbac_clk;")
    ++ line (codes "  input mbac_rst;")
    ++ line (codes "  input mbac_eot;")
    ++ line (codes "  input a;")
    ++ line (codes "  output mbac_fail;")
    ++ line (codes "  reg mbac_r0;")
    ++ line (codes "  wire mbac_n0 = (|a);")
    ++ line (codes "  wire mbac_n1 = (!mbac_n0);")
    ++ line (codes "  assign mbac_fail = mbac_n1;")
    ++ line (codes "  always @(posedge mbac_clk) mbac_r0 <= (mbac_rst ? 1'd1 : 1'd0);")
    ++ line (codes "endmodule")

-- the port in two cycles after reset: `a` is 1, then 0
abbrev pub one_then_zero : List (List ℕ)
one_then_zero = (1 ∷ []) ∷ (0 ∷ []) ∷ []

abbrev pub never_ending : List ℕ
never_ending = 0 ∷ 0 ∷ []

-- a cycle of reset with the register at 0 and `a` at 0, and the two cycles after it
abbrev pub reset_cycle : Cycle
reset_cycle = record {
  reset = 1;
  end_of_execution = 0;
  ports = 0 ∷ [];
  registers = 0 ∷ [];
  wires = 0 ∷ 1 ∷ [];
  fail = 1;
}

abbrev pub two_cycles : List Cycle
two_cycles =
    record { reset = 0; end_of_execution = 0; ports = 1 ∷ []; registers = 1 ∷ []; wires = 1 ∷ 0 ∷ []; fail = 0 }
    ∷ record { reset = 0; end_of_execution = 0; ports = 0 ∷ []; registers = 0 ∷ []; wires = 0 ∷ 1 ∷ []; fail = 1 }
    ∷ []
