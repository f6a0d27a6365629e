-- The smallest checker: its output is 1 in each cycle in which its one port is 0.
use Rattle.std.specs.Prelude.{List, [], ◌∷◌, ℕ, None}
use Rattle.psl_model.specs.declared.operators.UnOp.TheVariants.{Not}
use Rattle.psl_model.specs.declared.names.Signal.{Signal}
use Rattle.psl_model.specs.Expr.{whole, unary}
use Rattle.verilog_text.specs.Module.{Module}

-- its port is at place 2 of its names, behind `mbac_rst` and `mbac_eot`
abbrev pub negation_checker : (name : List ℕ) → (port : Signal) → Module
negation_checker name port = record {
  name = name;
  report = None;
  ports = port ∷ [];
  registers = [];
  wires = [];
  fail = unary Not (whole 2);
}
