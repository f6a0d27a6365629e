-- Modules that tests run. They have no ports.
use Rattle.std.specs.Prelude.{ℕ, [], ◌∷◌, None, codes}
use Rattle.psl_model.specs.declared.operators.BinOp.{BinOp}
use Rattle.psl_model.specs.declared.operators.BinOp.TheVariants.{Add, Eq}
use Rattle.psl_model.specs.Expr.{whole, plain, sized, binary, choice}
use Rattle.verilog_text.specs.Module.{Module}

-- two registers of 4 bits that exchange their values, and whether the first one is 9
abbrev pub exchange : Module
exchange = record {
  name = codes "mbac_exchange";
  report = None;
  ports = [];
  registers = record { width = 4; initial = 5; next = whole 3 } ∷ record { width = 4; initial = 9; next = whole 2 } ∷
      [];
  wires = [];
  fail = binary Eq (whole 2) (sized 4 9);
}

-- an operator over two numbers of 64 bits, and whether its result is a third
abbrev pub comparison : BinOp → (x y z : ℕ) → Module
comparison op x y z = record {
  name = codes "mbac_comparison";
  report = None;
  ports = [];
  registers = record { width = 64; initial = x; next = whole 2 } ∷ record { width = 64; initial = y; next = whole 3 }
      ∷ record { width = 64; initial = z; next = whole 4 } ∷ [];
  wires = record { width = 64; value = binary op (whole 2) (whole 3) } ∷ [];
  fail = binary Eq (whole 5) (whole 4);
}

-- a counter of 4 bits, and whether its next value is 0: with a number of 4 bits at the end of execution, and with one
-- of 32 bits before it
abbrev pub counter : Module
counter = record {
  name = codes "mbac_counter";
  report = None;
  ports = [];
  registers = record { width = 4; initial = 15; next = binary Add (whole 2) (plain 1) } ∷ [];
  wires = record { width = 1; value = binary Eq (binary Add (whole 2) (plain 1)) (plain 0) }
      ∷ record { width = 1; value = binary Eq (binary Add (whole 2) (sized 4 1)) (sized 4 0) } ∷ [];
  fail = choice (whole 1) (whole 4) (whole 3);
}
