use Rattle.std.proofs.Common.{◌≡◌, drop}
use Rattle.verilog_text.specs.Text.{infix_text}
use Rattle.verilog_reader.specs.inner.Pieces.{first_of}
use Rattle.verilog_reader.proofs.symbols.first_infix.Given as goal

abbrev pub invariant-loop-op : goal.invariant-loop-op
invariant-loop-op l = first_of infix_text (drop l.op-index l.operators) l.bytes
    ≡ first_of infix_text l.operators l.bytes
