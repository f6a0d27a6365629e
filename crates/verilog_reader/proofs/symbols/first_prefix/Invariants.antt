use Rattle.std.proofs.Common.{◌≡◌, drop}
use Rattle.verilog_text.specs.Text.{unary_symbol}
use Rattle.verilog_reader.specs.inner.Pieces.{first_of}
use Rattle.verilog_reader.proofs.symbols.first_prefix.Given as goal

abbrev pub invariant-loop-op : goal.invariant-loop-op
invariant-loop-op l = first_of unary_symbol (drop l.op-index l.operators) l.bytes
    ≡ first_of unary_symbol l.operators l.bytes
