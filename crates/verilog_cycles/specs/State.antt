-- What contracts see of a cycle machine.
use Rattle.std.specs.Prelude.{ℕ, List}
use Rattle.verilog_text.specs.declared.module.Module.{Module}

-- the module that was loaded, and the values of its registers
pub record State : Type 0 where
  pub loaded : Module
  pub registers : List ℕ
