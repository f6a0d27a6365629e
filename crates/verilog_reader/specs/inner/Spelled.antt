-- What an expression that was read is worth.
use Rattle.std.specs.Prelude.{◌≡◌, ℕ, ◌≤◌, Bool, List, ◌++◌}
use Rattle.psl_model.specs.Expr.{Expr}
use Rattle.psl_model.specs.Valid.{IsValid, parentheses, is_bare}
use Rattle.verilog_text.specs.Module.{Module, IsLawful}
use Rattle.verilog_text.specs.Text.{expression_text, spelling}

-- the bytes are the expression's text and the rest; it is valid, and not too deep
pub record IsSpelled (names : List (List ℕ)) (widths : List ℕ) (room : ℕ) (bytes : List ℕ)
    (read : Expr × Bool × List ℕ) : Type 0 where
  pub text : bytes ≡ expression_text names read.0 ++ read.2
  pub valid : IsValid widths read.0
  pub shallow : parentheses read.0 ≤ room
  pub bare : read.1 ≡ is_bare read.0

-- the bytes are a lawful module's text and the rest
pub record IsModuleText (bytes : List ℕ) (m : Module) (rest : List ℕ) : Type 0 where
  pub lawful : IsLawful m
  pub text : bytes ≡ spelling m ++ rest
