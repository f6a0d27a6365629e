-- What a writer does to the bytes that it adds to.
use Rattle.std.specs.Prelude.{◌≡◌, ℕ, List, ◌++◌}

-- the bytes have kept what was there, and maybe gained some at their end
pub record Extends (before after : List ℕ) : Type 0 where
  pub rest : List ℕ
  pub gained : after ≡ before ++ rest
