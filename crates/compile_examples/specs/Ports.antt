-- What the modules of these tests are called and watch.
use Rattle.std.specs.Prelude.{ℕ, List, [], ◌∷◌, codes}
use Rattle.psl_model.specs.declared.names.Signal.{Signal}

abbrev pub module_name : List ℕ
module_name = codes "mbac_u_1"

-- a counter of four bits
abbrev pub counter : List Signal
counter = record { name = codes "cnt"; width = 4 } ∷ []
