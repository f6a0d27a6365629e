-- Parts of formulas of which the base form is built.
use Rattle.std.specs.Prelude.{ℕ, Bool, true, false, nat_le}
use Rattle.psl_model.specs.Formula.{Formula, seq}
use Rattle.psl_model.specs.declared.formulas.Reach.{Reach}
use Rattle.psl_model.specs.declared.formulas.Reach.TheVariants as reach

abbrev pub fits_reach : Reach → (low high : ℕ) → Bool
fits_reach reach.One low high = true
fits_reach reach.All low high = nat_le low high
fits_reach reach.Some low high = false

abbrev pub is_sequence : Formula → Bool
is_sequence (seq r s) = true
is_sequence f = false
