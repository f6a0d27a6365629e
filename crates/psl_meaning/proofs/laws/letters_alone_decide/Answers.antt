use Rattle.std.proofs.Common.{sym}
use Rattle.psl_meaning.proofs.Order.{same_below, satisfied_above}
use Rattle.psl_meaning.proofs.laws.letters_alone_decide.Goals as goal

pub returns : goal.returns
returns c widths f w v same = (
  satisfied_above widths f w v (same_below w v same),
  satisfied_above widths f v w (same_below v w (λ k. sym (same k))),
)
