-- The core sequence as which a sequence is counted. It has the words of the one that the sequence stands for, and fewer
-- places: a range shares its lowest count, and copies are told by their number.
use Rattle.std.specs.Prelude.{ℕ, zero, suc, ◌-◌, Option, Some, None}
use Rattle.psl_model.specs.Expr.{Expr, unary}
use Rattle.psl_model.specs.Sere as sere
use Rattle.psl_model.specs.declared.operators.UnOp.TheVariants.{Not}
use Rattle.psl_meaning.specs.SequenceSugar.{always_true}
use Rattle.psl_rewrite.specs.CoreSere.{CoreSere, bool, empty, concat, fuse, or, both, star, power}

-- any finite list without bottoms
abbrev pub anything : CoreSere
anything = star (bool always_true)

-- so many copies joined by `;`
abbrev pub copied : (count : ℕ) → CoreSere → CoreSere
copied zero r = empty
copied (suc zero) r = r
copied (suc (suc count)) r = power r (suc (suc count))

-- at least `low` copies, and at most `more` behind them
abbrev pub ranged : (low more : ℕ) → CoreSere → CoreSere
ranged low zero r = copied low r
ranged low (suc more) r = concat (copied low r) (copied (suc more) (or empty r))

-- r[*low:high], where no high is `inf`
abbrev pub counted_repeat : (low : ℕ) → (high : Option ℕ) → CoreSere → CoreSere
counted_repeat low (Some high) r = ranged low (high - low) r
counted_repeat zero None r = star r
counted_repeat (suc low) None r = concat (copied (suc low) r) (star r)

-- any number of cycles without b
abbrev pub without : Expr → CoreSere
without b = star (bool (unary Not b))

-- b[->]: up to the next cycle with b
abbrev pub next_with : Expr → CoreSere
next_with b = concat (without b) (bool b)

abbrev pub counted_as : sere.Sere → CoreSere
counted_as (sere.bool b) = bool b
counted_as (sere.concat r s) = concat (counted_as r) (counted_as s)
counted_as (sere.fuse r s) = fuse (counted_as r) (counted_as s)
counted_as (sere.or r s) = or (counted_as r) (counted_as s)
counted_as (sere.both r s) = both (counted_as r) (counted_as s)
-- r & s: both begin together, and the longer one ends last
counted_as (sere.meet r s) =
    or (both (counted_as r) (concat (counted_as s) anything)) (both (concat (counted_as r) anything) (counted_as s))
counted_as (sere.within r s) = both (concat (concat anything (counted_as r)) anything) (counted_as s)
counted_as (sere.repeat r low high) = counted_repeat low high (counted_as r)
counted_as (sere.goto b low high) = counted_repeat low high (next_with b)
counted_as (sere.equal b low high) = concat (counted_repeat low high (next_with b)) (without b)
