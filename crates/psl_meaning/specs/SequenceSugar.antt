-- What each sequence of PSL stands for, after IEEE 1850-2010, Annex B (the SERE operators that are sugar) and 6.1.
use Rattle.std.specs.Prelude.{ℕ, zero, suc, ◌+◌, ◌-◌, Option, Some, None}
use Rattle.psl_model.specs.Expr.{Expr, unary, sized}
use Rattle.psl_model.specs.declared.operators.UnOp.TheVariants.{Not}
use Rattle.psl_model.specs.Sere as sere
use Rattle.psl_meaning.specs.Sequence.{CoreSere, bool, empty, concat, fuse, or, both, star}

-- `true`
abbrev pub always_true : Expr
always_true = sized 1 1

-- any finite list without bottoms
abbrev pub anything : CoreSere
anything = star (bool always_true)

-- k copies joined by `;`
abbrev pub copies : ℕ → CoreSere → CoreSere
copies zero r = empty
copies (suc zero) r = r
copies (suc (suc k)) r = concat (copies (suc k) r) r

-- r[*low] | .. | r[*(low + more)]
abbrev pub union_of_copies : (low more : ℕ) → CoreSere → CoreSere
union_of_copies low zero r = copies low r
union_of_copies low (suc more) r = or (union_of_copies low more r) (copies (low + suc more) r)

-- r[*low:high], where no high is `inf`
abbrev pub repeated : (low : ℕ) → (high : Option ℕ) → CoreSere → CoreSere
repeated low (Some high) r = union_of_copies low (high - low) r
repeated zero None r = star r
repeated (suc low) None r = concat (copies (suc low) r) (star r)

-- b[->]: up to the next cycle with b
abbrev pub next_with : Expr → CoreSere
next_with b = concat (star (bool (unary Not b))) (bool b)

abbrev pub core_of : sere.Sere → CoreSere
core_of (sere.bool e) = bool e
core_of (sere.concat r s) = concat (core_of r) (core_of s)
core_of (sere.fuse r s) = fuse (core_of r) (core_of s)
core_of (sere.or r s) = or (core_of r) (core_of s)
core_of (sere.both r s) = both (core_of r) (core_of s)
-- r & s: both begin together, and the longer one ends last
core_of (sere.meet r s) =
    or (both (core_of r) (concat (core_of s) anything)) (both (concat (core_of r) anything) (core_of s))
core_of (sere.within r s) = both (concat (concat anything (core_of r)) anything) (core_of s)
core_of (sere.repeat r low high) = repeated low high (core_of r)
core_of (sere.goto b low high) = repeated low high (next_with b)
core_of (sere.equal b low high) = concat (repeated low high (next_with b)) (star (bool (unary Not b)))
