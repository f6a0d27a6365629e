-- What core sequences and base formulas mean.
--     meant_core r     the core sequence of PSL that r means: a power is so many copies joined by `;`
--     named f          the formula that f means: the one that its variant names
use Rattle.std.specs.Prelude.{false}
use Rattle.psl_model.specs.Formula as formula
use Rattle.psl_model.specs.declared.formulas.Reach.TheVariants as reach
use Rattle.psl_meaning.specs.Sequence as psl
use Rattle.psl_meaning.specs.SequenceSugar.{copies}
use Rattle.psl_rewrite.specs.CoreSere as core
use Rattle.psl_rewrite.specs.Base.{Base, bool, and, or_bool, implies, always, next, next_all, next_some, until, event}
use Rattle.psl_rewrite.specs.Base.{event_some, seq, eventually, suffix, abort}

abbrev pub meant_core : core.CoreSere → psl.CoreSere
meant_core (core.bool e) = psl.bool e
meant_core core.empty = psl.empty
meant_core (core.concat r s) = psl.concat (meant_core r) (meant_core s)
meant_core (core.fuse r s) = psl.fuse (meant_core r) (meant_core s)
meant_core (core.or r s) = psl.or (meant_core r) (meant_core s)
meant_core (core.both r s) = psl.both (meant_core r) (meant_core s)
meant_core (core.star r) = psl.star (meant_core r)
meant_core (core.power r k) = copies k (meant_core r)

abbrev pub named : Base → formula.Formula
named (bool e) = formula.bool e
named (and f g) = formula.and (named f) (named g)
named (or_bool e f) = formula.or (formula.bool e) (named f)
named (implies e f) = formula.implies (formula.bool e) (named f)
named (always f) = formula.always (named f)
named (next s k f) = formula.next s reach.One k k (named f)
named (next_all s low high f) = formula.next s reach.All low high (named f)
named (next_some s low high e) = formula.next s reach.Some low high (formula.bool e)
named (until s f e) = formula.until s false (named f) (formula.bool e)
named (event s on low high f) = formula.event on s reach.All low high (named f)
named (event_some s on low high e) = formula.event on s reach.Some low high (formula.bool e)
named (seq r s) = formula.seq r s
-- under `eventually!` a sequence is taken as strong
named (eventually r) = formula.eventually (formula.seq r false)
named (suffix r f) = formula.suffix r false (named f)
named (abort f e) = formula.abort (named f) e
