-- The formula that a base form means breaks no rule.
use Rattle.std.proofs.Common.{[], refl}
use Rattle.simple_subset.specs.Subset.{broken_rules, InSubset}
use Rattle.psl_rewrite.specs.Base as base
use Rattle.psl_rewrite.specs.Base.{Base}
use Rattle.psl_rewrite.specs.Meaning.{named}
use Rattle.psl_rewrite.proofs.Demands.{joined}

pub named_simple : (b : Base) → InSubset (named b)
named_simple (base.bool e) = refl
named_simple (base.and f g) =
    joined (broken_rules (named f)) (broken_rules (named g)) (named_simple f) (named_simple g)
named_simple (base.or_bool e f) = named_simple f
named_simple (base.implies e f) = named_simple f
named_simple (base.always f) = named_simple f
named_simple (base.next s k f) = named_simple f
named_simple (base.next_all s l h f) = named_simple f
named_simple (base.next_some s l h e) = refl
named_simple (base.until s f e) = joined (broken_rules (named f)) [] (named_simple f) refl
named_simple (base.event s on l h f) = named_simple f
named_simple (base.event_some s on l h e) = refl
named_simple (base.seq r s) = refl
named_simple (base.eventually r) = refl
named_simple (base.suffix r f) = named_simple f
named_simple (base.abort f e) = named_simple f
