-- What each formula of PSL stands for, after IEEE 1850-2010, Annex B (sugar of FL formulas). `never` and `eventually!`
-- over a sequence and the overlapping `before` forms are this project's own readings.
use Rattle.std.specs.Prelude.{ℕ, zero, suc, ◌+◌, ◌-◌, Bool, true, false}
use Rattle.psl_model.specs.Expr.{Expr}
use Rattle.psl_model.specs.Formula as formula
use Rattle.psl_model.specs.declared.formulas.Reach.{Reach}
use Rattle.psl_model.specs.declared.formulas.Reach.TheVariants as reach
use Rattle.psl_meaning.specs.Sequence as sequence
use Rattle.psl_meaning.specs.SequenceSugar.{always_true, core_of}
use Rattle.psl_meaning.specs.Formula.{CoreFormula, bool, not, and, strong, weak, strong_next, strong_until, abort}
use Rattle.psl_meaning.specs.Formula.{suffix}

abbrev pub or : CoreFormula → CoreFormula → CoreFormula
or f g = not (and (not f) (not g))

abbrev pub implies : CoreFormula → CoreFormula → CoreFormula
implies f g = or (not f) g

-- F f: f at some place
abbrev pub somewhere : CoreFormula → CoreFormula
somewhere f = strong_until (bool always_true) f

-- G f: f at each place
abbrev pub everywhere : CoreFormula → CoreFormula
everywhere f = not (somewhere (not f))

-- X f
abbrev pub weak_next : CoreFormula → CoreFormula
weak_next f = not (strong_next (not f))

-- [f W g]
abbrev pub weak_until : CoreFormula → CoreFormula → CoreFormula
weak_until f g = or (strong_until f g) (everywhere f)

abbrev pub next_by : (strong : Bool) → CoreFormula → CoreFormula
next_by true f = strong_next f
next_by false f = weak_next f

abbrev pub until_by : (strong : Bool) → CoreFormula → CoreFormula → CoreFormula
until_by true f g = strong_until f g
until_by false f g = weak_until f g

-- a sequence as a formula, with `!` or without
abbrev pub sequence_by : (strong : Bool) → sequence.CoreSere → CoreFormula
sequence_by true r = strong r
sequence_by false r = weak r

-- next[k] f: k cycles later
abbrev pub next_times : (strong : Bool) → ℕ → CoreFormula → CoreFormula
next_times s zero f = f
next_times s (suc k) f = next_by s (next_times s k f)

-- next_event(b) f: in the next cycle with b, this one included
abbrev pub next_event : (strong : Bool) → Expr → CoreFormula → CoreFormula
next_event s b f = until_by s (not (bool b)) (and (bool b) f)

-- next_event(b)[k] f: in the k-th cycle with b. No unit has a count of 0.
abbrev pub event_times : (strong : Bool) → Expr → ℕ → CoreFormula → CoreFormula
event_times s b zero f = f
event_times s b (suc zero) f = next_event s b f
event_times s b (suc (suc k)) f = next_event s b (next_by s (event_times s b (suc k) f))

-- each, or some, of the formulas with the numbers from low to low + more
abbrev pub conjunction : (ℕ → CoreFormula) → (low more : ℕ) → CoreFormula
conjunction f low zero = f low
conjunction f low (suc more) = and (conjunction f low more) (f (low + suc more))

abbrev pub disjunction : (ℕ → CoreFormula) → (low more : ℕ) → CoreFormula
disjunction f low zero = f low
disjunction f low (suc more) = or (disjunction f low more) (f (low + suc more))

abbrev pub over_reach : Reach → (ℕ → CoreFormula) → (low high : ℕ) → CoreFormula
over_reach reach.One f low high = f low
over_reach reach.All f low high = conjunction f low (high - low)
over_reach reach.Some f low high = disjunction f low (high - low)

abbrev pub core_formula_of : formula.Formula → CoreFormula
core_formula_of (formula.bool e) = bool e
core_formula_of (formula.not f) = not (core_formula_of f)
core_formula_of (formula.and f g) = and (core_formula_of f) (core_formula_of g)
core_formula_of (formula.or f g) = or (core_formula_of f) (core_formula_of g)
core_formula_of (formula.implies f g) = implies (core_formula_of f) (core_formula_of g)
core_formula_of (formula.iff f g) =
    and (implies (core_formula_of f) (core_formula_of g)) (implies (core_formula_of g) (core_formula_of f))
core_formula_of (formula.seq r s) = sequence_by s (core_of r)
core_formula_of (formula.suffix r false f) = suffix (core_of r) (core_formula_of f)
-- r |=> f is {r;true} |-> f
core_formula_of (formula.suffix r true f) =
    suffix (sequence.concat (core_of r) (sequence.bool always_true)) (core_formula_of f)
core_formula_of (formula.always f) = everywhere (core_formula_of f)
-- a sequence under `never` or `eventually!` is taken as strong
core_formula_of (formula.never (formula.seq r s)) = everywhere (not (strong (core_of r)))
core_formula_of (formula.never f) = everywhere (not (core_formula_of f))
core_formula_of (formula.eventually (formula.seq r s)) = somewhere (strong (core_of r))
core_formula_of (formula.eventually f) = somewhere (core_formula_of f)
core_formula_of (formula.next s reach low high f) = over_reach reach (λ k. next_times s k (core_formula_of f)) low high
core_formula_of (formula.event b s reach low high f) =
    over_reach reach (λ k. event_times s b k (core_formula_of f)) low high
-- with the overlap f holds in the cycle of g too
core_formula_of (formula.until s false f g) = until_by s (core_formula_of f) (core_formula_of g)
core_formula_of (formula.until s true f g) =
    until_by s (core_formula_of f) (and (core_formula_of f) (core_formula_of g))
-- without the overlap f comes in an earlier cycle than g
core_formula_of (formula.before s false f g) =
    until_by s (not (core_formula_of g)) (and (core_formula_of f) (not (core_formula_of g)))
core_formula_of (formula.before s true f g) = until_by s (not (core_formula_of g)) (core_formula_of f)
core_formula_of (formula.abort f on) = abort (core_formula_of f) on
