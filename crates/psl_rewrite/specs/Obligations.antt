-- The sequences that a formula obliges to happen, and which of them can't.
use Rattle.std.specs.Prelude.{ℕ, suc, List, replicate}
use Rattle.psl_model.specs.Sere.{Sere}
use Rattle.psl_model.specs.Formula.{Formula, bool, not, and, or, implies, iff, seq, suffix, always, never, eventually}
use Rattle.psl_model.specs.Formula.{next, event, until, before, abort}
use Rattle.psl_meaning.specs.Word.{top}
use Rattle.psl_meaning.specs.Sequence.{Tight}
use Rattle.psl_meaning.specs.SequenceSugar.{core_of}

-- some non-empty list of tops tightly satisfies it: no two of its demands exclude each other
abbrev pub CanHappen : (widths : List ℕ) → Sere → Type 0
CanHappen widths r = (n : ℕ) × Tight widths (core_of r) (replicate (suc n) top)

abbrev pub IsContradictory : (widths : List ℕ) → Sere → Type 0
IsContradictory widths r = ¬ CanHappen widths r

-- P of each sequence that stands as a formula or under `eventually!`. One under `never` or before `|->` obliges to
-- nothing.
abbrev pub EachObligation : (Sere → Type 0) → Formula → Type 0
EachObligation P (bool e) = Unit {0}
EachObligation P (not f) = EachObligation P f
EachObligation P (and f g) = EachObligation P f × EachObligation P g
EachObligation P (or f g) = EachObligation P f × EachObligation P g
EachObligation P (implies f g) = EachObligation P f × EachObligation P g
EachObligation P (iff f g) = EachObligation P f × EachObligation P g
EachObligation P (seq r s) = P r
EachObligation P (suffix r l f) = EachObligation P f
EachObligation P (always f) = EachObligation P f
EachObligation P (never (seq r s)) = Unit {0}
EachObligation P (never f) = EachObligation P f
EachObligation P (eventually f) = EachObligation P f
EachObligation P (next s r l h f) = EachObligation P f
EachObligation P (event e s r l h f) = EachObligation P f
EachObligation P (until s o f g) = EachObligation P f × EachObligation P g
EachObligation P (before s o f g) = EachObligation P f × EachObligation P g
EachObligation P (abort f e) = EachObligation P f
