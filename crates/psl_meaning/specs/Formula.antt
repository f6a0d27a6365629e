-- Formulas and the words that satisfy them, after IEEE 1850-2010, Annex B. Weak sequences and `abort` are this
-- project's own readings, for words that a simulation may cut off.
use Rattle.std.specs.Prelude.{◌⊎◌, ℕ, suc, ◌<◌, List, IfSome, IsSomeAnd}
use Rattle.psl_model.specs.Expr.{Expr}
use Rattle.psl_meaning.specs.Word.{Word, with_tops, letter_at, Reaches, first, from, bar}
use Rattle.psl_meaning.specs.Sequence.{CoreSere, Holds, Tight}

-- the formulas that the others stand for
pub data CoreFormula : Type 0 where
  bool : (expr : Expr) → CoreFormula
  not : (body : CoreFormula) → CoreFormula
  and : (left right : CoreFormula) → CoreFormula
  -- r! and r
  strong : (sere : CoreSere) → CoreFormula
  weak : (sere : CoreSere) → CoreFormula
  -- X! f and [f U g]
  strong_next : (body : CoreFormula) → CoreFormula
  strong_until : (left right : CoreFormula) → CoreFormula
  abort : (body : CoreFormula) → (on : Expr) → CoreFormula
  -- r |-> f
  suffix : (sere : CoreSere) → (body : CoreFormula) → CoreFormula

-- a non-empty prefix of the word tightly satisfies the sequence
abbrev pub SomePrefix : (widths : List ℕ) → CoreSere → Word → Type 0
SomePrefix widths r w = (n : ℕ) × Reaches w n × Tight widths r (first (suc n) w)

-- the word satisfies the formula
abbrev pub Satisfies : (widths : List ℕ) → CoreFormula → Word → Type 0
-- the word is empty, or its first letter satisfies the expression
Satisfies widths (bool e) w = IfSome (letter_at w 0) (Holds widths e)
Satisfies widths (not f) w = ¬ Satisfies widths f (bar w)
Satisfies widths (and f g) w = Satisfies widths f w × Satisfies widths g w
Satisfies widths (strong r) w = SomePrefix widths r w
-- no finite prefix, however it goes on, rules out a list of the sequence
Satisfies widths (weak r) w = (n : ℕ) → Reaches w n → SomePrefix widths r (with_tops (first (suc n) w))
Satisfies widths (strong_next f) w = Reaches w 1 × Satisfies widths f (from 1 w)
-- g at some place, and f at each place before it
Satisfies widths (strong_until f g) w = (k : ℕ) × Reaches w k × Satisfies widths g (from k w) ×
    ((j : ℕ) → j < k → Satisfies widths f (from j w))
-- f, or some letter satisfies the expression and f isn't violated before it
Satisfies widths (abort f on) w =
    Satisfies widths f w ⊎
    ((j : ℕ) × IsSomeAnd (letter_at w j) (Holds widths on) × Satisfies widths f (with_tops (first j w)))
-- f from each place at which a prefix that tightly satisfies the sequence ends
Satisfies widths (suffix r f) w = (j : ℕ) → Reaches w j → Tight widths r (first (suc j) (bar w)) →
    Satisfies widths f (from j w)
