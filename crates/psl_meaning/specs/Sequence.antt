-- Sequences and the words that tightly satisfy them, after IEEE 1850-2010, Annex B.
use Rattle.std.specs.Prelude.{◌≡◌, ◌≢◌, ◌⊎◌, ℕ, zero, suc, List, [], ◌∷◌, ◌++◌}
use Rattle.psl_model.specs.Expr.{Expr}
use Rattle.psl_model.specs.Value.{own_value}
use Rattle.psl_meaning.specs.Word.{Letter, valuation, top, bottom}

-- the sequences that the others stand for
pub data CoreSere : Type 0 where
  bool : (expr : Expr) → CoreSere
  empty : CoreSere
  concat : (left right : CoreSere) → CoreSere
  fuse : (left right : CoreSere) → CoreSere
  or : (left right : CoreSere) → CoreSere
  both : (left right : CoreSere) → CoreSere
  star : (body : CoreSere) → CoreSere

-- A letter satisfies an expression: a valuation where its value isn't 0, top each, bottom none.
-- `widths` has the width of each signal.
abbrev pub Holds : (widths : List ℕ) → Expr → Letter → Type 0
Holds widths e (valuation values) = own_value widths values e ≢ 0
Holds widths e top = Unit {0}
Holds widths e bottom = ⊥

-- the list is n parts one after the other, each of which meets P
abbrev pub Copies : (List Letter → Type 0) → ℕ → List Letter → Type 0
Copies P zero w = w ≡ []
Copies P (suc n) w = (u v : List Letter) × (w ≡ u ++ v) × P u × Copies P n v

-- the finite list tightly satisfies the sequence
abbrev pub Tight : (widths : List ℕ) → CoreSere → List Letter → Type 0
-- one letter, which satisfies the expression
Tight widths (bool e) w = (a : Letter) × (w ≡ a ∷ []) × Holds widths e a
Tight widths empty w = w ≡ []
-- a list of the one and then a list of the other
Tight widths (concat r s) w = (u v : List Letter) × (w ≡ u ++ v) × Tight widths r u × Tight widths s v
-- the two lists overlap in exactly one letter
Tight widths (fuse r s) w = (u v : List Letter) × (a : Letter) × (w ≡ u ++ a ∷ v) × Tight widths r (u ++ a ∷ []) ×
    Tight widths s (a ∷ v)
Tight widths (or r s) w = Tight widths r w ⊎ Tight widths s w
Tight widths (both r s) w = Tight widths r w × Tight widths s w
-- none, one or several lists of it, one after the other
Tight widths (star r) w = (n : ℕ) × Copies (Tight widths r) n w
