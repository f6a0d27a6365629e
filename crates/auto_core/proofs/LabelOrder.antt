-- The order of literals as an order of numbers.
use Rattle.std.proofs.Common.{◌≡◌, ℕ, ◌+◌, ◌*◌, ◌<◌, ◌≤◌, Bool, true, false, cond, ltb, sym, ap, ◌∙◌, arith}
use Rattle.std.proofs.lemmas.Bool.Decides.{nat_tests}
use Rattle.auto_core.specs.declared.labels.Literal.{Literal}
use Rattle.auto_core.specs.LiteralSets.{precedes}

-- twice the symbol, and one more at a positive sign
abbrev pub rank : Literal → ℕ
rank l = 2 * l.symbol + cond l.positive 1 0

ltb_true : (a b : ℕ) → ltb a b ≡ true → a < b
ltb_true a b h = grind (arith, nat_tests)

ltb_false : (a b : ℕ) → ltb a b ≡ false → b ≤ a
ltb_false a b h = grind (arith, nat_tests)

true_ltb : (a b : ℕ) → a < b → ltb a b ≡ true
true_ltb a b h = grind (arith, nat_tests)

by_sign : (s : ℕ) (p : Bool) (t : ℕ) (q : Bool) → precedes (record { symbol = s; positive = p })
    (record { symbol = t; positive = q }) ≡ ltb (2 * s + cond p 1 0) (2 * t + cond q 1 0)
by_sign s true t true = grind (arith, nat_tests)
by_sign s true t false = grind (arith, nat_tests)
by_sign s false t true = grind (arith, nat_tests)
by_sign s false t false = grind (arith, nat_tests)

pub precedes-rank : (a b : Literal) → precedes a b ≡ ltb (rank a) (rank b)
precedes-rank a b = by_sign a.symbol a.positive b.symbol b.positive

pub rank-below : (a b : Literal) → precedes a b ≡ true → rank a < rank b
rank-below a b h = ltb_true (rank a) (rank b) (sym (precedes-rank a b) ∙ h)

pub rank-not_below : (a b : Literal) → precedes a b ≡ false → rank b ≤ rank a
rank-not_below a b h = ltb_false (rank a) (rank b) (sym (precedes-rank a b) ∙ h)

pub precedes-from_rank : (a b : Literal) → rank a < rank b → precedes a b ≡ true
precedes-from_rank a b h = precedes-rank a b ∙ true_ltb (rank a) (rank b) h

same_parts : (s : ℕ) (p : Bool) (t : ℕ) (q : Bool) → 2 * s + cond p 1 0 ≡ 2 * t + cond q 1 0 →
    ◌≡◌ {A = Literal} (record { symbol = s; positive = p }) (record { symbol = t; positive = q })
same_parts s true t true h = let e : s ≡ t = omega arith in ap (λ (n : ℕ). record { symbol = n; positive = true }) e
same_parts s true t false h = absurd (omega arith)
same_parts s false t true h = absurd (omega arith)
same_parts s false t false h = let e : s ≡ t = omega arith in ap (λ (n : ℕ). record { symbol = n; positive = false }) e

-- two literals of one rank are one literal
pub rank-same : (a b : Literal) → rank a ≡ rank b → a ≡ b
rank-same a b h = same_parts a.symbol a.positive b.symbol b.positive h
