-- That a comparison of pairs, or of the states of two parts, answers true only at the same one, from the same of its
-- parts.
use Rattle.std.specs.Prelude.{◌≡◌, ◌&&◌, Bool, true, false}
use Rattle.std.proofs.Common.{◌∙◌, sym, ap}
use Rattle.std.proofs.lemmas.Bool.{false≢true, and_parts}
use Rattle.automata_product.specs.declared.side.Side.{Side}
use Rattle.automata_product.specs.declared.side.Side.TheVariants.{Left, Right}

-- the comparison answers true only at equal values
abbrev pub IsExact : {S : Type 0} → (S → S → Bool) → Type 0
IsExact {S} eq = (x y : S) → eq x y ≡ true → x ≡ y

-- the comparison of states of two parts compares as those of the parts do
pub record ComparesSides {S T : Type 0} (eq : Side S T → Side S T → Bool) (lefts : S → S → Bool)
    (rights : T → T → Bool) : Type 0 where
  pub left : (p q : S) → eq (Left p) (Left q) ≡ lefts p q
  pub right : (p q : T) → eq (Right p) (Right q) ≡ rights p q
  pub left_right : (p : S) (q : T) → eq (Left p) (Right q) ≡ false
  pub right_left : (p : T) (q : S) → eq (Right p) (Left q) ≡ false

module _ {S T : Type 0} {lefts : S → S → Bool} {rights : T → T → Bool} (first : IsExact lefts)
    (second : IsExact rights) where
  pub same_pair : IsExact {S = S × T} (λ x y. lefts x.0 y.0 && rights x.1 y.1)
  same_pair x y h =
      let both = and_parts (lefts x.0 y.0) (rights x.1 y.1) h in
      let step : ◌≡◌ {A = S × T} (x.0, x.1) (y.0, x.1) = ap (λ p. (p, x.1)) (first x.0 y.0 both.0) in
      let rest : ◌≡◌ {A = S × T} (y.0, x.1) (y.0, y.1) = ap (λ q. (y.0, q)) (second x.1 y.1 both.1) in
      step ∙ rest

  pub same_side : {eq : Side S T → Side S T → Bool} → ComparesSides eq lefts rights → IsExact eq
  same_side compares (Left p) (Left q) h = ap (λ s. Left s) (first p q (sym (compares.left p q) ∙ h))
  same_side compares (Left p) (Right q) h = absurd (false≢true (sym (compares.left_right p q) ∙ h))
  same_side compares (Right p) (Left q) h = absurd (false≢true (sym (compares.right_left p q) ∙ h))
  same_side compares (Right p) (Right q) h = ap (λ s. Right s) (second p q (sym (compares.right p q) ∙ h))
