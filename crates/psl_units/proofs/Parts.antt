-- Lists that keep some elements of another in their order.
use Rattle.std.proofs.Common.{ℕ, ◌+◌, ◌≤◌, List, [], ◌∷◌, ◌++◌, arith}
use Rattle.psl_grammar.specs.TokenOrder.{AscendFrom}

pub data IsPart : List ℕ → List ℕ → Type 0 where
  none : IsPart [] []
  left_out : {xs ys : List ℕ} (y : ℕ) → IsPart xs ys → IsPart xs (y ∷ ys)
  kept : {xs ys : List ℕ} (x : ℕ) → IsPart xs ys → IsPart (x ∷ xs) (x ∷ ys)

pub whole : (xs : List ℕ) → IsPart xs xs
whole [] = none
whole (x ∷ xs) = kept x (whole xs)

pub nothing : (ys : List ℕ) → IsPart [] ys
nothing [] = none
nothing (y ∷ ys) = left_out y (nothing ys)

pub joined : {xs ys us vs : List ℕ} → IsPart xs ys → IsPart us vs → IsPart (xs ++ us) (ys ++ vs)
joined none q = q
joined (left_out y p) q = left_out y (joined p q)
joined (kept x p) q = kept x (joined p q)

pub behind : {us vs : List ℕ} (ys : List ℕ) → IsPart us vs → IsPart us (ys ++ vs)
behind [] q = q
behind (y ∷ ys) q = left_out y (behind ys q)

ascend_below : (n m : ℕ) (xs : List ℕ) → n ≤ m → AscendFrom m xs → AscendFrom n xs
ascend_below n m [] le h = tt
ascend_below n m (x ∷ xs) le h = (let first : m ≤ x = h.0 in omega arith, h.1)

pub ascend_part : {xs ys : List ℕ} (n : ℕ) → IsPart xs ys → AscendFrom n ys → AscendFrom n xs
ascend_part n none h = tt
ascend_part n (left_out {xs = xs} y p) h =
    let first : n ≤ y = h.0 in ascend_below n (y + 1) xs (omega arith) (ascend_part (y + 1) p h.1)
ascend_part n (kept x p) h = (h.0, ascend_part (x + 1) p h.1)
