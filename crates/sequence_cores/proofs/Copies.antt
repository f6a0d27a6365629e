-- So many parts, one after the other.
use Rattle.std.proofs.Common.{◌≡◌, ◌⊎◌, inl, inr, ℕ, zero, suc, ◌+◌, ◌≤◌, List, [], ◌∷◌, ◌++◌, refl, sym, ap, ◌∙◌, subst}
use Rattle.std.proofs.Common.{arith, append_assoc}
use Rattle.psl_meaning.specs.Word.{Letter}
use Rattle.psl_meaning.specs.Sequence.{Copies}

module _ (P : List Letter → Type 0) where
  pub more_copies : (m n : ℕ) (u v : List Letter) → Copies P m u → Copies P n v → Copies P (m + n) (u ++ v)
  more_copies zero n u v none others =
      let count : zero + n ≡ n = omega arith in
      rw (count, none) others
  more_copies (suc m) n u v (a, b, split, p, rest) others =
      let count : suc m + n ≡ suc (m + n) = omega arith in
      rw count (
        a,
        b ++ v,
        ap (λ (l : List Letter). l ++ v) split ∙ append_assoc a b v,
        p,
        more_copies m n b v rest others,
      )

  pub fewer_copies : (m n : ℕ) (w : List Letter) → Copies P (m + n) w →
      (u v : List Letter) × (w ≡ u ++ v) × Copies P m u × Copies P n v
  fewer_copies zero n w all =
      let count : zero + n ≡ n = omega arith in
      ([], w, refl, refl, subst (λ (k : ℕ). Copies P k w) count all)
  fewer_copies (suc m) n w all =
      let count : suc m + n ≡ suc (m + n) = omega arith in
      cut (subst (λ (k : ℕ). Copies P k w) count all) (λ b rest. fewer_copies m n b rest)
    where
      cut : Copies P (suc (m + n)) w →
          ((b : List Letter) → Copies P (m + n) b → (u v : List Letter) × (b ≡ u ++ v) × Copies P m u × Copies P n v) →
          (u v : List Letter) × (w ≡ u ++ v) × Copies P (suc m) u × Copies P n v
      cut (a, b, split, p, rest) shorter =
          let two = shorter b rest in (
            a ++ two.0,
            two.1,
            split ∙ ap (λ (l : List Letter). a ++ l) two.2 ∙ sym (append_assoc a two.0 two.1),
            (a, two.0, refl, p, two.3),
            two.4,
          )

  -- of copies that may be empty, those that are left when the others are taken away
  pub left_over : (n : ℕ) (w : List Letter) → Copies (λ u. (u ≡ []) ⊎ P u) n w → (k : ℕ) × (k ≤ n) × Copies P k w
  left_over zero w none = (0, omega arith, none)
  left_over (suc n) w (u, v, split, inl none, rest) =
      let fewer = left_over n v rest in
      let below = fewer.1 in
      let all : w ≡ v = split ∙ ap (λ (l : List Letter). l ++ v) none in
      (fewer.0, omega (arith, below), subst (λ (l : List Letter). Copies P fewer.0 l) (sym all) fewer.2)
  left_over (suc n) w (u, v, split, inr p, rest) =
      let fewer = left_over n v rest in
      let below = fewer.1 in
      (suc fewer.0, omega (arith, below), (u, v, split, p, fewer.2))

  -- empty ones beside them
  pub filled_up : (n k : ℕ) (w : List Letter) → k ≤ n → Copies P k w → Copies (λ u. (u ≡ []) ⊎ P u) n w
  filled_up zero zero w below none = none
  filled_up zero (suc k) w below all = absurd (omega arith)
  filled_up (suc n) zero w below none = ([], w, refl, inl refl, filled_up n zero w (omega arith) none)
  filled_up (suc n) (suc k) w below (u, v, split, p, rest) = (u, v, split, inr p, filled_up n k v (omega arith) rest)

module _ (P Q : List Letter → Type 0) where
  pub copies_keep : ((w : List Letter) → P w → Q w) → (n : ℕ) (w : List Letter) → Copies P n w → Copies Q n w
  copies_keep f zero w none = none
  copies_keep f (suc n) w (u, v, split, p, rest) = (u, v, split, f u p, copies_keep f n v rest)
