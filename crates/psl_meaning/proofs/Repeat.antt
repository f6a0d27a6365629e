-- Repetitions as so many copies, one after the other.
use Rattle.std.proofs.Common.{◌≡◌, ◌≢◌, ◌⊎◌, inl, inr, ℕ, zero, suc, ◌+◌, ◌-◌, ◌<◌, ◌≤◌, List, [], ◌∷◌, ◌++◌, Some}
use Rattle.std.proofs.Common.{None, refl, sym, ap, ◌∙◌, subst, arith, append_assoc}
use Rattle.std.proofs.lemmas.Bool.{cases_lt}
use Rattle.psl_meaning.specs.Word.{Letter}
use Rattle.psl_meaning.specs.Sequence.{CoreSere, star, Copies, Tight}
use Rattle.psl_meaning.specs.SequenceSugar.{copies, union_of_copies, repeated}

append_none : (xs : List Letter) → xs ++ [] ≡ xs
append_none [] = refl
append_none (x ∷ xs) = ap (λ (l : List Letter). x ∷ l) (append_none xs)

module _ (P : List Letter → Type 0) where
  one_copy : (w : List Letter) → P w → Copies P 1 w
  one_copy w p = (w, [], sym (append_none w), p, refl)

  from_one_copy : (w : List Letter) → Copies P 1 w → P w
  from_one_copy w (u, v, split, p, none) =
      subst P (sym (split ∙ ap (λ (l : List Letter). u ++ l) none ∙ append_none u)) p

  more_copies : (m n : ℕ) (u v : List Letter) → Copies P m u → Copies P n v → Copies P (m + n) (u ++ v)
  more_copies zero n u v is_none others =
      let count : zero + n ≡ n = omega arith in
      rw (count, is_none) others
  more_copies (suc m) n u v (a, b, split, p, rest) others =
      let count : suc m + n ≡ suc (m + n) = omega arith in
      rw count (
        a,
        b ++ v,
        ap (λ (l : List Letter). l ++ v) split ∙ append_assoc a b v,
        p,
        more_copies m n b v rest others,
      )

  fewer_copies : (m n : ℕ) (w : List Letter) → Copies P (m + n) w → (u v : List Letter) × (w ≡ u ++ v) × Copies P m u ×
      Copies P n v
  fewer_copies zero n w all =
      let count : zero + n ≡ n = omega arith in
      ([], w, refl, refl, subst (λ (k : ℕ). Copies P k w) count all)
  fewer_copies (suc m) n w all =
      let count : suc m + n ≡ suc (m + n) = omega arith in
      cut (subst (λ (k : ℕ). Copies P k w) count all) (λ b rest. fewer_copies m n b rest)
    where
      cut : Copies P (suc (m + n)) w →
          ((b : List Letter) → Copies P (m + n) b → (u v : List Letter) × (b ≡ u ++ v) × Copies P m u × Copies P n v) →
          (u v : List Letter) × (w ≡ u ++ v) × Copies P (suc m) u × Copies P n v
      cut (a, b, split, p, rest) shorter =
          let two = shorter b rest in (
            a ++ two.0,
            two.1,
            split ∙ ap (λ (l : List Letter). a ++ l) two.2 ∙ sym (append_assoc a two.0 two.1),
            (a, two.0, refl, p, two.3),
            two.4,
          )

  -- a repetition is empty, or begins with a copy that isn't
  unfolded : (n : ℕ) (w : List Letter) → Copies P n w →
      (w ≡ []) ⊎ ((u v : List Letter) × (w ≡ u ++ v) × (u ≢ []) × P u × ((k : ℕ) × Copies P k v))
  unfolded zero w is_none = inl is_none
  unfolded (suc n) w ([], v, split, p, rest) =
      subst (λ (l : List Letter). (l ≡ []) ⊎
      ((u v : List Letter) × (l ≡ u ++ v) × (u ≢ []) × P u × ((k : ℕ) × Copies P k v))) (sym split) (unfolded n v rest)
  unfolded (suc n) w (x ∷ u, v, split, p, rest) = inr (x ∷ u, v, split, (λ e. absurd (cc)), p, (n, rest))

module _ (widths : List ℕ) (r : CoreSere) where
  copies_are : (k : ℕ) (w : List Letter) → Tight widths (copies k r) w → Copies (Tight widths r) k w
  copies_are zero w s = s
  copies_are (suc zero) w s = one_copy (Tight widths r) w s
  copies_are (suc (suc k)) w (u, v, split, front, last) =
      let count : suc k + 1 ≡ suc (suc k) = omega arith in
      let all = more_copies (Tight widths r) (suc k) 1 u v (copies_are (suc k) u front)
      (one_copy (Tight widths r) v last) in
      subst (λ (l : List Letter). Copies (Tight widths r) (suc (suc k)) l) (sym split)
      (subst (λ (n : ℕ). Copies (Tight widths r) n (u ++ v)) count all)

  are_copies : (k : ℕ) (w : List Letter) → Copies (Tight widths r) k w → Tight widths (copies k r) w
  are_copies zero w s = s
  are_copies (suc zero) w s = from_one_copy (Tight widths r) w s
  are_copies (suc (suc k)) w s =
      let count : suc (suc k) ≡ suc k + 1 = omega arith in
      let two = fewer_copies (Tight widths r) (suc k) 1 w (subst (λ (n : ℕ). Copies (Tight widths r) n w) count s) in
      (two.0, two.1, two.2, are_copies (suc k) two.0 two.3, from_one_copy (Tight widths r) two.1 two.4)

  union_is : (low more : ℕ) (w : List Letter) → Tight widths (union_of_copies low more r) w → (k : ℕ) × (low ≤ k) ×
      (k ≤ low + more) × Copies (Tight widths r) k w
  union_is low zero w s = (low, omega arith, omega arith, copies_are low w s)
  union_is low (suc more) w (inl s) =
      let fewer = union_is low more w s in
      let below = fewer.2 in
      (fewer.0, fewer.1, omega (arith, below), fewer.3)
  union_is low (suc more) w (inr s) = (low + suc more, omega arith, omega arith, copies_are (low + suc more) w s)

  is_union : (low more k : ℕ) (w : List Letter) → low ≤ k → k ≤ low + more → Copies (Tight widths r) k w →
      Tight widths (union_of_copies low more r) w
  is_union low zero k w above below s =
      let same : k ≡ low = omega arith in
      are_copies low w (subst (λ (n : ℕ). Copies (Tight widths r) n w) same s)
  is_union low (suc more) k w above below s =
      pick (cases_lt (low + more) k) (λ within. is_union low more k w above within s)
    where
      pick : (low + more < k) ⊎ (k ≤ low + more) → ((k ≤ low + more) → Tight widths (union_of_copies low more r) w) →
          Tight widths (union_of_copies low (suc more) r) w
      pick (inl past) fewer =
          let same : k ≡ low + suc more = omega arith in
          inr (are_copies (low + suc more) w (subst (λ (n : ℕ). Copies (Tight widths r) n w) same s))
      pick (inr within) fewer = inl (fewer within)

  pub counted_are : (low high : ℕ) (w : List Letter) → low ≤ high → Tight widths (repeated low (Some high) r) w →
      (k : ℕ) × (low ≤ k) × (k ≤ high) × Copies (Tight widths r) k w
  counted_are low high w ordered s =
      let some = union_is low (high - low) w s in
      let below = some.2 in
      (some.0, some.1, omega (arith, below), some.3)

  pub are_counted : (low high : ℕ) (w : List Letter) → low ≤ high → (k : ℕ) × (low ≤ k) × (k ≤ high) ×
      Copies (Tight widths r) k w → Tight widths (repeated low (Some high) r) w
  are_counted low high w ordered (k, above, below, s) = is_union low (high - low) k w above (omega arith) s

  pub unbounded_are : (low : ℕ) (w : List Letter) → Tight widths (repeated low None r) w → (k : ℕ) × (low ≤ k) ×
      Copies (Tight widths r) k w
  unbounded_are zero w (n, s) = (n, omega arith, s)
  unbounded_are (suc low) w (u, v, split, front, (n, s)) = (
    suc low + n,
    omega arith,
    subst (λ (l : List Letter). Copies (Tight widths r) (suc low + n) l) (sym split)
        (more_copies (Tight widths r) (suc low) n u v (copies_are (suc low) u front) s),
  )

  pub are_unbounded : (low : ℕ) (w : List Letter) → (k : ℕ) × (low ≤ k) × Copies (Tight widths r) k w →
      Tight widths (repeated low None r) w
  are_unbounded zero w (k, above, s) = (k, s)
  are_unbounded (suc low) w (k, above, s) =
      let sum : k ≡ suc low + (k - suc low) = omega arith in
      let two = fewer_copies (Tight widths r) (suc low) (k - suc low) w
      (subst (λ (n : ℕ). Copies (Tight widths r) n w) sum s) in
      (two.0, two.1, two.2, are_copies (suc low) two.0 two.3, (k - suc low, two.4))

  pub star_unfolds : (w : List Letter) → Tight widths (star r) w →
      (w ≡ []) ⊎ ((u v : List Letter) × (w ≡ u ++ v) × (u ≢ []) × Tight widths r u × Tight widths (star r) v)
  star_unfolds w (n, s) = unfolded (Tight widths r) n w s

  pub unfolds_star : (w : List Letter) →
      (w ≡ []) ⊎ ((u v : List Letter) × (w ≡ u ++ v) × (u ≢ []) × Tight widths r u × Tight widths (star r) v) →
      Tight widths (star r) w
  unfolds_star w (inl none) = (0, none)
  unfolds_star w (inr (u, v, split, some, p, (n, s))) = (suc n, (u, v, split, p, s))
