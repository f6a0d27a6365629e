-- Counting places, and what none of a span passes.
use Rattle.std.proofs.Common.{◌≡◌, ℕ, zero, suc, ◌+◌, ◌<◌, ◌≤◌, inl, inr, Bool, true, false, cond, refl, sym, ap}
use Rattle.std.proofs.Common.{subst, ◌∙◌, arith}
use Rattle.std.proofs.lemmas.Bool.{le-leb, lt-leb, cases_lt, and_from, and_parts, not-true, both_ways}
use Rattle.std.specs.Prelude.{not, ◌&&◌, nat_le}
use Rattle.psl_parser.specs.Places.{count_in, none_in}

pub by_test : {P : Type 0} (b : Bool) → (b ≡ true → P) → (b ≡ false → P) → P
by_test true k l = k refl
by_test false k l = l refl

abbrev pub one : Bool → ℕ
one b = cond b 1 0

pub one_small : (b : Bool) → one b ≤ 1
one_small true = omega arith
one_small false = omega arith

module _ (test : ℕ → Bool) where
  pub count_more : (a k : ℕ) → a ≤ k → count_in test a (suc k) ≡ count_in test a k + one (test k)
  count_more a k le = ap (λ (b : Bool). count_in test a k + one (b && test k)) (le-leb a k le)

  pub count_none : (a k : ℕ) → k ≤ a → count_in test a k ≡ 0
  count_none a zero le = refl
  count_none a (suc k) le =
      ap (λ (b : Bool). count_in test a k + one (b && test k)) (lt-leb a k (omega arith))
      ∙ ap (λ (n : ℕ). n + 0) (count_none a k (omega arith))

  last_split : (a b k : ℕ) → a ≤ b → b ≡ suc k → count_in test a (suc k) ≡ count_in test a b + count_in test b (suc k)
  last_split a b k p e =
      let none = count_none b (suc k) (omega arith) in
      let here : count_in test a b ≡ count_in test a (suc k) = ap (λ (n : ℕ). count_in test a n) e in
      omega arith

  more_split : (a b k : ℕ) → a ≤ b → b ≤ k → count_in test a k ≡ count_in test a b + count_in test b k
      → count_in test a (suc k) ≡ count_in test a b + count_in test b (suc k)
  more_split a b k p q before =
      let left = count_more a k (omega arith) in let right = count_more b k q in omega arith

  pub count_split : (a b c : ℕ) → a ≤ b → b ≤ c → count_in test a c ≡ count_in test a b + count_in test b c
  count_split a b zero p q =
      let none : count_in test a b ≡ 0 = count_none a b (omega arith) in omega arith
  count_split a b (suc k) p q =
      elim (cases_lt k b) [
        | inl h ↦ last_split a b k p (omega arith)
        | inr h ↦ more_split a b k p h (count_split a b k p h)
      ]

  pub count_first : (a c : ℕ) → a < c → count_in test a c ≡ one (test a) + count_in test (suc a) c
  count_first a c lt =
      let split = count_split a (suc a) c (omega arith) (omega arith) in
      let here = count_more a a (omega arith) in
      let none = count_none a a (omega arith) in
      omega arith

  more_zero : (a k : ℕ) → test k ≡ false → count_in test a k ≡ 0 → count_in test a (suc k) ≡ 0
  more_zero a k not_so before =
      elim (cases_lt k a) [
        | inl h ↦ count_none a (suc k) (omega arith)
        | inr h ↦
            let more = count_more a k h in let here : one (test k) ≡ one false = ap one not_so in omega arith
      ]

  pub count_zero : (a c : ℕ) → ((k : ℕ) → a ≤ k → k < c → test k ≡ false) → count_in test a c ≡ 0
  count_zero a zero each = refl
  count_zero a (suc k) each =
      elim (cases_lt k a) [
        | inl h ↦ count_none a (suc k) (omega arith)
        | inr h ↦ more_zero a k (each k h (omega arith)) (count_zero a k (λ n low high. each n low (omega arith)))
      ]

  pub count_some : (a c k : ℕ) → a ≤ k → k < c → test k ≡ true → 0 < count_in test a c
  count_some a c k low high is_so =
      let split = count_split a k c low (omega arith) in
      let first = count_first k c high in
      let here : one (test k) ≡ one true = ap one is_so in
      omega arith

  pub count_small : (a c : ℕ) → a ≤ c → count_in test a c + a ≤ c
  count_small a zero le = omega arith
  count_small a (suc k) le =
      elim (cases_lt k a) [
        | inl h ↦ let none = count_none a (suc k) (omega arith) in omega arith
        | inr h ↦
            let more = count_more a k h in
            let before = count_small a k h in let few = one_small (test k) in omega arith
      ]

  not_and : (b : Bool) → not (b && false) ≡ true
  not_and true = refl
  not_and false = refl

  none_here : (a k : ℕ) → (a ≤ k → test k ≡ false) → not (nat_le a k && test k) ≡ true
  none_here a k not_so =
      elim (cases_lt k a) [
        | inl h ↦ ap (λ (b : Bool). not (b && test k)) (lt-leb a k h)
        | inr h ↦ ap (λ (b : Bool). not (nat_le a k && b)) (not_so h) ∙ not_and (nat_le a k)
      ]

  pub none_from : (a c : ℕ) → ((k : ℕ) → a ≤ k → k < c → test k ≡ false) → none_in test a c ≡ true
  none_from a zero each = refl
  none_from a (suc k) each =
      and_from (none_in test a k) (not (nat_le a k && test k))
      (none_from a k (λ n low high. each n low (omega arith))) (none_here a k (λ le. each k le (omega arith)))

  here_not : (a k : ℕ) → a ≤ k → not (nat_le a k && test k) ≡ true → test k ≡ false
  here_not a k le is_so =
      sym (ap (λ (b : Bool). b && test k) (le-leb a k le)) ∙ not-true (nat_le a k && test k) is_so

  pub none_at : (a c k : ℕ) → none_in test a c ≡ true → a ≤ k → k < c → test k ≡ false
  none_at a zero k is_so low high = absurd (omega arith)
  none_at a (suc c) k is_so low high =
      let parts = and_parts (none_in test a c) (not (nat_le a c && test c)) is_so in
      elim (cases_lt k c) [
        | inl h ↦ none_at a c k parts.0 low h
        | inr h ↦
            let same : c ≡ k = omega arith in
            subst (λ (n : ℕ). test n ≡ false) same (here_not a c (omega arith) parts.1)
      ]

  pub none_not : (a c k : ℕ) → a ≤ k → k < c → test k ≡ true → none_in test a c ≡ false
  none_not a c k low high is_so =
      by_test (none_in test a c) (λ t. absurd (both_ways (test k) (none_at a c k t low high) is_so)) (λ f. f)

pub count_same : (s t : ℕ → Bool) (a c : ℕ) → ((k : ℕ) → a ≤ k → k < c → s k ≡ t k) → count_in s a c ≡ count_in t a c
count_same s t a zero same = refl
count_same s t a (suc k) same =
    elim (cases_lt k a) [
      | inl h ↦ count_none s a (suc k) (omega arith) ∙ sym (count_none t a (suc k) (omega arith))
      | inr h ↦
          count_more s a k h
          ∙ ap (λ (n : ℕ). n + one (s k)) (count_same s t a k (λ n low high. same n low (omega arith)))
          ∙ ap (λ (b : Bool). count_in t a k + one b) (same k h (omega arith)) ∙ sym (count_more t a k h)
    ]
