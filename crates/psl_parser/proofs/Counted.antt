-- Counting places, one more at a time.
use Rattle.std.proofs.Common.{◌≡◌, ℕ, zero, suc, ◌+◌, ◌<◌, ◌≤◌, Bool, true, cond, refl, ap, ◌∙◌, arith}
use Rattle.std.proofs.lemmas.Bool.{le-leb, lt-leb}
use Rattle.std.specs.Prelude.{not, ◌&&◌, nat_le}
use Rattle.psl_parser.specs.Places.{count_in, none_in}
use Rattle.psl_parser.proofs.Tests.{and_true, one_small}

pub count_more : (test : ℕ → Bool) (from k : ℕ) → from ≤ k
    → count_in test from (suc k) ≡ count_in test from k + cond (test k) 1 0
count_more test from k le = ap (λ (b : Bool). count_in test from k + cond (b && test k) 1 0) (le-leb from k le)

pub none_more : (test : ℕ → Bool) (from k : ℕ) → from ≤ k
    → none_in test from (suc k) ≡ (none_in test from k && not (test k))
none_more test from k le = ap (λ (b : Bool). none_in test from k && not (b && test k)) (le-leb from k le)

-- no place is left
pub count_none : (test : ℕ → Bool) (from k : ℕ) → k ≤ from → count_in test from k ≡ 0
count_none test from zero le = refl
count_none test from (suc k) le =
    ap (λ (b : Bool). count_in test from k + cond (b && test k) 1 0) (lt-leb from k (omega arith))
    ∙ ap (λ (n : ℕ). n + 0) (count_none test from k (omega arith))

pub none_none : (test : ℕ → Bool) (from k : ℕ) → k ≤ from → none_in test from k ≡ true
none_none test from zero le = refl
none_none test from (suc k) le =
    ap (λ (b : Bool). none_in test from k && not (b && test k)) (lt-leb from k (omega arith))
    ∙ and_true (none_in test from k) ∙ none_none test from k (omega arith)

pub count_small : (test : ℕ → Bool) (from k : ℕ) → count_in test from k ≤ k
count_small test from zero = omega arith
count_small test from (suc k) =
    let before : count_in test from k ≤ k = count_small test from k in
    let here : cond (nat_le from k && test k) 1 0 ≤ 1 = one_small (nat_le from k && test k) in
    let whole : count_in test from k + cond (nat_le from k && test k) 1 0 ≤ suc k = omega arith in
    whole

pub count_same : (s t : ℕ → Bool) (from to : ℕ) → ((k : ℕ) → k < to → s k ≡ t k) → count_in s from to
    ≡ count_in t from to
count_same s t from zero same = refl
count_same s t from (suc k) same =
    ap (λ (n : ℕ). n + cond (nat_le from k && s k) 1 0) (count_same s t from k (λ j lt. same j (omega arith)))
    ∙ ap (λ (b : Bool). count_in t from k + cond (nat_le from k && b) 1 0) (same k (omega arith))

pub none_same : (s t : ℕ → Bool) (from to : ℕ) → ((k : ℕ) → s k ≡ t k) → none_in s from to ≡ none_in t from to
none_same s t from zero same = refl
none_same s t from (suc k) same =
    ap (λ (n : Bool). n && not (nat_le from k && s k)) (none_same s t from k same)
    ∙ ap (λ (b : Bool). none_in t from k && not (nat_le from k && b)) (same k)
