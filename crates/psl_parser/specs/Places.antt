-- Places from one up to another, which isn't among them, that pass a test.
use Rattle.std.specs.Prelude.{ℕ, zero, suc, ◌+◌, Bool, true, cond, not, ◌&&◌, nat_le}

-- how many of them pass it
abbrev pub count_in : (test : ℕ → Bool) → (from to : ℕ) → ℕ
count_in test from zero = 0
count_in test from (suc k) = count_in test from k + cond (nat_le from k && test k) 1 0

-- whether none of them passes it
abbrev pub none_in : (test : ℕ → Bool) → (from to : ℕ) → Bool
none_in test from zero = true
none_in test from (suc k) = none_in test from k && not (nat_le from k && test k)
