-- The laws of words that the rewriting rests on, as the functions that have them as contracts give them, and what they
-- say of suffixes and cuts of words without bottoms.
use Rattle.std.proofs.Common.{◌≡◌, ◌≢◌, ◌⊎◌, inl, inr, ℕ, zero, suc, ◌+◌, ◌<◌, ◌≤◌, List, [], ◌∷◌, Option, Some, None}
use Rattle.std.proofs.Common.{refl, sym, ap, ◌∙◌, subst, arith}
use Rattle.std.specs.Prelude.{slice_get, option_map, IsSome}
use Rattle.std.proofs.lemmas.Bool.{cases_lt}
use Rattle.psl_meaning.specs.Word.{Letter, top, bottom, Word, bar, bar_letter, with_tops, first, from, letter_at}
use Rattle.psl_meaning.specs.Word.{option_or, after_end, Reaches}
use Rattle.psl_rewrite.specs.SameMeaning.{HasNoBottom}
use Rattle.psl_rewrite.proofs.KnownLaws.{BarOfBar}

pub record WordLaws : Type 0 where
  pub bar_of_bar : BarOfBar
  pub bar_letters : (w : Word) (k : ℕ) → letter_at (bar w) k ≡ option_map bar_letter (letter_at w k)
  pub suffix_letters : (w : Word) (k j : ℕ) → letter_at (from k w) j ≡ letter_at w (k + j)
  pub prefix_letters : (w : Word) (n k : ℕ) → k < n → slice_get (first n w) k ≡ letter_at w k
  pub prefix_ends : (w : Word) (n k : ℕ) → n ≤ k → slice_get (first n w) k ≡ None
  pub never_ends : (letters : List Letter) (k : ℕ) → Reaches (with_tops letters) k

reaches_list : (xs : List Letter) (e : Option Letter) (k j : ℕ) → j ≤ k → IsSome (option_or (slice_get xs k) e) →
    IsSome (option_or (slice_get xs j) e)
reaches_list [] e k j below h = h
reaches_list (x ∷ xs) e k zero below h = refl
reaches_list (x ∷ xs) e zero (suc j) below h = absurd (omega arith)
reaches_list (x ∷ xs) e (suc k) (suc j) below h = reaches_list xs e k j (omega arith) h

pub reaches_below : (w : Word) (k j : ℕ) → j ≤ k → Reaches w k → Reaches w j
reaches_below w k j below h = reaches_list w.letters (after_end w.ending) k j below h

top_at_end : (o : Option Letter) → o ≢ Some bottom → option_or o (Some top) ≢ Some bottom
top_at_end None h e = absurd (cc (e))
top_at_end (Some x) h e = h e

module _ (laws : WordLaws) where
  pub suffix_begins : (w : Word) (k : ℕ) → letter_at (from k w) 0 ≡ letter_at w k
  suffix_begins w k =
      let none : k + 0 ≡ k = omega arith in
      laws.suffix_letters w k 0 ∙ ap (λ (n : ℕ). letter_at w n) none

  pub reaches_from : (w : Word) (k : ℕ) → Reaches w k → Reaches (from k w) 0
  reaches_from w k h = subst (λ (o : Option Letter). IsSome o) (sym (suffix_begins w k)) h

  pub no_bottom_from : (w : Word) (k : ℕ) → HasNoBottom w → HasNoBottom (from k w)
  no_bottom_from w k h j =
      subst (λ (o : Option Letter). o ≢ Some bottom) (sym (laws.suffix_letters w k j)) (h (k + j))

  pub no_bottom_cut : (w : Word) (n : ℕ) → HasNoBottom w → HasNoBottom (with_tops (first n w))
  no_bottom_cut w n h k = split (cases_lt k n)
    where
      split : (k < n) ⊎ (n ≤ k) → letter_at (with_tops (first n w)) k ≢ Some bottom
      split (inl within) =
          top_at_end (slice_get (first n w) k)
          (subst (λ (o : Option Letter). o ≢ Some bottom) (sym (laws.prefix_letters w n k within)) (h k))
      split (inr past) =
          top_at_end (slice_get (first n w) k)
          (subst (λ (o : Option Letter). o ≢ Some bottom) (sym (laws.prefix_ends w n k past)) (λ e. absurd (cc (e))))
