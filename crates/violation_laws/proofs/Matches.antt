-- What satisfies `r |-> f` over a list of valuations.
use Rattle.std.specs.Prelude.{ℕ, zero, suc, ◌≡◌, ◌↔◌, ◌<◌, ◌≤◌, ◌-◌, List, [], ◌∷◌, ◌++◌, map, length, take, drop}
use Rattle.std.proofs.Common.{refl, sym, ap, ◌∙◌, subst, arith, inl, inr}
use Rattle.std.proofs.lemmas.Bool.{cases_lt}
use Rattle.std.proofs.lemmas.List.{length-map}
use Rattle.psl_meaning.specs.Word.{Valuation, Letter, valuation, Ending, ended, tops, bottoms, Word, bar, bar_letter}
use Rattle.psl_meaning.specs.Word.{bar_ending, filling, first, from, Reaches}
use Rattle.psl_meaning.specs.Sequence.{CoreSere, Tight}
use Rattle.psl_meaning.specs.Formula.{CoreFormula, suffix, Satisfies}
use Rattle.violation_laws.proofs.Words.{word, Kept}

-- ---- prefixes and what is left

map_bar : (ls : List Valuation) → map bar_letter (map valuation ls) ≡ map valuation ls
map_bar [] = refl
map_bar (v ∷ ls) = ap (λ (xs : List Letter). valuation v ∷ xs) (map_bar ls)

take_map : (n : ℕ) (ls : List Valuation) → take n (map valuation ls) ≡ map valuation (take n ls)
take_map zero ls = refl
take_map (suc n) [] = refl
take_map (suc n) (v ∷ ls) = ap (λ (xs : List Letter). valuation v ∷ xs) (take_map n ls)

drop_map : (n : ℕ) (ls : List Valuation) → drop n (map valuation ls) ≡ map valuation (drop n ls)
drop_map zero ls = refl
drop_map (suc n) [] = refl
drop_map (suc n) (v ∷ ls) = drop_map n ls

none_filled : (e : Ending) (n : ℕ) → n ≡ 0 → filling e n ≡ []
none_filled ended n is = refl
none_filled tops n is = ap (λ (k : ℕ). filling tops k) is
none_filled bottoms n is = ap (λ (k : ℕ). filling bottoms k) is

append_nil : (xs : List Letter) → xs ++ [] ≡ xs
append_nil [] = refl
append_nil (x ∷ xs) = ap (λ (ys : List Letter). x ∷ ys) (append_nil xs)

-- no bar is seen in a prefix of the list
first_bar : (ls : List Valuation) (e : Ending) (k : ℕ) → k < length ls →
    first (suc k) (bar (word ls e)) ≡ map valuation (take (suc k) ls)
first_bar ls e k within =
    let letters : List Letter = map bar_letter (map valuation ls) in
    let counted : length letters ≡ length ls = length-map (map valuation ls) bar_letter ∙ length-map ls valuation in
    let none : suc k - length letters ≡ 0 = omega arith in
    ap (λ (xs : List Letter). take (suc k) letters ++ xs) (none_filled (bar_ending e) (suc k - length letters) none)
    ∙ append_nil (take (suc k) letters)
    ∙ ap (λ (xs : List Letter). take (suc k) xs) (map_bar ls)
    ∙ take_map (suc k) ls

from_word : (ls : List Valuation) (e : Ending) (k : ℕ) → from k (word ls e) ≡ word (drop k ls) e
from_word ls e k = ap (λ (xs : List Letter). record { letters = xs; ending = e }) (drop_map k ls)

reached : (ls : List Valuation) (e : Ending) (k : ℕ) → k < length ls → Reaches (word ls e) k
reached [] e k within = absurd (omega (arith, within))
reached (v ∷ ls) e zero within = refl
reached (v ∷ ls) e (suc k) within =
    let counted : length (v ∷ ls) ≡ suc (length ls) = refl in
    reached ls e k (omega arith)

-- not not, of each of finitely many
each_not_not : (n : ℕ) (P : ℕ → Type 0) → ((j : ℕ) → j < n → ¬ ¬ P j) → ¬ ¬ ((j : ℕ) → j < n → P j)
each_not_not zero P h r = r (λ j below. absurd (omega (arith, below)))
each_not_not (suc n) P h r =
    each_not_not n P (λ j below. h j (omega arith))
    (λ before. h n (omega arith) (λ last. r (λ j below. elim (cases_lt j n) [
      | inl early ↦ before j early
      | inr late ↦ subst P (omega arith) last
    ])))

-- ---- the implication

module _ (widths : List ℕ) (r : CoreSere) (f : CoreFormula) (e : Ending) where
  -- the body is kept from each place at which a prefix of the list that satisfies the sequence ends
  abbrev pub AfterEachMatch : List Valuation → Type 0
  AfterEachMatch ls = (k : ℕ) → k < length ls → Tight widths r (map valuation (take (suc k) ls)) →
      Kept widths e f (drop k ls)

  -- the body is satisfied from each place behind the list
  abbrev pub IsFreeBehind : List Valuation → Type 0
  IsFreeBehind ls = (k : ℕ) → length ls ≤ k → Reaches (word ls e) k → Satisfies widths f (from k (word ls e))

  opens : (ls : List Valuation) → Kept widths e (suffix r f) ls → AfterEachMatch ls
  opens ls h k within tight bad = h (λ all. bad (subst (λ (w : Word). Satisfies widths f w) (from_word ls e k)
      (all k (reached ls e k within)
      (subst (λ (xs : List Letter). Tight widths r xs) (sym (first_bar ls e k within)) tight))))

  closes : (ls : List Valuation) → IsFreeBehind ls → AfterEachMatch ls → Kept widths e (suffix r f) ls
  closes ls behind each bad =
      each_not_not (length ls)
      (λ k. Tight widths r (map valuation (take (suc k) ls)) → Satisfies widths f (word (drop k ls) e))
      (λ k within no. no (λ tight. absurd (each k within tight (λ s. no (λ t. s)))))
      (λ within. bad (λ k there tight. elim (cases_lt k (length ls)) [
        | inl before ↦ subst (λ (w : Word). Satisfies widths f w) (sym (from_word ls e k)) (within k before
            (subst (λ (xs : List Letter). Tight widths r xs) (first_bar ls e k before) tight))
        | inr past ↦ behind k past there
      ]))

-- ---- the two ends

drop_past : (n : ℕ) (ls : List Valuation) → length ls ≤ n → drop n ls ≡ []
drop_past zero [] past = refl
drop_past zero (v ∷ ls) past = absurd (omega (arith, past))
drop_past (suc n) [] past = refl
drop_past (suc n) (v ∷ ls) past =
    let counted : length (v ∷ ls) ≡ suc (length ls) = refl in
    drop_past n ls (omega arith)

not_past : (ls : List Valuation) (k : ℕ) → length ls ≤ k → ¬ Reaches (word ls ended) k
not_past [] k past h = absurd (cc (h))
not_past (v ∷ ls) zero past h = absurd (omega (arith, past))
not_past (v ∷ ls) (suc k) past h =
    let counted : length (v ∷ ls) ≡ suc (length ls) = refl in
    not_past ls k (omega arith) h

module _ (widths : List ℕ) (r : CoreSere) (f : CoreFormula) (ls : List Valuation) where
  pub at_the_end : Kept widths ended (suffix r f) ls ↔ AfterEachMatch widths r f ended ls
  at_the_end = (
    opens widths r f ended ls,
    closes widths r f ended ls (λ k past there. absurd (not_past ls k past there)),
  )

  -- what is only not refuted of tops alone is enough: the conclusion is of the same kind
  pub so_far : Kept widths tops f [] → Kept widths tops (suffix r f) ls ↔ AfterEachMatch widths r f tops ls
  so_far free = (
    opens widths r f tops ls,
    (λ each bad. free (λ s. closes widths r f tops ls (λ k past there. behind s k past) each bad)),
  )
    where
      behind : Satisfies widths f (word [] tops) → (k : ℕ) → length ls ≤ k →
          Satisfies widths f (from k (word ls tops))
      behind s k past = subst (λ (w : Word). Satisfies widths f w)
          (sym (from_word ls tops k ∙ ap (λ (xs : List Valuation). word xs tops) (drop_past k ls past))) s
