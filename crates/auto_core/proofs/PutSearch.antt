-- Where a binary search puts a literal is its place in the label.
use Rattle.std.proofs.Common.{◌≡◌, ℕ, zero, suc, ◌<◌, ◌≤◌, Bool, true, false, List, [], ◌∷◌, length, get_or, Ok}
use Rattle.std.proofs.Common.{Err, Ordering, inl, inr, refl, sym, ap, ◌∙◌, arith}
use Rattle.std.specs.List.{AllByRecursion, insert}
use Rattle.std.specs.List.Sorted.{IsSearchInRange, IsBinarySearchResult, IsNonDecreasingBy}
use Rattle.std.specs.Ordering.{nat_cmp, ordering_index, ordering_then, bool_cmp}
use Rattle.std.proofs.lemmas.Cmp.{ranked}
use Rattle.std.proofs.lemmas.List.Sorted.{IsNonDecreasingBy-from_default}
use Rattle.std.proofs.lemmas.Bool.Decides.{nat_tests}
use Rattle.auto_core.specs.declared.labels.Literal.{Literal}
use Rattle.auto_core.specs.LiteralSets.{precedes, IsLabel, put_literal}
use Rattle.auto_core.proofs.Members.{Among, Among-get_or, ByRecursion-among}
use Rattle.auto_core.proofs.LabelOrder.{rank, rank-below, precedes-from_rank, rank-same}
use Rattle.auto_core.proofs.LabelLemmas.{put_literal-before, put_literal-after, put_literal-there}

-- how two literals compare, as the derived order has it
abbrev pub literal_cmp : Literal → Literal → Ordering
literal_cmp a b = ordering_then (nat_cmp a.symbol b.symbol) (bool_cmp a.positive b.positive)

by_sign : (s : ℕ) (p : Bool) (t : ℕ) (q : Bool) → literal_cmp (record { symbol = s; positive = p })
    (record { symbol = t; positive = q }) ≡ nat_cmp (rank (record { symbol = s; positive = p }))
    (rank (record { symbol = t; positive = q }))
by_sign s true t true = grind (arith, nat_tests)
by_sign s true t false = grind (arith, nat_tests)
by_sign s false t true = grind (arith, nat_tests)
by_sign s false t false = grind (arith, nat_tests)

literal_cmp-rank : (a b : Literal) → literal_cmp a b ≡ nat_cmp (rank a) (rank b)
literal_cmp-rank a b = by_sign a.symbol a.positive b.symbol b.positive

-- a literal that is there is put there without a change
pub put_literal-among : (l : Literal) (xs : List Literal) → IsLabel xs → Among xs l → put_literal l xs ≡ xs
put_literal-among l [] h f = absurd f
put_literal-among l (x ∷ xs) h (inl e) = put_literal-there l x xs (sym e)
put_literal-among l (x ∷ xs) h (inr f) =
    put_literal-after l x xs (ByRecursion-among (λ m. precedes x m ≡ true) xs l h.0 f)
    ∙ ap (λ (s : List Literal). x ∷ s) (put_literal-among l xs h.1 f)

-- an insertion between the smaller and the greater
pub insert-put_literal : (l d : Literal) (xs : List Literal) (i : ℕ) → i ≤ length xs →
    ((k : ℕ) → k < i → rank (get_or xs k d) < rank l) → (i < length xs → rank l < rank (get_or xs i d)) →
    insert xs i l ≡ put_literal l xs
insert-put_literal l d [] zero le small great = refl
insert-put_literal l d [] (suc i) le small great = absurd (omega arith)
insert-put_literal l d (x ∷ xs) zero le small great =
    sym (put_literal-before l x xs (precedes-from_rank l x (great (omega arith))))
insert-put_literal l d (x ∷ xs) (suc i) le small great =
    ap (λ (s : List Literal). x ∷ s)
    (insert-put_literal l d xs i (omega arith) (λ k lt. small (suc k) (omega arith)) (λ lt. great (omega arith)))
    ∙ sym (put_literal-after l x xs (precedes-from_rank x l (small 0 (omega arith))))

-- the ranks rise along a label
rank-rise : (d : Literal) (xs : List Literal) → IsLabel xs → (i j : ℕ) → i ≤ j → j < length xs →
    rank (get_or xs i d) ≤ rank (get_or xs j d)
rank-rise d [] h i j le lt = absurd (omega arith)
rank-rise d (x ∷ xs) h zero zero le lt = omega arith
rank-rise d (x ∷ xs) h zero (suc j) le lt =
    omega (arith, rank-below x (get_or xs j d) (at d xs (λ m. precedes x m ≡ true) h.0 j (omega arith)))
  where
    at : (d : Literal) (xs : List Literal) (P : Literal → Type 0) → AllByRecursion P xs → (k : ℕ) → k < length xs →
        P (get_or xs k d)
    at d [] P all k lt = absurd (omega arith)
    at d (y ∷ ys) P all zero lt = all.0
    at d (y ∷ ys) P all (suc k) lt = at d ys P all.1 k (omega arith)
rank-rise d (x ∷ xs) h (suc i) zero le lt = absurd (omega arith)
rank-rise d (x ∷ xs) h (suc i) (suc j) le lt = rank-rise d xs h.1 i j (omega arith) (omega arith)

rising_index : (a b c : ℕ) → a ≤ b → ordering_index (nat_cmp a c) ≤ ordering_index (nat_cmp b c)
rising_index a b c h = grind (arith, nat_tests)

module _ (l : Literal) (xs : List Literal) (ordered : IsLabel xs) where
  rises : IsNonDecreasingBy (λ y. ordering_index (literal_cmp y l)) xs
  rises = IsNonDecreasingBy-from_default (λ y. ordering_index (literal_cmp y l)) xs l (λ i j le lt.
      let h : ordering_index (nat_cmp (rank (get_or xs i l)) (rank l)) ≤ ordering_index
      (nat_cmp (rank (get_or xs j l)) (rank l)) = rising_index _ _ _ (rank-rise l xs ordered i j le lt) in
      omega (
        arith,
        ap ordering_index (literal_cmp-rank (get_or xs i l) l),
        ap ordering_index (literal_cmp-rank (get_or xs j l) l),
      ))

  -- a literal that is found is there
  pub found : (at : ℕ) → IsSearchInRange (Ok at) (length xs) → IsBinarySearchResult (λ y. literal_cmp y l) xs
      (Ok at) → xs ≡ put_literal l xs
  found at in_range equal = sym (put_literal-among l xs ordered (Among-get_or xs at l in_range
      (rank-same _ l (ranked (rank (get_or xs at l)) (rank l) _
      (sym (equal l) ∙ literal_cmp-rank (get_or xs at l) l)))))

  -- the place where it isn't found is its place in the order
  pub placed : (at : ℕ) → IsSearchInRange (Err at) (length xs) → IsBinarySearchResult (λ y. literal_cmp y l) xs
      (Err at) → insert xs at l ≡ put_literal l xs
  placed at in_range parted = insert-put_literal l l xs at in_range
      (λ k lt. ranked (rank (get_or xs k l)) (rank l) _
      (sym ((parted rises).0 k l (omega arith) lt) ∙ literal_cmp-rank (get_or xs k l) l))
      (λ lt. ranked (rank (get_or xs at l)) (rank l) _ (sym ((parted rises).1 at l (omega arith) lt)
      ∙ literal_cmp-rank (get_or xs at l) l))
